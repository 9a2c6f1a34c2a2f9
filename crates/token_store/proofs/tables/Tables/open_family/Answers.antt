use Rattle.std.proofs.Common.{◌∙◌, ap, sym}
use Rattle.token_store.proofs.Names.{family_numbered}
use Rattle.token_store.proofs.Families.{cleared, tied_opened, unseen_empty}
use Rattle.token_store.proofs.tables.Tables.open_family.Goals as goal

pub returns-in_err-reserve-clause-tied : goal.returns-in_err-reserve-clause-tied
returns-in_err-reserve-clause-tied c = record {
  standing = c.requires.tied.standing;
  ties =
      (cleared c.args.self.now c.close.new.families.entries c.reserve.new.self.entries c.close.new.owners.keys c.args.number
      c.requires.tied c.requires.bare c.close.ensures.closed c.close.ensures.owned (λ k. ap (λ es. family_numbered es k) c.reserve.ensures.same)).tied;
}

pub returns-in_err-reserve-clause-others : goal.returns-in_err-reserve-clause-others
returns-in_err-reserve-clause-others c = λ k ne. ap (λ es. family_numbered es k) c.reserve.ensures.same ∙ c.close.ensures.closed.others k ne

pub returns-in_err-reserve-clause-same : goal.returns-in_err-reserve-clause-same
returns-in_err-reserve-clause-same c =
    (cleared c.args.self.now c.close.new.families.entries c.reserve.new.self.entries c.close.new.owners.keys c.args.number
    c.requires.tied c.requires.bare c.close.ensures.closed c.close.ensures.owned (λ k. ap (λ es. family_numbered es k) c.reserve.ensures.same)).kept

pub returns-in_err-add_owner-clause-tied : goal.returns-in_err-add_owner-clause-tied
returns-in_err-add_owner-clause-tied c =
    let same = c.in_err-add_owner.ensures.err in
    record {
      standing = c.requires.tied.standing;
      ties = rw same (cleared c.args.self.now c.close.new.families.entries c.reserve.new.self.entries c.close.new.owners.keys c.args.number
          c.requires.tied c.requires.bare c.close.ensures.closed c.close.ensures.owned (λ k. ap (λ es. family_numbered es k) c.reserve.ensures.same)).tied;
    }

pub returns-in_err-add_owner-clause-others : goal.returns-in_err-add_owner-clause-others
returns-in_err-add_owner-clause-others c = λ k ne. ap (λ es. family_numbered es k) c.reserve.ensures.same ∙ c.close.ensures.closed.others k ne

pub returns-in_err-add_owner-clause-same : goal.returns-in_err-add_owner-clause-same
returns-in_err-add_owner-clause-same c =
    (cleared c.args.self.now c.close.new.families.entries c.reserve.new.self.entries c.close.new.owners.keys c.args.number
    c.requires.tied c.requires.bare c.close.ensures.closed c.close.ensures.owned (λ k. ap (λ es. family_numbered es k) c.reserve.ensures.same)).kept

pub returns-clause-tied : goal.returns-clause-tied
returns-clause-tied c =
    let t = c.args.self.now in
    let n = c.args.number in
    let put = c.put.ensures in
    let cleared_is = cleared t c.close.new.families.entries c.reserve.new.self.entries c.close.new.owners.keys n
    c.requires.tied c.requires.bare c.close.ensures.closed c.close.ensures.owned (λ k. ap (λ es. family_numbered es k) c.reserve.ensures.same) in
    record {
      standing = c.requires.tied.standing;
      ties = tied_opened c.reserve.new.self.entries c.put.new.self.entries n c.args.shared _ c.close.new.owners.keys c.add_owner.new.owners.keys t.last t.swept
          c.requires.empty c.requires.fresh cleared_is.closed.here put.here put.others
          (rw c.key_of.ensures at c.in_ok-add_owner.ensures.indexed) cleared_is.tied;
    }

pub returns-clause-here : goal.returns-clause-here
returns-clause-here c = c.put.ensures.here

pub returns-clause-others : goal.returns-clause-others
returns-clause-others c = λ k ne.
    c.put.ensures.others k ne ∙ ap (λ es. family_numbered es k) c.reserve.ensures.same ∙ c.close.ensures.closed.others k ne

pub returns-clause-same : goal.returns-clause-same
returns-clause-same c =
    unseen_empty c.args.self.now c.put.new.self.entries c.args.number c.requires.tied c.requires.bare
    (λ k ne. c.put.ensures.others k ne ∙ ap (λ es. family_numbered es k) c.reserve.ensures.same ∙ c.close.ensures.closed.others k ne)
