use Rattle.std.proofs.Common.{◌≡◌, ◌∙◌, ap, Some, Option, is_some, arith}
use Rattle.token_store.proofs.Names.{or_nothing, stand_entries, Shared}
use Rattle.std.specs.Prelude.{option_map, true}
use Rattle.token_store.proofs.Families.{owned_shared, tied_bare, unseen_empty}
use Rattle.token_store.proofs.tables.Tables.put_expected.Goals as goal

shared_is : (o : Option Shared) (s : Shared) → is_some o ≡ true → option_map (λ was. s) o ≡ Some s
shared_is o s there = grind (arith, there)

pub put-requires-clause-tied : goal.put-requires-clause-tied
put-requires-clause-tied c =
    let t = c.args.self.now in
    let here = c.set.ensures.here ∙ shared_is _ c.args.shared c.requires.waits.there in
    let was = c.requires.waits.empty in
    let empty = c.requires.empty in
    record {
      standing = c.requires.tied.standing;
      ties = tied_bare t.families.entries c.set.new.self.entries c.args.new.family (stand_entries t.records) t.owners.keys t.owners.keys t.last t.swept was (ap (λ o. (or_nothing o).count) here ∙ empty)
          (ap (λ o. (or_nothing o).until) here ∙ c.requires.fresh) c.set.ensures.others
          (owned_shared t.families.entries c.set.new.self.entries c.args.new.family c.args.shared t.owners.keys c.requires.tied.ties.owned here c.set.ensures.others c.requires.waits.alike) c.requires.tied.ties;
    }

pub returns-clause-keeps : goal.returns-clause-keeps
returns-clause-keeps c = λ m none.
    let t = c.args.self.now in
    let n = c.args.new.family in
    let same = unseen_empty t c.set.new.self.entries n c.requires.tied c.requires.waits.empty c.set.ensures.others in
    rw (same, c.set.ensures.here ∙ shared_is _ c.args.shared c.requires.waits.there) at (c.put.ensures.keeps m (rw same none))
