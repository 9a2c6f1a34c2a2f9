use Rattle.std.proofs.Common.{◌≡◌, ap, ◌∙◌, sym, Some, arith}
use Rattle.std.specs.Prelude.{option_map}
use Rattle.token_store.proofs.Names.{kept_of, option_copied, shared_at, shared_seen, stand_entries}
use Rattle.token_store.specs.Found.{family_of_grant}
use Rattle.token_store.proofs.Living.{family_is, none_lives}
use Rattle.token_store.proofs.Telling.{lives_there}
use Rattle.token_store.proofs.store.Store.family.Goals as goal

pub returns : goal.returns
returns c = rw (← c.self.view_is) (λ history fits.
    let t = c.self.inside.tables in
    let n = c.args.number in
    let got = c.get.ensures in
    let was = ap option_copied c.in_ok-get.was in
    let there : c.in_ok-get.field-0.now ≡ shared_at t.families.entries n = grind (arith, got, was) in
    ap (λ x. Some x) (c.family.ensures ∙ ap shared_seen there)
    ∙ family_is t.families.entries (stand_entries t.records) history c.args.moment n c.self.invariant.ties.once fits.kept (sym c.lives.ensures ∙ c.if-not-lives.false))

pub returns-then-not-lives : goal.returns-then-not-lives
returns-then-not-lives c = rw (← c.self.view_is) (λ history fits.
    sym (ap (option_map (family_of_grant history))
    (none_lives (kept_of c.self.inside.tables) history c.args.moment c.args.number fits.kept (sym c.lives.ensures ∙ c.if-not-lives.true))))

pub returns-in_err-get : goal.returns-in_err-get
returns-in_err-get c =
    let there = lives_there c.self.inside.tables c.args.moment c.args.number c.self.invariant (sym c.lives.ensures ∙ c.if-not-lives.false) in
    let missing = ap option_copied c.in_err-get.was in
    let got = c.get.ensures in
    absurd (grind (arith, there, missing, got))
