use Rattle.std.proofs.Common.{◌≡◌, ◌∙◌, ap, false, arith}
use Rattle.token_store.proofs.Names.{change_of, with_change, kept_of, kept_under, event_at, is_some, code_shared}
use Rattle.token_store.proofs.Homing.{bare_new, peopled_of}
use Rattle.consent.specs.declared.change.Change.TheVariants as given
use Rattle.token_store.proofs.Adding.{fits_opened}
use Rattle.token_store.proofs.Changing.{fits_put, last_pushed}
use Rattle.token_store.proofs.tables.Tables.give_code.Goals as goal

pub returns-clause-makes : goal.returns-clause-makes
returns-clause-makes c = λ history fits can.
    let t = c.args.self.now in
    let facts = c.args.facts.now in
    let d = c.args.digest.now in
    let m = c.args.moment in
    let family = c.args.family in
    let put = c.put_expected.ensures in
    let x = change_of (given.CodeGiven family facts d) in
    let is = ap (λ s. kept_under s d c.of_code-record.result) c.of_code.ensures ∙ c.of_code-record.ensures.kept d 0 in
    record {
      kept = fits_put (kept_of t) _ _ c.put_expected.new.self history (with_change history m x) m d is (rw c.pass.ensures.same at (put.keeps m)) fits.kept can.1 put.tied
          (fits_opened (kept_of t) history m family facts d can fits.kept);
      last = put.last ∙ ap (λ t. t.last) c.pass.ensures.same ∙ last_pushed t.last history (event_at m x) fits.last;
    }

pub returns-in_default-clause-makes : goal.returns-in_default-clause-makes
returns-in_default-clause-makes c = λ history fits can.
    let t = c.args.self.now in
    let never = c.in_default.not-Some in
    let took = c.take.ensures in
    let none : is_some t.coming ≡ false = grind (arith, never, took) in
    let some = peopled_of t c.args.family (code_shared c.args.facts.now 0) _ c.requires.room.ready none in
    let bare = bare_new t history c.args.moment c.requires.tied fits c.args.family can.0 in
    absurd (omega (arith, some, bare))
