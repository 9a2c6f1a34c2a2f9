use Rattle.std.proofs.Common.{◌∙◌, ap, sym, None}
use Rattle.token_store.proofs.Names.{can_stand, with_change, event_at, parties_of, change_of, kept_of, kept_under, shared_at, home_shared, is_some, Tables}
use Rattle.consent.specs.declared.change.Change.TheVariants as given
use Rattle.token_store.proofs.Dropping.{has_slot}
use Rattle.token_store.proofs.Issuing.{fits_token, shared_new}
use Rattle.token_store.proofs.Homing.{waits_of, peopled_of, new_bare, shared_peopled}
use Rattle.token_store.proofs.Changing.{fits_put, last_pushed}
use Rattle.token_store.proofs.tables.Tables.issue.Goals as goal

pub put_expected-requires-clause-waits : goal.put_expected-requires-clause-waits
put_expected-requires-clause-waits c =
    rw (c.of_token-record.ensures.family, c.of_home.ensures, c.pass.ensures.same)
    (waits_of c.args.self.now c.args.home.now.family (home_shared c.args.home.now 0) c.requires.ready
    (sym (ap (λ (x : Tables). is_some x.coming) c.pass.ensures.same) ∙ sym c.is_some.ensures ∙ c.if-is_some.true))

pub put-requires-clause-open : goal.put-requires-clause-open
put-requires-clause-open c =
    let t = c.args.self.now in
    rw (c.of_token-record.ensures.family, c.pass.ensures.same)
    (has_slot t.families.entries c.args.home.now.family (peopled_of t c.args.home.now.family (home_shared c.args.home.now 0) None c.requires.ready
    (sym (ap (λ (x : Tables). is_some x.coming) c.pass.ensures.same) ∙ sym c.is_some.ensures ∙ c.if-is_some.false)))

pub returns-then-is_some-clause-makes : goal.returns-then-is_some-clause-makes
returns-then-is_some-clause-makes c = λ history fits can.
    let t = c.args.self.now in
    let home = c.args.home.now in
    let token = c.args.token.now in
    let m = c.args.moment in
    let x = change_of (given.Issued home token) in
    let yes = sym (ap (λ (x : Tables). is_some x.coming) c.pass.ensures.same) ∙ sym c.is_some.ensures ∙ c.if-is_some.true in
    let waits = waits_of t home.family (home_shared home 0) c.requires.ready yes in
    let new = new_bare t history m c.requires.tied fits home can.0 waits.empty in
    let is = ap (λ s. kept_under s token.digest c.of_token-record.result) c.of_home.ensures ∙ c.of_token-record.ensures.kept (home_shared home 0) in
    record {
      kept = fits_put (kept_of t) _ _ c.put_expected.new.self history (with_change history m x) m token.digest is (rw c.pass.ensures.same at (c.put_expected.ensures.keeps m)) fits.kept can.1
          c.put_expected.ensures.tied (fits_token (kept_of t) history m home.family (parties_of home) (home_shared home 0) token (shared_new history home new) (can_stand history m m x fits.kept.is_history can) fits.kept);
      last = c.put_expected.ensures.last ∙ ap (λ t. t.last) c.pass.ensures.same ∙ last_pushed t.last history (event_at m x) fits.last;
    }

pub returns-else-is_some-clause-makes : goal.returns-else-is_some-clause-makes
returns-else-is_some-clause-makes c = λ history fits can.
    let t = c.args.self.now in
    let f = t.families.entries in
    let home = c.args.home.now in
    let token = c.args.token.now in
    let m = c.args.moment in
    let x = change_of (given.Issued home token) in
    let r = c.of_token-record.result in
    let no = sym (ap (λ (x : Tables). is_some x.coming) c.pass.ensures.same) ∙ sym c.is_some.ensures ∙ c.if-is_some.false in
    let some = peopled_of t home.family (home_shared home 0) None c.requires.ready no in
    let shared = shared_peopled t history m c.requires.tied fits home can.0 some in
    let is = ap (λ i. kept_under (shared_at f i) token.digest r) c.of_token-record.ensures.family ∙ c.of_token-record.ensures.kept (shared_at f home.family) in
    record {
      kept = fits_put (kept_of t) _ _ c.put.new.self history (with_change history m x) m token.digest is (rw c.pass.ensures.same at (c.put.ensures.keeps m)) fits.kept can.1
          c.put.ensures.tied (fits_token (kept_of t) history m home.family (parties_of home) (shared_at f home.family) token shared (can_stand history m m x fits.kept.is_history can) fits.kept);
      last = c.put.ensures.last ∙ ap (λ t. t.last) c.pass.ensures.same ∙ last_pushed t.last history (event_at m x) fits.last;
    }

pub returns-then-is_some-clause-room : goal.returns-then-is_some-clause-room
returns-then-is_some-clause-room c = rw c.pass.ensures.same at c.put_expected.ensures.room
