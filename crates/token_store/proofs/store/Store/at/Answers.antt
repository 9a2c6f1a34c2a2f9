use Rattle.std.proofs.Common.{◌≡◌, ap, ◌∙◌, sym, Some, arith}
use Rattle.token_store.proofs.Names.{family_numbered, kept_at, kept_in, kept_of, kept_under, option_copied, or_nothing, stand_entries}
use Rattle.std.specs.Option.{option_map}
use Rattle.token_store.specs.Found.{kept_seen}
use Rattle.token_store.proofs.Dropping.{has_slot, kept_counted}
use Rattle.token_store.proofs.Telling.{seen_kept}
use Rattle.token_store.proofs.store.Store.at.Goals as goal

pub returns : goal.returns
returns c = rw (← c.self.view_is) (λ history fits.
    let t = c.self.inside.tables in
    let d = c.args.digest.now in
    let m = c.args.moment in
    let r = c.in_ok-record.record.now in
    let found : kept_at (kept_of t) d m ≡ Some (kept_in t.families.entries (d, r)) =
    sym c.record_at.ensures ∙ ap (λ o. option_map (λ x. kept_in t.families.entries (d, x)) (option_copied o)) c.in_ok-record.was in
    let got = c.get.ensures in
    let was = ap option_copied c.in_ok-shared.was in
    let there : family_numbered t.families.entries r.family ≡ Some c.in_ok-shared.shared.now = grind (arith, got, was) in
    ap (λ x. Some x) (c.found.ensures d) ∙ ap (λ o. Some (kept_seen (kept_under (or_nothing o) d r))) (sym there)
    ∙ seen_kept (kept_of t) history d m (kept_in t.families.entries (d, r)) fits.kept found)

-- each record's family is there
pub returns-in_err-shared : goal.returns-in_err-shared
returns-in_err-shared c =
    let t = c.self.inside.tables in
    let d = c.args.digest.now in
    let k = kept_in t.families.entries (d, c.in_ok-record.record.now) in
    let at : kept_at (kept_of t) d c.args.moment ≡ Some k =
    sym c.record_at.ensures ∙ ap (λ o. option_map (λ x. kept_in t.families.entries (d, x)) (option_copied o)) c.in_ok-record.was in
    let there = has_slot t.families.entries k.grant.family (kept_counted t.families.entries (stand_entries t.records) d c.args.moment k c.self.invariant.ties.once c.self.invariant.ties.counted at) in
    let missing = ap option_copied c.in_err-shared.was in
    let got = c.get.ensures in
    absurd (grind (arith, there, missing, got))
