-- Consents that an owner withdraws, dated.
use Rattle.std.proofs.Common.{◌≡◌, ◌<◌, ◌+◌, ◌-◌, ℕ, zero, suc, List, [], ◌∷◌, map, refl, sym, ap, ◌∙◌, arith}
use Rattle.std.specs.List.{range_with_len}
use Rattle.std.specs.Prelude.{length}
use Rattle.std.proofs.lemmas.List.{length-map}
use Rattle.std.proofs.lemmas.List.FromFn.{length-map-range_with_len}
use Rattle.consent.specs.History.{Event}
use Rattle.consent.specs.declared.change.Change.TheVariants.{Consented}
use Rattle.consent.specs.declared.change.Changes.TheVariants.{Left}
use Rattle.change_codec.specs.Happened.{dated, all_dated}

-- those from the first client on, so many
abbrev pub withdrawn_from : ℕ → ℕ → ℕ → ℕ → List Event
withdrawn_from moment owner first count = map (dated moment) (map (λ client. Consented owner client 0) (range_with_len first count))

-- the first of them, and the others
pub withdrawn_first : (moment owner seen clients : ℕ) → seen < clients →
    withdrawn_from moment owner (seen + 1) (clients - seen)
    ≡ dated moment (Consented owner (seen + 1) 0) ∷ withdrawn_from moment owner (seen + 1 + 1) (clients - (seen + 1))
withdrawn_first moment owner seen clients few =
    let more : clients - seen ≡ suc (clients - (seen + 1)) = omega (arith, few) in
    ap (withdrawn_from moment owner (seen + 1)) more

-- as many as there are clients
pub length_left : (moment owner clients : ℕ) → length (all_dated moment (Left owner clients)) ≡ clients
length_left moment owner clients =
    length-map (map (λ client. Consented owner client 0) (range_with_len 1 clients)) (dated moment)
    ∙ length-map-range_with_len (λ client. Consented owner client 0) 1 clients
