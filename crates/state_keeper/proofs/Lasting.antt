-- What a horizon more leaves as it was.
use Rattle.std.proofs.Common.{◌≡◌, ◌≤◌, ◌<◌, ◌^◌, ℕ, zero, suc, List, [], ◌∷◌, ◌++◌, sym, ap, ◌∙◌, subst, arith}
use Rattle.std.specs.Prelude.{max, unwrap_or}
use Rattle.std.proofs.lemmas.Bool.Decides.{nat_tests}
use Rattle.state_keeper.proofs.Names.{Event, StandFor, horizon, until_of, AreTold-horizon, until_of-append, until_of-more, last_rules, last_rules-push}
use Rattle.state_file.specs.Standing.{horizon_in}
use Rattle.state_file.specs.StandingLaws.{StandFor-beside}
use Rattle.state_keeper.proofs.Kept.{TellOn, tell_on}
use Rattle.state_file.specs.HorizonLaws.{horizon_in-horizon, is_horizon, value_of}

-- every moment of a horizon is so
in_range : (bytes : List ℕ) → unwrap_or (horizon_in (3 ∷ bytes)) 0 < 2 ^ 63
in_range bytes = grind (arith, nat_tests)

horizon_in-less : (batch : List ℕ) → unwrap_or (horizon_in batch) 0 < 2 ^ 63
horizon_in-less (suc (suc (suc zero)) ∷ bytes) = in_range bytes
horizon_in-less _ = omega arith

pub until_of-less : (batches : List (List ℕ)) → until_of batches < 2 ^ 63
until_of-less [] = omega arith
until_of-less (batch ∷ batches) = let here = horizon_in-less batch in let rest = until_of-less batches in omega (arith, here, rest)

-- A HORIZON MORE

-- the batches tell it, or a later moment
pub horizon_until : (batches : List (List ℕ)) (batch : List ℕ) (until : ℕ) → batch ≡ horizon until → until < 2 ^ 63 → until_of (batches ++ batch ∷ []) ≡ max (until_of batches) until
horizon_until batches batch until is less =
    let all = until_of-append batches (horizon until ∷ []) in
    let one = value_of (horizon_in (horizon until)) until (horizon_in-horizon until less) in
    ap (λ (b : List ℕ). until_of (batches ++ b ∷ [])) is ∙ omega (arith, all, one)

-- they stand for the same
pub horizon_stands : (batches : List (List ℕ)) (batch : List ℕ) (until : ℕ) (history : List Event) → batch ≡ horizon until → until < 2 ^ 63 → StandFor batches history → StandFor (batches ++ batch ∷ []) history
horizon_stands batches batch until history is less stands =
    subst (λ (b : List ℕ). StandFor (batches ++ b ∷ []) history) (sym is) (StandFor-beside batches (horizon until ∷ []) history (AreTold-horizon until (is_horizon until less)) stands)

-- and tell what they told, within the limit
pub horizon_tells : (limit : ℕ) (batches : List (List ℕ)) (batch : List ℕ) (until : ℕ) → batch ≡ horizon until → until < 2 ^ 63 → until ≤ limit → TellOn limit batches (batches ++ batch ∷ [])
horizon_tells limit batches batch until is less within = tell_on limit batches (batches ++ batch ∷ []) (until_of-more batches (batch ∷ []))
    (λ moment le was. (let all = horizon_until batches batch until is less in omega (arith, all, le, was, within)))
    (λ rules tell. (tell.0, ap (λ (b : List ℕ). last_rules (batches ++ b ∷ [])) is ∙ last_rules-push batches (horizon until) ∙ tell.1, tell.2))
