-- What is known of a file's batches once there is a horizon more, or they stand as they were.
use Rattle.std.proofs.Common.{◌≡◌, ◌<◌, ◌≤◌, ◌^◌, ℕ, List, [], ◌∷◌, ◌++◌, true, refl, sym, ◌∙◌, subst, arith}
use Rattle.std.specs.Prelude.{⊤}
use Rattle.state_keeper.proofs.Names.{IsKnown, AreTold-horizon, AreTold-joined, horizon, last_rules-push, Known}
use Rattle.state_keeper.proofs.Lasting.{horizon_until}
use Rattle.state_file.specs.HorizonLaws.{is_horizon}
use Rattle.state_file.specs.KnownLaws.{size_stays, told_before}

-- a horizon beyond those before
pub known_horizon : (batches : List (List ℕ)) (batch : List ℕ) (until : ℕ) (old new : Known) → batch ≡ horizon until → until < 2 ^ 63 → old.until ≤ until →
    new.rules ≡ old.rules → new.shortened ≡ old.shortened → new.until ≡ until → IsKnown ⊤ batches old → IsKnown ⊤ (batches ++ batch ∷ []) new
known_horizon batches batch until old new is less le rules sized now known = subst (λ (b : List ℕ). IsKnown ⊤ (batches ++ b ∷ []) new) (sym is) (record {
  told = λ true. let told = known.told true in (told.0 ++ [], AreTold-joined batches (horizon until ∷ []) told.0 [] told.1 (AreTold-horizon until (is_horizon until less)));
  rules_begin = rw rules known.rules_begin;
  rules_few = rw rules known.rules_few;
  rules_are = λ true. rw rules (told_before batches old.rules.items (horizon until) (last_rules-push batches (horizon until)) (known.rules_are true));
  shortened_is = sized ∙ known.shortened_is ∙ sym (size_stays batches (horizon until) refl);
  until_is = λ true. (let all = horizon_until batches (horizon until) until refl less in let was = known.until_is true in omega (arith, now, all, was, le));
})

-- a file that stands as it was
pub known_still : (True Now : Type 0) (batches now : List (List ℕ)) (known : Known) → (Now → True) → now ≡ batches → (True → IsKnown ⊤ batches known) → Now → IsKnown ⊤ now known
known_still True Now batches now known truth same is = λ true. subst (λ (bs : List (List ℕ)). IsKnown ⊤ bs known) (sym same) (is (truth true))
