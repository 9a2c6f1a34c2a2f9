-- What is known of a file's batches once there is one more. For proofs alone.
use Rattle.std.proofs.Common.{◌≡◌, ℕ, List, [], ◌∷◌, ◌++◌, Bool, true, false, sym, ◌∙◌, subst, arith}
use Rattle.std.specs.Prelude.{if◌then◌else◌}
use Rattle.state_file.specs.Names.{Event, RulesFact, rules_spelling, frames_size, HaveSpelling, batch_spelling}
use Rattle.state_file.specs.Knowing.{IsKnown, shortened_size, tells_number}
use Rattle.state_file.specs.Standing.{AreTold}
use Rattle.state_file.specs.StandingLaws.{AreTold-changes, AreTold-joined, until_of-append}
use Rattle.state_file.specs.Telling.{Tell, last_rules}
use Rattle.state_file.specs.TellingLaws.{last_rules-push}
use Rattle.state_file.specs.declared.known.Known.{Known}
use Rattle.state_file.specs.LengthLaws.{shortened_size-push}

-- a batch that tells no number leaves the size as it was
pub size_stays : (batches : List (List ℕ)) (batch : List ℕ) → tells_number batch ≡ false → shortened_size (batches ++ batch ∷ []) ≡ shortened_size batches
size_stays batches batch none =
    subst (λ (b : Bool). shortened_size (batches ++ batch ∷ []) ≡ (if b then frames_size (batches ++ batch ∷ []) else shortened_size batches)) none (shortened_size-push batches batch)

-- rules that are told before a batch that tells none
pub told_before : (batches : List (List ℕ)) (bytes : List ℕ) (batch : List ℕ) → last_rules (batches ++ batch ∷ []) ≡ last_rules batches →
    (rules : RulesFact) × Tell batches rules × (bytes ≡ rules_spelling rules) → (rules : RulesFact) × Tell (batches ++ batch ∷ []) rules × (bytes ≡ rules_spelling rules)
told_before batches bytes batch same known = (known.0, (known.1.0, same ∙ known.1.1, known.1.2), known.2)

-- a batch of changes more
pub known_changes : (True : Type 0) (batches : List (List ℕ)) (batch : List ℕ) (facts : List Event) (old new : Known) → batch ≡ batch_spelling facts → HaveSpelling facts →
    new.rules ≡ old.rules → new.shortened ≡ (if tells_number batch then frames_size (batches ++ batch ∷ []) else old.shortened) → new.until ≡ old.until →
    IsKnown True batches old → IsKnown True (batches ++ batch ∷ []) new
known_changes True batches batch facts old new is fits rules sized until known = record {
  told = λ true. let told = known.told true in (
    told.0 ++ facts,
    subst (λ (b : List ℕ). AreTold (batches ++ b ∷ []) (told.0 ++ facts)) (sym is)
        (AreTold-joined batches (batch_spelling facts ∷ []) told.0 facts told.1 (AreTold-changes facts fits)),
  );
  rules_begin = rw rules known.rules_begin;
  rules_few = rw rules known.rules_few;
  rules_are = λ true. rw rules (told_before batches old.rules.items batch (rw is (last_rules-push batches (batch_spelling facts))) (known.rules_are true));
  shortened_is = sized ∙ (let was = known.shortened_is in rw was (sym (shortened_size-push batches batch)));
  until_is = λ true. until ∙ known.until_is true ∙ (let all = until_of-append batches (batch_spelling facts ∷ []) in rw is (omega (arith, all)));
}
