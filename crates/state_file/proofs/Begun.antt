-- What is known of the batches of a file that is begun.
use Rattle.std.proofs.Common.{◌≡◌, ◌<◌, ◌^◌, inl, inr, ℕ, List, [], ◌∷◌, ◌++◌, length, refl, sym, ap, ◌∙◌, subst}
use Rattle.std.specs.Prelude.{⊤}
use Rattle.state_file.proofs.Names.{Event, RulesFact, rules_spelling, AreTold, AreTold-joined, AreTold-rules, append-nil, until_of, AreToldBehind, rules_fields, shortened_size, Known}
use Rattle.state_file.specs.Knowing.{IsKnown}
use Rattle.state_file.proofs.Tells.{tells_behind, until_behind}
use Rattle.state_file.specs.KnownLaws.{size_stays}

-- rules were told, or they were told before
pub known_begun : (old new : List (List ℕ)) (facts : List Event) (known : Known) (now : RulesFact) → AreTold old facts → known.rules.items ≡ rules_spelling now → length known.rules.items < 2 ^ 32 → AreToldBehind old now new →
    known.shortened ≡ shortened_size old → known.until ≡ until_of old → IsKnown ⊤ new known
known_begun old new facts known now told spelled few behind sized until = record {
  told = λ _. (facts ++ [], tell behind);
  rules_begin = rw spelled refl;
  rules_few = few;
  rules_are = λ _. (now, tells_behind old new now behind, spelled);
  shortened_is = sized ∙ sizes behind;
  until_is = λ _. until ∙ sym (until_behind old new now behind);
}
  where
    tell : AreToldBehind old now new → AreTold new (facts ++ [])
    tell (inl same) = subst (λ (bs : List (List ℕ)). AreTold bs (facts ++ [])) (sym same.1) (subst (λ (es : List Event). AreTold old es) (sym (append-nil facts)) told)
    tell (inr more) = subst (λ (bs : List (List ℕ)). AreTold bs (facts ++ [])) (sym more.1) (AreTold-joined old (rules_spelling now ∷ []) facts [] told (AreTold-rules (rules_fields now)))

    sizes : AreToldBehind old now new → shortened_size old ≡ shortened_size new
    sizes (inl same) = ap shortened_size (sym same.1)
    sizes (inr more) = sym (ap shortened_size more.1 ∙ size_stays old (rules_spelling now) refl)
