-- Who is no former owner is one and the same by both rules. For proofs alone.
use Rattle.std.proofs.Common.{◌≡◌, ◌<◌, ◌≤◌, ℕ, suc, max, List, [], ◌∷◌, Bool, true, false, Option, Some, None, refl, sym, subst, inl, inr, arith}
use Rattle.std.specs.Prelude.{◌==◌, ◌&&◌, ◌||◌, not, find, is_some}
use Rattle.std.proofs.lemmas.Bool.{eqb-true}
use Rattle.std.proofs.lemmas.Bool.Decides.{nat_tests}
use Rattle.change_codec.specs.Rules.{OwnerFact}
use Rattle.consent.specs.ListLaws.{find-passes}
use Rattle.rules_beside.specs.Beside.{IsOne, first_moved_owner, is_former, was_somebody}
use Rattle.rules_beside.specs.BesideParts.{has_former}
use Rattle.rules_beside.specs.Owners.{has_moved, is_same_owner, is_told, owner_told}
use Rattle.rules_beside.specs.OwnersParts.{are_told}
use Rattle.rules_beside.specs.declared.owners.OwnersBeside.{OwnersBeside}

-- ONE AND THE SAME

-- what is found by one test passes no other by which nothing is found
found-fails : {X : Type 0} (p q : X → Bool) (xs : List X) (x : X) → find p xs ≡ None → find q xs ≡ Some x → p x ≡ false
found-fails p q [] x none at = cc
found-fails p q (y ∷ ys) x none at = let more = found-fails p q ys x in grind (arith, more, none, at)

pub is_one : (owners : OwnersBeside) (number : ℕ) → first_moved_owner owners ≡ None → was_somebody owners number ≡ true → is_former owners number ≡ false →
    IsOne owners number
unfolding is_former
is_one owners number stay was here = by owners.numbered refl (owner_told number owners.told) refl (owner_told number owners.listed) refl
  where
    by : (b : Bool) → owners.numbered ≡ b → (o : Option OwnerFact) → owner_told number owners.told ≡ o → (p : Option OwnerFact) → owner_told number owners.listed ≡ p → IsOne owners number
    by true numbered (Some owner) told (Some other) now = inl (numbered, grind (arith, now))
    by true numbered (Some owner) told None now = absurd (grind (arith, was, here, told, now))
    by true numbered None told (Some other) now = inl (numbered, grind (arith, now))
    by true numbered None told None now = inl (numbered, grind (arith, was, here, told, now))
    by false numbered (Some owner) told (Some other) now =
        let same : number ≡ owner.number = eqb-true number owner.number (find-passes (λ (o : OwnerFact). number == o.number) owners.told owner told) in
        let at : owner_told owner.number owners.listed ≡ Some other = subst (λ (n : ℕ). owner_told n owners.listed ≡ Some other) same now in
        let none : find (has_moved owners.listed) owners.told ≡ None = grind (arith, stay, numbered) in
        let moved : has_moved owners.listed owner ≡ false = found-fails (has_moved owners.listed) (λ (o : OwnerFact). number == o.number) owners.told owner none told in
        let is : is_same_owner owners.listed owner other ≡ true = grind (arith, moved, at) in
        rw (told, now) (inr is)
    by false numbered (Some owner) told None now = absurd (grind (arith, was, here, told, now))
    by false numbered None told (Some other) now = absurd (grind (arith, was, here, told, now, numbered))
    by false numbered None told None now = rw (told, now) (inr (grind (arith, was, here, told, now), grind (arith, was, here, told, now)))

-- FORMER OWNERS

told_there : (number : ℕ) (owners others : List OwnerFact) → are_told owners others ≡ true → is_told number owners ≡ true → is_told number others ≡ true
told_there number [] others all is = absurd (cc)
told_there number (o ∷ owners) others all is = by (told_there number owners others) (number == o.number) refl
  where
    by : (are_told owners others ≡ true → is_told number owners ≡ true → is_told number others ≡ true) → (b : Bool) → (number == o.number) ≡ b → is_told number others ≡ true
    by more true same = subst (λ (n : ℕ). is_told n others ≡ true) (sym (eqb-true number o.number same)) (grind (arith, all))
    by more false other = more (grind (arith, all)) (grind (arith, other, is))

not_there : (owners others : List OwnerFact) → are_told owners others ≡ false → (number : ℕ) × (is_told number owners ≡ true) × (is_told number others ≡ false)
not_there [] others none = absurd (cc)
not_there (o ∷ owners) others none = by (not_there owners others) (is_told o.number others) refl
  where
    by : (are_told owners others ≡ false → (number : ℕ) × (is_told number owners ≡ true) × (is_told number others ≡ false)) → (b : Bool) → is_told o.number others ≡ b →
        (number : ℕ) × (is_told number (o ∷ owners) ≡ true) × (is_told number others ≡ false)
    by rest true is = let more = rest (grind (arith, is, none)) in let there = more.1 in (more.0, grind (arith, there), more.2)
    by rest false is = (o.number, grind (arith, nat_tests), is)

abbrev greatest : List OwnerFact → ℕ
greatest [] = 0
greatest (o ∷ owners) = max o.number (greatest owners)

none_beyond : (number : ℕ) (owners : List OwnerFact) → greatest owners < number → is_told number owners ≡ false
none_beyond number [] lt = refl
none_beyond number (o ∷ owners) lt =
    let here : o.number < number = omega (arith, lt) in
    let more = none_beyond number owners (omega (arith, lt)) in grind (arith, nat_tests, here, more)

by_gateway : (all came here numbered back : Bool) → (not all || came && (not here || not numbered && not back)) ≡ true → all ≡ true → here ≡ true →
    (came ≡ true) × (numbered ≡ false) × (back ≡ false)
by_gateway true true true false false is a h = (refl, refl, refl)
by_gateway true true true false true is a h = absurd cc
by_gateway true true true true back is a h = absurd cc
by_gateway true true false numbered back is a h = absurd cc
by_gateway true false here numbered back is a h = absurd cc
by_gateway false came here numbered back is a h = absurd cc

module _ (owners : OwnersBeside) where
  pub none_former : has_former owners ≡ false → (number : ℕ) → is_former owners number ≡ false
  unfolding is_former
  none_former none number =
      let there = told_there number owners.told owners.listed in
      let back = told_there number owners.listed owners.told in
      grind (arith, there, back, none)

  pub some_former : has_former owners ≡ true → (number : ℕ) × (is_former owners number ≡ true)
  unfolding is_former
  some_former some = by (are_told owners.told owners.listed) refl owners.gateway refl
    where
      by : (b : Bool) → are_told owners.told owners.listed ≡ b → (g : Bool) → owners.gateway ≡ g → (number : ℕ) × (is_former owners number ≡ true)
      by false all g at = let one = not_there owners.told owners.listed all in let was = one.1 in let none = one.2 in (one.0, grind (arith, was, none))
      by true all false at =
          let number : ℕ = suc (max (greatest owners.told) (greatest owners.listed)) in
          let told = none_beyond number owners.told (omega arith) in
          let now = none_beyond number owners.listed (omega arith) in
          (number, grind (arith, told, now, at, all, some))
      by true all true at =
          let parts = by_gateway (are_told owners.told owners.listed) owners.told_gateway owners.gateway owners.numbered (are_told owners.listed owners.told) some all at in
          let came = parts.0 in
          let places = parts.1 in
          let one = not_there owners.listed owners.told parts.2 in
          let is = one.1 in
          let none = one.2 in (one.0, grind (arith, is, none, came, places))
