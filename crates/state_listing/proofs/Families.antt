-- The families of records, each told once.
use Rattle.std.proofs.Common.{◌≡◌, ◌≤◌, ◌-◌, ◌+◌, ℕ, List, [], ◌∷◌, ◌++◌, Bool, true, false, ◌||◌, ◌==◌, refl, sym, ap, ◌∙◌, subst, map, length, take, drop, get_or, append_assoc, arith}
use Rattle.std.proofs.lemmas.Bool.{eqb-true}
use Rattle.std.proofs.lemmas.Bool.Decides.{nat_tests}
use Rattle.std.proofs.lemmas.List.{take_all}
use Rattle.std.specs.List.{flat_map, list_any}
use Rattle.consent.specs.RecordFacts.{RecordFact}
use Rattle.state_listing.specs.Lines.{firsts}

-- a family is among those that were seen
abbrev pub is_seen : ℕ → List ℕ → Bool
is_seen family seen = list_any (λ f. f == family) seen

pub or_flip : (a b : Bool) → (a || b) ≡ (b || a)
or_flip true true = refl
or_flip true false = refl
or_flip false b = grind (arith, nat_tests)

-- one that was seen is seen no better
pub seen_again : (family q : ℕ) (seen : List ℕ) → is_seen family seen ≡ true → (is_seen q seen || (family == q)) ≡ is_seen q seen
seen_again family q seen is =
    let same : (family == q) ≡ true → is_seen q seen ≡ true = λ e. subst (λ f. is_seen f seen ≡ true) (eqb-true family q e) is in
    grind (arith, nat_tests, same)

module _ {K : Type 0} (fact : K → RecordFact) (f : RecordFact → List ℕ) (lines whole seen : List ℕ) (rest : List K) (k d : K) (some : 1 ≤ length rest) (is : k ≡ get_or rest 0 d)
    (so_far : lines ++ flat_map f (firsts seen (map fact rest)) ≡ whole) where
  abbrev later : List RecordFact
  later = map fact (take (length rest - 1) (drop 1 rest))

  parted : (xs : List K) → 1 ≤ length xs → xs ≡ get_or xs 0 d ∷ take (length xs - 1) (drop 1 xs)
  parted [] none = absurd (omega (arith, none))
  parted (x ∷ xs) there =
      let less : length (x ∷ xs) - 1 ≡ length xs = omega arith in
      ap (λ (ys : List K). x ∷ ys) (sym (ap (λ (n : ℕ). take n xs) less ∙ take_all (length xs) xs (omega arith)))

  here : map fact rest ≡ fact k ∷ later
  here = ap (map fact) (parted rest some) ∙ ap (λ (x : K). fact x ∷ later) (sym is)

  -- a family that is told, and one that is not told again
  pub told_first : is_seen (fact k).family seen ≡ false → (now : List ℕ) → now ≡ lines ++ f (fact k) → now ++ flat_map f (firsts ((fact k).family ∷ seen) later) ≡ whole
  told_first unseen now line =
      let step : lines ++ (f (fact k) ++ flat_map f (firsts ((fact k).family ∷ seen) later)) ≡ whole = rw (here, unseen) at so_far in
      ap (λ (l : List ℕ). l ++ flat_map f (firsts ((fact k).family ∷ seen) later)) line ∙ append_assoc lines (f (fact k)) _ ∙ step

  pub told_again : is_seen (fact k).family seen ≡ true → lines ++ flat_map f (firsts seen later) ≡ whole
  told_again again = rw (here, again) at so_far
