-- What each of several tells, one after the other.
use Rattle.std.proofs.Common.{◌≡◌, ◌≤◌, ◌-◌, ℕ, List, [], ◌∷◌, ◌++◌, refl, sym, ap, ◌∙◌, map, length, take, drop, get_or, append_assoc, append-nil, arith}
use Rattle.std.proofs.lemmas.List.{take_all}
use Rattle.std.specs.Prelude.{Option, None, Some, option_and_then, option_map}
use Rattle.etcd_client.specs.Told.{each}

-- before the first of them
pub none_done : {F : Type 0} (told : Option (List F)) → told ≡ option_map (λ more. [] ++ more) told
none_done None = refl
none_done (Some more) = refl

-- behind the last of them
pub all_done : {E F : Type 0} (done : List F) (told : E → Option F) → option_map (λ more. done ++ more) (each told []) ≡ Some done
all_done done told = ap (λ l. Some l) (append-nil done)

one_done : {F : Type 0} (done : List F) (one : F) (told : Option (List F))
    → option_map (λ more. done ++ more) (option_map (λ more. one ∷ more) told) ≡ option_map (λ more. (done ++ one ∷ []) ++ more) told
one_done done one None = refl
one_done done one (Some more) = ap (λ l. Some l) (sym (append_assoc done (one ∷ []) more))

module _ {K E F : Type 0} (view : K → E) (told : E → Option F) (done : List F) (rest : List K) (k d : K) (some : 1 ≤ length rest) (is : k ≡ get_or rest 0 d) where
  abbrev later : List K
  later = take (length rest - 1) (drop 1 rest)

  parted : (xs : List K) → 1 ≤ length xs → xs ≡ get_or xs 0 d ∷ take (length xs - 1) (drop 1 xs)
  parted [] none = absurd (omega (arith, none))
  parted (x ∷ xs) there =
      let less : length (x ∷ xs) - 1 ≡ length xs = omega arith in
      ap (λ (ys : List K). x ∷ ys) (sym (ap (λ (n : ℕ). take n xs) less ∙ take_all (length xs) xs (omega arith)))

  here : rest ≡ k ∷ later
  here = parted rest some ∙ ap (λ (x : K). x ∷ later) (sym is)

  whole : option_map (λ more. done ++ more) (each told (map view rest))
      ≡ option_map (λ more. done ++ more) (option_and_then (λ first. option_map (λ more. first ∷ more) (each told (map view later))) (told (view k)))
  whole = ap (λ (xs : List K). option_map (λ more. done ++ more) (each told (map view xs))) here

  -- where the first of them tells something
  pub one_told : (one : F) → told (view k) ≡ Some one → option_map (λ more. done ++ more) (each told (map view rest))
      ≡ option_map (λ more. (done ++ one ∷ []) ++ more) (each told (map view later))
  one_told one it =
      whole ∙ ap (λ (o : Option F). option_map (λ more. done ++ more) (option_and_then (λ first. option_map (λ more. first ∷ more) (each told (map view later))) o)) it
      ∙ one_done done one (each told (map view later))
