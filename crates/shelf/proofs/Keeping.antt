-- What is taken, and what is put in its place, under keys that a test tells apart.
use Rattle.std.proofs.Common.{◌≡◌, ◌∙◌, List, [], ◌∷◌, Option, Some, None, Bool, refl, ap, sym, subst, arith}
use Rattle.std.specs.Prelude.{IfNone, IfSome, if◌then◌else◌}
use Rattle.std.specs.List.{IsDistinct}
use Rattle.std.specs.List.Sorted.{IsPermutation}
use Rattle.std.specs.Map.{keys_of, lookup, remove_entry}
use Rattle.std.proofs.lemmas.Map.{lookup-remove_entry}
use Rattle.shelf.specs.Keeping.{IsTakenBy, PutsBy}
use Rattle.shelf.proofs.Keyed.{IsKeys}

-- what was taken, if anything was
abbrev pub Took : {K R : Type 0} → (K → K → Bool) → (old new : List (K × R)) → K → Option R → Type 0
Took eq old new key o = IfSome o (λ r. IsTakenBy eq old new key r) × IfNone o ((new ≡ old) × (lookup (eq key) old ≡ None))

module _ {K R : Type 0} {eq : K → K → Bool} (keys : IsKeys eq) where
  remove_none : (key : K) (es : List (K × R)) → lookup (eq key) es ≡ None → remove_entry (eq key) es ≡ es
  remove_none key [] none = refl
  remove_none key (e ∷ es) none = let more = remove_none key es in grind (arith, more, none)

  took_entries : (old new : List (K × R)) (key : K) (o : Option R) → Took eq old new key o → (lookup (eq key) old ≡ o) × (new ≡ remove_entry (eq key) old)
  took_entries old new key None took = (took.1.1, took.1.0 ∙ sym (remove_none key old took.1.1))
  took_entries old new key (Some r) took = (took.0.found, took.0.taken)

  others_stay : (old new : List (K × R)) (key other : K) (o : Option R) → IsDistinct eq (keys_of old) → Took eq old new key o → lookup (eq other) new ≡ (if eq key other then None else lookup (eq other) old)
  others_stay old new key other o once took =
      ap (λ es. lookup (eq other) es) (took_entries old new key o took).1 ∙ lookup-remove_entry keys.laws (eq key) (keys.laws.congr key) other old once

  -- nothing has the key then
  pub untaken : (old new : List (K × R)) (key : K) (o : Option R) → IsDistinct eq (keys_of old) → Took eq old new key o → lookup (eq key) new ≡ None
  untaken old new key o once took = let is = others_stay old new key key o once took in let own = (keys.decides key key).1 refl in grind (arith, is, own)

  pub put_in_place : (old mid new : List (K × R)) (key : K) (r : R) (o : Option R) → IsDistinct eq (keys_of new) → Took eq old mid key o → IsPermutation ((key, r) ∷ mid) new → PutsBy eq old new key r o
  put_in_place old mid new key r o once took moved =
      let is = took_entries old mid key o took in
      record { found = is.0; moved = subst (λ es. IsPermutation ((key, r) ∷ es) new) is.1 moved; once = once }

  pub found_in_place : (old mid new : List (K × R)) (key : K) (r : R) (o : Option R) → IsDistinct eq (keys_of old) → Took eq old mid key o →
      ((other : K) → lookup (eq other) new ≡ (if eq key other then Some r else lookup (eq other) mid)) → (other : K) → lookup (eq other) new ≡ (if eq key other then Some r else lookup (eq other) old)
  found_in_place old mid new key r o once took finds other = let is = finds other in let was = others_stay old mid key other o once took in grind (arith, is, was)
