-- A key that begins so.
use Rattle.std.proofs.Common.{◌≡◌, ◌++◌, ◌∙◌, ℕ, List, drop, length, nat_eq, Bool, true, false, refl, sym, ap}
use Rattle.std.proofs.lemmas.Bool.Decides.{Decides-eqb}
use Rattle.std.proofs.lemmas.List.{append_cancel_left}
use Rattle.std.proofs.lemmas.Slice.Eq.{bytes_eq-Decides, starts_is}
use Rattle.std.specs.List.{starts_with}
use Rattle.std.specs.Prelude.{bytes_eq}

both_ways : (a b : Bool) → (a ≡ true → b ≡ true) → (b ≡ true → a ≡ true) → a ≡ b
both_ways true b there back = sym (there refl)
both_ways false true there back = back refl
both_ways false false there back = refl

-- it is that one, where its rest is
pub rest_is : (key front rest : List ℕ) → starts_with nat_eq key front ≡ true → bytes_eq (drop (length front) key) rest ≡ bytes_eq key (front ++ rest)
rest_is key front rest starts =
    let behind = drop (length front) key in
    let split : key ≡ front ++ behind = (starts_is Decides-eqb key front (starts_with nat_eq key front) refl).0 starts in
    both_ways (bytes_eq behind rest) (bytes_eq key (front ++ rest))
    (λ same. (bytes_eq-Decides key (front ++ rest)).1 (split ∙ ap (λ (l : List ℕ). front ++ l) ((bytes_eq-Decides behind rest).0 same)))
    (λ same. (bytes_eq-Decides behind rest).1 (append_cancel_left front behind rest (sym split ∙ (bytes_eq-Decides key (front ++ rest)).0 same)))

-- it is not, where it begins otherwise
pub begins_not : (key front rest : List ℕ) → starts_with nat_eq key front ≡ false → false ≡ bytes_eq key (front ++ rest)
begins_not key front rest not =
    both_ways false (bytes_eq key (front ++ rest)) (λ is. absurd cc)
    (λ same. sym not ∙ (starts_is Decides-eqb key front (starts_with nat_eq key front) refl).1 rest ((bytes_eq-Decides key (front ++ rest)).0 same))
