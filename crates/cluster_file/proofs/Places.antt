-- What the pieces that are known make of the bytes of a file.
use Rattle.std.proofs.Common.{◌≡◌, ◌⊎◌, inl, inr, ◌<◌, ◌≤◌, ◌+◌, ◌-◌, ◌++◌, ◌∙◌, ℕ, zero, suc, List, [], ◌∷◌, drop, length, length-append, take, get_or, refl, sym, ap, subst, arith}
use Rattle.std.proofs.lemmas.List.{drop-take, take-take, take_at}
use Rattle.std.proofs.Math.Seq.{drop-append-add}
use Rattle.std.specs.Prelude.{Option, Some}
use Rattle.etcd_cluster.specs.Bytes.{Make, bytes_of, laid, none, one_more}
use Rattle.etcd_cluster.specs.Stands.{Stand}
use Rattle.etcd_cluster.proofs.Made.{laid_made}
use Rattle.cluster_file.specs.Places.{IsOneOf, SideBySide, ends, goes_on}

-- so a piece that stands there is that part of the bytes
pub record IsPart (at place : ℕ) (piece bytes : List ℕ) : Type 0 where
  pub after : at ≤ place
  pub within : (place - at) + length piece ≤ length bytes
  pub is : take (length piece) (drop (place - at) bytes) ≡ piece

pub record AreBytes (pieces : ℕ → Option (List ℕ)) (at : ℕ) (starts : List ℕ) (to : ℕ) : Type 0 where
  pub bytes : List ℕ
  pub made : Make pieces at bytes
  pub size : at + length bytes ≡ to
  pub parts : (place : ℕ) (piece : List ℕ) → IsOneOf place starts → pieces place ≡ Some piece → IsPart at place piece bytes

same_piece : (a b : List ℕ) → ◌≡◌ {A = Option (List ℕ)} (Some a) (Some b) → a ≡ b
same_piece a b is = cc

part_here : (at place : ℕ) (piece bytes : List ℕ) → place ≡ at → IsPart at place piece (piece ++ bytes)
part_here at place piece bytes here =
    let no_gap : place - at ≡ 0 = omega (arith, here) in
    let whole = length-append piece bytes in
    record {
      after = omega (arith, here);
      within = omega (arith, no_gap, whole);
      is = ap (λ (n : ℕ). take (length piece) (drop n (piece ++ bytes))) no_gap ∙ take_at piece bytes (length piece) refl;
    }

part_there : (at place : ℕ) (first piece bytes : List ℕ) → IsPart (at + length first) place piece bytes → IsPart at place piece (first ++ bytes)
part_there at place first piece bytes part =
    let after = part.after in
    let within = part.within in
    let whole = length-append first bytes in
    let far : place - at ≡ length first + (place - (at + length first)) = omega (arith, after) in
    record {
      after = omega (arith, after);
      within = omega (arith, far, within, whole);
      is = ap (λ (n : ℕ). take (length piece) (drop n (first ++ bytes))) far
          ∙ ap (λ (l : List ℕ). take (length piece) l) (drop-append-add first bytes (place - (at + length first)))
          ∙ part.is;
    }

pub bytes_in : (pieces : ℕ → Option (List ℕ)) (at : ℕ) (starts : List ℕ) (to : ℕ) → SideBySide pieces at starts to → AreBytes pieces at starts to
bytes_in pieces at starts to (ends _) = record { bytes = []; made = none at; size = omega arith; parts = λ place piece one is. absurd one }
bytes_in pieces at starts to (goes_on _ _ piece later is long on) =
    let more = bytes_in pieces (at + length piece) later to on in
    let whole = length-append piece more.bytes in
    let size = more.size in
    record {
      bytes = piece ++ more.bytes;
      made = one_more at piece more.bytes is long more.made;
      size = omega (arith, whole, size);
      parts = λ place other one other_is. part_of pieces at later piece more.bytes is place other other_is (λ there. more.parts place other there other_is) one;
    }
  where
    part_of : (pieces : ℕ → Option (List ℕ)) (at : ℕ) (later piece bytes : List ℕ) → pieces at ≡ Some piece → (place : ℕ) (other : List ℕ) → pieces place ≡ Some other
        → (IsOneOf place later → IsPart (at + length piece) place other bytes) → (place ≡ at) ⊎ IsOneOf place later → IsPart at place other (piece ++ bytes)
    part_of pieces at later piece bytes is place other other_is on (inl here) =
        let same : piece ≡ other = same_piece piece other (sym is ∙ ap pieces (sym here) ∙ other_is) in
        subst (λ (p : List ℕ). IsPart at place p (piece ++ bytes)) same (part_here at place piece bytes here)
    part_of pieces at later piece bytes is place other other_is on (inr there) = part_there at place piece other bytes (on there)

-- THE FRONT OF A FILE

-- the bytes that known pieces make are its first
pub front_is : (stand : Stand) (bytes : List ℕ) (n : ℕ) → Make (stand.pieces stand.head.generation) 0 bytes → length bytes ≤ stand.head.end → n ≤ length bytes
    → take n (bytes_of stand) ≡ take n bytes
front_is stand bytes n made short within =
    let all = laid stand.head.end (stand.pieces stand.head.generation) 0 in
    take-take n stand.head.end all (omega (arith, short, within))
    ∙ sym (take-take n (length bytes) all within)
    ∙ ap (λ (l : List ℕ). take n l) (laid_made (stand.pieces stand.head.generation) stand.head.end 0 bytes short made)

-- parts of lists that begin alike
pub part_alike : (n m : ℕ) (a b : List ℕ) → take (n + m) a ≡ take (n + m) b → take m (drop n a) ≡ take m (drop n b)
part_alike n m a b same = sym (drop-take n m a) ∙ ap (λ (l : List ℕ). drop n l) same ∙ drop-take n m b

-- ONE PIECE MORE

pub one_of_more : (place : ℕ) (starts more : List ℕ) → IsOneOf place starts → IsOneOf place (starts ++ more)
one_of_more place [] more one = absurd one
one_of_more place (first ∷ later) more (inl here) = inl here
one_of_more place (first ∷ later) more (inr there) = inr (one_of_more place later more there)

pub one_of_last : (place : ℕ) (starts : List ℕ) → IsOneOf place (starts ++ place ∷ [])
one_of_last place [] = inl refl
one_of_last place (first ∷ later) = inr (one_of_last place later)

pub index_one : (starts : List ℕ) (k : ℕ) → k < length starts → IsOneOf (get_or starts k 0) starts
index_one [] k below = absurd (omega (arith, below))
index_one (first ∷ later) zero below = inl refl
index_one (first ∷ later) (suc k) below = inr (index_one later k (omega (arith, below)))

pub beside_more : (pieces : ℕ → Option (List ℕ)) (at : ℕ) (starts : List ℕ) (to : ℕ) (piece : List ℕ) → pieces to ≡ Some piece → 0 < length piece
    → SideBySide pieces at starts to → SideBySide pieces at (starts ++ to ∷ []) (to + length piece)
beside_more pieces at starts to piece is long (ends _) = goes_on at (at + length piece) piece [] is long (ends (at + length piece))
beside_more pieces at starts to piece is long (goes_on _ _ first later first_is first_long on) =
    goes_on at (to + length piece) first (later ++ to ∷ []) first_is first_long (beside_more pieces (at + length first) later to piece is long on)

-- as long as each of them stands there
pub beside_still : (pieces others : ℕ → Option (List ℕ)) (at : ℕ) (starts : List ℕ) (to : ℕ) → ((p : ℕ) (piece : List ℕ) → pieces p ≡ Some piece → others p ≡ Some piece)
    → SideBySide pieces at starts to → SideBySide others at starts to
beside_still pieces others at starts to same (ends _) = ends at
beside_still pieces others at starts to same (goes_on _ _ piece later is long on) =
    goes_on at to piece later (same at piece is) long (beside_still pieces others (at + length piece) later to same on)
