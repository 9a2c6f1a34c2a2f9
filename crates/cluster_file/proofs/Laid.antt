-- What changes make of the bytes of a file.
use Rattle.std.proofs.Common.{◌≡◌, ◌<◌, ◌≤◌, ◌+◌, ◌++◌, ◌∙◌, ℕ, Bool, true, false, List, [], ◌∷◌, length, length-append, refl, sym, ap, subst, arith}
use Rattle.std.proofs.lemmas.Bool.{eq-eqb, ne_eqb}
use Rattle.std.specs.Prelude.{Option, None, Some, replicate, ◌==◌, ◌&&◌, nat_le, nat_lt, if◌then◌else◌}
use Rattle.etcd_cluster.specs.Bytes.{HasBytes, Make, bytes_of, file_of}
use Rattle.etcd_cluster.specs.Stands.{ChangeFact, Clears, Lays, Pieces, Stand, all_written, done_at, written}
use Rattle.etcd_cluster.specs.declared.change.Head.{Head}
use Rattle.etcd_cluster.proofs.Made.{bytes_made, made_again, made_longer}
use Rattle.cluster_file.specs.Files.{CountsSame, touch_writes}

-- WHERE NOTHING IS CHANGED

yes_no : true ≡ false → ⊥
yes_no is = cc

put_not : (b c : Bool) (piece : List ℕ) (there : Option (List ℕ)) → c ≡ false → (if b && c then Some piece else there) ≡ there
put_not b true piece there is = absurd (yes_no is)
put_not true false piece there is = refl
put_not false false piece there is = refl

pub put_there : (b c : Bool) (piece : List ℕ) (there : Option (List ℕ)) → b ≡ true → c ≡ true → (if b && c then Some piece else there) ≡ Some piece
put_there true true piece there one other = refl
put_there true false piece there one other = absurd (yes_no (sym other))
put_there false c piece there one other = absurd (yes_no (sym one))

gone_not : (b c d : Bool) (there : Option (List ℕ)) → c ≡ false → (if b && c && d then None else there) ≡ there
gone_not b true d there is = absurd (yes_no is)
gone_not true false d there is = refl
gone_not false false d there is = refl

-- PIECES

pub laid_there : (pieces : Pieces) (g place : ℕ) (piece : List ℕ) → written (Lays g place piece) pieces g place ≡ Some piece
laid_there pieces g place piece = put_there (g == g) (place == place) piece (pieces g place) (eq-eqb g g refl) (eq-eqb place place refl)

pub laid_before : (pieces : Pieces) (g place p : ℕ) (piece : List ℕ) → (p ≡ place → ⊥) → written (Lays g place piece) pieces g p ≡ pieces g p
laid_before pieces g place p piece other = put_not (g == g) (p == place) piece (pieces g p) (ne_eqb p place other)

-- a piece behind them all
pub made_kept : (pieces : Pieces) (g place : ℕ) (piece bytes : List ℕ) → length bytes ≤ place → Make (pieces g) 0 bytes → Make (written (Lays g place piece) pieces g) 0 bytes
made_kept pieces g place piece bytes behind made =
    made_again (pieces g) (written (Lays g place piece) pieces g) 0 bytes
    (λ p below. put_not (g == g) (p == place) piece (pieces g p) (ne_eqb p place (λ is. omega (arith, below, is, behind)))) made

-- right behind the last one
pub made_put : (pieces : Pieces) (g place : ℕ) (piece whole : List ℕ) → place ≡ length whole → 0 < length piece → Make (pieces g) 0 whole
    → Make (written (Lays g place piece) pieces g) 0 (whole ++ piece)
made_put pieces g place piece whole at long made =
    let there : written (Lays g place piece) pieces g (0 + length whole) ≡ Some piece =
    put_there (g == g) (0 + length whole == place) piece (pieces g (0 + length whole)) (eq-eqb g g refl) (eq-eqb (0 + length whole) place (omega (arith, at))) in
    made_longer (written (Lays g place piece) pieces g) 0 whole piece there long (made_kept pieces g place piece whole (omega (arith, at)) made)

-- what stands behind the end is taken away
pub made_touched : (pieces : Pieces) (g end to : ℕ) (bytes : List ℕ) → length bytes ≤ end → Make (pieces g) 0 bytes
    → Make (all_written (Clears g end to ∷ []) pieces g) 0 bytes
made_touched pieces g end to bytes behind made =
    made_again (pieces g) (all_written (Clears g end to ∷ []) pieces g) 0 bytes
    (λ p below.
    let less : nat_le end p ≡ false = not_le end p (omega (arith, below, behind)) in
    gone_not (g == g) (nat_le end p) (nat_lt p to) (pieces g p) less) made
  where
    not_le : (a b : ℕ) → b < a → nat_le a b ≡ false
    not_le a b less = grind (arith, less)

-- FILES

-- a change of which the pieces that count are the same leaves the bytes
module _ (stand : Stand) (version : ℕ) (change : ChangeFact) (bytes : List ℕ) (same : CountsSame stand.head change.head) (has : HasBytes stand bytes)
    (made : Make (stand.pieces change.head.generation) 0 bytes → Make (all_written change.writes stand.pieces change.head.generation) 0 bytes) where
  pub bytes_stay : HasBytes (done_at version change stand) bytes
  bytes_stay = (made (subst (λ (g : ℕ). Make (stand.pieces g) 0 bytes) (sym same.2) has.0), same.0 ∙ has.1)

  pub file_stays : file_of (done_at version change stand) ≡ file_of stand
  file_stays =
      let there : bytes_of (done_at version change stand) ≡ bytes = bytes_made (done_at version change stand) bytes bytes_stay in
      let here : bytes_of stand ≡ bytes = bytes_made stand bytes has in
      ap (λ (b : List ℕ). b ++ replicate change.head.room 0) (there ∙ sym here) ∙ ap (λ (n : ℕ). bytes_of stand ++ replicate n 0) same.1

-- a piece behind the end
pub lay_bytes : (stand : Stand) (version after place : ℕ) (head : Head) (piece bytes : List ℕ) → CountsSame stand.head head → stand.head.end ≤ place → HasBytes stand bytes
    → HasBytes (done_at version (record { after = after; head = head; writes = Lays head.generation place piece ∷ [] }) stand) bytes
lay_bytes stand version after place head piece bytes same behind has =
    bytes_stay stand version (record { after = after; head = head; writes = Lays head.generation place piece ∷ [] }) bytes same has
    (made_kept stand.pieces head.generation place piece bytes (let end = has.1 in omega (arith, end, behind)))

-- what stands behind the end
pub touch_bytes : (stand : Stand) (version after : ℕ) (head : Head) (bytes : List ℕ) → CountsSame stand.head head → HasBytes stand bytes
    → HasBytes (done_at version (record { after = after; head = head; writes = touch_writes head }) stand) bytes
touch_bytes stand version after head bytes same has =
    bytes_stay stand version (record { after = after; head = head; writes = touch_writes head }) bytes same has
    (made_touched stand.pieces head.generation head.end 0xffffffffffffffff bytes (let end = has.1 in let counts = same.0 in omega (arith, end, counts)))

pub touch_file : (stand : Stand) (version after : ℕ) (head : Head) (bytes : List ℕ) → CountsSame stand.head head → HasBytes stand bytes
    → file_of (done_at version (record { after = after; head = head; writes = touch_writes head }) stand) ≡ file_of stand
touch_file stand version after head bytes same has =
    file_stays stand version (record { after = after; head = head; writes = touch_writes head }) bytes same has
    (made_touched stand.pieces head.generation head.end 0xffffffffffffffff bytes (let end = has.1 in let counts = same.0 in omega (arith, end, counts)))

-- the last piece, and the end behind it
pub last_bytes : (stand : Stand) (version after place : ℕ) (head : Head) (piece whole : List ℕ) → head.generation ≡ stand.head.generation → place ≡ length whole
    → head.end ≡ place + length piece → 0 < length piece → Make (stand.pieces stand.head.generation) 0 whole
    → HasBytes (done_at version (record { after = after; head = head; writes = Lays head.generation place piece ∷ [] }) stand) (whole ++ piece)
last_bytes stand version after place head piece whole generation at end long made =
    let both = length-append whole piece in (
      made_put stand.pieces head.generation place piece whole at long (subst (λ (g : ℕ). Make (stand.pieces g) 0 whole) (sym generation) made),
      omega (arith, end, at, both),
    )
