-- What is known stays known.
use Rattle.std.proofs.Common.{◌≡◌, ◌+◌, ◌++◌, ◌∙◌, ℕ, Bool, true, false, List, [], ◌∷◌, length, refl, sym, ap, subst}
use Rattle.std.specs.Prelude.{Option, None, Some, replicate, ◌==◌, ◌&&◌, nat_le, nat_lt, if◌then◌else◌}
use Rattle.etcd_cluster.specs.Bytes.{HasBytes, Make, bytes_of, file_of, none, one_more}
use Rattle.etcd_cluster.specs.Knowing.{Agrees, AreKnown}
use Rattle.etcd_cluster.specs.Stands.{ChangeFact, Clears, Forgets, Lays, Pieces, Stand, WriteFact, all_written, done_at, written}
use Rattle.etcd_cluster.proofs.Made.{bytes_made}
use Rattle.etcd_cluster.specs.declared.change.Head.{Head}

-- where the same is put in the place of both, and where none is left of either
both_put : (b : Bool) (bytes piece : List ℕ) (known there : Option (List ℕ)) → (known ≡ Some piece → there ≡ Some piece)
    → (if b then Some bytes else known) ≡ Some piece → (if b then Some bytes else there) ≡ Some piece
both_put true bytes piece known there same is = is
both_put false bytes piece known there same is = same is

both_gone : (b : Bool) (piece : List ℕ) (known there : Option (List ℕ)) → (known ≡ Some piece → there ≡ Some piece)
    → (if b then None else known) ≡ Some piece → (if b then None else there) ≡ Some piece
both_gone true piece known there same is = is
both_gone false piece known there same is = same is

both_left : (b : Bool) (piece : List ℕ) (known there : Option (List ℕ)) → (known ≡ Some piece → there ≡ Some piece)
    → (if b then known else None) ≡ Some piece → (if b then there else None) ≡ Some piece
both_left true piece known there same is = same is
both_left false piece known there same is = is

known_written : (write : WriteFact) (known pieces : Pieces) → AreKnown known pieces → AreKnown (written write known) (written write pieces)
known_written (Lays generation at bytes) known pieces are = λ g p piece is.
    both_put (g == generation && p == at) bytes piece (known g p) (pieces g p) (are g p piece) is
known_written (Clears generation from to) known pieces are = λ g p piece is.
    both_gone (g == generation && nat_le from p && nat_lt p to) piece (known g p) (pieces g p) (are g p piece) is
known_written (Forgets generation) known pieces are = λ g p piece is. both_left (g == generation) piece (known g p) (pieces g p) (are g p piece) is

known_all : (writes : List WriteFact) (known pieces : Pieces) → AreKnown known pieces → AreKnown (all_written writes known) (all_written writes pieces)
known_all [] known pieces are = are
known_all (write ∷ later) known pieces are = known_all later (written write known) (written write pieces) (known_written write known pieces are)

-- what is known once a change was done
pub agrees_done : (version : ℕ) (change : ChangeFact) (known stand : Stand) → AreKnown known.pieces stand.pieces
    → Agrees (done_at version change known) (done_at version change stand)
agrees_done version change known stand are = record { version = refl; head = refl; pieces = known_all change.writes known.pieces stand.pieces are }

-- the bytes that known pieces make stand there
made_there : (known pieces : ℕ → Option (List ℕ)) (at : ℕ) (bytes : List ℕ) → ((p : ℕ) (piece : List ℕ) → known p ≡ Some piece → pieces p ≡ Some piece)
    → Make known at bytes → Make pieces at bytes
made_there known pieces at bytes same (none _) = none at
made_there known pieces at bytes same (one_more _ piece rest is long later) =
    one_more at piece rest (same at piece is) long (made_there known pieces (at + length piece) rest same later)

pub bytes_there : (known stand : Stand) (bytes : List ℕ) → Agrees known stand → HasBytes known bytes → HasBytes stand bytes
bytes_there known stand bytes agrees has =
    let there : Make (stand.pieces known.head.generation) 0 bytes =
    made_there (known.pieces known.head.generation) (stand.pieces known.head.generation) 0 bytes (agrees.pieces known.head.generation) has.0 in
    (subst (λ (g : ℕ). Make (stand.pieces g) 0 bytes) (sym (ap (λ (h : Head). h.generation) agrees.head)) there, ap (λ (h : Head). h.end) agrees.head ∙ has.1)

-- so the file is the one that is known
pub file_there : (known stand : Stand) (bytes : List ℕ) → Agrees known stand → HasBytes known bytes → file_of stand ≡ file_of known
file_there known stand bytes agrees has =
    let there = bytes_made stand bytes (bytes_there known stand bytes agrees has) in
    let here = bytes_made known bytes has in
    ap (λ (b : List ℕ). b ++ replicate stand.head.room 0) (there ∙ sym here)
    ∙ ap (λ (n : ℕ). bytes_of known ++ replicate n 0) (ap (λ (h : Head). h.room) agrees.head)
