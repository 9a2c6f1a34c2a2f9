-- What is known of the pieces of a file is so still once a change was made.
use Rattle.std.proofs.Common.{◌≡◌, ◌<◌, ◌≤◌, ◌+◌, ℕ, Bool, true, false, List, [], ◌∷◌, length, inl, inr, refl, sym, subst, arith}
use Rattle.std.proofs.lemmas.Bool.{eqb-true}
use Rattle.std.specs.Global.{Vec}
use Rattle.std.specs.Prelude.{Option, None, Some, ◌==◌, ◌&&◌, nat_le, nat_lt, if◌then◌else◌}
use Rattle.etcd_cluster.specs.Calls.{AreTrue}
use Rattle.etcd_cluster.specs.Stands.{ChangeFact, Clears, Lays, Pieces, Stand, all_written, done_at, written}
use Rattle.etcd_cluster.specs.declared.change.Piece.{Piece}
use Rattle.etcd_cluster.specs.declared.cluster.Cluster.{Ghosts as Cluster}
use Rattle.cluster_file.specs.Devices.{IsBeside}
use Rattle.cluster_file.specs.Places.{IsHeld, IsOneOf, IsRead, OthersStay, SideBySide, counted, ends, goes_on}
use Rattle.cluster_file.specs.declared.beside.NextFile.{NextFile}
use Rattle.cluster_file.specs.declared.file.ClusterFile.{ClusterFile}
use Rattle.cluster_file.proofs.Places.{beside_still}
use Rattle.cluster_file.proofs.Reading.{made_still}

-- PIECES

pub lay_keeps : (pieces : Pieces) (g place h p : ℕ) (piece other : List ℕ) → (h ≡ g → p ≡ place → ⊥) → pieces h p ≡ Some other
    → written (Lays g place piece) pieces h p ≡ Some other
lay_keeps pieces g place h p piece other not is = by_test (h == g) (p == place) refl refl
  where
    by_test : (a b : Bool) → (h == g) ≡ a → (p == place) ≡ b → (if a && b then Some piece else pieces h p) ≡ Some other
    by_test true true here there = absurd (not (eqb-true h g here) (eqb-true p place there))
    by_test true false here there = is
    by_test false b here there = is

pub clear_keeps : (pieces : Pieces) (g from to h p : ℕ) (other : List ℕ) → (h ≡ g → from ≤ p → p < to → ⊥) → pieces h p ≡ Some other
    → written (Clears g from to) pieces h p ≡ Some other
clear_keeps pieces g from to h p other not is = by_test (h == g) (nat_le from p) (nat_lt p to) refl refl refl
  where
    by_test : (a b d : Bool) → (h == g) ≡ a → nat_le from p ≡ b → nat_lt p to ≡ d → (if a && b && d then None else pieces h p) ≡ Some other
    by_test true true true here behind before = absurd (not (eqb-true h g here) (grind (arith, behind)) (grind (arith, before)))
    by_test true true false here behind before = is
    by_test true false d here behind before = is
    by_test false b d here behind before = is

-- STANDS

pub others_same : (old new : Stand) → new ≡ old → OthersStay old new
others_same old new same =
    subst (λ (s : Stand). OthersStay old s) (sym same) (record { generation = refl; counted = λ p piece below is. is; beside = λ p piece is. is })

-- by a change that keeps the generation, and these pieces
pub others_done : (stand : Stand) (version : ℕ) (change : ChangeFact) → change.head.generation ≡ stand.head.generation
    → ((p : ℕ) (piece : List ℕ) → p < stand.head.end → stand.pieces stand.head.generation p ≡ Some piece
    → all_written change.writes stand.pieces stand.head.generation p ≡ Some piece)
    → ((p : ℕ) (piece : List ℕ) → stand.pieces (stand.head.generation + 1) p ≡ Some piece
    → all_written change.writes stand.pieces (stand.head.generation + 1) p ≡ Some piece) → OthersStay stand (done_at version change stand)
others_done stand version change same here beside = record {
  generation = same;
  counted = λ p piece below is. subst (λ (g : ℕ). all_written change.writes stand.pieces g p ≡ Some piece) (sym same) (here p piece below is);
  beside = λ p piece is. subst (λ (g : ℕ). all_written change.writes stand.pieces (g + 1) p ≡ Some piece) (sym same) (beside p piece is);
}

-- where a piece is laid behind the end
pub others_laid : (stand : Stand) (version : ℕ) (change : ChangeFact) (place : ℕ) (piece : List ℕ) → change.head.generation ≡ stand.head.generation
    → change.writes ≡ Lays change.head.generation place piece ∷ [] → stand.head.end ≤ place → OthersStay stand (done_at version change stand)
others_laid stand version change place piece same writes behind =
    others_done stand version change same
    (λ p other below is. subst (λ ws. all_written ws stand.pieces stand.head.generation p ≡ Some other) (sym writes)
    (lay_keeps stand.pieces change.head.generation place stand.head.generation p piece other (λ here there. omega (arith, below, behind, there)) is))
    (λ p other is. subst (λ ws. all_written ws stand.pieces (stand.head.generation + 1) p ≡ Some other) (sym writes)
    (lay_keeps stand.pieces change.head.generation place (stand.head.generation + 1) p piece other (λ here there. omega (arith, here, same)) is))

-- where what stands behind the end is taken away
pub others_cleared : (stand : Stand) (version : ℕ) (change : ChangeFact) (from to : ℕ) → change.head.generation ≡ stand.head.generation
    → change.writes ≡ Clears change.head.generation from to ∷ [] → stand.head.end ≤ from → OthersStay stand (done_at version change stand)
others_cleared stand version change from to same writes behind =
    others_done stand version change same
    (λ p other below is. subst (λ ws. all_written ws stand.pieces stand.head.generation p ≡ Some other) (sym writes)
    (clear_keeps stand.pieces change.head.generation from to stand.head.generation p other (λ here far near. omega (arith, below, behind, far)) is))
    (λ p other is. subst (λ ws. all_written ws stand.pieces (stand.head.generation + 1) p ≡ Some other) (sym writes)
    (clear_keeps stand.pieces change.head.generation from to (stand.head.generation + 1) p other (λ here far near. omega (arith, here, same)) is))

-- where none is changed
pub others_none : (stand : Stand) (version : ℕ) (change : ChangeFact) → change.head.generation ≡ stand.head.generation → change.writes ≡ []
    → OthersStay stand (done_at version change stand)
others_none stand version change same writes =
    others_done stand version change same
    (λ p other below is. subst (λ ws. all_written ws stand.pieces stand.head.generation p ≡ Some other) (sym writes) is)
    (λ p other is. subst (λ ws. all_written ws stand.pieces (stand.head.generation + 1) p ≡ Some other) (sym writes) is)

-- one after the other
pub others_on : (old mid new : Stand) → old.head.end ≤ mid.head.end → OthersStay old mid → OthersStay mid new → OthersStay old new
others_on old mid new longer first second = record {
  generation = subst (λ (g : ℕ). new.head.generation ≡ g) first.generation second.generation;
  counted = λ p piece below is. second.counted p piece (omega (arith, below, longer)) (first.counted p piece below is);
  beside = λ p piece is. second.beside p piece (first.beside p piece is);
}

-- FILES

-- the next file stands there still
pub beside_after : {C : Type 0} (cluster : Cluster C) (old new : ClusterFile C) → OthersStay (cluster.stand old.cluster) (cluster.stand new.cluster) → new.next ≡ old.next
    → IsBeside cluster old old.next → IsBeside cluster new new.next
beside_after {C} cluster old new others same beside = subst (λ (o : Option NextFile). IsBeside cluster new o) (sym same) (each old.next beside)
  where
    nexts : ClusterFile C → ℕ → Option (List ℕ)
    nexts file = (cluster.stand file.cluster).pieces ((cluster.stand file.cluster).head.generation + 1)

    each : (o : Option NextFile) → IsBeside cluster old o → IsBeside cluster new o
    each None is = tt
    each (Some next) is = record {
      bytes = is.bytes;
      made = made_still (nexts old) (nexts new) 0 is.bytes others.beside is.made;
      size = is.size;
      starts = beside_still (nexts old) (nexts new) 0 next.starts.items next.laid others.beside is.starts;
    }

beside_le : (pieces : ℕ → Option (List ℕ)) (at : ℕ) (starts : List ℕ) (to : ℕ) → SideBySide pieces at starts to → at ≤ to
beside_le pieces at starts to (ends _) = omega arith
beside_le pieces at starts to (goes_on _ _ piece later is long on) = let far = beside_le pieces (at + length piece) later to on in omega (arith, far)

pub one_below : (pieces : ℕ → Option (List ℕ)) (at : ℕ) (starts : List ℕ) (to place : ℕ) → SideBySide pieces at starts to → IsOneOf place starts → place < to
one_below pieces at starts to place (ends _) one = absurd one
one_below pieces at starts to place (goes_on _ _ piece later is long on) one =
    elim one [
      | inl here ↦ (let far = beside_le pieces (at + length piece) later to on in omega (arith, far, long, here))
      | inr there ↦ one_below pieces (at + length piece) later to place on there
    ]

pub beside_below : (pieces others : ℕ → Option (List ℕ)) (at : ℕ) (starts : List ℕ) (to : ℕ)
    → ((p : ℕ) (piece : List ℕ) → p < to → pieces p ≡ Some piece → others p ≡ Some piece) → SideBySide pieces at starts to → SideBySide others at starts to
beside_below pieces others at starts to same (ends _) = ends at
beside_below pieces others at starts to same (goes_on _ _ piece later is long on) =
    let far = beside_le pieces (at + length piece) later to on in
    goes_on at to piece later (same at piece (omega (arith, far, long)) is) long (beside_below pieces others (at + length piece) later to same on)

-- what was read is known still
pub read_counted : {C : Type 0} (cluster : Cluster C) (old new : ClusterFile C) → (AreTrue (cluster.calls new.cluster) → AreTrue (cluster.calls old.cluster))
    → ((p : ℕ) (piece : List ℕ) → p < (cluster.stand old.cluster).head.end → counted cluster old p ≡ Some piece → counted cluster new p ≡ Some piece)
    → (cluster.stand old.cluster).head.end ≤ (cluster.stand new.cluster).head.end
    → new.starts ≡ old.starts → new.known ≡ old.known → new.piece ≡ old.piece → IsRead cluster old → IsRead cluster new
read_counted cluster old new truth stay longer starts known piece read are =
    let was = read (truth are) in
    let within = was.within in
    let still : SideBySide (counted cluster new) 0 old.starts.items old.known =
    beside_below (counted cluster old) (counted cluster new) 0 old.starts.items old.known
    (λ p one below is. stay p one (omega (arith, below, within)) is) was.pieces in
    record {
      pieces = subst (λ (v : Vec ℕ). SideBySide (counted cluster new) 0 v.items new.known) (sym starts)
          (subst (λ (n : ℕ). SideBySide (counted cluster new) 0 old.starts.items n) (sym known) still);
      within = omega (arith, within, longer, known);
      held = subst (λ (p : Option Piece). IsHeld cluster new p) (sym piece) (held old.piece was.held);
    }
  where
    held : (p : Option Piece) → IsHeld cluster old p → IsHeld cluster new p
    held None is = tt
    held (Some one) is =
        let was = read (truth are) in
        let within = was.within in
        let below = one_below (counted cluster old) 0 old.starts.items old.known one.at was.pieces is.1 in (
          stay one.at one.bytes.items (omega (arith, below, within)) is.0,
          subst (λ (v : Vec ℕ). IsOneOf one.at v.items) (sym starts) is.1,
        )

pub read_after : {C : Type 0} (cluster : Cluster C) (old new : ClusterFile C) → (AreTrue (cluster.calls new.cluster) → AreTrue (cluster.calls old.cluster))
    → OthersStay (cluster.stand old.cluster) (cluster.stand new.cluster) → (cluster.stand old.cluster).head.end ≤ (cluster.stand new.cluster).head.end
    → new.starts ≡ old.starts → new.known ≡ old.known → new.piece ≡ old.piece → IsRead cluster old → IsRead cluster new
read_after cluster old new truth others longer starts known piece read =
    read_counted cluster old new truth (λ p one below is. others.counted p one below is) longer starts known piece read
