-- What stands behind the end of a file goes at the first change, and the next file leaves it so.
use Rattle.std.proofs.Common.{◌≡◌, ◌<◌, ◌≤◌, ◌∙◌, inl, inr, ℕ, Bool, true, false, List, ◌∷◌, [], refl, sym, ap, subst, arith}
use Rattle.std.proofs.lemmas.Bool.{eq-eqb}
use Rattle.std.specs.Prelude.{None, Option, Some, ◌==◌, ◌&&◌, nat_le, nat_lt, if◌then◌else◌}
use Rattle.etcd_cluster.specs.Leading.{IsLed}
use Rattle.etcd_cluster.specs.Stands.{ChangeFact, Clears, Pieces, Stand, WriteFact, done_at, written}
use Rattle.etcd_cluster.specs.Worlds.{Begun, World}
use Rattle.etcd_cluster.specs.declared.change.Head.{Head}
use Rattle.etcd_cluster.specs.declared.cluster.Cluster.{Ghosts as Cluster}
use Rattle.cluster_file.specs.Files.{CountsSame, IsMade, IsMadeBy, change_of, touch_writes}
use Rattle.cluster_file.specs.Nexts.{LeavesCounted}
use Rattle.cluster_file.specs.Places.{EndsThere}
use Rattle.cluster_file.specs.declared.file.ClusterFile.{ClusterFile}
use Rattle.cluster_file.proofs.Besides.{counted_same}

gone_there : (a b d : Bool) (there : Option (List ℕ)) → a ≡ true → b ≡ true → d ≡ true → (if a && b && d then None else there) ≡ None
gone_there true true true there here behind before = refl
gone_there true true false there here behind before = cc
gone_there true false d there here behind before = cc
gone_there false b d there here behind before = cc

cleared_there : (pieces : Pieces) (g from to p : ℕ) → from ≤ p → p < to → written (Clears g from to) pieces g p ≡ None
cleared_there pieces g from to p behind before =
    gone_there (g == g) (nat_le from p) (nat_lt p to) (pieces g p) (eq-eqb g g refl) (is_le from p behind) (is_lt p to before)
  where
    is_le : (a b : ℕ) → a ≤ b → nat_le a b ≡ true
    is_le a b le = grind (arith, le)

    is_lt : (a b : ℕ) → a < b → nat_lt a b ≡ true
    is_lt a b less = grind (arith, less)

-- what the server put stands there, where no other has begun
led_there : (server since : ℕ) (stand : Stand) (w : World) → w.begun ≡ None → IsLed server since stand w → w.stand ≡ stand
led_there server since stand w none (inl there) = there.1
led_there server since stand w none (inr lost) = absurd (no_begun w.begun lost.begun none lost.is)
  where
    no_begun : (begun : Option Begun) (other : Begun) → begun ≡ None → begun ≡ Some other → ⊥
    no_begun None other none is = cc
    no_begun (Some begun) other none is = cc

-- what a change left at a place
module _ {C : Type 0} (cluster : Cluster C) (old new : ClusterFile C) (change : ChangeFact) (made : IsMade cluster old new change) (w : World)
    (may : cluster.may_be new.cluster w) (none : w.begun ≡ None) (p : ℕ) where
  left_by : (stand : Stand) → IsLed (cluster.server old.cluster) (cluster.moment old.cluster) (done_at new.standing.version change stand) w
      → (done_at new.standing.version change stand).pieces change.head.generation p ≡ None → w.stand.pieces new.standing.head.generation p ≡ None
  left_by stand led is =
      subst (λ (h : Head). w.stand.pieces h.generation p ≡ None) (sym made.head)
      (ap (λ (s : Stand). s.pieces change.head.generation p) (led_there (cluster.server old.cluster) (cluster.moment old.cluster) _ w none led) ∙ is)

-- THE TOUCH
pub touched_ends : {C : Type 0} (cluster : Cluster C) (old new : ClusterFile C) (head : Head) → CountsSame old.standing.head head
    → IsMade cluster old new (change_of old head (touch_writes head)) → EndsThere cluster new
touched_ends cluster old new head counts made w may none p behind below = by_begun old.has_begun made.by
  where
    at : head.end ≤ p
    at = let end = ap (λ (h : Head). h.end) made.head in omega (arith, behind, end)

    gone : (stand : Stand) → written (Clears head.generation head.end 0xffffffffffffffff) stand.pieces head.generation p ≡ None
    gone stand = cleared_there stand.pieces head.generation head.end 0xffffffffffffffff p at below

    by_begun : (begun : Bool) → IsMadeBy cluster old.cluster new.cluster new.standing.version (change_of old head (touch_writes head)) begun
        → w.stand.pieces new.standing.head.generation p ≡ None
    by_begun true does = by_done (does w may)
      where
        by_done : (first : World) × cluster.may_be old.cluster first × (first.begun ≡ None) × (first.stand.version ≡ old.standing.version)
            × IsLed (cluster.server old.cluster) (cluster.moment old.cluster) (done_at new.standing.version (change_of old head (touch_writes head)) first.stand) w
            → w.stand.pieces new.standing.head.generation p ≡ None
        by_done (first, was, alone, version, led) = left_by cluster old new (change_of old head (touch_writes head)) made w may none p first.stand led (gone first.stand)
    by_begun false begins = by_first (begins w may)
      where
        by_first : (first : World) × cluster.may_be old.cluster first × (first.stand.version ≡ old.standing.version)
            × IsLed (cluster.server old.cluster) (cluster.moment old.cluster) (done_at new.standing.version (change_of old head (touch_writes head)) first.stand) w
            → w.stand.pieces new.standing.head.generation p ≡ None
        by_first (first, was, version, led) = left_by cluster old new (change_of old head (touch_writes head)) made w may none p first.stand led (gone first.stand)

-- THE NEXT FILE
pub beside_ends : {C : Type 0} (cluster : Cluster C) (old new : ClusterFile C) (head : Head) (write : WriteFact) → CountsSame old.standing.head head
    → LeavesCounted old.standing.head.generation write → IsMade cluster old new (change_of old head (write ∷ [])) → old.has_begun ≡ true
    → EndsThere cluster old → EndsThere cluster new
beside_ends cluster old new head write counts beside made begun ends w may none p behind below = by_first (does w may)
  where
    does : IsMadeBy cluster old.cluster new.cluster new.standing.version (change_of old head (write ∷ [])) true
    does = subst (λ (b : Bool). IsMadeBy cluster old.cluster new.cluster new.standing.version (change_of old head (write ∷ [])) b) begun made.by

    at : old.standing.head.end ≤ p
    at =
        let end = ap (λ (h : Head). h.end) made.head in
        let same = counts.0 in
        omega (arith, behind, end, same)

    by_first : (first : World) × cluster.may_be old.cluster first × (first.begun ≡ None) × (first.stand.version ≡ old.standing.version)
        × IsLed (cluster.server old.cluster) (cluster.moment old.cluster) (done_at new.standing.version (change_of old head (write ∷ [])) first.stand) w
        → w.stand.pieces new.standing.head.generation p ≡ None
    by_first (first, was, alone, version, led) =
        left_by cluster old new (change_of old head (write ∷ [])) made w may none p first.stand led
        (counted_same first.stand.pieces head.generation write (subst (λ (g : ℕ). LeavesCounted g write) (sym counts.2) beside) p
        ∙ ap (λ (g : ℕ). first.stand.pieces g p) counts.2 ∙ ends first was alone p at below)
