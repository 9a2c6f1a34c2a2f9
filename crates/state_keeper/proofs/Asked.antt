-- A keeper whose file was asked about, or tended, and stands as it was.
use Rattle.std.proofs.Common.{◌≡◌, ◌≤◌, ◌+◌, ◌-◌, ◌*◌, ◌^◌, inl, ℕ, List, [], Option, None, Some, refl, sym, ap, subst, arith}
use Rattle.std.specs.Prelude.{min}
use Rattle.batch_file.specs.CrashesLaws.{both, weaker}
use Rattle.batch_file.specs.Frames.{IsReadable}
use Rattle.batch_file.specs.declared.appending.BatchFault.{BatchFault}
use Rattle.state_keeper.proofs.Names.{BatchFile, Device, IsOnDisk, Known, LeavesOnly, recovered}
use Rattle.state_keeper.proofs.Ended.{Knows, keeper_with}
use Rattle.state_keeper.proofs.Fronts.{at_rest_readable}
use Rattle.state_keeper.proofs.Kept.{goes_on_now}
use Rattle.state_keeper.proofs.Known.{known_still}
use Rattle.state_keeper.proofs.Sliced.{HeldAll, HoldsAll, by_leaving, by_same, stays_as}
use Rattle.state_keeper.proofs.Way.{front_kept, way_kept}
use Rattle.state_keeper.specs.Passing.{KeepsFile}
use Rattle.state_keeper.specs.Slicing.{IsOnTheWayIf, front_if, to_go_if}
use Rattle.state_keeper.specs.declared.course.Shortening.{Shortening}

module _ {D : Type 0} (device : Device D) (old new : BatchFile D) (keeps : KeepsFile device old new) where
  -- the shortening began with the same
  fronts_same : (rules : List ℕ) (s : Option Shortening) → front_if device new s ≡ front_if device old s
  fronts_same rules None = refl
  fronts_same rules (Some s) = ap (λ (f : List (List ℕ)). Some f) (front_kept device rules old new s keeps)

  -- and is on the way still
  way_same : (rules : List ℕ) → device.next new.device ≡ device.next old.device → (s : Option Shortening) → IsOnTheWayIf device old rules s → IsOnTheWayIf device new rules s
  way_same rules next None is = tt
  way_same rules next (Some s) is = way_kept device rules old new s keeps next is

  -- what was known is known
  pub knows_still : (known : Known) (s : Option Shortening) → device.next new.device ≡ device.next old.device → Knows device old known s → Knows device new known s
  knows_still known s next knows = (
    keeps.stands.settled,
    known_still (device.reads_true old.device) (device.reads_true new.device) (recovered (device.seen old.device)) (recovered (device.seen new.device)) known keeps.truth
        (ap recovered keeps.stands.seen) knows.1,
    way_same known.rules.items next s knows.2,
  )

  -- what was held is held
  pub holds_still : (fault : Option BatchFault) (s : Option Shortening) (known : Known) → ((c : List ℕ) → device.may_leave new.device c → device.reads_true new.device)
      → HoldsAll device (keeper_with device old fault s known) (keeper_with device new fault s known)
  holds_still fault s known only_true =
      by_same
      (goes_on_now device (keeper_with device old fault s known) (keeper_with device new fault s known)
      (stays_as device old new keeps.stands keeps.true_before keeps.truth only_true) (fronts_same [] s))

  -- as much is to be gone over
  pub as_far : (s : Option Shortening) → to_go_if s new.end + 8 * min (old.end + 1) (2 ^ 64 - 1) ≤ to_go_if s old.end + 8 * min (new.end + 1) (2 ^ 64 - 1)
  as_far s = rw keeps.stands.end (omega arith)

  -- and its file is as long
  pub as_long : Some (min (new.end + 1) (2 ^ 64 - 1)) ≡ Some (min (old.end + 1) (2 ^ 64 - 1))
  as_long = ap (λ (n : ℕ). Some (min (n + 1) (2 ^ 64 - 1))) keeps.stands.end

-- where it failed, a crash meanwhile left what was held
pub held_still : {D : Type 0} (device : Device D) (old new : BatchFile D) → IsOnDisk device.seen device.may_leave device.faults old
    → LeavesOnly device.moment device.left_since old.device new.device (λ file. file ≡ device.seen old.device)
    → LeavesOnly device.moment device.left_since old.device new.device (λ _. device.reads_true old.device) → (fault failed : Option BatchFault) (s : Option Shortening) (known : Known)
    → HeldAll device (keeper_with device old fault s known) (keeper_with device new failed s known)
held_still device old new settled leaves trues fault failed s known =
    by_leaving
    (weaker (both leaves trues)
    (λ c is. (is.1, inl (inl (ap recovered is.0)), subst (λ (file : List ℕ). IsReadable file) (sym is.0) (at_rest_readable settled.at_rest))))
