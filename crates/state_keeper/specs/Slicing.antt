-- How a keeper is seen that may have a shortening on the way, and what a slice of it does.
use Rattle.std.specs.Prelude.{◌≡◌, ◌≢◌, ◌⊎◌, ◌+◌, ◌-◌, ◌*◌, ◌/◌, ◌^◌, ◌<◌, ℕ, Bool, nat_lt, IsTrue, List, Option, None, Some, IsSome}
use Rattle.change_codec.specs.Keeping.{HeldMeanwhile, HoldsStill, KeepsBasis, TellsBasis}
use Rattle.change_codec.specs.declared.keeper.Length.{Length}
use Rattle.change_codec.specs.declared.keeper.Length.TheVariants.{Short, Long}
use Rattle.change_codec.specs.declared.keeper.ShortenFault.{ShortenFault}
use Rattle.change_codec.specs.declared.keeper.ShortenFault.TheVariants.{Failed}
use Rattle.batch_file.specs.Crashes.{LeavesOnly}
use Rattle.batch_file.specs.Frames.{IsOldOrNew, IsOnDisk, IsReadable}
use Rattle.state_keeper.specs.Names.{Device, recovered}
use Rattle.state_keeper.specs.Seen.{GoesOn, IsLongFile, IsSlice, SeenKeeper, ShortensFile, SlicesFile, file_crashes}
use Rattle.batch_file.specs.declared.appending.BatchFile.{BatchFile}
use Rattle.state_keeper.specs.Passing.{IsDownIn, IsOnTheWay, IsReady, KeepsFile, front_of, to_go_of, written_in}
use Rattle.state_keeper.specs.declared.course.Shortening.{Shortening}
use Rattle.state_keeper.specs.declared.course.Stage.{Stage}
use Rattle.state_keeper.specs.declared.renewing.Came.{Came}
use Rattle.state_keeper.specs.declared.renewing.Came.TheVariants.{On, Placed, Refused, Broken}

-- what the file had when the shortening began, if one is on the way
abbrev pub front_if : {D : Type 0} → Device D → BatchFile D → Option Shortening → Option (List (List ℕ))
front_if device file None = None
front_if device file (Some s) = Some (front_of device file s)

-- how much is to be gone over, where the file ends there: one that is yet to begin goes five times over all frames
abbrev pub to_go_if : Option Shortening → ℕ → ℕ
to_go_if None end = 5 * (end - 16) + 22
to_go_if (Some s) end = to_go_of s end

-- it is on the way, if there is one
abbrev pub IsOnTheWayIf : {D : Type 0} → Device D → BatchFile D → List ℕ → Option Shortening → Type 0
IsOnTheWayIf device file rules None = Unit {0}
IsOnTheWayIf device file rules (Some s) = IsOnTheWay device file rules s

-- The keeper holds what it held. Where its file was long, it is nearer to its end by a slice at most, or what is left took the
-- file's place.
pub record Slices {D : Type 0} (device : Device D) (old new : SeenKeeper D) (length : Length) : Type 0 where
  pub kept : HoldsStill (file_crashes device) old new
  pub told : KeepsBasis (file_crashes device) 0 old new
  pub works : ¬ (IsSome new.fault)
  pub short : length ≡ Short → ¬ (IsLongFile new)
  pub long : length ≡ Long → IsLongFile new
  pub left : (new ≡ old) ⊎ IsLongFile old
  pub nearer : IsLongFile old → ((new.to_go < old.to_go) × (new.file.end ≡ old.file.end)) ⊎ ShortensFile device old new
  pub slice : IsLongFile old → SlicesFile device old new
  pub goes_on : IsLongFile old → GoesOn device old new ⊎ ShortensFile device old new

-- it is refused: the file was long, and the keeper holds what it held; and there is no file beside it
pub record StaysLong {D : Type 0} (device : Device D) (old new : SeenKeeper D) : Type 0 where
  pub kept : HoldsStill (file_crashes device) old new
  pub told : KeepsBasis (file_crashes device) 0 old new
  pub long : IsLongFile old
  pub end : new.file.end ≡ old.file.end
  pub none : device.next new.file.device ≡ None

-- it failed, and the keeper keeps nothing more: a crash meanwhile left what stands for what it held
pub record Fails {D : Type 0} (device : Device D) (old new : SeenKeeper D) : Type 0 where
  pub held : HeldMeanwhile (file_crashes device) old new
  pub told : TellsBasis (file_crashes device) 0 old new
  pub fails : IsSome new.fault

abbrev pub SlicesNot : {D : Type 0} → Device D → SeenKeeper D → SeenKeeper D → ShortenFault → Type 0
SlicesNot device old new Failed = Fails device old new
SlicesNot device old new _ = StaysLong device old new

-- PARTS: only the contracts of this crate's own parts and their proofs cite what follows

-- another file of these batches was put in the place of the old one
pub record IsPlaced {D : Type 0} (device : Device D) (old new : BatchFile D) (batches : List (List ℕ)) : Type 0 where
  pub settled : IsOnDisk device.seen device.may_leave device.faults new
  pub placed : recovered (device.seen new.device) ≡ batches

-- or perhaps it was
pub record MayPlace {D : Type 0} (device : Device D) (old new : BatchFile D) (batches : List (List ℕ)) : Type 0 where
  pub any_moment : LeavesOnly device.moment device.left_since old.device new.device (IsOldOrNew (recovered (device.seen old.device)) batches)
  pub readable : LeavesOnly device.moment device.left_since old.device new.device IsReadable
  pub truth : device.reads_true new.device → device.reads_true old.device
  pub true_before : LeavesOnly device.moment device.left_since old.device new.device (λ _. device.reads_true old.device)

-- the file stands as it was, and none beside it
pub record GivesUp {D : Type 0} (device : Device D) (old new : BatchFile D) : Type 0 where
  pub keeps : KeepsFile device old new
  pub none : device.next new.device ≡ None

-- what was written is on the disk, or it is given up
abbrev pub Waits : {D : Type 0} → Device D → BatchFile D → Stage → BatchFile D → Came → Type 0
Waits device old now new On = KeepsFile device old new × (device.next new.device ≡ device.next old.device) × IsDownIn device new now
Waits device old now new (Refused fault) = (fault ≢ Failed) × GivesUp device old new
Waits device old now new came = ⊥

-- what comes of putting the second file in the place of the first
abbrev pub Puts : {D : Type 0} → Device D → BatchFile D → Shortening → BatchFile D → Came → Type 0
Puts device old s new On = ⊥
Puts device old s new (Placed size) =
    (size ≡ s.shortened) × ((ready : IsReady device old s) → IsPlaced device old new ready.batches × MayPlace device old new ready.batches)
Puts device old s new (Refused fault) = (fault ≢ Failed) × GivesUp device old new
Puts device old s new (Broken fault) = (ready : IsReady device old s) → MayPlace device old new ready.batches

-- all was written, and then it was put there, or perhaps
pub record Ends {D : Type 0} (device : Device D) (old : BatchFile D) (was : Shortening) (new : BatchFile D) (came : Came) : Type 0 where
  pub mid : BatchFile D
  pub now : Shortening
  pub keeps : KeepsFile device old mid
  pub ready : IsReady device mid now
  pub same : front_of device mid now ≡ front_of device old was
  pub slice : device.reads_true mid.device → IsSlice (recovered (device.seen old.device)) (to_go_of was old.end) (to_go_of now old.end)
  pub puts : Puts device mid now new came

-- whether a portion of 1 MB more was begun than when so many bytes were written
abbrev pub is_portion : ℕ → ℕ → Bool
is_portion before written = nat_lt (before / 2 ^ 20) (written / 2 ^ 20)

-- what comes of a slice
pub record GoesFurther {D : Type 0} (device : Device D) (old : BatchFile D) (rules : List ℕ) (was : Shortening) (new : BatchFile D) (now : Shortening) : Type 0 where
  pub keeps : KeepsFile device old new
  pub way : IsOnTheWay device new rules now
  pub same : front_of device new now ≡ front_of device old was
  pub nearer : to_go_of now old.end < to_go_of was old.end
  pub slice : device.reads_true new.device → IsSlice (recovered (device.seen old.device)) (to_go_of was old.end) (to_go_of now old.end)
  pub down : IsTrue (is_portion (written_in was.stage) (written_in now.stage)) → IsDownIn device new now.stage

abbrev pub GoesOver : {D : Type 0} → Device D → BatchFile D → List ℕ → Shortening → BatchFile D → Shortening → Came → Type 0
GoesOver device old rules was new now On = GoesFurther device old rules was new now
GoesOver device old rules was new now (Refused fault) = ((fault ≢ Failed) × GivesUp device old new) ⊎ Ends device old was new (Refused fault)
GoesOver device old rules was new now came = Ends device old was new came
