-- A file that is shortened by slices: how far it has come, and what is known on the way.
use Rattle.std.specs.Prelude.{◌≡◌, ◌+◌, ◌*◌, ◌-◌, ◌<◌, ◌≤◌, ◌++◌, ℕ, List, [], ◌∷◌, length, nat_lt, if◌then◌else◌, ⊤}
use Rattle.batch_file.specs.Crashes.{LeavesOnly}
use Rattle.batch_file.specs.Frames.{AreNext, IsOnDisk}
use Rattle.batch_file.specs.declared.appending.BatchFile.{BatchFile}
use Rattle.state_keeper.specs.Names.{recovered, Device}
use Rattle.state_keeper.specs.Seen.{IsDraft, IsFrameSize, IsSlice}
use Rattle.state_file.specs.Knowing.{IsKnown, end_of, shortened_size}
use Rattle.state_file.specs.declared.known.Known.{Known}
use Rattle.state_keeper.specs.PassingParts.{IsInStage}
use Rattle.state_keeper.specs.declared.course.Course.{Course}
use Rattle.state_keeper.specs.declared.course.Draft.{Draft}
use Rattle.state_keeper.specs.declared.course.Shortening.{Shortening}
use Rattle.state_keeper.specs.declared.course.Stage.{Stage}
use Rattle.state_keeper.specs.declared.course.Stage.TheVariants as stage

-- the batches at the front that take so many bytes
abbrev pub front_at : ℕ → List (List ℕ) → List (List ℕ)
front_at size [] = []
front_at size (batch ∷ later) = if nat_lt size (21 + length batch) then [] else batch ∷ front_at (size - (21 + length batch)) later

-- what the file had when its shortening began
abbrev pub front_of : {D : Type 0} → Device D → BatchFile D → Shortening → List (List ℕ)
front_of device file s = front_at (s.course.front_end - 16) (recovered (device.seen file.device))

-- How much is to be gone over where the file ends there: the front in five passes, and then what was added.
abbrev pub to_go_in : Course → Stage → ℕ → ℕ
to_go_in course stage.Counting end = 21 + (course.front_end - course.at) + 4 * (course.front_end - 16) + (end - course.front_end)
to_go_in course (stage.Noting unexpired) end = 20 + (course.front_end - course.at) + 3 * (course.front_end - 16) + (end - course.front_end)
to_go_in course (stage.Listing listing) end = 19 + (course.front_end - course.at) + 2 * (course.front_end - 16) + (end - course.front_end)
to_go_in course (stage.Deciding deciding) end = 2 + course.at + (course.front_end - 16) + (end - course.front_end)
to_go_in course (stage.Leaving leaving batch draft) end = 1 + (course.front_end - course.at) + (end - course.front_end)
to_go_in course (stage.Following draft) end = end - course.at

abbrev pub to_go_of : Shortening → ℕ → ℕ
to_go_of s end = to_go_in s.course s.stage end

-- what is known of the file's batches, where what was read is true
abbrev pub IsKnownFile : {D : Type 0} → Device D → BatchFile D → Known → Type 0
IsKnownFile device file known = device.reads_true file.device → IsKnown ⊤ (recovered (device.seen file.device)) known

-- The file stands as it was.
pub record StandsAsItWas {D : Type 0} (device : Device D) (old new : BatchFile D) : Type 0 where
  pub settled : IsOnDisk device.seen device.may_leave device.faults new
  pub end : new.end ≡ old.end
  pub seen : device.seen new.device ≡ device.seen old.device
  pub any_moment : LeavesOnly device.moment device.left_since old.device new.device (λ left. left ≡ device.seen old.device)

-- and what was read before was true where what was read then is
pub record KeepsFile {D : Type 0} (device : Device D) (old new : BatchFile D) : Type 0 where
  pub stands : StandsAsItWas device old new
  pub truth : device.reads_true new.device → device.reads_true old.device
  pub true_before : LeavesOnly device.moment device.left_since old.device new.device (λ _. device.reads_true old.device)

-- these batches were written to the file beside it
pub record AreWritten {D : Type 0} (device : Device D) (file : BatchFile D) (draft : Draft) (batches : List (List ℕ)) : Type 0 where
  pub next : AreNext device.next file draft.next batches
  pub size : draft.shortened ≡ shortened_size batches

-- so it is once that has begun
abbrev pub AreWrittenIn : {D : Type 0} → Device D → BatchFile D → Stage → List (List ℕ) → Type 0
AreWrittenIn device file (stage.Leaving leaving batch draft) written = AreWritten device file draft written
AreWrittenIn device file (stage.Following draft) written = AreWritten device file draft written
AreWrittenIn device file now written = Unit {0}

-- what was written so far is on the disk
abbrev pub IsDownIn : {D : Type 0} → Device D → BatchFile D → Stage → Type 0
IsDownIn device file (stage.Leaving leaving batch draft) = device.next_on_disk file.device ≡ device.next file.device
IsDownIn device file (stage.Following draft) = device.next_on_disk file.device ≡ device.next file.device
IsDownIn device file now = Unit {0}

-- how many bytes of frames stand beside it
abbrev pub written_in : Stage → ℕ
written_in (stage.Leaving leaving batch draft) = draft.next.end
written_in (stage.Following draft) = draft.next.end
written_in now = 0

-- a file, and how far its shortening has come
pub record Hand (D : Type 0) : Type 0 where
  pub file : BatchFile D
  pub course : Course
  pub stage : Stage

abbrev pub hand : {D : Type 0} → BatchFile D → Course → Stage → Hand D
hand file course now = record { file = file; course = course; stage = now }

-- The shortening of this front, with these rules, is on the way. Where what was read is true, it stands in its stage.
pub record IsWay {D : Type 0} (device : Device D) (rules : List ℕ) (front : List (List ℕ)) (h : Hand D) : Type 0 where
  pub written : List (List ℕ)
  pub drafted : AreWrittenIn device h.file h.stage written
  pub tail : List (List ℕ)
  pub whole_is : recovered (device.seen h.file.device) ≡ front ++ tail
  pub end_is : h.course.front_end ≡ end_of front
  pub within : h.course.front_end ≤ h.file.end
  pub at_within : h.course.at ≤ h.file.end
  pub true : device.reads_true h.file.device → IsInStage rules front tail h.course h.stage written

-- so it is of what the file had when it began
abbrev pub IsOnTheWay : {D : Type 0} → Device D → BatchFile D → List ℕ → Shortening → Type 0
IsOnTheWay device file rules s = IsWay device rules (front_of device file s) (hand file s.course s.stage)

-- Less is to be gone over, and it is on the way still.
pub record LeadsOn {D : Type 0} (device : Device D) (rules : List ℕ) (old new : Hand D) : Type 0 where
  pub nearer : to_go_in new.course new.stage old.file.end < to_go_in old.course old.stage old.file.end
  pub same_front : new.course.front_end ≡ old.course.front_end
  pub way : (front : List (List ℕ)) → IsWay device rules front old → IsWay device rules front new

-- how far one place is from another
abbrev pub gap : ℕ → ℕ → ℕ
gap from to = (from - to) + (to - from)

-- One frame at most was gone over of all that was to go, or the next pass begins.
pub record GoesOverOne (batches : List (List ℕ)) (before after moved : ℕ) : Type 0 where
  pub size : ℕ
  pub is_one : IsFrameSize batches size
  pub less : before ≤ after + (size + 17)
  pub moves : size ≤ moved

-- It leads on, and where what was read is true it goes over one frame at most.
pub record StepsOn {D : Type 0} (device : Device D) (rules : List ℕ) (old new : Hand D) : Type 0 where
  pub leads : LeadsOn device rules old new
  pub few : device.reads_true new.file.device → (front : List (List ℕ)) → IsWay device rules front old →
      GoesOverOne (recovered (device.seen old.file.device)) (to_go_in old.course old.stage old.file.end) (to_go_in new.course new.stage old.file.end)
      (gap old.course.at new.course.at)

-- no more than a slice was gone over of the file, where what was read is true
abbrev pub SlicesOn : {D : Type 0} → Device D → List ℕ → Hand D → Hand D → Type 0
SlicesOn device rules old new =
    device.reads_true new.file.device → (front : List (List ℕ)) → IsWay device rules front old →
    IsSlice (recovered (device.seen old.file.device)) (to_go_in old.course old.stage old.file.end) (to_go_in new.course new.stage old.file.end)

-- All is written: what is left of the front, and behind it what was added since, where what was read is true.
pub record IsReady {D : Type 0} (device : Device D) (file : BatchFile D) (s : Shortening) : Type 0 where
  pub draft : Draft
  pub batches : List (List ℕ)
  pub is_last : s.stage ≡ stage.Following draft
  pub written : AreWritten device file draft batches
  pub size : s.shortened ≡ shortened_size batches
  pub all : to_go_of s file.end ≡ 0
  pub draft_is : device.reads_true file.device → IsDraft (front_of device file s) (recovered (device.seen file.device)) batches
