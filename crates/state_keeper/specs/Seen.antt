-- A keeper as it is seen, and what a crash may leave of its file.
use Rattle.std.specs.Prelude.{◌≡◌, ◌⊎◌, ◌+◌, ◌^◌, ◌≤◌, ◌++◌, ◌∷◌, ℕ, List, length, Option, None, Some, unwrap_or, nat_lt, if◌then◌else◌}
use Rattle.state_keeper.specs.Names.{recovered, Device}
use Rattle.change_codec.specs.Keeping.{Crashes, crashes}
use Rattle.batch_file.specs.declared.appending.BatchFault.{BatchFault}
use Rattle.batch_file.specs.declared.appending.BatchFile.{BatchFile}
use Rattle.state_file.specs.Renewing.{IsShortened}
use Rattle.state_file.specs.Standing.{StandsFor, horizon}
use Rattle.state_file.specs.Knowing.{LeftTells, IsLong}
use Rattle.state_file.specs.declared.known.Known.{Known}
use Rattle.batch_file.specs.Frames.{IsReadable}

-- A keeper as it is seen: its file, and why it keeps nothing more, if it does not; and what the file had when a shortening began
-- that is on the way, if one is, and how much is yet to be gone over until it ends; and what is known of its file: how many bytes of
-- frames were left when it was shortened last (right where what was read is true: `StateKeeper::shortened` tells so), and until which
-- moment it is kept.
pub record SeenKeeper (D : Type 0) : Type 0 where
  pub file : BatchFile D
  pub fault : Option BatchFault
  pub front : Option (List (List ℕ))
  pub to_go : ℕ
  pub known : Known

-- The batches are a draft of the whole: they tell what is left of a front of it, and then come those that stand behind the front.
pub record IsDraft (front whole draft : List (List ℕ)) : Type 0 where
  pub left : List (List ℕ)
  pub tail : List (List ℕ)
  pub short : IsShortened front left
  pub whole_is : whole ≡ front ++ tail
  pub draft_is : draft ≡ left ++ tail

-- so they are where a shortening of that front is on the way
abbrev pub AreDrafted : Option (List (List ℕ)) → List (List ℕ) → List (List ℕ) → Type 0
AreDrafted None whole draft = ⊥
AreDrafted (Some front) whole draft = IsDraft front whole draft

-- What a crash may leave of a keeper's file; or, where what stands there was read as it was, just that, or a file of a draft of it. So
-- whatever holds of each of them holds of what a shortening puts in the file's place.
abbrev pub MayBe : {D : Type 0} → Device D → SeenKeeper D → List ℕ → Type 0
MayBe device keeper c =
    device.may_leave keeper.file.device c
    ⊎ (device.reads_true keeper.file.device
    × ((c ≡ device.seen keeper.file.device) ⊎ (IsReadable c × AreDrafted keeper.front (recovered (device.seen keeper.file.device)) (recovered c))))

-- what crashes leave of a keeper of a file on the device
abbrev pub file_crashes : {D : Type 0} → Device D → Crashes (SeenKeeper D)
file_crashes device =
    crashes StandsFor LeftTells (MayBe device) (λ k. device.moment k.file.device) (λ k. device.left_since k.file.device)

-- the file is long, beside what was left of it
abbrev pub IsLongFile : {D : Type 0} → SeenKeeper D → Type 0
IsLongFile keeper = IsLong keeper.file.end keeper.known.shortened

-- The new keeper's file has what is left of what the old one's had when the shortening began, and then what was added since: where
-- the file was read as it was.
abbrev pub ShortensFile : {D : Type 0} → Device D → SeenKeeper D → SeenKeeper D → Type 0
ShortensFile device old new =
    device.reads_true new.file.device → AreDrafted old.front (recovered (device.seen old.file.device)) (recovered (device.seen new.file.device))

-- a shortening began with all that the file had, or goes on with what it had when it began
abbrev pub GoesOn : {D : Type 0} → Device D → SeenKeeper D → SeenKeeper D → Type 0
GoesOn device old new = new.front ≡ Some (unwrap_or old.front (recovered (device.seen old.file.device)))

-- a batch of changes as it is written: with a horizon in front of it, where that is later than those before
abbrev pub with_horizon : ℕ → ℕ → List ℕ → List ℕ
with_horizon before until batch = if nat_lt before until then horizon until ++ batch else batch

-- one of the batches has a frame of so many bytes, or it is none
abbrev pub IsFrameSize : List (List ℕ) → ℕ → Type 0
IsFrameSize batches size =
    (size ≡ 0) ⊎ ((before after : List (List ℕ)) × (batch : List ℕ) × (batches ≡ before ++ batch ∷ after) × (size ≡ 21 + length batch))

-- of what was to be gone over no more than a slice was, but for one frame
abbrev pub IsSlice : List (List ℕ) → ℕ → ℕ → Type 0
IsSlice batches before after = (size : ℕ) × IsFrameSize batches size × (before ≤ after + (2 ^ 15 + (size + 17)))

-- No more than a slice was gone over: the shortening goes on, or what was left to be gone over was no more. So it is where the file
-- was read as it was.
abbrev pub SlicesFile : {D : Type 0} → Device D → SeenKeeper D → SeenKeeper D → Type 0
SlicesFile device old new =
    device.reads_true new.file.device → (GoesOn device old new × IsSlice (recovered (device.seen old.file.device)) old.to_go new.to_go)
    ⊎ IsSlice (recovered (device.seen old.file.device)) old.to_go 0
