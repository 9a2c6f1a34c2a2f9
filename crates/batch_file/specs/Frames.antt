-- What a file of frames stands for, and which files are refused.
use Rattle.std.specs.Prelude.{◌≡◌, ◌≢◌, ◌⊎◌, ◌+◌, ◌^◌, ◌<◌, ◌≤◌, ℕ, zero, suc, List, [], ◌∷◌, ◌++◌, length, take, drop, map, replicate, codes, Option, Some, Bool, ltb, ◌&&◌, if◌then◌else◌, bytes_eq}
use Rattle.std.specs.Global.{Vec}
use Rattle.std.specs.Int.{w32, to_be_bytes, from_be_bytes}
use Rattle.sha2.specs.Sha256.{sha256}
use Rattle.batch_file.specs.Crashes.{LeavesOnly, Only}
use Rattle.batch_file.specs.declared.appending.BatchFile.{BatchFile}
use Rattle.batch_file.specs.declared.appending.BatchFault.{BatchFault}
use Rattle.batch_file.specs.declared.appending.BatchFault.TheVariants as appending
use Rattle.batch_file.specs.declared.appending.RenewFault.{RenewFault}
use Rattle.batch_file.specs.declared.appending.RenewFault.TheVariants as renewing
use Rattle.batch_file.specs.declared.next.Next.{Next}
use Rattle.batch_file.specs.declared.framing.ReadFault.{ReadFault}
use Rattle.batch_file.specs.declared.framing.ReadFault.TheVariants.{NotState, Version, Damaged}

-- WHICH BYTES ARE A FILE OF BATCHES

-- the 16 bytes that a file of this version begins with: the version is one digit
abbrev pub header_of : ℕ → List ℕ
header_of version = codes "oauthd state v" ++ (48 + version) ∷ 10 ∷ []

abbrev pub header : List ℕ
header = header_of 3

-- a batch's length in four bytes, the high one first, and its bytes
abbrev pub body : List ℕ → List ℕ
body batch = to_be_bytes w32 (length batch) ++ batch

-- the first 16 bytes of what SHA-256 makes of these
unfoldable pub seal : List ℕ → List ℕ
seal bytes = take 16 (sha256 bytes)

-- the digest of a batch vouches for it and for all before it: `before` is the digest of the one before it, or the header
abbrev pub digest : List ℕ → List ℕ → List ℕ
digest before batch = seal (before ++ body batch)

-- what stands behind the first byte of a frame: the batch's length, its digest, and the batch
abbrev pub sealed : List ℕ → List ℕ → List ℕ
sealed before batch = to_be_bytes w32 (length batch) ++ (digest before batch ++ batch)

-- The bytes begin with the frame of this batch: a byte 255, and the batch with its digest.
pub record IsFrame (before batch rest bytes : List ℕ) : Type 0 where
  pub short : length batch < 2 ^ 32
  pub is : bytes ≡ 255 ∷ sealed before batch ++ rest

-- the bytes are the frames of these batches, the last of which has this digest
abbrev pub AreFrames : List ℕ → List (List ℕ) → List ℕ → List ℕ → Type 0
AreFrames before [] last bytes = (last ≡ before) × (bytes ≡ [])
AreFrames before (batch ∷ later) last bytes =
    (rest : List ℕ) × IsFrame before batch rest bytes × AreFrames (digest before batch) later last rest

-- the digest of the last of these batches, where this one stands before them
abbrev pub last_of : List ℕ → List (List ℕ) → List ℕ
last_of before [] = before
last_of before (batch ∷ later) = last_of (digest before batch) later

-- behind the frame with this digest there is no other
abbrev pub IsNoFrame : List ℕ → List ℕ → Type 0
IsNoFrame last rest = (batch more : List ℕ) → IsFrame last batch more rest → ⊥

abbrev pub zeros : ℕ → List ℕ
zeros n = replicate n 0

-- what the four bytes behind the first byte of a frame say
abbrev pub size_at : List ℕ → ℕ
size_at bytes = from_be_bytes w32 (take 4 bytes)

-- the batch of the frame at the front
abbrev pub first_at : List ℕ → List ℕ
first_at bytes = take (size_at (drop 1 bytes)) (drop 21 bytes)

-- a batch that is added has fewer bytes
abbrev pub limit : ℕ
limit = 2 ^ 23

-- behind the frames there are no more zeros
abbrev pub most_room : ℕ
most_room = limit + 2 ^ 21

-- Where the next frame would be, a 0 stands, or 16 zeros stand at the end of the file: the file was not cut off.
abbrev pub IsClosed : List ℕ → Type 0
IsClosed rest = ((more : List ℕ) × (rest ≡ 0 ∷ more)) ⊎ ((more : List ℕ) × (rest ≡ more ++ zeros 16))

-- Behind these digests a frame is looked for: the one that stands where that of the next frame would, if it is not zeros; or, behind
-- as many bytes as the length there says, the one that these would have.
abbrev pub IsBehind : List ℕ → List ℕ → List ℕ → ℕ → Type 0
IsBehind last rest before at =
    ((before ≡ take 16 (drop 5 rest)) × (before ≢ zeros 16))
    ⊎ ((before ≡ digest last (first_at rest)) × (at ≡ 21 + size_at (drop 1 rest)))

-- There is one, so what stands before it was a frame once.
pub record HidesFrame (last rest : List ℕ) : Type 0 where
  pub before : List ℕ
  pub at : ℕ
  pub batch : List ℕ
  pub more : List ℕ
  pub is : IsFrame before batch more (drop at rest)
  pub behind : IsBehind last rest before at

-- Behind the last frame, which has this digest, stands no more than zeros and what an append that was not finished may have left.
pub record IsTorn (last rest : List ℕ) : Type 0 where
  pub closed : IsClosed rest
  pub brief : length rest ≤ most_room
  pub no_frame : IsNoFrame last rest
  pub plain : HidesFrame last rest → ⊥

-- The file is the header and the frames of these batches, behind which an append was perhaps not finished.
pub record Spells (batches : List (List ℕ)) (last file : List ℕ) : Type 0 where
  pub frames : List ℕ
  pub rest : List ℕ
  pub is : file ≡ header ++ (frames ++ rest)
  pub are : AreFrames header batches last frames
  pub ends : IsTorn last rest

-- a file that is read as these batches
abbrev pub IsFileOf : List (List ℕ) → List ℕ → Type 0
IsFileOf batches file = (last : List ℕ) × Spells batches last file

-- WHICH BATCHES THESE ARE

-- whether the bytes begin with a frame behind this digest
unfoldable pub is_frame : List ℕ → List ℕ → Bool
is_frame before bytes =
    ltb (length (first_at bytes)) (2 ^ 32) && bytes_eq (take (21 + length (first_at bytes)) bytes) (255 ∷ sealed before (first_at bytes))

-- the batches of at most n frames from here on, as long as each has its digest
unfoldable pub batches_in : ℕ → List ℕ → List ℕ → List (List ℕ)
batches_in zero before bytes = []
batches_in (suc n) before bytes =
    if is_frame before bytes then first_at bytes ∷ batches_in n (digest before (first_at bytes)) (drop (21 + length (first_at bytes)) bytes) else []

-- the batches that a file stands for, whatever a crash made of it
unfoldable pub recovered : List ℕ → List (List ℕ)
recovered file = batches_in (length file) header (drop 16 file)

-- the file is not refused: what it stands for is spelled, each batch with its digest
abbrev pub IsReadable : List ℕ → Type 0
IsReadable file = IsFileOf (recovered file) file

-- how many bytes the frames of these batches have
abbrev pub frames_size : List (List ℕ) → ℕ
frames_size [] = 0
frames_size (batch ∷ later) = 21 + length batch + frames_size later

-- with the header before them and one zero behind
abbrev pub file_size : List (List ℕ) → ℕ
file_size batches = 17 + frames_size batches

abbrev pub before_more : ℕ → List ℕ → List ℕ
before_more zero [] = []
before_more byte more = byte ∷ more

-- the bytes without the zeros at their end
unfoldable pub without_zeros : List ℕ → List ℕ
without_zeros [] = []
without_zeros (byte ∷ more) = before_more byte (without_zeros more)

-- what an append that was not finished left behind the frames
abbrev pub torn_of : List ℕ → List ℕ
torn_of file = without_zeros (drop (16 + frames_size (recovered file)) file)

-- WHY A FILE IS REFUSED

-- one of the first kind, which has no header: a latch of 1, a length in four bytes, and as many bytes
abbrev pub IsFirstKind : List ℕ → Type 0
IsFirstKind file = (rest : List ℕ) × (file ≡ 1 ∷ rest) × (4 + size_at rest ≤ length rest)

-- the file is of this version, whatever follows
abbrev pub IsVersion : ℕ → List ℕ → Type 0
IsVersion version file = ((version < 10) × (take 16 file ≡ header_of version)) ⊎ ((version ≡ 1) × IsFirstKind file)

-- The frames of these batches are right, and are all that are: what stands behind them is no frame.
pub record IsRightFront (batches : List (List ℕ)) (file : List ℕ) : Type 0 where
  pub last : List ℕ
  pub frames : List ℕ
  pub rest : List ℕ
  pub is : file ≡ header ++ (frames ++ rest)
  pub are : AreFrames header batches last frames
  pub no_frame : IsNoFrame last rest

-- So many frames are right, and what stands behind them is no frame and no end.
pub record IsDamaged (number : ℕ) (file : List ℕ) : Type 0 where
  pub batches : List (List ℕ)
  pub front : IsRightFront batches file
  pub count : length batches ≡ number
  pub no_end : IsTorn front.last front.rest → ⊥

-- the file does not begin as a state file does, or as one of another version
abbrev pub RefusesHeader : List ℕ → ReadFault → Type 0
RefusesHeader file NotState = (version : ℕ) → IsVersion version file → ⊥
RefusesHeader file (Version version) = IsVersion version file × (version ≢ 3)
RefusesHeader file fault = ⊥

-- or is damaged
abbrev pub RefusesFile : List ℕ → ReadFault → Type 0
RefusesFile file (Damaged number) = IsDamaged number file
RefusesFile file fault = RefusesHeader file fault

-- FILES THAT ARE WRITTEN

-- the file is whole frames up to the end, the last of them with this digest, and so many zeros
pub record IsAtRest (end room : ℕ) (last file : List ℕ) : Type 0 where
  pub frames : List ℕ
  pub is : file ≡ header ++ (frames ++ zeros room)
  pub are : AreFrames header (recovered file) last frames
  pub ends : end ≡ 16 + length frames
  pub some : 0 < room
  pub few : room ≤ most_room

-- wherever they end, and with one zero
abbrev pub IsWhole : List ℕ → List ℕ → Type 0
IsWhole last file = (end : ℕ) × IsAtRest end 1 last file

-- and all of it is on the disk, which has not failed
pub record IsOnDisk {D : Type 0} (seen : D → List ℕ) (may_leave : D → List ℕ → Type 0) (faults : D → ℕ) (file : BatchFile D) : Type 0 where
  pub at_rest : IsAtRest file.end file.room file.last (seen file.device)
  pub durable : Only (seen file.device) (may_leave file.device)
  pub faultless : faults file.device ≡ 0

-- it is as it was, and a crash at any moment since leaves that
pub record IsUndisturbed {D : Type 0} (seen : D → List ℕ) (moment : D → ℕ) (left_since : D → ℕ → List ℕ → Type 0) (old new : BatchFile D) : Type 0 where
  pub end : new.end ≡ old.end
  pub room : new.room ≡ old.room
  pub last : new.last ≡ old.last
  pub bytes : seen new.device ≡ seen old.device
  pub any_moment : LeavesOnly moment left_since old.device new.device (λ file. file ≡ seen old.device)

-- what was written to the next file is the header and the frames of these batches, behind which the next frame goes
pub record AreNext {D : Type 0} (next_of : D → Option (List ℕ)) (file : BatchFile D) (next : Next) (batches : List (List ℕ)) : Type 0 where
  pub frames : List ℕ
  pub is : next_of file.device ≡ Some (header ++ frames)
  pub are : AreFrames header batches next.last frames
  pub end : next.end ≡ 16 + frames_size batches

-- the file stands for the batches, with one more or without it
abbrev pub IsBeforeOrAfter : List (List ℕ) → List ℕ → List ℕ → Type 0
IsBeforeOrAfter batches batch file = (recovered file ≡ batches) ⊎ (recovered file ≡ batches ++ batch ∷ [])

-- the file stands for the old batches, or for the new ones in the place of them all
abbrev pub IsOldOrNew : List (List ℕ) → List (List ℕ) → List ℕ → Type 0
IsOldOrNew old new file = (recovered file ≡ old) ⊎ (recovered file ≡ new)

-- what might have been left before, or a file that is read as these batches
abbrev pub IsAsBefore : (List ℕ → Type 0) → List (List ℕ) → List ℕ → Type 0
IsAsBefore before batches file = before file ⊎ IsFileOf batches file

-- the disk failed
abbrev pub IsBatchFailure : BatchFault → Type 0
IsBatchFailure (appending.Failed reason) = Unit {0}
IsBatchFailure fault = ⊥

abbrev pub IsRenewFailure : RenewFault → Type 0
IsRenewFailure (renewing.Failed reason) = Unit {0}
IsRenewFailure fault = ⊥

-- no other file was put in the place of the old one
abbrev pub IsUnrenewed : RenewFault → Type 0
IsUnrenewed (renewing.Failed reason) = ⊥
IsUnrenewed fault = Unit {0}

-- the batches, without where they lie in memory
abbrev pub lists : List (Vec ℕ) → List (List ℕ)
lists batches = map (λ v. v.items) batches
