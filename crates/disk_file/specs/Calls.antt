-- The calls that were made on a file, and what a crash between them may leave.
use Rattle.std.specs.Prelude.{◌≡◌, ◌+◌, ◌≤◌, ◌⊎◌, ℕ, List, [], ◌∷◌, ◌++◌, length, take, drop, Bool, true, false, if◌then◌else◌, Option, Some, None, option_map, unwrap_or, IfSome}
use Rattle.batch_file.specs.Crashes.{Swapped}
use Rattle.batch_file.specs.Frames.{zeros}
use Rattle.batch_file.specs.Tears.{Torn}

pub data Call : Type 0 where
  Opened : (bytes : List ℕ) → Call
  Wrote : (at : ℕ) → (bytes : List ℕ) → Call
  Grew : (at size : ℕ) → Call
  Refused : (at size : ℕ) → Call
  Synced : Call
  Replaced : (bytes : List ℕ) → Call
  Read : (at : ℕ) → (bytes : List ℕ) → Call
  Began : Call
  Added : (bytes : List ℕ) → Call
  NextSynced : Call
  Placed : Call
  Dropped : Call

-- a call, and whether it succeeded
pub record Logged : Type 0 where
  pub call : Call
  pub is_ok : Bool

-- a file was opened that had these bytes, and nothing else was asked of it
abbrev pub only_opened : List ℕ → List Logged
only_opened bytes = record { call = Opened bytes; is_ok = true } ∷ []

-- what was written to the next file after a call, where it was begun and no call on it was refused
abbrev pub next_after : Bool → Call → Option (List ℕ) → Option (List ℕ)
next_after true Began was = Some []
next_after true (Added bytes) was = option_map (λ written. written ++ bytes) was
next_after true NextSynced was = was
next_after _ (Opened bytes) was = was
next_after _ (Wrote at bytes) was = was
next_after _ (Grew at size) was = was
next_after _ (Refused at size) was = was
next_after _ Synced was = was
next_after _ (Replaced bytes) was = was
next_after _ (Read at bytes) was = was
next_after _ _ was = None

abbrev pub next_content : List Logged → Option (List ℕ)
next_content [] = None
next_content (e ∷ before) = next_after e.is_ok e.call (next_content before)

-- what is on the disk of the next file, where the last of all calls was its sync
abbrev pub next_synced : Bool → Call → Option (List ℕ) → Option (List ℕ)
next_synced true NextSynced written = written
next_synced _ _ written = None

abbrev pub next_on_disk : List Logged → Option (List ℕ)
next_on_disk [] = None
next_on_disk (e ∷ before) = next_synced e.is_ok e.call (next_content before)

-- what a read would return after a call that succeeded
abbrev pub after_call : Call → List Logged → List ℕ → List ℕ
after_call (Opened bytes) before old = bytes
after_call (Wrote at bytes) before old = take at old ++ bytes ++ drop (at + length bytes) old
after_call (Grew at size) before old = old ++ zeros size
after_call (Replaced bytes) before old = bytes
after_call Placed before old = unwrap_or (next_on_disk before) old
after_call _ before old = old

-- what a read would return after these calls, the last of them first
abbrev pub content : List Logged → List ℕ
content [] = []
content (e ∷ before) = if e.is_ok then after_call e.call before (content before) else content before

-- a read told what was there
abbrev pub TellsTrue : Bool → Call → List Logged → Type 0
TellsTrue true (Read at bytes) before = bytes ≡ take (length bytes) (drop at (content before))
TellsTrue _ _ before = Unit {0}

-- as far as there were any, all reads did
abbrev pub ReadsTrue : List Logged → Type 0
ReadsTrue [] = Unit {0}
ReadsTrue (e ∷ before) = TellsTrue e.is_ok e.call before × ReadsTrue before

-- whether it is one of the file itself, not of the next one before that is put in its place
abbrev pub is_of_file : Call → Bool
is_of_file Began = false
is_of_file (Added bytes) = false
is_of_file NextSynced = false
is_of_file Dropped = false
is_of_file _ = true

-- how many of these failed
abbrev pub failures : List Logged → ℕ
failures [] = 0
failures (e ∷ before) = (if e.is_ok then 0 else if is_of_file e.call then 1 else 0) + failures before

-- What a call that a crash cuts short may make of a file: a next file that was not on the disk may be anything.
abbrev pub CallStep : Call → List Logged → List ℕ → List ℕ → Type 0
CallStep (Opened bytes) before old new = new ≡ bytes
CallStep (Wrote at bytes) before old new = Torn at bytes old new
CallStep (Grew at size) before old new = Torn at (zeros size) old new
CallStep (Refused at size) before old new = Torn at (zeros size) old new
CallStep (Replaced bytes) before old new = Swapped bytes old new
CallStep Placed before old new = IfSome (next_on_disk before) (λ next. Swapped next old new)
CallStep _ before old new = new ≡ old

-- After a replacement that succeeded, nothing but the new file. After a sync that succeeded, nothing but what a read would
-- return, unless a call failed before it: a system may forget what it could not write, and let the next sync succeed. After
-- a read that told what was not there, nothing is known.
abbrev pub IsKeptBy : Bool → Call → List Logged → List ℕ → Type 0
IsKeptBy true Synced before c = failures before ≡ 0 → c ≡ content before
IsKeptBy true (Replaced bytes) before c = c ≡ bytes
IsKeptBy true Placed before c = IfSome (next_on_disk before) (λ next. c ≡ next)
IsKeptBy true (Read at bytes) before c = bytes ≡ take (length bytes) (drop at (content before))
IsKeptBy _ _ before c = Unit {0}

-- A file that was opened may be read from the system's memory: on the disk is what may have stood there before, of which what was
-- read says nothing.
abbrev pub StoodBefore : (List ℕ → Type 0) → Call → List ℕ → Type 0
StoodBefore stood (Opened bytes) c = stood c
StoodBefore stood _ c = ⊥

-- what a crash after these calls may leave, where this may have stood on the disk before
abbrev pub MayLeave : (List ℕ → Type 0) → List Logged → List ℕ → Type 0
MayLeave stood [] c = ⊥
MayLeave stood (e ∷ []) c = StoodBefore stood e.call c
MayLeave stood (e ∷ f ∷ before) c =
    ((d : List ℕ) × MayLeave stood (f ∷ before) d × CallStep e.call (f ∷ before) d c) × IsKeptBy e.is_ok e.call (f ∷ before) c

-- what a crash since that many calls had been made might have left
abbrev pub LeftSince : (List ℕ → Type 0) → List Logged → ℕ → List ℕ → Type 0
LeftSince stood [] t c = ⊥
LeftSince stood (e ∷ before) t c = MayLeave stood (e ∷ before) c ⊎ ((t ≤ length before) × LeftSince stood before t c)
