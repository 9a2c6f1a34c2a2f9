-- What a stream does.
use Rattle.std.specs.Prelude.{◌≡◌, ◌++◌, ℕ, List, [], take, Option, Result, Ok, Err}
use Rattle.std.specs.Io.KnownBytes.{Keeps, Appends, Consumes, IsAtEnd}

-- one read or write: the bytes that came, none at the stream's end, or those that it took
pub data Doing : Type 0 where
  Received : (bytes : List ℕ) → Doing
  ReadFailed : Doing
  Sent : (bytes : List ℕ) → Doing
  WriteFailed : Doing

-- what a read into a buffer did
abbrev pub receiving : {E : Type 0} → Result ℕ E → List ℕ → Doing
receiving (Ok n) buffer = Received (take n buffer)
receiving (Err e) buffer = ReadFailed

-- what a write of these bytes did
abbrev pub sending : {E : Type 0} → Result ℕ E → List ℕ → Doing
sending (Ok n) bytes = Sent (take n bytes)
sending (Err e) bytes = WriteFailed

-- what that means for the bytes that are left to read, and for those that were written, where they are known
abbrev pub does_by : {S : Type 0} → (S → Option (List ℕ)) → (S → Option (List ℕ)) → S → Doing → S → Type 0
does_by remaining contents old (Received bytes) new = Consumes (remaining old) (remaining new) bytes × (bytes ≡ [] → IsAtEnd (remaining new))
does_by remaining contents old ReadFailed new = Keeps (remaining old) (remaining new)
does_by remaining contents old (Sent bytes) new = Appends (contents old) (contents new) bytes
does_by remaining contents old WriteFailed new = Keeps (contents old) (contents new)

-- All that a stream did from one state on: the bytes that came from it, one read after another, and those that it took,
-- one write after another.
pub data Carries {S : Type 0} (does : S → Doing → S → Type 0) (first : S) : List ℕ → List ℕ → S → Type 0 where
  nothing : Carries does first [] [] first
  receives : {heard written : List ℕ} {s s' : S} (bytes : List ℕ) → Carries does first heard written s → does s (Received bytes) s' →
      Carries does first (heard ++ bytes) written s'
  sends : {heard written : List ℕ} {s s' : S} (bytes : List ℕ) → Carries does first heard written s → does s (Sent bytes) s' →
      Carries does first heard (written ++ bytes) s'
  fails_to_receive : {heard written : List ℕ} {s s' : S} → Carries does first heard written s → does s ReadFailed s' → Carries does first heard written s'
  fails_to_send : {heard written : List ℕ} {s s' : S} → Carries does first heard written s → does s WriteFailed s' → Carries does first heard written s'
