-- What the sockets did.
use Rattle.std.specs.Prelude.{ℕ, List, [], ◌∷◌, Option, Some, None}
use Rattle.outside.specs.declared.sockets.Ready.{Ready}
use Rattle.outside.specs.declared.sockets.Sockets.{Ghosts as Sockets}
use Rattle.outside.specs.Calls.{Call, Waited, WaitFailed, Looked, Kept, Confirmed, Tended, Shortened}

-- These calls of the sockets were made, one after another, the last one first. To look again is to wait for 0 milliseconds. What the
-- keeper is called for is no call of theirs.
pub data HaveDone {N : Type 0} (sockets : Sockets N) (first : N) : List Call → N → Type 0 where
  nothing : HaveDone sockets first [] first
  did : {calls : List Call} {n : N} (call : Call) (n' : N) → HaveDone sockets first calls n → sockets.does n call n' → HaveDone sockets first (call ∷ calls) n'
  looked : {calls : List Call} {n : N} (nth room : ℕ) (found : List Ready) (n' : N) → HaveDone sockets first calls n → sockets.does n (Waited (Some 0) room found) n' →
      HaveDone sockets first (Looked nth room (Some found) ∷ calls) n'
  failed_to_look : {calls : List Call} {n : N} (nth room : ℕ) (n' : N) → HaveDone sockets first calls n → sockets.does n (WaitFailed (Some 0) room) n' →
      HaveDone sockets first (Looked nth room None ∷ calls) n'
  kept : {calls : List Call} {n : N} → HaveDone sockets first calls n → HaveDone sockets first (Kept ∷ calls) n
  confirmed : {calls : List Call} {n : N} → HaveDone sockets first calls n → HaveDone sockets first (Confirmed ∷ calls) n
  tended : {calls : List Call} {n : N} (due : Option ℕ) → HaveDone sockets first calls n → HaveDone sockets first (Tended due ∷ calls) n
  shortened : {calls : List Call} {n : N} → HaveDone sockets first calls n → HaveDone sockets first (Shortened ∷ calls) n
