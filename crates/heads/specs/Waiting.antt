-- What an unfinished rest waits for before it is read again.
use Rattle.std.specs.Prelude.{◌≡◌, ◌+◌, ◌<◌, ℕ, List, [], ◌++◌, length, Some, Bool, ◌&&◌, not, ◌==◌, nat_lt, IsTrue}
use Rattle.std.specs.List.{list_any}
use Rattle.httparse.specs.Ascii.{line_feed}
use Rattle.httparse.specs.Grammar.{RequestHead, print_request, ReadsRequest, HasNoRequest}
use Rattle.heads.specs.Limits.{head_size_limit, message_size_limit}
use Rattle.heads.specs.Fields.{content_length}
use Rattle.heads.specs.Message.{HasNone, MustTell, IsGood, head_fields}
use Rattle.heads.specs.declared.waits.Waits.{Waits}
use Rattle.heads.specs.declared.waits.Waits.TheVariants.{ForLine, ForBytes}

-- a line ends in the piece
abbrev pub ends_line : List ℕ → Bool
ends_line piece = list_any (λ byte. byte == line_feed) piece

-- whether so many bytes still wait once a piece has come behind them
abbrev pub still_waits : Waits → ℕ → List ℕ → Bool
still_waits ForLine count piece = nat_lt (count + length piece) head_size_limit && not (ends_line piece)
still_waits (ForBytes size) count piece = nat_lt (count + length piece) size

-- once a head has begun, and while it has not come whole, the end of a line is waited for
abbrev pub WaitsForLine : List ℕ → Waits → Type 0
WaitsForLine bytes waits = 0 < length bytes → HasNoRequest bytes → waits ≡ ForLine

-- once a good head has come, the length of its message is waited for
abbrev pub WaitsForMessage : List ℕ → Waits → Type 0
WaitsForMessage bytes waits =
    (head : RequestHead) (after : List ℕ) (size : ℕ) → ReadsRequest bytes head after → IsGood head
    → content_length (head_fields head) ≡ Some size → waits ≡ ForBytes (length (print_request head) + size)

-- no message yet, no faulty head that has to be told, and fewer bytes than a message may have
pub record IsUnfinished (bytes : List ℕ) (waits : Waits) : Type 0 where
  pub none : HasNone bytes
  pub untold : ¬ (MustTell bytes)
  pub short : length bytes < message_size_limit
  pub line : WaitsForLine bytes waits
  pub message : WaitsForMessage bytes waits

-- whatever follows the rest, it is unfinished while it still waits
abbrev pub IsWaiting : List ℕ → Waits → Type 0
IsWaiting rest waits = (more : List ℕ) → IsTrue (still_waits waits (length rest) more) → IsUnfinished (rest ++ more) waits

-- the rest waits, and is unfinished meanwhile
pub record Wants (rest : List ℕ) (waits : Waits) : Type 0 where
  pub now : IsTrue (still_waits waits (length rest) [])
  pub waiting : IsWaiting rest waits
