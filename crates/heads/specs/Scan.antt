-- What is read of all the bytes.
use Rattle.std.specs.Prelude.{◌≡◌, ◌≤◌, ◌<◌, ℕ, List, length, drop, true, false}
use Rattle.heads.specs.Limits.{message_size_limit}
use Rattle.heads.specs.Message.{Message, Messages, IsHopeless, MustTell, MayTell}
use Rattle.heads.specs.Waiting.{IsWaiting, Wants}
use Rattle.heads.specs.declared.waits.Waits.TheVariants.{ForBytes}
use Rattle.heads.specs.declared.scan.Scan.{Scan}

-- so many messages, which end there; the rest is faulty for good, or it waits for more bytes
pub record IsScan (bytes : List ℕ) (scan : Scan) : Type 0 where
  pub messages : List Message
  pub count : length messages ≡ scan.count
  pub end : scan.end ≤ length bytes
  pub reads : Messages bytes messages (drop scan.end bytes)
  pub hopeless : scan.faulty ≡ true → IsHopeless (drop scan.end bytes)
  pub may : scan.faulty ≡ true → MayTell (drop scan.end bytes)
  pub must : MustTell (drop scan.end bytes) → scan.faulty ≡ true
  pub nothing : scan.faulty ≡ true → scan.waits ≡ ForBytes 0
  pub short : scan.faulty ≡ false → length (drop scan.end bytes) < message_size_limit
  pub wants : scan.faulty ≡ false → Wants (drop scan.end bytes) scan.waits
  pub waiting : IsWaiting (drop scan.end bytes) scan.waits
