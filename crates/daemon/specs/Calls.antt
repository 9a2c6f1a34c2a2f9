-- What was asked of the system.
use Rattle.std.specs.Prelude.{ℕ, List, Option}
use Rattle.outside.specs.Calls.{Call}
use Rattle.outside.specs.declared.clocks.Times.{Times}

-- what the sockets did; what the clocks told, if they told something; the bytes that the random source gave, if it did; or what was
-- replied to who asked for a reload or for metrics, if memory was had for it
pub data Logged : Type 0 where
  Did : (call : Call) → Logged
  Told : (times : Option Times) → Logged
  Gave : (bytes : Option (List ℕ)) → Logged
  Replied : (reply : Option (List ℕ)) → Logged
