-- By which calls nobody who was handed on is accepted.
use Rattle.std.proofs.Common.{◌≡◌, ℕ, List, Option, None, Some}
use Rattle.outside.specs.Calls.{read_call, wait_call, write_call}
use Rattle.outside.specs.declared.sockets.Ready.{Ready}
use Rattle.outside.specs.declared.sockets.Received.{Received}
use Rattle.outside.specs.declared.sockets.Received.TheVariants as received
use Rattle.outside.specs.declared.sockets.Sent.{Sent}
use Rattle.outside.specs.declared.sockets.Sent.TheVariants as sent
use Rattle.ports.specs.Passing.{KeepsPassed, KeepsWaiting}
use Rattle.ports.specs.declared.seats.Ports.{Ports}

module _ (old new : Ports) (same : KeepsWaiting old new) where
  pub by_wait : (limit count : Option ℕ) (found : List Ready) → KeepsPassed (wait_call limit count found) old new
  by_wait limit (Some count) found = same
  by_wait limit None found = same

  pub by_read : (came : Received) (place : ℕ) (buffer : List ℕ) → KeepsPassed (read_call came place buffer) old new
  by_read (received.Bytes count) place buffer = same
  by_read received.End place buffer = same
  by_read received.Later place buffer = same
  by_read received.Failed place buffer = same

  pub by_write : (took : Sent) (place : ℕ) (bytes : List ℕ) → KeepsPassed (write_call took place bytes) old new
  by_write (sent.Bytes count) place bytes = same
  by_write sent.Later place bytes = same
  by_write sent.Failed place bytes = same
