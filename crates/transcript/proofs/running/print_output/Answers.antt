use Rattle.std.proofs.Common.{append_assoc, refl}
use Rattle.transcript.proofs.running.print_output.Goals as goal

pub returns : goal.returns
returns c =
    rw (c.in_ok-extend_from_slice-3.ensures.items, c.in_ok-extend_from_slice-2.ensures.items, c.in_ok-extend_from_slice.ensures.items, c.as_bytes.ensures.value, c.in_ok-head.ensures.ok, c.get.ensures) (simp append_assoc refl)
