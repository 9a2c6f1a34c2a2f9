use Rattle.std.proofs.Common.{◌≡◌, drop}
use Rattle.clients.specs.Gateway.{with_digits}
use Rattle.clients.proofs.gateway.of_digits.Given as goal

abbrev pub invariant-loop-digit : goal.invariant-loop-digit
invariant-loop-digit l = with_digits 0 l.digits ≡ with_digits l.number (drop l.digit-index l.digits)
