use Rattle.std.proofs.Common.{◌*◌, ◌%◌, ◌^◌, sym, ap, ◌∙◌, arith}
use Rattle.std.proofs.lemmas.Nat.{one_shl}
use Rattle.known_bits.proofs.Agreeing.{member_of_single}
use Rattle.known_bits.proofs.Refining.{trailing_of_power}
use Rattle.known_bits.proofs.bits.KnownBits.exponent.Goals as goal
use Rattle.known_bits.proofs.bits.KnownBits.exponent.Goals.{else-self-eq0-via-then-self-eq0+then-k-lt64+else-self-k, else-self-eq0-via-then-self-eq0+else-k-lt64, else-self-eq0-via-else-self-eq0}

pub returns-then-self-k-clause-some : goal.returns-then-self-k-clause-some
returns-then-self-k-clause-some c = (c.if-k-lt64.true, λ x h. member_of_single c.args.self x c.if-self-eq0.true h ∙ c.if-self-k.true ∙ one_shl _ 64 c.if-k-lt64.true)

pub returns-else-self-eq0-clause-none : goal.returns-else-self-eq0-clause-none
returns-else-self-eq0-clause-none c k known power =
    let place = trailing_of_power c.args.self.value k (omega arith) power in
    elim c.else-self-eq0.branch [
      | else-self-eq0-via-then-self-eq0+then-k-lt64+else-self-k w ↦
          w.if-self-k.false (power ∙ sym (one_shl k 64 place.0) ∙ ap (λ j. 1 * 2 ^ j % 2 ^ 64) (sym place.1))
      | else-self-eq0-via-then-self-eq0+else-k-lt64 w ↦ absurd (omega (arith, place.0, place.1))
      | else-self-eq0-via-else-self-eq0 w ↦ w.if-self-eq0.false known
    ]
