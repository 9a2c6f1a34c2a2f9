use Rattle.std.proofs.Common.{◌+◌, ◌-◌, refl, arith}
use Rattle.batch_file.proofs.Reading.{found, is_short, is_marked, is_cut, is_sealed}
use Rattle.batch_file.proofs.framing.first_batch.Goals as goal

pub returns-then-bytes-lt21-clause-none : goal.returns-then-bytes-lt21-clause-none
returns-then-bytes-lt21-clause-none c = λ batch more f. is_short _ batch more _ f c.if-bytes-lt21.true

pub returns-then-mark-clause-none : goal.returns-then-mark-clause-none
returns-then-mark-clause-none c = λ batch more f. c.if-mark.true (is_marked _ batch more _ f)

pub returns-then-bytes-size-clause-none : goal.returns-then-bytes-size-clause-none
returns-then-bytes-size-clause-none c = λ batch more f. is_cut _ batch more _ f _ c.from_be_bytes-size.ensures c.if-bytes-size.true

pub returns-then-not-is_sealed-clause-none : goal.returns-then-not-is_sealed-clause-none
returns-then-not-is_sealed-clause-none c = λ batch more f.
    let n = c.from_be_bytes-size.result in
    let sealed_so = c.is_sealed.ensures.1 (is_sealed _ batch more _ f n 4 (21 + n - 21) 16 c.from_be_bytes-size.ensures (omega arith) refl refl) in
    let not_so = c.if-not-is_sealed.true in
    absurd (cc)

pub returns-clause-some : goal.returns-clause-some
returns-clause-some c =
    let n = c.from_be_bytes-size.result in
    found c.args.before.now c.args.bytes.now n c.if-bytes-lt21.false c.from_be_bytes-size.ensures c.if-bytes-size.false c.from_be_bytes-size.type_inv (λ i. omega (arith, c.type_inv.bytes i)) _ 4 (21 + n - 21) 16 c.if-mark.false (omega arith) refl refl (c.is_sealed.ensures.0 c.if-not-is_sealed.false) refl
