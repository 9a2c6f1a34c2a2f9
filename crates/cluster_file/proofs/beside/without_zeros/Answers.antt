use Rattle.std.proofs.Common.{sym, arith}
use Rattle.cluster_file.proofs.Zeros.{no_zero, one_zero_more}
use Rattle.cluster_file.proofs.beside.without_zeros.Goals as goal

pub zeros-init : goal.zeros-init
zeros-init c = record { within = omega arith; zeros = no_zero c.args.bytes.now }

pub zeros-preserved : goal.zeros-preserved
zeros-preserved c =
    let was = c.zeros.invariant in
    record { within = omega (arith, was.within); zeros = one_zero_more c.args.bytes.now c.zeros.size (omega arith) was.within (sym c.if-byte-ne0.false) was.zeros }
