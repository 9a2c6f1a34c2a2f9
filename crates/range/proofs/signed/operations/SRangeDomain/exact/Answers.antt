use Rattle.std.proofs.Common.{arith}
use Rattle.range.proofs.SignedRanges.{word_by_ends}
use Rattle.range.proofs.signed.operations.SRangeDomain.exact.Goals as goal

pub returns-clause-alone : goal.returns-clause-alone
returns-clause-alone c = word_by_ends _ c.args.n (omega arith) (omega arith) (omega arith)

pub returns-clause-single : goal.returns-clause-single
returns-clause-single c = word_by_ends _ c.args.n (omega arith) (omega arith) (omega arith)
