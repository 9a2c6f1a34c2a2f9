use Rattle.std.proofs.Common.{inl, arith}
use Rattle.etcd_client.proofs.laws.transactions_are_of_a_quorum.Goals as goal

pub returns : goal.returns
returns c = record {
  changes = λ prefix server cluster change. inl (omega arith);
  heads = λ prefix. inl (omega arith);
  pieces = λ prefix wanted. inl (omega arith);
  past = λ prefix wanted. inl (omega arith);
  leaders = λ prefix. inl (omega arith);
  leads = λ prefix lease. inl (omega arith);
}
