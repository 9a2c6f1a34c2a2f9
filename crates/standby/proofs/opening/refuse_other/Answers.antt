use Rattle.etcd_client.specs.Exchanges.{elsewhere_question}
use Rattle.standby.proofs.Leading.{since_asked}
use Rattle.standby.proofs.Listed.{elsewhere_reads}
use Rattle.standby.proofs.opening.refuse_other.Goals as goal

pub returns-in-Ok-true-clause-since : goal.returns-in-Ok-true-clause-since
returns-in-Ok-true-clause-since g c = since_asked (elsewhere_question c.args.names.now.prefix.items) c.begun_elsewhere.result _ _ c.begun_elsewhere.ensures

pub returns-in_default-clause-since : goal.returns-in_default-clause-since
returns-in_default-clause-since g c = since_asked (elsewhere_question c.args.names.now.prefix.items) c.begun_elsewhere.result _ _ c.begun_elsewhere.ensures

pub returns-in_default-2-clause-since : goal.returns-in_default-2-clause-since
returns-in_default-2-clause-since g c = since_asked (elsewhere_question c.args.names.now.prefix.items) c.begun_elsewhere.result _ _ c.begun_elsewhere.ensures

pub returns-in-Ok-true-clause-reads : goal.returns-in-Ok-true-clause-reads
returns-in-Ok-true-clause-reads g c = elsewhere_reads c.args.names.now.prefix.items c.begun_elsewhere.result _ _ c.begun_elsewhere.ensures

pub returns-in_default-clause-reads : goal.returns-in_default-clause-reads
returns-in_default-clause-reads g c = elsewhere_reads c.args.names.now.prefix.items c.begun_elsewhere.result _ _ c.begun_elsewhere.ensures

pub returns-in_default-2-clause-reads : goal.returns-in_default-2-clause-reads
returns-in_default-2-clause-reads g c = elsewhere_reads c.args.names.now.prefix.items c.begun_elsewhere.result _ _ c.begun_elsewhere.ensures
