use Rattle.etcd_client.proofs.Found.{head_there}
use Rattle.etcd_client.proofs.laws.heads_that_are_read_stand_there.Goals as goal

pub returns : goal.returns
returns c = λ prefix known cluster entries held stand standing fits words read holds.
    head_there prefix known cluster entries held stand standing fits words read.are holds read.told
