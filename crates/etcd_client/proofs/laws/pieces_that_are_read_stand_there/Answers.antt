use Rattle.etcd_client.proofs.Found.{pieces_there}
use Rattle.etcd_client.proofs.laws.pieces_that_are_read_stand_there.Goals as goal

pub returns : goal.returns
returns c = λ prefix generation entries pieces held stand fits read holds.
    pieces_there prefix generation entries pieces held stand fits read.are read.places holds read.told
