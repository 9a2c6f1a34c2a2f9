use Rattle.std.proofs.Common.{◌<◌, arith}
use Rattle.etcd_client.specs.Asked.{head_asked}
use Rattle.standby.proofs.Listed.{are_of, reads_on, told_still}
use Rattle.standby.proofs.reading.read_once.Goals as goal

pub returns-clause-listed : goal.returns-clause-listed
returns-clause-listed g c =
    let D = g.M.Members in
    let prefix = c.args.names.now.prefix.items in
    let told = c.in_ok-standing.ensures.told in
    let new = D.exchanges c.pieced.new.members in
    let reads = c.in_ok-bytes.ensures.reads in
    let some : 0 < c.in-Some.standing.version = omega arith in
    record {
      standing = c.in-Some.standing;
      text = told.text;
      told = told_still _ new (head_asked prefix) told.text reads told.was;
      read = rw c.in-Some.is at told.read;
      some = some;
      pieced = c.in_ok-bytes.bytes.items;
      are = are_of prefix c.args.cluster c.in-Some.standing new c.in_ok-bytes.bytes.items c.in_ok-bytes.ensures.first c.in_ok-bytes.ensures.size;
      is = c.in_ok-add_zeros.ensures.added;
    }

pub returns-clause-reads : goal.returns-clause-reads
returns-clause-reads g c = reads_on _ _ _ c.in_ok-standing.ensures.reads c.in_ok-bytes.ensures.reads

pub returns-in_err-bytes-clause-reads : goal.returns-in_err-bytes-clause-reads
returns-in_err-bytes-clause-reads g c = reads_on _ _ _ c.in_ok-standing.ensures.reads c.in_err-bytes.ensures.reads

pub returns-in_err-add_zeros-clause-reads : goal.returns-in_err-add_zeros-clause-reads
returns-in_err-add_zeros-clause-reads g c = reads_on _ _ _ c.in_ok-standing.ensures.reads c.in_ok-bytes.ensures.reads
