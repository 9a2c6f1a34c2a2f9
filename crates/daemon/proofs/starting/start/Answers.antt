use Rattle.daemon.proofs.starting.start.Goals as goal

pub returns-clause-serves : goal.returns-clause-serves
returns-clause-serves g c = record {
  means = c.means_of-means.result;
  fresh = c.means_of-means.ensures.fresh;
  seeded = rw c.means_of-means.ensures.drawn (c.in_ok-begun.ensures.drawn c.new-random.ensures);
  lines = c.live_anew-fault.result.journal;
  life = c.live_anew-fault.ensures.life;
}

pub returns-clause-unblamed : goal.returns-clause-unblamed
returns-clause-unblamed g c = c.live_anew-fault.ensures.unblamed
