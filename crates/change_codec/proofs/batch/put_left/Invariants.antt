use Rattle.std.proofs.Common.{◌-◌, ◌+◌, ◌≡◌, ◌≤◌}
use Rattle.std.specs.List.{AllByRecursion}
use Rattle.change_codec.specs.Spelling.{dated_format}
use Rattle.wire.specs.Lists.{each_onto}
use Rattle.change_codec.proofs.Leaving.{withdrawn_from}
use Rattle.change_codec.proofs.batch.put_left.Given as goal

abbrev pub invariant-loop-seen : goal.invariant-loop-seen
invariant-loop-seen l = record {
  inside : l.seen ≤ l.clients;
  written : each_onto dated_format l.out.items (withdrawn_from l.moment l.owner (l.seen + 1) (l.clients - l.seen))
      ≡ each_onto dated_format l.fn.out.items (withdrawn_from l.moment l.owner 1 l.clients);
  fits : AllByRecursion dated_format.Fits (withdrawn_from l.moment l.owner (l.seen + 1) (l.clients - l.seen)) →
      AllByRecursion dated_format.Fits (withdrawn_from l.moment l.owner 1 l.clients);
}

abbrev pub decreases-loop-seen : goal.decreases-loop-seen
decreases-loop-seen l = l.clients - l.seen
