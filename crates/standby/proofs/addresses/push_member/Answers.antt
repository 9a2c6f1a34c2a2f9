use Rattle.std.proofs.Common.{rules}
use Rattle.standby.specs.Members.{unnamed}
use Rattle.standby.proofs.Named.{bad_by}
use Rattle.standby.proofs.addresses.push_member.Goals as goal

pub returns-in-Some-clause-refused : goal.returns-in-Some-clause-refused
returns-in-Some-clause-refused g c = bad_by c.args.url.now c.in-Some.host.now c.push_host.result (search rules) c.push_host.ensures.refused

pub returns-in-None-clause-refused : goal.returns-in-None-clause-refused
returns-in-None-clause-refused g c = unnamed (search rules)
