use Rattle.std.proofs.Common.{◌≡◌, rules}
use Rattle.clients.specs.Clients.{ids}
use Rattle.clients.proofs.Names.{number_among}
use Rattle.clients.proofs.Places.{number_of-listed}
use Rattle.clients.proofs.client.Clients.place.Goals as goal

pub returns-clause-listed : goal.returns-clause-listed
returns-clause-listed c =
    let is : c.copied.result ≡ number_among c.args.id.now (ids c.args.self.now) = search rules in
    rw is (number_of-listed c.args.id.now (ids c.args.self.now))
