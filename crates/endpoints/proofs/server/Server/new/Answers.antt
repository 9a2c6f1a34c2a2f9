use Rattle.std.proofs.Common.{refl}
use Rattle.endpoints.proofs.server.Server.new.Goals as goal

pub returns-clause-fits : goal.returns-clause-fits
returns-clause-fits g c = record {
  rules_are = refl;
  greatest_is = c.new-3.ensures;
  store = c.new.ensures.fits 0;
  consents = c.new-2.ensures;
  hosts = refl;
  right = tt;
}
