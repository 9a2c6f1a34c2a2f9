-- Beside Facts: only the contracts of this crate's own parts and their proofs cite this, no public clause.
use Rattle.std.specs.Prelude.{map}
use Rattle.change_codec.specs.Rules.{ClientFact, OwnerFact, RulesFact}
use Rattle.rules_codec.specs.declared.spelled.SpelledClient.{SpelledClient}
use Rattle.rules_codec.specs.declared.spelled.SpelledOwner.{SpelledOwner}
use Rattle.rules_codec.specs.declared.spelled.SpelledRules.{SpelledRules}

abbrev pub spelled_owner : SpelledOwner → OwnerFact
spelled_owner o = record { number = o.number; key = o.key; sub = o.sub }

abbrev pub spelled_client : SpelledClient → ClientFact
spelled_client c = record { name = c.name.now; allowed = c.allowed }

abbrev pub spelled_rules : SpelledRules → RulesFact
spelled_rules r = record {
  scopes = map (λ s. s.now) r.scopes.items;
  owners = map spelled_owner r.owners.items;
  numbered = r.numbered;
  gateway = r.gateway;
  clients = map spelled_client r.clients.items;
  access_life = r.access_life;
  refresh_life = r.refresh_life;
}
