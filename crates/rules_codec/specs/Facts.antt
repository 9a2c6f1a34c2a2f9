-- What rules say, and what a server has, without where its texts lie in memory.
use Rattle.std.specs.Prelude.{ℕ, List, map}
use Rattle.change_codec.specs.Rules.{ClientFact, OwnerFact, RulesFact}
use Rattle.clients.specs.declared.bounds.Bounds.{Bounds}
use Rattle.clients.specs.declared.bounds.ClientBounds.{ClientBounds}
use Rattle.clients.specs.declared.bounds.OwnerBounds.{OwnerBounds}
use Rattle.consent.specs.RecordFacts.{RecordFact, record_fact}
use Rattle.consent.specs.declared.kept_consent.KeptConsent.{KeptConsent}
use Rattle.consent.specs.declared.record_version.RecordVersion.{RecordVersion}
use Rattle.rules_codec.specs.declared.standing.KeptHook.{KeptHook}
use Rattle.rules_codec.specs.declared.standing.Standing.{Standing}

pub record HookFact : Type 0 where
  pub name : List ℕ
  pub version : RecordVersion
  pub code : List ℕ

pub record StandingFact : Type 0 where
  pub rules : RulesFact
  pub greatest : ℕ
  pub last : ℕ
  pub records : List RecordFact
  pub consents : List KeptConsent
  pub hooks : List HookFact

abbrev pub owner_fact : OwnerBounds → OwnerFact
owner_fact o = record { number = o.number; key = o.key; sub = o.sub }

abbrev pub client_fact : ClientBounds → ClientFact
client_fact c = record { name = c.name.now; allowed = c.allowed }

abbrev pub rules_fact : Bounds → RulesFact
rules_fact r = record {
  scopes = map (λ s. s.now) r.scopes.items;
  owners = map owner_fact r.owners.items;
  numbered = r.numbered;
  gateway = r.gateway;
  clients = map client_fact r.clients.items;
  access_life = r.access_life;
  refresh_life = r.refresh_life;
}

abbrev pub hook_fact : KeptHook → HookFact
hook_fact h = record { name = h.name.now; version = h.version; code = h.code.now }

abbrev pub standing_fact : Standing → StandingFact
standing_fact s = record {
  rules = rules_fact s.rules;
  greatest = s.greatest;
  last = s.last;
  records = map record_fact s.records.items;
  consents = s.consents.items;
  hooks = map hook_fact s.hooks.items;
}
