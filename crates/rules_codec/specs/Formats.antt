-- How rules are spelled: which fields they, each owner and each client have, in which order.
use Rattle.std.specs.Prelude.{ℕ, List, Option, Bool, refl}
use Rattle.wire.specs.Format.{Format, Same, fixed, seen, ◌then◌, u32_format, u64_format, text_format}
use Rattle.wire.specs.Lists.{bool_format, list_of, option_of}
use Rattle.consent.specs.Formats.{party_format}
use Rattle.change_codec.specs.Rules.{ClientFact, OwnerFact, RulesFact}

abbrev pub as_owner : Same (ℕ × (List ℕ × Option (List ℕ))) OwnerFact
as_owner = record {
  to = λ p. record { number = p.0; key = p.1.0; sub = p.1.1 };
  from = λ o. (o.number, (o.key, o.sub));
  from_to = λ _. refl;
  to_from = λ _. refl;
}

-- a digest has 32 bytes
unfoldable pub owner_format : Format OwnerFact
owner_format = seen as_owner (party_format then (fixed 32 then option_of (fixed 32)))

abbrev pub as_client : Same (List ℕ × ℕ) ClientFact
as_client = record {
  to = λ p. record { name = p.0; allowed = p.1 };
  from = λ c. (c.name, c.allowed);
  from_to = λ _. refl;
  to_from = λ _. refl;
}

unfoldable pub client_format : Format ClientFact
client_format = seen as_client (text_format then u64_format)

abbrev pub RulesParts : Type 0
RulesParts = List (List ℕ) × (List OwnerFact × (Bool × (Bool × (List ClientFact × (ℕ × ℕ)))))

abbrev pub as_rules : Same RulesParts RulesFact
as_rules = record {
  to = λ p. record {
    scopes = p.0;
    owners = p.1.0;
    numbered = p.1.1.0;
    gateway = p.1.1.1.0;
    clients = p.1.1.1.1.0;
    access_life = p.1.1.1.1.1.0;
    refresh_life = p.1.1.1.1.1.1;
  };
  from = λ r. (r.scopes, (r.owners, (r.numbered, (r.gateway, (r.clients, (r.access_life, r.refresh_life))))));
  from_to = λ _. refl;
  to_from = λ _. refl;
}

unfoldable pub rules_format : Format RulesFact
rules_format =
    seen as_rules
    (list_of text_format then list_of owner_format then bool_format then bool_format then list_of client_format then u32_format then u32_format)
