-- What is seen of what a request shows.
use Rattle.std.specs.Prelude.{option_map}
use Rattle.token_endpoint.specs.AsksParts.{lineage_seen}
use Rattle.telling.specs.declared.facts.Facts.{Facts}
use Rattle.telling.specs.Telling.{Shown}

abbrev pub facts_seen : Facts → Shown
facts_seen facts = record {
  client = facts.client;
  grant = facts.grant;
  lineage = option_map lineage_seen facts.lineage;
  owner = facts.owner;
  ask = facts.ask;
  verdicts = facts.verdicts;
}
