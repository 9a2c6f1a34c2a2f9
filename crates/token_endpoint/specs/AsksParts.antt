-- Beside Asks: what is seen of where a code or token comes from.
use Rattle.consent.specs.Owners.{owner_number}
use Rattle.token_endpoint.specs.declared.asks.Lineage as told
use Rattle.token_endpoint.specs.Asks.{Lineage}

abbrev pub lineage_seen : told.Lineage → Lineage
lineage_seen told = record { family = told.family; owner = owner_number told.owner }
