-- How many codes and tokens may be unexpired.
use Rattle.std.specs.Prelude.{ℕ, Option, option_and_then}
use Rattle.answers.specs.Names.{RegistryRecord, client_at}
use Rattle.token_store.specs.declared.quota.Quota.{Quota}

-- of the families of the client, if it has a limit of its own
abbrev pub records_of : RegistryRecord → ℕ → Option ℕ
records_of rules client = option_and_then (λ c. c.records) (client_at client rules.clients)

-- of all, and of those of the client
abbrev pub quota_of : RegistryRecord → ℕ → Quota
quota_of rules client = record { records = rules.limits.records; client = client; of_client = records_of rules client }
