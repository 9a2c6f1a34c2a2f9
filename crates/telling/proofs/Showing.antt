-- What a request shows, put together.
use Rattle.std.proofs.Common.{◌≡◌, ℕ, List, Option, Some, None, refl, ap}
use Rattle.answers.specs.Requesters.{KnownClient, Parameters}
use Rattle.answers.specs.Setting.{Setting}
use Rattle.answers.specs.declared.endpoint.Endpoint.{Endpoint}
use Rattle.clients.specs.declared.grant.GrantType.{GrantType}
use Rattle.hook_host.specs.Verdicts.{Verdict}
use Rattle.hook_record.specs.declared.Ask.{Ask}
use Rattle.messages.specs.Asked.{Asked}
use Rattle.token_endpoint.specs.Asks.{Lineage}
use Rattle.telling.specs.Telling.{Shown, ask_shown, client_at_endpoint, grant_at_endpoint, lineage_at, nobody_shown, params_at, shown_alone, shown_by, verdicts_on}

-- of a client
pub shown_is : (verdicts : Ask → List Verdict) (s : Setting) (endpoint : Endpoint) (params : Parameters) (known : KnownClient)
    (grant : Option GrantType) (lineage : Option Lineage) (ask : Option Ask) (told : List Verdict) →
    grant ≡ grant_at_endpoint endpoint params known → lineage ≡ lineage_at endpoint s grant params known.number →
    ask ≡ ask_shown s grant params known → told ≡ verdicts_on verdicts ask →
    record { client = Some known.number; grant = grant; lineage = lineage; owner = None; ask = ask; verdicts = told } ≡ shown_by verdicts s endpoint params known
shown_is verdicts s endpoint params known grant lineage ask told by_grant by_lineage by_ask by_told = rw (by_told, by_ask, by_lineage, by_grant) refl

module _ (verdicts : Ask → List Verdict) (s : Setting) (endpoint : Endpoint) (asked : Asked) where
  -- there are no parameters, or they name no client
  pub without_params : None ≡ params_at endpoint asked → nobody_shown ≡ shown_alone verdicts s endpoint asked
  without_params none = rw (← none) refl

  pub without_client : (params : Parameters) → Some params ≡ params_at endpoint asked → None ≡ client_at_endpoint endpoint s.rules asked params →
      nobody_shown ≡ shown_alone verdicts s endpoint asked
  without_client params read none = rw (← read, ← none) refl

  pub with_client : (params : Parameters) (known : KnownClient) → Some params ≡ params_at endpoint asked → Some known ≡ client_at_endpoint endpoint s.rules asked params →
      shown_by verdicts s endpoint params known ≡ shown_alone verdicts s endpoint asked
  with_client params known read found = rw (← read, ← found) refl

-- the owner who asks is another
pub with_asking : (shown alone : Shown) (owner : Option ℕ) → shown ≡ alone → record shown { owner = owner } ≡ record alone { owner = owner }
with_asking shown alone owner same = ap (λ (x : Shown). record x { owner = owner }) same
