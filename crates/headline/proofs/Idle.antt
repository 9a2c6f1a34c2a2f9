-- Nothing happens with a 503.
use Rattle.std.proofs.Common.{◌≡◌, List, [], arith, refl}
use Rattle.headline.proofs.Names.{RegistryRecord, Occasion, outcome_of, reply_on, setting_on}
use Rattle.consent.specs.History.{Event}
use Rattle.endpoints.proofs.Ways.{Way, ByToken, Wanting, outcome_by}
use Rattle.headline.proofs.Ways.{at_each}

pub nothing_of_503 : (rules : RegistryRecord) (history : List Event) (occasion : Occasion) → (reply_on rules history occasion).status ≡ 503 →
    (outcome_of rules history occasion).changes ≡ []
nothing_of_503 rules history occasion = at_each (λ o. o.reply.status ≡ 503 → o.changes ≡ []) rules history occasion by_way
  where
    by_way : (way : Way (setting_on rules history occasion) occasion.arrival.asked) → (outcome_by way).reply.status ≡ 503 → (outcome_by way).changes ≡ []
    by_way (ByToken Wanting) e = refl
    by_way _ e = grind (arith, e)
