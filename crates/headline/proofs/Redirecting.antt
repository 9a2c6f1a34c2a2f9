-- Where user agents are sent.
use Rattle.std.proofs.Common.{◌≡◌, ◌⊎◌, inl, inr, List, true, Some, Result, Ok, arith, refl}
use Rattle.headline.proofs.Names.{is_some, result_ok, read_params, RegistryRecord, Redirection, query_of, Outcome, Occasion, setting_on}
use Rattle.consent.specs.History.{Event}
use Rattle.headline.specs.Redirects.{SendsHome, IsNoOpenRedirector}
use Rattle.endpoints.proofs.Ways.{Way, Quiet, ByToken, Turned, Coded, Wanting, outcome_by}
use Rattle.headline.proofs.Ways.{at_each}

result_is : {A E : Type 0} (r : Result A E) (x : A) → result_ok r ≡ Some x → r ≡ Ok x
result_is r x e = grind (arith, e)

module _ (rules : RegistryRecord) (history : List Event) (occasion : Occasion) where
  abbrev P : Outcome → Type 0
  P o =
      ((o.reply.status ≡ 302) ⊎ (is_some o.reply.location ≡ true)) →
      (o.reply.status ≡ 302) × (there : Redirection) × (o.reply.location ≡ Some there) × SendsHome rules occasion o there

  by_way : (way : Way (setting_on rules history occasion) occasion.arrival.asked) → P (outcome_by way)
  by_way (Quiet status body moves active) sent = absurd (grind (arith, moves, sent))
  by_way (ByToken Wanting) sent = absurd (grind (arith, sent))
  by_way (Turned x error) sent = (
    refl,
    _,
    refl,
    record {
      params = x.params;
      query = result_is (read_params (query_of occasion.arrival.asked.target)) x.params x.query;
      known = x.known;
      names = x.names;
      registered = x.registered;
      asked_for = x.sent;
      first = _;
      pairs = refl;
      says = inl (_, refl, refl);
    },
  )
  by_way (Coded x code family new key of) sent = (
    refl,
    _,
    refl,
    record {
      params = x.params;
      query = result_is (read_params (query_of occasion.arrival.asked.target)) x.params x.query;
      known = x.known;
      names = x.names;
      registered = x.registered;
      asked_for = x.sent;
      first = _;
      pairs = refl;
      says = inr (refl, _, code, of.0, of.1, refl);
    },
  )
  by_way _ sent = absurd (grind (arith, sent))

  pub no_redirector : IsNoOpenRedirector rules history occasion
  no_redirector = at_each P rules history occasion by_way
