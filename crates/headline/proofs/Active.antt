-- Active tokens are the live ones that are presented.
use Rattle.std.proofs.Common.{◌≡◌, ◌≤◌, ◌+◌, ℕ, List, [], true, false, Some, refl, sym, ap, ◌∙◌, arith, subst}
use Rattle.headline.proofs.Names.{codes, not, and_parts, ltb-true, false≢true, bytes_eq-Decides, RegistryRecord, ClientRecord, client_at, Grant, grant_at, grants, live_grant, is_code, is_named}
use Rattle.headline.proofs.Names.{is_unexpired, is_single_use, is_spent, IsHistory, grant_at-past, Kind, Code, Token, plain, Outcome, point, only, bare, chosen, digest_told, live_token, AllRight}
use Rattle.headline.proofs.Names.{IsBounded, tokens_keep_their_bounds, introspect, told_of, IsLive, Shows, TellsOf, IsActive, TellsWithin, IsActiveWhereLive, TellsLive, KeepsScope, Occasion, GoesTo}
use Rattle.headline.proofs.Names.{outcome_of, reply_on, setting_on}
use Rattle.std.specs.Prelude.{bytes_eq}
use Rattle.authentication.specs.AuthenticationLaws.{authenticated-from}
use Rattle.consent.specs.History.{Event}
use Rattle.consent.specs.ListLaws.{find-passes}
use Rattle.headline.proofs.Bounding.{live_keeps, of_client, there, IsShort}
use Rattle.headline.proofs.Exchanged.{at_path}
use Rattle.endpoints.proofs.Ways.{Way, Quiet, ByToken, Tells, Wanting, outcome_by}
use Rattle.headline.proofs.Ways.{at_each}
use Rattle.headline.proofs.Spending.{live_good}

-- a live token, at a moment that is not before the history's
token_live : (history : List Event) (m t : ℕ) (text digest : List ℕ) (g : Grant) → IsHistory history m → m ≤ t →
    digest_told text ≡ Some digest → live_grant history digest t ≡ Some g → is_code g.kind ≡ false → IsLive history text t g
token_live history m t text digest g is later told live no_code =
    let good = live_good history digest t g live in
    let fact = good.1 in
    let past = grant_at-past history digest m t g is good.0 in
    let named = and_parts (bytes_eq digest g.digest) (is_unexpired t g) (find-passes (is_named digest t) (grants history) g good.0) in
    let same : digest ≡ g.digest = (bytes_eq-Decides digest g.digest).0 named.0 in
    record {
      told = told ∙ ap (λ d. Some d) same;
      named = subst (λ d. grant_at history d t ≡ Some g) same good.0;
      no_code = no_code;
      alive = grind (arith, fact);
      unused = subst (λ d. is_single_use g.kind ≡ true → is_spent history d t ≡ false) same (λ single. grind (arith, fact, single));
      lasts = (omega (arith, past, later), ltb-true t (g.moment + g.life) named.1);
    }

live_token_is : (history : List Event) (text : List ℕ) (t : ℕ) (g : Grant) → IsLive history text t g → live_token history t text ≡ Some g
live_token_is history text t g live =
    let told = live.told in
    let named = live.named in
    let no_code = live.no_code in
    let alive = live.alive in
    let unused = live.unused in
    grind (arith, told, named, no_code, alive, unused)

-- what is told of a token is told of it
told_tells : (rules : RegistryRecord) (g : Grant) (client : ClientRecord) → client_at g.client rules.clients ≡ Some client → (kind : Kind) → g.kind ≡ kind →
    is_code kind ≡ false → TellsOf rules g (told_of rules g kind)
told_tells rules g client at Code is no_code = absurd (false≢true (sym no_code))
told_tells rules g client at (Token kind) is no_code = (is, rw at refl, refl, refl, refl, refl)

module _ (rules : RegistryRecord) (history : List Event) (m : ℕ) (is : IsHistory history m) (right : AllRight rules [] history)
    (occasion : Occasion) (later : m ≤ occasion.arrival.moment) where
  bounded : IsBounded rules history
  bounded = tokens_keep_their_bounds rules history m is right

  abbrev P : Outcome → Type 0
  P o =
      o ≡ outcome_of rules history occasion → IsActive o.reply.body →
      (it : TellsLive rules history occasion) × KeepsScope rules history it.token × IsShort rules it.token

  by_way : (way : Way (setting_on rules history occasion) occasion.arrival.asked) → P (outcome_by way)
  by_way (Quiet status body moves quiet) same active = absurd (quiet active)
  by_way (Tells x) same active =
      let keeps = live_keeps rules history x.digest occasion.arrival.moment x.token bounded x.live x.no_code in
      let client = of_client rules history x.digest occasion.arrival.moment x.token bounded (live_good history x.digest occasion.arrival.moment x.token x.live).0 in
      let it : TellsLive rules history occasion = record {
        text = x.text;
        shown = (x.sender.params, x.sent, x.sender.known.number, record { form = x.sender.form; authentic = x.sender.authenticates });
        token = x.token;
        live = token_live history m occasion.arrival.moment x.text x.digest x.token is later x.told x.live x.no_code;
        tells = subst (λ (o : Outcome). TellsOf rules x.token o.reply.body) same (told_tells rules x.token client.0 client.1 x.token.kind refl x.no_code);
      } in
      (it, keeps.0, keeps.1)
  by_way (ByToken Wanting) same active = absurd active
  by_way _ same active = absurd active

  pub tells_within : TellsWithin rules history occasion
  tells_within = at_each P rules history occasion by_way refl

  each_live : (text : List ℕ) (token : Grant) → GoesTo occasion (codes "/introspect") → occasion.arrival.asked.method ≡ codes "POST" →
      occasion.refused ≡ false → Shows rules occasion text → IsLive history text occasion.arrival.moment token →
      TellsOf rules token (reply_on rules history occasion).body
  each_live text token goes posted unrefused shown live =
      let asked = occasion.arrival.asked in
      let o = introspect (setting_on rules history occasion) asked in
      let from = authenticated-from rules.clients occasion.arrival.asked.authorization shown.0 shown.2 shown.3.authentic in
      let known = from.3.1 in
      let sender = there rules shown.2 (grind (arith, known)) in
      let at = sender.1 in
      let form = shown.3.form in
      let authentic = shown.3.authentic in
      let sent = shown.1 in
      let found = live_token_is history text occasion.arrival.moment token live in
      let client = of_client rules history token.digest occasion.arrival.moment token bounded live.named in
      let goes_there : outcome_of rules history occasion ≡ o =
      ap (at_path rules history occasion) goes
      ∙ ap (λ b. point (not b) (bare 405) (chosen occasion.refused o)) ((bytes_eq-Decides asked.method (codes "POST")).1 posted)
      ∙ ap (λ b. chosen b o) unrefused in
      let told : o ≡ only (plain 200 (told_of rules token token.kind)) = grind (arith, form, authentic, at, sent, found) in
      subst (λ (x : Outcome). TellsOf rules token x.reply.body) (sym (goes_there ∙ told)) (told_tells rules token client.0 client.1 token.kind refl live.no_code)

  pub active_where_live : IsActiveWhereLive rules history occasion
  active_where_live = record { only_live = λ active. (tells_within active).0; each_live = each_live }
