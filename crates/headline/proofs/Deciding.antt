-- What is given was decided by each hook.
use Rattle.std.proofs.Common.{arith, ◌≡◌, inl, inr, ℕ, List, [], ◌∷◌, Bool, Some, None, refl, sym, ap, ◌∙◌}
use Rattle.headline.specs.Names.{Access, Refresh, Checked, narrowed_by, narrowed_by_hook}
use Rattle.headline.proofs.Names.{if◌then◌else◌, ◌==◌, and_from, eq-eqb, digest_told, grant_at, is_code, is_own, is_refresh, where_passes, Kind, fold, All-nil, All-cons, RegistryRecord, Change, Consented, Grant, grants, is_named, Spent, Token, Ask, Narrowed, Allowed, Denied, EmptyScope, met, met_with, Extent, Outcome}
use Rattle.headline.proofs.Names.{Setting, own_ask, access_issued, new_token, Occasion, outcome_of, setting_on}
use Rattle.std.specs.List.{range_with_len}
use Rattle.std.specs.Prelude.{All, ◌⊎◌, length, option_and_then}
use Rattle.consent.specs.History.{Event}
use Rattle.consent.specs.LeavingLaws.{withdrawn}
use Rattle.consent.specs.Changes.{issued_with, token_issued}
use Rattle.consent.specs.declared.change.NewToken.{NewToken}
use Rattle.hook_chain.specs.Exits.{narrowed_further}
use Rattle.headline.specs.Decided.{IsCodeAsk, IsRefreshAsk, IsOwnAsk, IsAskOf, AllowInTurn, IsOfLeft, IsDecided}
use Rattle.headline.proofs.Bearing.{find_contains}
use Rattle.endpoints.proofs.Ways.{IsLeft, Proven, Refreshing, Sender, Use, Way, ByToken, Leaves, Once, Twice, Refreshed, Own, both_issued, code_ask, one_issued, outcome_by, refresh_ask}
use Rattle.headline.proofs.Ways.{at_each}

-- what no hook changes stays
stays : (left : Narrowed) (ask : Ask) (hooks : List Checked) → ((hook : Checked) → narrowed_further ask left hook ≡ left) →
    fold (narrowed_further ask) left hooks ≡ left
stays left ask [] same = refl
stays left ask (hook ∷ hooks) same = ap (λ l. fold (narrowed_further ask) l hooks) (same hook) ∙ stays left ask hooks same

-- what hooks leave, each in its turn left
in_turn : (hooks : List Checked) (ask : Ask) (a b scope life : ℕ) → fold (narrowed_further ask) (Allowed a b) hooks ≡ Allowed scope life →
    AllowInTurn hooks (record ask { scope = a; life = b }) scope life
in_turn [] ask a b scope life e = let same : Allowed a b ≡ Allowed scope life = e in (cc, cc)
in_turn (hook ∷ hooks) ask a b scope life e =
    by_hook (narrowed_by_hook (record ask { scope = a; life = b }) hook) refl e (λ some most. in_turn hooks ask some most scope life)
  where
    by_hook : (left : Narrowed) → narrowed_by_hook (record ask { scope = a; life = b }) hook ≡ left → fold (narrowed_further ask) left hooks ≡ Allowed scope life →
        ((some most : ℕ) → fold (narrowed_further ask) (Allowed some most) hooks ≡ Allowed scope life → AllowInTurn hooks (record ask { scope = some; life = most }) scope life) →
        AllowInTurn (hook ∷ hooks) (record ask { scope = a; life = b }) scope life
    by_hook Denied is h rest = let denied = stays Denied ask hooks (λ _. refl) in absurd (cc)
    by_hook EmptyScope is h rest = let empty = stays EmptyScope ask hooks (λ _. refl) in absurd (cc)
    by_hook (Allowed some most) is h rest = (some, most, is, rest some most h)

module _ (rules : RegistryRecord) (history : List Event) (occasion : Occasion) (hooks : List Checked)
    (answers : (ask : Ask) → occasion.host.answer ask ≡ narrowed_by hooks ask) where
  abbrev s : Setting
  s = setting_on rules history occasion

  abbrev Right : Change → Type 0
  Right change = IsDecided hooks s occasion.arrival.asked change

  abbrev P : Outcome → Type 0
  P o = All Right o.changes

  -- what the hooks left of an ask
  abbrev LeftBy : Ask → Extent → Type 0
  LeftBy ask left = (some most : ℕ) × AllowInTurn hooks ask some most × (met ask some most ≡ Allowed left.scope left.life)

  left_by : (ask : Ask) (left : Extent) → IsLeft s ask left → LeftBy ask left
  left_by ask left is = by_answer (narrowed_by hooks ask) refl (ap (met_with ask) (sym (answers ask)) ∙ is)
    where
      by_answer : (answer : Narrowed) → narrowed_by hooks ask ≡ answer → met_with ask answer ≡ Allowed left.scope left.life → LeftBy ask left
      by_answer Denied at h = absurd (cc)
      by_answer EmptyScope at h = absurd (cc)
      by_answer (Allowed some most) at h = (some, most, in_turn hooks ask ask.scope ask.life some most at, h)

  one : (change : Change) → Right change → All Right (change ∷ [])
  one change right = All-cons Right change [] right (All-nil Right)

  -- what is used is found
  found : (type name : List ℕ) (test : Kind → Bool) (x : Use s occasion.arrival.asked type name test) →
      option_and_then (λ digest. where_passes (is_own test x.sender.known.number) (grant_at history digest occasion.arrival.moment)) (digest_told x.text) ≡ Some x.grant
  found type name test x =
      ap (option_and_then (λ digest. where_passes (is_own test x.sender.known.number) (grant_at history digest occasion.arrival.moment))) x.told
      ∙ ap (where_passes (is_own test x.sender.known.number)) x.named
      ∙ ap (λ b. if b then Some x.grant else None)
      (and_from (test x.grant.kind) (x.grant.client == x.sender.known.number) x.kind_is (eq-eqb x.grant.client x.sender.known.number x.own))

  -- just that is asked of the hooks
  abbrev Asks : ℕ → Ask → Type 0
  Asks family ask = IsAskOf s occasion.arrival.asked family ask

  by_sender : (sender : Sender rules occasion.arrival.asked) (family : ℕ) (ask : Ask) →
      IsCodeAsk s sender.params sender.known family ask ⊎ (IsRefreshAsk s sender.params sender.known family ask ⊎ IsOwnAsk s sender.params sender.known family ask) →
      Asks family ask
  by_sender sender family ask is = record {
    params = sender.params;
    known = sender.known;
    bears = record { form = sender.form; authentic = sender.authenticates };
    registered = sender.known_is;
    is = is;
  }

  asks_code : (x : Proven s occasion.arrival.asked) → Asks x.code.grant.family (code_ask x)
  asks_code x =
      by_sender x.code.sender x.code.grant.family (code_ask x)
      (inl (x.code.text, (x.code.typed, x.code.sent), x.code.grant, found _ _ is_code x.code, refl, refl))

  asks_refresh : (x : Refreshing s occasion.arrival.asked) → Asks x.token.grant.family (refresh_ask x)
  asks_refresh x =
      by_sender x.token.sender x.token.grant.family (refresh_ask x)
      (inr (inl (x.token.text, (x.token.typed, x.token.sent), x.token.grant, found _ _ is_refresh x.token, x.scope, x.asks, refl, refl)))

  -- a token of what is left of an ask
  given : (ask : Ask) (left : Extent) → IsLeft s ask left → (family client owner : ℕ) → Asks family ask → (token : NewToken) → ask.client ≡ client → ask.owner ≡ owner →
      IsOfLeft history family token.kind token.scope token.life left.scope left.life → Right (token_issued family client owner token)
  given ask left is family client owner asks token its_client its_owner of =
      let by = left_by ask left is in
      (ask, asks, its_client, its_owner, by.0, by.1, left.scope, left.life, by.2, by.3, of)

  one_given : (ask : Ask) (left : Extent) → IsLeft s ask left → (g : Grant) → Asks g.family ask → ask.client ≡ g.client → ask.owner ≡ g.owner → P (one_issued s g left)
  one_given ask left is g asks its_client its_owner =
      All-cons Right (access_issued g s.draws.first left) (Spent g.digest ∷ [])
      (given ask left is g.family g.client g.owner asks (new_token Access s.draws.first left) its_client its_owner (refl, refl)) (one (Spent g.digest) tt)

  both_given : (ask : Ask) (left : Extent) → IsLeft s ask left → (g : Grant) → Asks g.family ask → ask.client ≡ g.client → ask.owner ≡ g.owner →
      (kept : ℕ) → IsOfLeft history g.family Refresh kept rules.refresh_life left.scope left.life → P (both_issued s g left kept)
  both_given ask left is g asks its_client its_owner kept of =
      let more : NewToken = new_token Refresh s.draws.second (record { scope = kept; life = s.rules.refresh_life }) in
      All-cons Right (access_issued g s.draws.first left) (issued_with more g ∷ Spent g.digest ∷ [])
      (given ask left is g.family g.client g.owner asks (new_token Access s.draws.first left) its_client its_owner (refl, refl))
      (All-cons Right (issued_with more g) (Spent g.digest ∷ []) (given ask left is g.family g.client g.owner asks more its_client its_owner of) (one (Spent g.digest) tt))

  -- the refresh token that is used is there
  replaced : (x : Refreshing s occasion.arrival.asked) (left : Extent) → IsOfLeft history x.token.grant.family Refresh x.token.grant.scope rules.refresh_life left.scope left.life
  replaced x left =
      let is = x.token.kind_is in
      let kind : x.token.grant.kind ≡ Token Refresh = grind (arith, is) in
      inr (x.token.grant, find_contains (is_named x.token.digest occasion.arrival.moment) (grants history) x.token.grant x.token.named, kind, refl, refl)

  -- who leaves is given nothing
  withdrawn_decided : (owner : ℕ) (clients : List ℕ) → All Right (withdrawn owner clients)
  withdrawn_decided owner [] = All-nil Right
  withdrawn_decided owner (client ∷ clients) =
      All-cons Right (Consented owner client 0) (withdrawn owner clients) tt (withdrawn_decided owner clients)

  by_way : (way : Way s occasion.arrival.asked) → P (outcome_by way)
  by_way (ByToken (Once x left is untaken)) = one_given (code_ask x) left is x.code.grant (asks_code x) (sym x.code.own) refl
  by_way (ByToken (Twice x left is untaken)) = both_given (code_ask x) left is x.code.grant (asks_code x) (sym x.code.own) refl left.scope (inl refl)
  by_way (ByToken (Refreshed x left is untaken)) =
      both_given (refresh_ask x) left is x.token.grant (asks_refresh x) (sym x.token.own) refl x.token.grant.scope (replaced x left)
  by_way (ByToken (Own sender typed scope left family new is free)) =
      let ask = own_ask s sender.known scope in
      let asks = by_sender sender family ask (inr (inr (typed, scope, free.1, new, refl))) in
      one _ (given ask left is family sender.known.number 0 asks (new_token Access s.draws.first left) refl refl (refl, refl))
  by_way (Leaves owner params form named operator) = withdrawn_decided owner (range_with_len 1 (length rules.clients))
  by_way _ = search (All-nil Right, one)

  pub decided : All (IsDecided hooks s occasion.arrival.asked) (outcome_of rules history occasion).changes
  decided = at_each P rules history occasion by_way
