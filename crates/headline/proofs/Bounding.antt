-- Live tokens of a bounded history.
use Rattle.std.proofs.Common.{◌≡◌, ◌≢◌, ◌≤◌, ◌⊎◌, inl, inr, ℕ, List, [], ◌∷◌, ◌++◌, true, false, Option, Some, None, arith, refl, sym, ap, ◌∙◌, append_assoc, append-nil, subst}
use Rattle.headline.proofs.Names.{is_some, unwrap_or, false≢true, nat_tests, ClientRecord, client_at, RegistryRecord, Change, event_at, Grant, grant_by, grant_at, is_code, is_within, consented_scope}
use Rattle.headline.proofs.Names.{last_consent, has_ended, live_grant, IsHistory, Consented, CodeGiven, Issued, grant_at-given, Token, tokens_keep_their_bounds, AllRight, IsBounded, IsAllowed}
use Rattle.headline.proofs.Names.{IsConsentedAt, token_life_limit, KeepsScope, IsSince}
use Rattle.consent.specs.History.{Event}
use Rattle.consent.specs.declared.grant.TokenKind.{TokenKind}
use Rattle.headline.proofs.Spending.{live_is, ended_stays}

-- a life within the limit of the kind
abbrev pub IsShort : RegistryRecord → Grant → Type 0
IsShort rules g = (kind : TokenKind) → g.kind ≡ Token kind → g.life ≤ token_life_limit rules kind

same_grant : (x g : Grant) → Some x ≡ Some g → x ≡ g
same_grant x g e = cc

same_kind : (a b : TokenKind) → Token a ≡ Token b → a ≡ b
same_kind a b e = cc

-- the token, which the change gives, keeps to what it may
change_keeps : (rules : RegistryRecord) (history : List Event) (moment : ℕ) (change : Change) (g : Grant) → grant_by moment change ≡ Some g →
    is_code g.kind ≡ false → IsAllowed rules change → IsConsentedAt history change → has_ended history g.family ≡ false →
    KeepsScope rules history g × IsShort rules g
change_keeps rules history moment (Issued family parties new) g at token allowed consented alive =
    subst (λ (x : Grant). has_ended history x.family ≡ false → KeepsScope rules history x × IsShort rules x) (same_grant _ g at)
    (λ lives. (
      record { allowed = allowed.0; consented = elim consented [ inl own ↦ inl own | inr within ↦ inr (within lives) ] },
      λ k is. subst (λ x. new.life ≤ token_life_limit rules x) (same_kind new.kind k is) allowed.1,
    )) alive
change_keeps rules history moment (CodeGiven family code digest) g at token allowed consented alive =
    absurd (false≢true (sym token ∙ sym (ap (λ (x : Grant). is_code x.kind) (same_grant _ g at))))
change_keeps rules history moment _ g at token allowed consented alive = absurd (cc)

-- a client that is there has a record
pub there : (rules : RegistryRecord) (number : ℕ) → is_some (client_at number rules.clients) ≡ true →
    (client : ClientRecord) × (client_at number rules.clients ≡ Some client)
there rules number is = by_client (client_at number rules.clients) refl is
  where
    by_client : (o : Option ClientRecord) → client_at number rules.clients ≡ o → is_some o ≡ true →
        (client : ClientRecord) × (client_at number rules.clients ≡ Some client)
    by_client None at none = absurd (cc)
    by_client (Some client) at some = (client, at)

-- what the change gives is of a client
given_client : (rules : RegistryRecord) (moment : ℕ) (change : Change) (g : Grant) → grant_by moment change ≡ Some g → IsAllowed rules change →
    is_some (client_at g.client rules.clients) ≡ true
given_client rules moment (Issued family parties token) g at allowed =
    subst (λ (x : Grant). is_some (client_at x.client rules.clients) ≡ true) (same_grant _ g at) allowed.0.is_client
given_client rules moment (CodeGiven family code digest) g at allowed =
    subst (λ (x : Grant). is_some (client_at x.client rules.clients) ≡ true) (same_grant _ g at) allowed.is_client
given_client rules moment _ g at allowed = absurd (cc)

-- so is what the history names
pub of_client : (rules : RegistryRecord) (history : List Event) (digest : List ℕ) (t : ℕ) (g : Grant) → IsBounded rules history →
    grant_at history digest t ≡ Some g → (client : ClientRecord) × (client_at g.client rules.clients ≡ Some client)
of_client rules history digest t g bounded at =
    let given = grant_at-given history digest t g at in
    there rules g.client
    (given_client rules given.event.moment given.event.change g given.gives_it (bounded.allowed given.before given.later given.event given.whole))

-- a token that is named in the history keeps, later, to what it may, as long as its family has not ended
pub named_keeps : (rules : RegistryRecord) (history between later : List Event) (digest : List ℕ) (t : ℕ) (g : Grant) →
    IsBounded rules ((history ++ between) ++ later) → grant_at history digest t ≡ Some g → is_code g.kind ≡ false →
    has_ended (history ++ between) g.family ≡ false → KeepsScope rules (history ++ between) g × IsShort rules g
named_keeps rules history between later digest t g bounded at token alive =
    let given = grant_at-given history digest t g at in
    let on : history ++ between ≡ given.before ++ given.event ∷ (given.later ++ between) =
    ap (λ h. h ++ between) given.whole ∙ append_assoc given.before (given.event ∷ given.later) between in
    let whole : (history ++ between) ++ later ≡ given.before ++ given.event ∷ ((given.later ++ between) ++ later) =
    ap (λ h. h ++ later) on ∙ append_assoc given.before (given.event ∷ (given.later ++ between)) later in
    let allowed = bounded.allowed given.before ((given.later ++ between) ++ later) given.event whole in
    let consented = bounded.consented_after given.before (given.later ++ between) later given.event (ap (λ h. h ++ later) on) in
    change_keeps rules (history ++ between) given.event.moment given.event.change g given.gives_it token allowed
    (subst (λ h. IsConsentedAt h given.event.change) (sym on) consented) alive

-- a live token keeps to what it may
pub live_keeps : (rules : RegistryRecord) (history : List Event) (digest : List ℕ) (t : ℕ) (g : Grant) → IsBounded rules history →
    live_grant history digest t ≡ Some g → is_code g.kind ≡ false → KeepsScope rules history g × IsShort rules g
live_keeps rules history digest t g bounded live token =
    let is = live_is history digest t g live in
    let same : history ++ [] ≡ history = append-nil history in
    subst (λ h. KeepsScope rules h g × IsShort rules g) same
    (named_keeps rules history [] [] digest t g (subst (λ h. IsBounded rules h) (sym (append-nil (history ++ []) ∙ same)) bounded) is.0 token (ap (λ h. has_ended h g.family) same ∙ is.1))

with_owner : (rules : RegistryRecord) (history : List Event) (g : Grant) → KeepsScope rules history g → g.owner ≢ 0 →
    is_within g.scope (consented_scope history g.owner g.client) ≡ true
with_owner rules history g keeps some = elim keeps.consented [ inl own ↦ absurd (some own.no_owner) | inr within ↦ within ]

-- the last consent is the one that counts
last_is : (before later : List Event) (owner client when mask : ℕ) → last_consent later owner client ≡ None →
    last_consent (before ++ event_at when (Consented owner client mask) ∷ later) owner client ≡ Some mask
last_is [] later owner client when mask none = grind (arith, nat_tests, none)
last_is (x ∷ before) later owner client when mask none = let rest = last_is before later owner client when mask none in grind (arith, rest)

pub lowered : (rules : RegistryRecord) (history : List Event) (m : ℕ) → IsHistory history m → AllRight rules [] history →
    (digest : List ℕ) (t : ℕ) (g : Grant) (mask : ℕ) → live_grant history digest t ≡ Some g →
    is_code g.kind ≡ false → g.owner ≢ 0 → IsSince history digest t g mask → is_within g.scope mask ≡ true
lowered rules history m is right digest t g mask live token some since = by_case since.counts
  where
    by_case : (grant_at since.before digest t ≡ Some g) ⊎ (last_consent since.later g.owner g.client ≡ None) → is_within g.scope mask ≡ true
    by_case (inr last) =
        let now : consented_scope history g.owner g.client ≡ mask =
        ap (λ h. consented_scope h g.owner g.client) since.whole
        ∙ ap (λ o. unwrap_or o 0) (last_is since.before since.later g.owner g.client since.when mask last) in
        ap (is_within g.scope) (sym now) ∙ with_owner rules history g (live_keeps rules history digest t g (tokens_keep_their_bounds rules history m is right) live token).0 some
    by_case (inl named) =
        let e = event_at since.when (Consented g.owner g.client mask) in
        let whole : history ≡ (since.before ++ e ∷ []) ++ since.later = since.whole ∙ sym (append_assoc since.before (e ∷ []) since.later) in
        let alive = ended_stays (since.before ++ e ∷ []) since.later g.family (ap (λ h. has_ended h g.family) (sym whole) ∙ (live_is history digest t g live).1) in
        let keeps = named_keeps rules since.before (e ∷ []) since.later digest t g (subst (λ h. IsBounded rules h) whole (tokens_keep_their_bounds rules history m is right)) named token alive in
        let now : consented_scope (since.before ++ e ∷ []) g.owner g.client ≡ mask =
        ap (λ o. unwrap_or o 0) (last_is since.before [] g.owner g.client since.when mask refl) in
        ap (is_within g.scope) (sym now) ∙ with_owner rules (since.before ++ e ∷ []) g keeps.0 some
