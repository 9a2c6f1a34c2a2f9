-- What an exchange finds and leaves, two exchanges of one text, and families that are ended.
use Rattle.std.proofs.Common.{◌≡◌, ℕ, List, [], ◌∷◌, true, false, Some, None, map, arith, refl, sym, ap, ◌∙◌, ◌++◌, Option, subst, append_assoc}
use Rattle.headline.proofs.Names.{codes, not, list_any, false≢true, eq-eqb, bytes_eq-Decides, sha256, value_sent, Change, event_at, Grant, grants, grant_at, spends, is_spent, is_taken, has_ended}
use Rattle.headline.proofs.Names.{is_taken-parts, grants-append, Asked, under_digest, Extent, Outcome, point, need, bare, chosen, unavailable, Parameters, form_of, Setting, digest_told, both_digests}
use Rattle.headline.proofs.Names.{issue_token, list_any-append, RegistryRecord, FamilyEnded, endpoint_at, method_at, Endpoint, IssueToken, RevokeToken, outcome_at, Presents, Exchanges, IsDead}
use Rattle.headline.proofs.Names.{UsesUp, Occasion, GoesTo, outcome_of, history_after, reply_on, setting_on}
use Rattle.std.specs.Prelude.{bytes_eq}
use Rattle.consent.specs.History.{Event}
use Rattle.headline.specs.Uses.{Revokes}
use Rattle.endpoints.proofs.Walking.{same_some, other, granted_at}
use Rattle.endpoints.proofs.Ways.{CodeUse, RefreshUse, Sender, TokenWay, Once, Twice, Refreshed, Own, at_token, both_issued, one_issued, token_outcome, at_sender}
use Rattle.headline.proofs.Spending.{has_digest, grant_at-still, is_spent-by, ended_by, ended_stays, live_is}

-- what the digest names is unspent, and is then spent, and nothing else is given under the digest
pub record IsUse (history : List Event) (m : ℕ) (digest : List ℕ) (changes : List Change) : Type 0 where
  pub grant : Grant
  pub named : grant_at history digest m ≡ Some grant
  pub unspent : is_spent history digest m ≡ false
  pub spends_it : list_any (λ x. spends digest x.change) (map (event_at m) changes) ≡ true
  pub alone : list_any (has_digest digest) (grants (map (event_at m) changes)) ≡ false

-- so it is of what the text names
abbrev IsUsed : List Event → ℕ → List ℕ → Outcome → Type 0
IsUsed history m text o = (digest : List ℕ) × (digest_told text ≡ Some digest) × IsUse history m digest o.changes

module _ (s : Setting) (text : List ℕ) where
  -- where tokens are answered
  abbrev Used : Outcome → Type 0
  Used o = o.reply.status ≡ 200 → IsUsed s.history s.moment text o

  -- a digest that names something is not one that is free
  apart : (digest free : List ℕ) (g : Grant) → grant_at s.history digest s.moment ≡ Some g → grant_at s.history free s.moment ≡ None → bytes_eq digest free ≡ false
  apart digest free g named none = let same = (bytes_eq-Decides digest free).0 in grind (arith, same, named, none)

  module _ (digest : List ℕ) (g : Grant) (told : digest_told text ≡ Some digest) (named : grant_at s.history digest s.moment ≡ Some g)
      (unspent : is_spent s.history digest s.moment ≡ false) where
    bytes_same : bytes_eq digest g.digest ≡ true
    bytes_same = (bytes_eq-Decides digest g.digest).1 (under_digest s.history digest s.moment g named)

    -- an access token alone
    used_once : (left : Extent) → is_taken s.history s.moment (sha256 s.draws.first ∷ []) ≡ false → Used (one_issued s g left)
    used_once left untaken _ =
        let parts = is_taken-parts s.history s.moment (sha256 s.draws.first) [] untaken in
        let first = apart digest (sha256 s.draws.first) g named parts.0 in
        let same = bytes_same in
        (digest, told, record { grant = g; named = named; unspent = unspent; spends_it = grind (arith, same); alone = grind (arith, first) })

    used_twice : (left : Extent) (kept : ℕ) → is_taken s.history s.moment (both_digests s.draws) ≡ false → Used (both_issued s g left kept)
    used_twice left kept untaken _ =
        let parts = is_taken-parts s.history s.moment (sha256 s.draws.first) (sha256 s.draws.second ∷ []) untaken in
        let more = is_taken-parts s.history s.moment (sha256 s.draws.second) [] parts.2 in
        let first = apart digest (sha256 s.draws.first) g named parts.0 in
        let second = apart digest (sha256 s.draws.second) g named more.0 in
        let same = bytes_same in
        (digest, told, record { grant = g; named = named; unspent = unspent; spends_it = grind (arith, same); alone = grind (arith, first, second) })

  module _ (asked : Asked) (params : Parameters) (form : form_of asked ≡ Some params) (presents : Presents params text) where
    told_of_code : (x : CodeUse s asked) → digest_told text ≡ Some x.digest
    told_of_code x =
        let theirs = x.sender.form in
        let typed = x.typed in
        let sent = x.sent in
        let told = x.told in
        grind (arith, form, presents, theirs, typed, sent, told)

    told_of_token : (x : RefreshUse s asked) → digest_told text ≡ Some x.digest
    told_of_token x =
        let theirs = x.sender.form in
        let typed = x.typed in
        let sent = x.sent in
        let told = x.told in
        grind (arith, form, presents, theirs, typed, sent, told)

    no_own : (sender : Sender s.rules asked) → value_sent (codes "grant_type") sender.params ≡ Some (codes "client_credentials") → ⊥
    no_own sender typed = let theirs = sender.form in grind (arith, form, presents, theirs, typed)

    pub issue_used : Used (issue_token s asked)
    issue_used = at_token (λ o _. Used o) s asked (λ way _. by_way way)
      where
        by_way : (way : TokenWay s asked) → Used (token_outcome way)
        by_way (Once x left is untaken) e = used_once x.code.digest x.code.grant (told_of_code x.code) x.code.named x.unspent left untaken e
        by_way (Twice x left is untaken) e = used_twice x.code.digest x.code.grant (told_of_code x.code) x.code.named x.unspent left left.scope untaken e
        by_way (Refreshed x left is untaken) e = used_twice x.token.digest x.token.grant (told_of_token x.token) x.token.named x.unspent left x.token.grant.scope untaken e
        by_way (Own sender typed scope left family new is untaken) e = absurd (no_own sender typed)
        by_way _ e = absurd (grind (arith, e))

module _ (rules : RegistryRecord) (history : List Event) (occasion : Occasion) where
  -- the outcome at an endpoint, and at a path
  abbrev at_endpoint : Endpoint → Outcome
  at_endpoint endpoint =
      point (not (bytes_eq occasion.arrival.asked.method (method_at endpoint))) (bare 405)
      (chosen occasion.refused (outcome_at endpoint (setting_on rules history occasion) occasion.arrival.asked))

  abbrev pub at_path : List ℕ → Outcome
  at_path path = need (endpoint_at path) (bare 404) at_endpoint

  -- what is granted at a path is its endpoint's own outcome
  pub granted_there : (P : Outcome → Type 0) (path : List ℕ) (endpoint : Endpoint) → endpoint_at path ≡ Some endpoint →
      (let o = outcome_at endpoint (setting_on rules history occasion) occasion.arrival.asked in o.reply.status ≡ 200 → P o) →
      GoesTo occasion path → (reply_on rules history occasion).status ≡ 200 → P (outcome_of rules history occasion)
  granted_there P path endpoint is here goes granted =
      let o = outcome_at endpoint (setting_on rules history occasion) occasion.arrival.asked in
      let there : outcome_of rules history occasion ≡ at_endpoint endpoint = ap at_path goes ∙ ap (λ (e : Option Endpoint). need e (bare 404) at_endpoint) is in
      let same : outcome_of rules history occasion ≡ o =
      there ∙ granted_at (not (bytes_eq occasion.arrival.asked.method (method_at endpoint))) occasion.refused o (ap (λ (x : Outcome). x.reply.status) (sym there) ∙ granted) in
      subst (λ (x : Outcome). x.reply.status ≡ 200 → P x) (sym same) here granted

  use_of : (text : List ℕ) → Exchanges rules history occasion text → IsUsed history occasion.arrival.moment text (outcome_of rules history occasion)
  use_of text it =
      granted_there (λ o. IsUsed history occasion.arrival.moment text o) (codes "/token") IssueToken refl
      (issue_used (setting_on rules history occasion) text occasion.arrival.asked it.params it.form it.presents) it.goes_to it.granted

pub uses_up : (rules : RegistryRecord) (history : List Event) (occasion : Occasion) → UsesUp rules history occasion
uses_up rules history occasion text first between later second =
    let a = use_of rules history occasion text first in
    let b = use_of rules (history_after rules history occasion ++ between) later text second in
    let same : b.0 ≡ a.0 = same_some b.0 a.0 (digest_told text) b.1 a.1 in
    let more = map (event_at occasion.arrival.moment) (outcome_of rules history occasion).changes in
    let whole = append_assoc history more between in
    let grants_are = grants-append more between in
    let given_in = list_any-append (has_digest a.0) (grants more) (grants between) in
    let spent_in = list_any-append (λ x. spends a.0 x.change) more between in
    let still = grant_at-still history (more ++ between) a.0 later.arrival.moment b.2.grant in
    let spent = is_spent-by history (more ++ between) a.0 later.arrival.moment b.2.grant in
    let alone = a.2.alone in
    let spends_it = a.2.spends_it in
    let named = rw same at b.2.named in
    let unspent = rw same at b.2.unspent in
    record { digest = a.0; told = a.1; given = grind (arith, whole, grants_are, given_in, spent_in, still, spent, alone, spends_it, named, unspent) }

-- a family that is ended is dead, whatever comes
pub dead_after : (rules : RegistryRecord) (history : List Event) (occasion : Occasion) (family : ℕ) → (outcome_of rules history occasion).changes ≡ FamilyEnded family ∷ [] →
    (later : List Event) → IsDead (history_after rules history occasion ++ later) family
dead_after rules history occasion family ended later digest moment found live kin =
    let alive = (live_is (history_after rules history occasion ++ later) digest moment found live).1 in
    let was = ended_stays (history_after rules history occasion) later found.family alive in
    false≢true (sym was ∙ ap (λ cs. has_ended (history ++ map (event_at occasion.arrival.moment) cs) found.family) ended
    ∙ ended_by history (event_at occasion.arrival.moment (FamilyEnded family)) found.family (eq-eqb family found.family (sym kin)))

-- REVOCATION

module _ (rules : RegistryRecord) (history : List Event) (occasion : Occasion) (token : Grant) (it : Revokes rules history occasion token) where
  abbrev Ended : Outcome → Type 0
  Ended o = o.reply.status ≡ 200 → o.changes ≡ FamilyEnded token.family ∷ []

  pub ended : (outcome_of rules history occasion).changes ≡ FamilyEnded token.family ∷ []
  ended =
      let form = it.form in
      let sent = it.presents in
      let live = it.live in
      granted_there rules history occasion (λ o. o.changes ≡ FamilyEnded token.family ∷ []) (codes "/revoke") RevokeToken refl
      (at_sender (λ o _. Ended o) rules occasion.arrival.asked _ (λ _ _. unavailable)
      (λ e. absurd (other 400 200 refl e)) (λ e. absurd (other 401 200 refl e)) (λ e. absurd (other 503 200 refl e)) (λ sender.
      let theirs = sender.form in grind (arith, form, sent, live, theirs))) it.goes_to it.done
