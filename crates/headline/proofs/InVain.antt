-- A code that is spent in vain is the one that is presented, whose family is told.
use Rattle.std.proofs.Common.{◌≡◌, ℕ, List, [], ◌∷◌, Bool, true, false, Option, Some, refl, ap, sym, subst, arith}
use Rattle.std.specs.Prelude.{bytes_eq, codes, if◌then◌else◌}
use Rattle.headline.proofs.Names.{Change, Spent, Grant, grant_at, is_code, is_own, where_passes, under_digest, value_sent, digest_told, is_spent, has_ended, sha256, IssueToken, Outcome, Extent, Asked, Setting, Ask, Narrowed, Allowed, Denied, EmptyScope}
use Rattle.headline.proofs.Names.{InvalidGrant, RefreshToken, AuthorizationCode, grant_named}
use Rattle.answers.specs.Outcomes.{refuse, unavailable, unless_denied}
use Rattle.answers.specs.Requesters.{KnownClient, Parameters, scope_within}
use Rattle.answers.specs.Tokens.{code_of_client, refresh_of_client}
use Rattle.clients.specs.ClientRecord.{ClientRecord}
use Rattle.clients.specs.Grants.{has_grant}
use Rattle.clients.specs.declared.grant.GrantType.{GrantType}
use Rattle.clients.specs.declared.grant.GrantType.TheVariants.{ClientCredentials}
use Rattle.consent.specs.History.{Event, next_family}
use Rattle.endpoints.proofs.Walking.{at_need, at_point, at_unless, both_untaken}
use Rattle.endpoints.proofs.Ways.{Sender, at_sender, own_issued, one_issued, both_issued}
use Rattle.hook_host.specs.Verdicts.{Verdict}
use Rattle.hook_record.specs.declared.Kind.TheVariants as kind
use Rattle.messages.specs.declared.error.ErrorName.{ErrorName}
use Rattle.messages.specs.declared.error.ErrorName.TheVariants.{InvalidClient, InvalidRequest, InvalidScope, UnauthorizedClient, UnsupportedGrantType}
use Rattle.pkce.specs.Proof.{proves}
use Rattle.token_endpoint.specs.ClientCredentials.{client_credentials, own_ask}
use Rattle.token_endpoint.specs.Exchange.{ends_family, exchange, exchanged, spent_in_vain}
use Rattle.token_endpoint.specs.Grants.{access_for, ask_for, both_digests, both_for, left_by_host}
use Rattle.token_endpoint.specs.Refresh.{refresh}
use Rattle.token_endpoint.specs.TokenPath.{grant_points, issue_token}
use Rattle.telling.specs.Telling.{family_shown, shown_of}

-- where the digest alone is spent, what is under it is of this family
abbrev pub IsVainly : List Event → ℕ → Option ℕ → List Change → Type 0
IsVainly history m told changes =
    (digest : List ℕ) → changes ≡ Spent digest ∷ [] → (g : Grant) × (grant_at history digest m ≡ Some g) × (told ≡ Some g.family)

-- what is found is under its own digest
pub under_its_own : (history : List Event) (digest : List ℕ) (m : ℕ) (g : Grant) → grant_at history digest m ≡ Some g → grant_at history g.digest m ≡ Some g
under_its_own history digest m g at = subst (λ d. grant_at history d m ≡ Some g) (under_digest history digest m g at) at

module _ (s : Setting) (asked : Asked) (verdicts : Ask → List Verdict) where
  -- the family of what is presented
  abbrev presented : Option ℕ
  presented = family_shown (shown_of verdicts s IssueToken asked).lineage

  abbrev P : Outcome → Type 0
  P o = IsVainly s.history s.moment presented o.changes

  no : (error : ErrorName) → P (refuse error)
  no error digest e = absurd (cc)

  none : P unavailable
  none digest e = absurd (cc)

  module _ (sender : Sender s.rules asked) where
    -- tokens are given
    given_one : (g : Grant) (left : Extent) → P (access_for s g left)
    given_one g left = both_untaken (λ o _. P o) s g.client (sha256 s.draws.first ∷ []) (one_issued s g left) (one_issued s g left) none (λ _ digest e. absurd (cc))

    given_both : (g : Grant) (left : Extent) (kept : ℕ) → P (both_for s g left kept)
    given_both g left kept = both_untaken (λ o _. P o) s g.client (both_digests s.draws) (both_issued s g left kept) (both_issued s g left kept) none (λ _ digest e. absurd (cc))

    given : (g : Grant) (left : Extent) (client : ClientRecord) → P (exchanged s client g left)
    given g left client = by_grant (has_grant RefreshToken client.grants)
      where
        by_grant : (b : Bool) → P (if b then both_for s g left left.scope else access_for s g left)
        by_grant true = given_both g left left.scope
        by_grant false = given_one g left

    -- the code is spent in vain
    vain : (g : Grant) (digest : List ℕ) → grant_at s.history digest s.moment ≡ Some g → presented ≡ Some g.family → (error : ErrorName) → P (spent_in_vain g error)
    vain g digest named shown error other e =
        let same : g.digest ≡ other = cc in
        (g, subst (λ d. grant_at s.history d s.moment ≡ Some g) same (under_its_own s.history digest s.moment g named), shown)

    by_left : (left : Narrowed) (denied empty : Outcome) (later : Extent → Outcome) → P denied → P empty → ((left : Extent) → P (later left)) →
        P (unless_denied left denied empty later)
    by_left Denied denied empty later a b z = a
    by_left EmptyScope denied empty later a b z = b
    by_left (Allowed scope life) denied empty later a b z = z (record { scope = scope; life = life })

    module _ (name : List ℕ) (typed : value_sent (codes "grant_type") sender.params ≡ Some name) where
      -- it is presented
      shows : (g : Grant) (text digest : List ℕ) → grant_named name ≡ Some AuthorizationCode → has_grant AuthorizationCode sender.known.client.grants ≡ true →
          value_sent (codes "code") sender.params ≡ Some text → digest_told text ≡ Some digest → code_of_client s.history s.moment sender.known.number digest ≡ Some g →
          presented ≡ Some g.family
      shows g text digest is may sent told found = rw (sender.form, sender.authenticates, sender.known_is, typed, is, may, sent, told, found) refl

      in_exchange : grant_named name ≡ Some AuthorizationCode → has_grant AuthorizationCode sender.known.client.grants ≡ true → P (exchange s sender.params sender.known)
      in_exchange is may =
          at_need P {A = List ℕ} (value_sent (codes "code") sender.params) (refuse InvalidRequest) _ (no InvalidRequest) (λ text sent.
          at_need P {A = List ℕ} (value_sent (codes "redirect_uri") sender.params) (refuse InvalidRequest) _ (no InvalidRequest) (λ uri led.
          at_need P {A = List ℕ} (value_sent (codes "code_verifier") sender.params) (refuse InvalidRequest) _ (no InvalidRequest) (λ verifier verified.
          at_need P {A = List ℕ} (digest_told text) (refuse InvalidGrant) _ (no InvalidGrant) (λ digest told.
          at_need P {A = Grant} (code_of_client s.history s.moment sender.known.number digest) (refuse InvalidGrant) _ (no InvalidGrant) (λ g found.
          let named : grant_at s.history digest s.moment ≡ Some g = grind (arith, found) in
          let spends = vain g digest named (shows g text digest is may sent told found) in
          at_point P (is_spent s.history digest s.moment) (ends_family g) _ (λ _ other e. absurd (cc)) (λ _.
          at_point P (has_ended s.history g.family) (refuse InvalidGrant) _ (λ _. no InvalidGrant) (λ _.
          at_unless P (bytes_eq uri g.redirect) (refuse InvalidGrant) _ (no InvalidGrant) (λ _.
          at_unless P (proves verifier g.challenge) (refuse InvalidGrant) _ (no InvalidGrant) (λ _.
          by_left (left_by_host s (ask_for s sender.known kind.Code g.owner g.scope)) (spent_in_vain g InvalidGrant) (spent_in_vain g InvalidScope) _
          (spends InvalidGrant) (spends InvalidScope) (λ left. given g left sender.known.client))))))))))

      in_refresh : P (refresh s sender.params sender.known)
      in_refresh =
          at_need P {A = List ℕ} (value_sent (codes "refresh_token") sender.params) (refuse InvalidRequest) _ (no InvalidRequest) (λ text sent.
          at_need P {A = List ℕ} (digest_told text) (refuse InvalidGrant) _ (no InvalidGrant) (λ digest told.
          at_need P {A = Grant} (refresh_of_client s.history s.moment sender.known.number digest) (refuse InvalidGrant) _ (no InvalidGrant) (λ g found.
          at_point P (is_spent s.history digest s.moment) (ends_family g) _ (λ _ other e. absurd (cc)) (λ _.
          at_point P (has_ended s.history g.family) (refuse InvalidGrant) _ (λ _. no InvalidGrant) (λ _.
          at_need P {A = ℕ} (scope_within s.rules g.scope sender.params) (refuse InvalidScope) _ (no InvalidScope) (λ scope asks.
          by_left (left_by_host s (ask_for s sender.known kind.Refresh g.owner scope)) (refuse InvalidGrant) (refuse InvalidScope) _
          (no InvalidGrant) (no InvalidScope) (λ left. given_both g left g.scope)))))))

      in_own : P (client_credentials s sender.params sender.known)
      in_own =
          at_need P {A = ℕ} (scope_within s.rules sender.known.client.allowed sender.params) (refuse InvalidScope) _ (no InvalidScope) (λ scope asks.
          by_left (left_by_host s (own_ask s sender.known scope)) (refuse UnauthorizedClient) (refuse InvalidScope) _
          (no UnauthorizedClient) (no InvalidScope) (λ left.
          at_need P {A = ℕ} (next_family s.history) unavailable _ none (λ family new.
          both_untaken (λ o _. P o) s sender.known.number (sha256 s.draws.first ∷ []) (own_issued s family sender.known.number left) (own_issued s family sender.known.number left)
          none (λ _ digest e. absurd (cc)))))

      by_type : (grant : GrantType) → grant_named name ≡ Some grant → has_grant grant sender.known.client.grants ≡ true → P (grant_points grant s sender.params sender.known)
      by_type AuthorizationCode is may = in_exchange is may
      by_type RefreshToken is may = in_refresh
      by_type ClientCredentials is may = in_own

  pub at_token_path : P (issue_token s asked)
  at_token_path =
      at_sender (λ o _. P o) s.rules asked _ (λ (params : Parameters) (known : KnownClient). unavailable) (no InvalidRequest) (no InvalidClient) none (λ sender.
      at_need P {A = List ℕ} (value_sent (codes "grant_type") sender.params) (refuse InvalidRequest) _ (no InvalidRequest) (λ name typed.
      at_need P {A = GrantType} (grant_named name) (refuse UnsupportedGrantType) _ (no UnsupportedGrantType) (λ grant is.
      at_unless P (has_grant grant sender.known.client.grants) (refuse UnauthorizedClient) _ (no UnauthorizedClient) (λ may.
      by_type sender name typed grant is may))))
