-- Whoever is denied is told of.
use Rattle.std.proofs.Common.{arith, ◌≡◌, ◌<◌, ◌∙◌, ℕ, List, [], ◌∷◌, Bool, true, false, cond, Option, Some, None, refl, ap, sym, subst}
use Rattle.std.proofs.lemmas.Bool.Decides.{nat_tests}
use Rattle.headline.specs.Names.{Checked, narrowed_by, narrowed_by_hook, Exit}
use Rattle.headline.proofs.Names.{bytes_eq-Decides, codes, RegistryRecord, Grant, Ask, Allowed, Asked, Failure, Extent, Outcome, bare, chosen, point, unavailable, Setting, Parameters, value_sent, digest_told, is_spent, has_ended}
use Rattle.headline.proofs.Names.{endpoint_at, IssueToken, sha256, both_digests, own_ask, issue_token, met, met_with, IsNarrowing, met_with_narrows, Narrowed, Denied, EmptyScope, fold, if◌then◌else◌}
use Rattle.headline.proofs.Names.{AuthorizationCode, RefreshToken, ClientRecord, InvalidGrant, Occasion, GoesTo, reply_on, setting_on, without_hooks, grant_named}
use Rattle.std.specs.Prelude.{bytes_eq, not, take}
use Rattle.answers.specs.Outcomes.{refuse, unless_denied}
use Rattle.answers.specs.Requesters.{KnownClient, scope_within}
use Rattle.answers.specs.Tokens.{code_of_client, refresh_of_client}
use Rattle.clients.specs.Grants.{has_grant}
use Rattle.clients.specs.declared.grant.GrantType.{GrantType}
use Rattle.clients.specs.declared.grant.GrantType.TheVariants.{ClientCredentials}
use Rattle.consent.specs.History.{Event, next_family}
use Rattle.endpoints.proofs.Walking.{both_need, both_point, both_unless, both_untaken, other}
use Rattle.endpoints.proofs.Ways.{Sender, at_sender, both_issued, one_issued, open_to_all, own_issued}
use Rattle.endpoints.specs.Telling.{told_at}
use Rattle.headline.proofs.Exchanged.{at_path}
use Rattle.headline.specs.Audited.{IsDenied, IsDenialTold, told_on}
use Rattle.hook_chain.specs.Exits.{exit_of, narrowed_by_exit, narrowed_further}
use Rattle.hook_host.specs.Verdicts.{Verdict, last_left}
use Rattle.hook_record.specs.Narrowing.{left_of}
use Rattle.hook_record.specs.NarrowingLaws.{narrowed_narrows}
use Rattle.hook_record.specs.declared.Kind.TheVariants as kind
use Rattle.insn.specs.Values.{record_size}
use Rattle.insn.specs.declared.layout.Layout.TheVariants.{V1}
use Rattle.messages.specs.declared.error.ErrorName.TheVariants.{InvalidClient, InvalidRequest, InvalidScope, UnauthorizedClient, UnsupportedGrantType}
use Rattle.pkce.specs.Proof.{proves}
use Rattle.telling.specs.Interests.{denies, is_denial, is_wanted, wanted_of}
use Rattle.telling.specs.Telling.{bare_told, client_shown, shown_for, shown_in, shown_of, told_of, verdicts_on}
use Rattle.telling.specs.declared.interest.Interest.{Interest}
use Rattle.telling.specs.declared.interest.Interest.TheVariants.{Nothing, Denials, Everything}
use Rattle.telling.specs.declared.told.Told.{Told}
use Rattle.token_endpoint.specs.Asks.{token_ask}
use Rattle.token_endpoint.specs.ClientCredentials.{client_credentials, granted}
use Rattle.token_endpoint.specs.Exchange.{ends_family, exchange, exchanged, spent_in_vain}
use Rattle.token_endpoint.specs.Grants.{access_for, ask_for, both_for, left_by_host}
use Rattle.token_endpoint.specs.Refresh.{refresh}
use Rattle.token_endpoint.specs.TokenPath.{grant_points}

-- what leaves some scope, leaves some life
abbrev LeavesLife : Narrowed → Type 0
LeavesLife left = (scope life : ℕ) → left ≡ Allowed scope life → 0 < life

by_hook : (ask : Ask) (hook : Checked) → LeavesLife (narrowed_by_hook ask hook)
by_hook ask hook = by_exit (exit_of hook ask)
  where
    by_exit : (exit : Option Exit) → LeavesLife (narrowed_by_exit ask exit)
    by_exit None scope life e = absurd (cc)
    by_exit (Some exit) scope life e = (narrowed_narrows ask exit.r0 (take (record_size V1) exit.bytes) scope life e).some_life

by_hooks : (ask : Ask) (left : Narrowed) (hooks : List Checked) → LeavesLife left → LeavesLife (fold (narrowed_further ask) left hooks)
by_hooks ask left [] some = some
by_hooks ask (Allowed scope life) (hook ∷ hooks) some =
    by_hooks ask (narrowed_by_hook (record ask { scope = scope; life = life }) hook) hooks (by_hook (record ask { scope = scope; life = life }) hook)
by_hooks ask Denied (hook ∷ hooks) some = by_hooks ask Denied hooks some
by_hooks ask EmptyScope (hook ∷ hooks) some = by_hooks ask EmptyScope hooks some

-- all that is asked leaves its life
of_ask : (ask : Ask) → 0 < ask.life → LeavesLife (Allowed ask.scope ask.life)
of_ask ask lives scope life e = let same : ask.life ≡ life = cc in subst (λ (n : ℕ). 0 < n) same lives

-- an answer of which nothing is left denies, where there is a life to be left
is_denied : (ask : Ask) (answer : Narrowed) → 0 < ask.life → LeavesLife answer → met_with ask answer ≡ Denied → answer ≡ Denied
is_denied ask Denied life some e = refl
is_denied ask EmptyScope life some e = absurd (cc)
is_denied ask (Allowed scope most) life some e = let more = some scope most refl in absurd (grind (arith, nat_tests, life, more, e))

-- what the last of them left is denied, where something was left before
last_denied : (before : Narrowed) (verdicts : List Verdict) → (before ≡ Denied → ⊥) → last_left before verdicts ≡ Denied → is_denial verdicts ≡ true
last_denied before [] some e = absurd (some e)
last_denied before (verdict ∷ verdicts) some e = ap denies e

module _ (s : Setting) (asked : Asked) (hooks : List Checked) (answers : (ask : Ask) → s.host.answer ask ≡ narrowed_by hooks ask)
    (verdicts : Ask → List Verdict) (last : (ask : Ask) → last_left (Allowed ask.scope ask.life) (verdicts ask) ≡ s.host.answer ask) where
  abbrev shown : List Verdict
  shown = (shown_of verdicts s IssueToken asked).verdicts

  -- what comes of it, and what would without hooks
  abbrev IsTold : Outcome → Outcome → Type 0
  IsTold o p = p.reply.status ≡ 200 → ¬ (o.reply.status ≡ 200) → ¬ (o.reply.body ≡ Failure InvalidScope) → is_denial shown ≡ true

  alike : (o : Outcome) → IsTold o o
  alike o free refused scoped = absurd (refused free)

  -- what is given with them is given without
  given_with : (o p : Outcome) → o.reply.status ≡ 200 → IsTold o p
  given_with o p given free refused scoped = absurd (refused given)

  -- the ask that is put is denied
  by_denial : (ask : Ask) → shown ≡ verdicts ask → left_by_host s ask ≡ Denied → (scope life : ℕ) → met_with ask (Allowed ask.scope ask.life) ≡ Allowed scope life →
      is_denial shown ≡ true
  by_denial ask puts denied scope life free =
      let narrowing = met_with_narrows ask (Allowed ask.scope ask.life) scope life free in
      let some = narrowing.some_life in
      let within = narrowing.no_longer in
      let lives : 0 < ask.life = omega (arith, some, within) in
      let leaves : LeavesLife (s.host.answer ask) = subst LeavesLife (sym (answers ask)) (by_hooks ask (Allowed ask.scope ask.life) hooks (of_ask ask lives)) in
      let is : s.host.answer ask ≡ Denied = is_denied ask (s.host.answer ask) lives leaves denied in
      rw puts (last_denied (Allowed ask.scope ask.life) (verdicts ask) (λ e. absurd (cc)) (last ask ∙ is))

  by_left : (ask : Ask) → shown ≡ verdicts ask → (denied empty : Outcome) (later later' : Extent → Outcome) →
      (denied.reply.status ≡ 400) → (empty.reply.status ≡ 400) → empty.reply.body ≡ Failure InvalidScope → ((left left' : Extent) → IsTold (later left) (later' left')) →
      IsTold (unless_denied (left_by_host s ask) denied empty later) (unless_denied (left_by_host (open_to_all s) ask) denied empty later')
  by_left ask puts denied empty later later' bad none scope each = by_both (left_by_host s ask) (left_by_host (open_to_all s) ask) refl refl
    where
      by_both : (left free : Narrowed) → left_by_host s ask ≡ left → left_by_host (open_to_all s) ask ≡ free →
          IsTold (unless_denied left denied empty later) (unless_denied free denied empty later')
      by_both left Denied is was = λ free. absurd (other 400 200 refl (sym bad ∙ free))
      by_both left EmptyScope is was = λ free. absurd (other 400 200 refl (sym none ∙ free))
      by_both Denied (Allowed some most) is was = λ free refused scoped. by_denial ask puts is some most was
      by_both EmptyScope (Allowed some most) is was = λ free refused scoped. absurd (scoped scope)
      by_both (Allowed a b) (Allowed some most) is was = each (record { scope = a; life = b }) (record { scope = some; life = most })

  module _ (sender : Sender s.rules asked) where
    -- what each hook left is shown of what is asked
    puts : (ask : Ask) → token_ask s sender.params sender.known ≡ Some ask → shown ≡ verdicts ask
    puts ask put =
        let known : client_shown s.rules asked sender.params ≡ Some sender.known = rw (sender.authenticates, sender.known_is) refl in
        ap (λ o. (shown_in verdicts s IssueToken asked o).verdicts) sender.form ∙ ap (λ o. (shown_for verdicts s IssueToken sender.params o).verdicts) known
        ∙ ap (verdicts_on verdicts) put

    by_code : (g : Grant) (left left' : Extent) (client : ClientRecord) → IsTold (exchanged s client g left) (exchanged (open_to_all s) client g left')
    by_code g left left' client = by_grant (has_grant RefreshToken client.grants)
      where
        by_grant : (b : Bool) → IsTold (if b then both_for s g left left.scope else access_for s g left) (if b then both_for s g left' left'.scope else access_for s g left')
        by_grant true =
            both_untaken IsTold s g.client (both_digests s.draws) (both_issued s g left left.scope) (both_issued s g left' left'.scope) (alike unavailable)
            (λ _. given_with (both_issued s g left left.scope) (both_issued s g left' left'.scope) refl)
        by_grant false =
            both_untaken IsTold s g.client (sha256 s.draws.first ∷ []) (one_issued s g left) (one_issued s g left') (alike unavailable)
            (λ _. given_with (one_issued s g left) (one_issued s g left') refl)

    module _ (name : List ℕ) (typed : value_sent (codes "grant_type") sender.params ≡ Some name) where
      in_exchange : grant_named name ≡ Some AuthorizationCode → has_grant AuthorizationCode sender.known.client.grants ≡ true →
          IsTold (exchange s sender.params sender.known) (exchange (open_to_all s) sender.params sender.known)
      in_exchange is may =
          both_need IsTold {A = List ℕ} (value_sent (codes "code") sender.params) (refuse InvalidRequest) _ _ (alike (refuse InvalidRequest)) (λ text sent.
          both_need IsTold {A = List ℕ} (value_sent (codes "redirect_uri") sender.params) (refuse InvalidRequest) _ _ (alike (refuse InvalidRequest)) (λ uri led.
          both_need IsTold {A = List ℕ} (value_sent (codes "code_verifier") sender.params) (refuse InvalidRequest) _ _ (alike (refuse InvalidRequest)) (λ verifier verified.
          both_need IsTold {A = List ℕ} (digest_told text) (refuse InvalidGrant) _ _ (alike (refuse InvalidGrant)) (λ digest told.
          both_need IsTold {A = Grant} (code_of_client s.history s.moment sender.known.number digest) (refuse InvalidGrant) _ _ (alike (refuse InvalidGrant)) (λ g found.
          both_point IsTold (is_spent s.history digest s.moment) (ends_family g) _ _ (λ _. alike (ends_family g)) (λ unspent.
          both_point IsTold (has_ended s.history g.family) (refuse InvalidGrant) _ _ (λ _. alike (refuse InvalidGrant)) (λ alive.
          both_unless IsTold (bytes_eq uri g.redirect) (refuse InvalidGrant) _ _ (alike (refuse InvalidGrant)) (λ same.
          both_unless IsTold (proves verifier g.challenge) (refuse InvalidGrant) _ _ (alike (refuse InvalidGrant)) (λ proven.
          let ask = ask_for s sender.known kind.Code g.owner g.scope in
          let put : token_ask s sender.params sender.known ≡ Some ask = rw (typed, is, may, sent, led, verified, told, found, unspent, alive, same, proven) refl in
          by_left ask (puts ask put) (spent_in_vain g InvalidGrant) (spent_in_vain g InvalidScope) _ _ refl refl refl (λ left left'. by_code g left left' sender.known.client))))))))))

      in_refresh : grant_named name ≡ Some RefreshToken → has_grant RefreshToken sender.known.client.grants ≡ true →
          IsTold (refresh s sender.params sender.known) (refresh (open_to_all s) sender.params sender.known)
      in_refresh is may =
          both_need IsTold {A = List ℕ} (value_sent (codes "refresh_token") sender.params) (refuse InvalidRequest) _ _ (alike (refuse InvalidRequest)) (λ text sent.
          both_need IsTold {A = List ℕ} (digest_told text) (refuse InvalidGrant) _ _ (alike (refuse InvalidGrant)) (λ digest told.
          both_need IsTold {A = Grant} (refresh_of_client s.history s.moment sender.known.number digest) (refuse InvalidGrant) _ _ (alike (refuse InvalidGrant)) (λ g found.
          both_point IsTold (is_spent s.history digest s.moment) (ends_family g) _ _ (λ _. alike (ends_family g)) (λ unspent.
          both_point IsTold (has_ended s.history g.family) (refuse InvalidGrant) _ _ (λ _. alike (refuse InvalidGrant)) (λ alive.
          both_need IsTold {A = ℕ} (scope_within s.rules g.scope sender.params) (refuse InvalidScope) _ _ (alike (refuse InvalidScope)) (λ scope asks.
          let ask = ask_for s sender.known kind.Refresh g.owner scope in
          let put : token_ask s sender.params sender.known ≡ Some ask = rw (typed, is, may, sent, told, found, unspent, alive, asks) refl in
          by_left ask (puts ask put) (refuse InvalidGrant) (refuse InvalidScope) _ _ refl refl refl (λ left left'.
          both_untaken IsTold s g.client (both_digests s.draws) (both_issued s g left g.scope) (both_issued s g left' g.scope) (alike unavailable)
          (λ _. given_with (both_issued s g left g.scope) (both_issued s g left' g.scope) refl))))))))

      in_own : grant_named name ≡ Some ClientCredentials → has_grant ClientCredentials sender.known.client.grants ≡ true →
          IsTold (client_credentials s sender.params sender.known) (client_credentials (open_to_all s) sender.params sender.known)
      in_own is may =
          both_need IsTold {A = ℕ} (scope_within s.rules sender.known.client.allowed sender.params) (refuse InvalidScope) _ _ (alike (refuse InvalidScope)) (λ scope asks.
          let ask = own_ask s sender.known scope in
          let put : token_ask s sender.params sender.known ≡ Some ask = rw (typed, is, may, asks) refl in
          by_left ask (puts ask put) (refuse UnauthorizedClient) (refuse InvalidScope) _ _ refl refl refl (λ left left'.
          both_need IsTold {A = ℕ} (next_family s.history) unavailable _ _ (alike unavailable) (λ family new.
          both_untaken IsTold s sender.known.number (sha256 s.draws.first ∷ []) (own_issued s family sender.known.number left) (own_issued s family sender.known.number left')
          (alike unavailable) (λ _. given_with (own_issued s family sender.known.number left) (own_issued s family sender.known.number left') refl))))

      by_type : (grant : GrantType) → grant_named name ≡ Some grant → has_grant grant sender.known.client.grants ≡ true →
          IsTold (grant_points grant s sender.params sender.known) (grant_points grant (open_to_all s) sender.params sender.known)
      by_type AuthorizationCode is may = in_exchange is may
      by_type RefreshToken is may = in_refresh is may
      by_type ClientCredentials is may = in_own is may

  at_token_path : IsTold (issue_token s asked) (issue_token (open_to_all s) asked)
  at_token_path =
      at_sender IsTold s.rules asked _ _ (alike (refuse InvalidRequest)) (alike (refuse InvalidClient)) (alike unavailable) (λ sender.
      both_need IsTold {A = List ℕ} (value_sent (codes "grant_type") sender.params) (refuse InvalidRequest) _ _ (alike (refuse InvalidRequest)) (λ name typed.
      both_need IsTold {A = GrantType} (grant_named name) (refuse UnsupportedGrantType) _ _ (alike (refuse UnsupportedGrantType)) (λ grant is.
      both_unless IsTold (has_grant grant sender.known.client.grants) (refuse UnauthorizedClient) _ _ (alike (refuse UnauthorizedClient)) (λ may.
      by_type sender name typed grant is may))))

  -- by the method, and where memory is not refused
  by_method : (same refused : Bool) →
      (point (not same) (bare 405) (chosen refused (issue_token (open_to_all s) asked))).reply.status ≡ 200 →
      ¬ ((point (not same) (bare 405) (chosen refused (issue_token s asked))).reply.status ≡ 200) →
      ¬ ((point (not same) (bare 405) (chosen refused (issue_token s asked))).reply.body ≡ Failure InvalidScope) →
      is_denial (cond (not same) (bare_told s.moment (Some IssueToken) 405)
      (cond refused (bare_told s.moment (Some IssueToken) 503) (told_of verdicts s IssueToken asked (issue_token s asked)))).verdicts ≡ true
  by_method false refused free granted scoped = absurd (other 405 200 refl free)
  by_method true true free granted scoped = absurd (other 503 200 refl free)
  by_method true false free granted scoped = at_token_path free granted scoped

-- what is told of it
wanted : (interest : Interest) (told : Told) → is_denial told.verdicts ≡ true → ¬ (interest ≡ Nothing) → wanted_of interest told ≡ Some told
wanted Nothing told denial some = absurd (some refl)
wanted Denials told denial some = rw denial refl
wanted Everything told denial some = refl

pub denial_told : (rules : RegistryRecord) (history : List Event) (occasion : Occasion) → IsDenialTold rules history occasion
denial_told rules history occasion hooks answers verdicts last denied interest some =
    let s = setting_on rules history occasion in
    let asked = occasion.arrival.asked in
    wanted interest (told_on verdicts rules history occasion)
    (subst (λ (path : List ℕ). (at_path rules history (without_hooks occasion) path).reply.status ≡ 200 → ¬ ((at_path rules history occasion path).reply.status ≡ 200) →
    ¬ ((at_path rules history occasion path).reply.body ≡ Failure InvalidScope) →
    is_denial (told_at occasion.refused verdicts s asked (endpoint_at path)).verdicts ≡ true) (sym denied.goes)
    (by_method s asked hooks answers verdicts last (bytes_eq asked.method (codes "POST")) occasion.refused) denied.granted_without denied.refused denied.not_for_scope)
    some
