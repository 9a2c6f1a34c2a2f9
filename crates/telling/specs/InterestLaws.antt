-- It is enough to look for a denial where a request for tokens is refused.
use Rattle.std.proofs.Common.{◌≡◌, ℕ, List, [], ◌∷◌, Bool, true, false, cond, Option, Some, None, refl, ap, sym, ◌∙◌}
use Rattle.std.specs.Prelude.{◌&&◌, is_some, Result, Ok, Err}
use Rattle.std.specs.Result.{result_ok}
use Rattle.answers.specs.Outcomes.{Outcome, need, refuse, unavailable}
use Rattle.answers.specs.Requesters.{KnownClient, Parameters, form_of, known_client, with_client, with_credentials}
use Rattle.answers.specs.Setting.{Setting}
use Rattle.answers.specs.declared.endpoint.Endpoint.{Endpoint}
use Rattle.answers.specs.declared.endpoint.Endpoint.TheVariants.{Authorize, GiveConsent, IssueToken, RevokeToken, Introspect, InstallHook, RemoveHook, EndOwner, Read}
use Rattle.authentication.specs.Authentication.{authenticated}
use Rattle.authentication.specs.declared.authentication.AuthFault.{AuthFault}
use Rattle.hook_host.specs.Verdicts.{Verdict, last_left}
use Rattle.hook_record.specs.declared.Ask.{Ask}
use Rattle.hook_record.specs.declared.Narrowed.{Narrowed}
use Rattle.hook_record.specs.declared.Narrowed.TheVariants.{Allowed, Denied, EmptyScope}
use Rattle.messages.specs.Asked.{Asked}
use Rattle.messages.specs.declared.error.ErrorName.TheVariants.{InvalidRequest}
use Rattle.token_endpoint.specs.Asks.{IsRefusal, given, token_ask}
use Rattle.token_endpoint.specs.DenialLaws.{denied_refused}
use Rattle.token_endpoint.specs.Grants.{left_by_host}
use Rattle.token_endpoint.specs.Parts.{token_points}
use Rattle.token_endpoint.specs.TokenPath.{issue_token}
use Rattle.hook_host.specs.Decisions.{met_with}
use Rattle.telling.specs.Interests.{denies, is_denial, wanted_of}
use Rattle.telling.specs.Sought.{asks_for_tokens, told_sought, upshot_of}
use Rattle.telling.specs.Telling.{client_at_endpoint, error_in, grant_at_endpoint, params_at, shown_for, shown_in, shown_of, told_of, verdicts_on}
use Rattle.telling.specs.declared.interest.Interest.{Interest}
use Rattle.telling.specs.declared.interest.Interest.TheVariants.{Nothing, Denials, Everything}
use Rattle.telling.specs.declared.told.Told.{Told}

denied_so : (left : Narrowed) → denies left ≡ true → left ≡ Denied
denied_so Denied is = refl
denied_so EmptyScope is = absurd (cc)
denied_so (Allowed scope life) is = absurd (cc)

-- where the last hook denied, the host does
last_denied : (s : Setting) (ask : Ask) (verdicts : List Verdict) → last_left (Allowed ask.scope ask.life) verdicts ≡ s.host.answer ask →
    is_denial verdicts ≡ true → left_by_host s ask ≡ Denied
last_denied s ask [] answers denied = absurd (cc)
last_denied s ask (verdict ∷ later) answers denied =
    ap (met_with ask) (sym answers ∙ denied_so (last_left verdict.left later) denied)

-- nobody was asked
unasked : is_denial [] ≡ true → ⊥
unasked denied = absurd (cc)

-- a refusal names an error
names_error : (o : Outcome) → IsRefusal o → is_some (error_in o.reply) ≡ true
names_error o refusal = ap (λ reply. is_some (error_in reply)) refusal.1

-- the host answers what its last hook left
abbrev pub AreAnswered : (Ask → List Verdict) → Setting → Type 0
AreAnswered verdicts s = (ask : Ask) → last_left (Allowed ask.scope ask.life) (verdicts ask) ≡ s.host.answer ask

module _ (verdicts : Ask → List Verdict) (s : Setting) (asked : Asked) where
  -- FOR TOKENS

  module _ (answered : AreAnswered verdicts s) where
    -- it is refused where a hook denied
    abbrev Refuses : List Verdict → Outcome → Type 0
    Refuses told o = is_denial told ≡ true → IsRefusal o

    by_ask : (params : Parameters) (known : KnownClient) (o : Option Ask) → token_ask s params known ≡ o →
        Refuses (verdicts_on verdicts o) (token_points s params known)
    by_ask params known None is denied = absurd (unasked denied)
    by_ask params known (Some ask) is denied = denied_refused s params known ask is (last_denied s ask (verdicts ask) (answered ask) denied)

    by_known : (params : Parameters) (o : Option KnownClient) →
        Refuses (shown_for verdicts s IssueToken params o).verdicts (need o unavailable (token_points s params))
    by_known params None denied = absurd (unasked denied)
    by_known params (Some known) denied = by_ask params known (token_ask s params known) refl denied

    by_client : (params : Parameters) (r : Result ℕ AuthFault) →
        Refuses (shown_for verdicts s IssueToken params (given (result_ok r) (known_client s.rules))).verdicts (with_client s.rules r (token_points s params))
    by_client params (Ok number) denied = by_known params (known_client s.rules number) denied
    by_client params (Err fault) denied = absurd (unasked denied)

    by_form : (o : Option Parameters) →
        Refuses (shown_in verdicts s IssueToken asked o).verdicts
        (need o (refuse InvalidRequest) (λ params. with_credentials s.rules asked params (token_points s params)))
    by_form None denied = absurd (unasked denied)
    by_form (Some params) denied = by_client params (authenticated s.rules.clients asked.authorization params) denied

    pub denied_by_hook : Refuses (shown_of verdicts s IssueToken asked).verdicts (issue_token s asked)
    denied_by_hook = by_form (form_of asked)

  -- ELSEWHERE no host is asked

  module _ (endpoint : Endpoint) (without : (params : Parameters) (known : KnownClient) → grant_at_endpoint endpoint params known ≡ None) where
    none_for : (params : Parameters) (o : Option KnownClient) → (shown_for verdicts s endpoint params o).verdicts ≡ []
    none_for params None = refl
    none_for params (Some known) = rw (without params known) refl

    none_in : (o : Option Parameters) → (shown_in verdicts s endpoint asked o).verdicts ≡ []
    none_in None = refl
    none_in (Some params) = none_for params (client_at_endpoint endpoint s.rules asked params)

    elsewhere : is_denial (shown_of verdicts s endpoint asked).verdicts ≡ true → ⊥
    elsewhere denied = unasked (sym (ap is_denial (none_in (params_at endpoint asked))) ∙ denied)

  -- ALL TOGETHER: a denial is sought

  module _ (answered : AreAnswered verdicts s) (o : Outcome) where
    abbrev Seeks : Endpoint → Type 0
    Seeks endpoint =
        (endpoint ≡ IssueToken → o ≡ issue_token s asked) → is_denial (shown_of verdicts s endpoint asked).verdicts ≡ true →
        asks_for_tokens endpoint && is_some (error_in o.reply) ≡ true

    seeks : (endpoint : Endpoint) → Seeks endpoint
    seeks IssueToken is denied = rw (is refl) (names_error (issue_token s asked) (denied_by_hook answered denied))
    seeks Authorize is denied = absurd (elsewhere Authorize (λ params known. refl) denied)
    seeks GiveConsent is denied = absurd (elsewhere GiveConsent (λ params known. refl) denied)
    seeks RevokeToken is denied = absurd (elsewhere RevokeToken (λ params known. refl) denied)
    seeks Introspect is denied = absurd (elsewhere Introspect (λ params known. refl) denied)
    seeks InstallHook is denied = absurd (elsewhere InstallHook (λ params known. refl) denied)
    seeks RemoveHook is denied = absurd (elsewhere RemoveHook (λ params known. refl) denied)
    seeks EndOwner is denied = absurd (elsewhere EndOwner (λ params known. refl) denied)
    seeks (Read document) is denied = absurd (elsewhere (Read document) (λ params known. refl) denied)

sought_so : (sought denied : Bool) (told : Told) → (denied ≡ true → sought ≡ true) →
    cond sought (cond denied (Some told) None) None ≡ cond denied (Some told) None
sought_so true denied told is = refl
sought_so false false told is = refl
sought_so false true told is = absurd (wrong (is refl))
  where
    wrong : false ≡ true → ⊥
    wrong e = absurd (cc)

-- Nothing that is wanted is missed, where the host answers what its last hook left.
pub sought_is_wanted : (interest : Interest) (verdicts : Ask → List Verdict) (s : Setting) (endpoint : Endpoint) (asked : Asked) (o : Outcome) →
    AreAnswered verdicts s → (endpoint ≡ IssueToken → o ≡ issue_token s asked) →
    told_sought interest s.moment endpoint (shown_of verdicts s endpoint asked) (upshot_of o) ≡ wanted_of interest (told_of verdicts s endpoint asked o)
sought_is_wanted Nothing verdicts s endpoint asked o answered is = refl
sought_is_wanted Everything verdicts s endpoint asked o answered is = refl
sought_is_wanted Denials verdicts s endpoint asked o answered is =
    sought_so (asks_for_tokens endpoint && is_some (error_in o.reply)) (is_denial (shown_of verdicts s endpoint asked).verdicts)
    (told_of verdicts s endpoint asked o) (seeks verdicts s asked answered o endpoint is)
