-- What is told of a request that was answered: read from the setting, from what was asked, and from what came of it. Nothing
-- is decided here.
use Rattle.std.specs.Prelude.{◌==◌, ℕ, List, [], ◌∷◌, Bool, not, Option, Some, None, option_map, option_and_then, codes, bytes_eq, find, if◌then◌else◌}
use Rattle.std.specs.Option.{option_or}
use Rattle.std.specs.Result.{result_ok}
use Rattle.answers.specs.Replies.{reply_of}
use Rattle.answers.specs.declared.answer.Answer.{Answer}
use Rattle.answers.specs.declared.endpoint.Endpoint.{Endpoint}
use Rattle.answers.specs.declared.endpoint.Endpoint.TheVariants as endpoint
use Rattle.answers.specs.Outcomes.{Outcome}
use Rattle.answers.specs.Requesters.{Parameters, KnownClient, known_client, client_named, owner_of_key, form_of}
use Rattle.answers.specs.Setting.{Setting}
use Rattle.answers.specs.Live.{live_of}
use Rattle.answers.specs.Texts.{digest_told, where_passes}
use Rattle.authentication.specs.Authentication.{authenticated}
use Rattle.clients.specs.RegistryRecord.{RegistryRecord}
use Rattle.clients.specs.declared.grant.GrantType.{GrantType}
use Rattle.consent.specs.History.{Change, Grant}
use Rattle.consent.specs.History.Change.{Consented, CodeGiven, Issued, FamilyEnded}
use Rattle.consent.specs.Changes.{as_list, changes_of}
use Rattle.consent.specs.Owners.{owner_numbered}
use Rattle.consent.specs.declared.change.Changes.{Changes}
use Rattle.hook_record.specs.declared.Ask.{Ask}
use Rattle.hook_host.specs.Verdicts.{Verdict}
use Rattle.messages.specs.Asked.{Asked}
use Rattle.messages.specs.Reply.{Body, Redirection, Reply}
use Rattle.messages.specs.Reply.Body.{Failure}
use Rattle.messages.specs.Target.{query_of}
use Rattle.messages.specs.Written.{error_text}
use Rattle.messages.specs.declared.error.ErrorName.{ErrorName}
use Rattle.messages.specs.declared.error.ErrorName.TheVariants.{InvalidRequest, InvalidClient, InvalidGrant, InvalidScope, UnauthorizedClient, UnsupportedGrantType, UnsupportedResponseType, AccessDenied}
use Rattle.params.specs.Form.{read_params, value_sent}
use Rattle.token_endpoint.specs.Asks.{given, ask_by_grant, grant_asked, Lineage, lineage_of, lineage_presented}
use Rattle.telling.specs.declared.came.Came.{Came}
use Rattle.telling.specs.declared.changed.Changed.{Changed}
use Rattle.telling.specs.declared.told.Told.{Told}

-- THE ERROR OF A REPLY

abbrev pub all_errors : List ErrorName
all_errors =
    InvalidRequest ∷ InvalidClient ∷ InvalidGrant ∷ InvalidScope ∷ UnauthorizedClient ∷ UnsupportedGrantType ∷ UnsupportedResponseType
    ∷ AccessDenied ∷ []

-- the error of a text
abbrev pub error_named : List ℕ → Option ErrorName
error_named text = find (λ error. bytes_eq text (error_text error)) all_errors

-- that of a body
abbrev pub error_told : Body → Option ErrorName
error_told (Failure error) = Some error
error_told _ = None

-- that of the first pair that a user agent is sent back with
abbrev pub error_in_pairs : List (List ℕ × List ℕ) → Option ErrorName
error_in_pairs [] = None
error_in_pairs (pair ∷ pairs) = if bytes_eq pair.0 (codes "error") then error_named pair.1 else None

abbrev pub error_in : Reply → Option ErrorName
error_in reply = option_or (error_told reply.body) (given reply.location (λ sent. error_in_pairs sent.pairs))

-- what is told of a reply: its status, and the error that it names
abbrev pub came_of : Reply → Came
came_of reply = record { status = reply.status; error = error_in reply }

-- WHAT HAPPENED

-- the first of some changes that tells it
abbrev pub first_told : (Change → Option ℕ) → List Change → Option ℕ
first_told tells [] = None
first_told tells (change ∷ changes) = option_or (tells change) (first_told tells changes)

-- the family that a change opens, goes on with or ends
abbrev pub family_in : Change → Option ℕ
family_in (CodeGiven family code digest) = Some family
family_in (Issued family parties token) = Some family
family_in (FamilyEnded family) = Some family
family_in _ = None

-- the owner whose grant or consent it is
abbrev pub owner_in : Change → Option ℕ
owner_in (CodeGiven family code digest) = Some code.owner
owner_in (Issued family parties token) = owner_numbered parties.owner
owner_in (Consented owner client mask) = Some owner
owner_in _ = None

-- the scope that is given or consented to
abbrev pub scope_in : Change → Option ℕ
scope_in (CodeGiven family code digest) = Some code.scope
scope_in (Issued family parties token) = Some token.scope
scope_in (Consented owner client mask) = Some mask
scope_in _ = None

-- the life of a token
abbrev pub life_in : Change → Option ℕ
life_in (Issued family parties token) = Some token.life
life_in _ = None

-- what changes tell: the first of them that tells it
abbrev pub what_changed : List Change → Changed
what_changed changes = record {
  family = first_told family_in changes;
  owner = first_told owner_in changes;
  scope = first_told scope_in changes;
  life = first_told life_in changes;
}

-- WHAT WAS ASKED

-- the parameters, where the endpoint has some that tell who asks
abbrev pub params_at : Endpoint → Asked → Option Parameters
params_at endpoint.Authorize asked = result_ok (read_params (query_of asked.target))
params_at endpoint.GiveConsent asked = form_of asked
params_at endpoint.IssueToken asked = form_of asked
params_at endpoint.RevokeToken asked = form_of asked
params_at endpoint.Introspect asked = form_of asked
params_at endpoint.InstallHook asked = None
params_at endpoint.RemoveHook asked = None
params_at endpoint.EndOwner asked = None
params_at (endpoint.Read document) asked = None

-- the client that is authenticated
abbrev pub client_shown : RegistryRecord → Asked → Parameters → Option KnownClient
client_shown rules asked params =
    given (result_ok (authenticated rules.clients asked.authorization params)) (known_client rules)

-- the client that asks, or the one that is asked for
abbrev pub client_at_endpoint : Endpoint → RegistryRecord → Asked → Parameters → Option KnownClient
client_at_endpoint endpoint.Authorize rules asked params = client_named rules params
client_at_endpoint endpoint.GiveConsent rules asked params = client_named rules params
client_at_endpoint endpoint.IssueToken rules asked params = client_shown rules asked params
client_at_endpoint endpoint.RevokeToken rules asked params = client_shown rules asked params
client_at_endpoint endpoint.Introspect rules asked params = client_shown rules asked params
client_at_endpoint _ rules asked params = None

-- the owner who asks
abbrev pub owner_asking : RegistryRecord → Endpoint → Asked → Option ℕ
owner_asking rules endpoint.Authorize asked = owner_of_key rules asked
owner_asking rules endpoint.GiveConsent asked = owner_of_key rules asked
owner_asking rules _ asked = None

-- the client's own live token that it wants revoked
abbrev pub revoked_lineage : Setting → Parameters → ℕ → Option Lineage
revoked_lineage setting params client =
    given (value_sent (codes "token") params) (λ text.
    option_map lineage_of (where_passes (λ g. g.client == client) (live_of setting.history setting.moment (digest_told text))))

-- where what is presented comes from, by the grant type at /token
abbrev pub lineage_at : Endpoint → Setting → Option GrantType → Parameters → ℕ → Option Lineage
lineage_at endpoint.IssueToken setting grant params client = given grant (λ grant. lineage_presented grant setting params client)
lineage_at endpoint.RevokeToken setting grant params client = revoked_lineage setting params client
lineage_at _ setting grant params client = None

-- the grant type that the client asks for at /token
abbrev pub grant_at_endpoint : Endpoint → Parameters → KnownClient → Option GrantType
grant_at_endpoint endpoint.IssueToken params known = grant_asked params known.client
grant_at_endpoint _ params known = None

-- what a request shows by itself: the client, the grant type, where what it presents comes from, the owner who asks, what the
-- host is asked, and what each hook leaves of that
pub record Shown : Type 0 where
  pub client : Option ℕ
  pub grant : Option GrantType
  pub lineage : Option Lineage
  pub owner : Option ℕ
  pub ask : Option Ask
  pub verdicts : List Verdict

-- what the host is asked, by the grant type
abbrev pub ask_shown : Setting → Option GrantType → Parameters → KnownClient → Option Ask
ask_shown setting grant params known = given grant (λ grant. ask_by_grant grant setting params known)

-- what each hook leaves of what is asked
abbrev pub verdicts_on : (Ask → List Verdict) → Option Ask → List Verdict
verdicts_on verdicts None = []
verdicts_on verdicts (Some ask) = verdicts ask

-- a request of which neither a client nor an owner is known
abbrev pub nobody_shown : Shown
nobody_shown = record { client = None; grant = None; lineage = None; owner = None; ask = None; verdicts = [] }

-- of the client
abbrev pub shown_by : (Ask → List Verdict) → Setting → Endpoint → Parameters → KnownClient → Shown
shown_by verdicts setting endpoint params known =
    let grant = grant_at_endpoint endpoint params known in
    let ask = ask_shown setting grant params known in
    record {
      client = Some known.number;
      grant = grant;
      lineage = lineage_at endpoint setting grant params known.number;
      owner = None;
      ask = ask;
      verdicts = verdicts_on verdicts ask;
    }

-- of whatever client there is
abbrev pub shown_for : (Ask → List Verdict) → Setting → Endpoint → Parameters → Option KnownClient → Shown
shown_for verdicts setting endpoint params None = nobody_shown
shown_for verdicts setting endpoint params (Some known) = shown_by verdicts setting endpoint params known

-- by the parameters, if there are some
abbrev pub shown_in : (Ask → List Verdict) → Setting → Endpoint → Asked → Option Parameters → Shown
shown_in verdicts setting endpoint asked None = nobody_shown
shown_in verdicts setting endpoint asked (Some params) =
    shown_for verdicts setting endpoint params (client_at_endpoint endpoint setting.rules asked params)

-- but for the owner who asks
abbrev pub shown_alone : (Ask → List Verdict) → Setting → Endpoint → Asked → Shown
shown_alone verdicts setting endpoint asked = shown_in verdicts setting endpoint asked (params_at endpoint asked)

abbrev pub shown_of : (Ask → List Verdict) → Setting → Endpoint → Asked → Shown
shown_of verdicts setting endpoint asked =
    record (shown_alone verdicts setting endpoint asked) { owner = owner_asking setting.rules endpoint asked }

-- WHAT IS TOLD

-- nothing but where it came and the status
abbrev pub bare_told : ℕ → Option Endpoint → ℕ → Told
bare_told moment endpoint status = record {
  moment = moment;
  endpoint = endpoint;
  status = status;
  error = None;
  client = None;
  owner = None;
  grant = None;
  family = None;
  scope = None;
  life = None;
  ask = None;
  verdicts = [];
}

-- the owner where there is one: of what is presented, or who asks
abbrev pub owner_shown : Option Lineage → Option ℕ → Option ℕ
owner_shown lineage asking = option_or (given lineage (λ lineage. owner_numbered lineage.owner)) asking

-- the family of what is presented
abbrev pub family_shown : Option Lineage → Option ℕ
family_shown lineage = option_map (λ lineage. lineage.family) lineage

-- What happened tells first, and else what the request shows.
abbrev pub told_with : ℕ → Endpoint → Shown → Came → Changed → Told
told_with moment endpoint shown came happened = record {
  moment = moment;
  endpoint = Some endpoint;
  status = came.status;
  error = came.error;
  client = shown.client;
  owner = option_or happened.owner (owner_shown shown.lineage shown.owner);
  grant = shown.grant;
  family = option_or happened.family (family_shown shown.lineage);
  scope = happened.scope;
  life = happened.life;
  ask = shown.ask;
  verdicts = shown.verdicts;
}

-- by the outcome
abbrev pub told_by : ℕ → Endpoint → Shown → Outcome → Told
told_by moment endpoint shown outcome = told_with moment endpoint shown (came_of outcome.reply) (what_changed outcome.changes)

-- of a request at an endpoint, by what came of it
abbrev pub told_of : (Ask → List Verdict) → Setting → Endpoint → Asked → Outcome → Told
told_of verdicts setting endpoint asked outcome =
    told_by setting.moment endpoint (shown_of verdicts setting endpoint asked) outcome

-- the outcome of an answer and its changes, under the rules, where the host's hooks have these names
abbrev pub outcome_so : RegistryRecord → List (List ℕ) → Answer → Changes → Outcome
outcome_so rules names answer changes = record { reply = reply_of rules names answer; changes = changes_of (as_list changes) }
