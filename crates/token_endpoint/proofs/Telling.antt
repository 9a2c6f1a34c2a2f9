-- What the points come to, once all is known that they ask.
use Rattle.std.proofs.Common.{◌≡◌, ℕ, List, Bool, true, false, cond, Option, None, Some, refl, ap, sym, subst, arith}
use Rattle.std.proofs.lemmas.Option.{same_Some}
use Rattle.answers.specs.Texts.{where_passes}
use Rattle.answers.specs.FoundLaws.{told_whole}
use Rattle.answers.specs.Tokens.{is_own, is_refresh}
use Rattle.consent.specs.History.{Event, grant_at, is_code}
use Rattle.consent.specs.Seen.{told_as, told_at}
use Rattle.consent.specs.declared.grant.Kind.{Kind}
use Rattle.consent.specs.declared.grant.Kind.TheVariants.{Code, Token}
use Rattle.consent.specs.SeenLaws.{told_unspent}
use Rattle.token_endpoint.specs.Names.{value_sent, proves, Grant, consented_scope, is_spent, has_ended, Narrowed, Parameters, KnownClient, scope_within, Setting, digest_told, code_of_client}
use Rattle.token_endpoint.specs.Names.{refresh_of_client}
use Rattle.std.specs.Prelude.{not, codes, bytes_eq, option_map}
use Rattle.hook_record.specs.declared.Kind.TheVariants as kind
use Rattle.token_endpoint.specs.ClientCredentials.{client_credentials, own_ask}
use Rattle.token_endpoint.specs.Exchange.{ends_family, exchange}
use Rattle.token_endpoint.specs.Grants.{ask_for, left_by_host}
use Rattle.token_endpoint.specs.Parts.{exchange_at, exchanged_by, granted_by, refreshed_by, told_code}
use Rattle.token_endpoint.specs.Refresh.{refresh}
use Rattle.token_endpoint.specs.declared.exchange.Presented.{Presented}

-- an owner of 0 consents to nothing
pub own_asked : (s : Setting) (known : KnownClient) (scope : ℕ) → consented_scope s.history 0 known.number ≡ 0 →
    ask_for s known kind.ClientCredentials 0 scope ≡ own_ask s known scope
own_asked s known scope nobody = ap (λ (n : ℕ). record (own_ask s known scope) { consented = n }) nobody

pub own_told : (s : Setting) (params : Parameters) (known : KnownClient) (scope : ℕ) (left : Narrowed) →
    scope_within s.rules known.client.allowed params ≡ Some scope → left ≡ left_by_host s (own_ask s known scope) →
    client_credentials s params known ≡ granted_by s known.number left
own_told s params known scope left within host = rw (within, host) refl

pub code_told : (s : Setting) (known : KnownClient) (sent : Presented) (code : Grant) (left : Narrowed) →
    code_of_client s.history s.moment known.number sent.digest ≡ Some code → is_spent s.history sent.digest s.moment ≡ false →
    has_ended s.history code.family ≡ false → not (bytes_eq sent.uri.now code.redirect) ≡ false →
    proves sent.verifier.now code.challenge ≡ true → left ≡ left_by_host s (ask_for s known kind.Code code.owner code.scope) →
    exchange_at s known sent ≡ exchanged_by s known.client code left
code_told s known sent code left found unspent alive same proven host = rw (found, unspent, alive, same, proven, host) refl

-- the client's code as it was given, by what is told of it
pub code_none : (history : List Event) (m client : ℕ) (digest : List ℕ) → None ≡ told_code history m client digest → code_of_client history m client digest ≡ None
code_none history m client digest is = by (grant_at history digest m) is
  where
    by : (o : Option Grant) → None ≡ where_passes (is_own is_code client) (option_map (told_as (is_spent history digest m)) o) → where_passes (is_own is_code client) o ≡ None
    by None none = refl
    by (Some g) none = grind (arith, none)

pub code_unspent : (history : List Event) (m client : ℕ) (digest : List ℕ) (code : Grant) → Some code ≡ told_code history m client digest →
    is_spent history digest m ≡ false → code_of_client history m client digest ≡ Some code
code_unspent history m client digest code is unspent = by (grant_at history digest m) (rw unspent at is)
  where
    by : (o : Option Grant) → Some code ≡ where_passes (is_own is_code client) (option_map (told_as false) o) → where_passes (is_own is_code client) o ≡ Some code
    by None some = cc
    by (Some g) some = sym (subst (λ x. Some code ≡ where_passes (is_own is_code client) (Some x)) (told_unspent g) some)

-- of the client's refresh token all is told
refresh_no_code : (kind : Kind) → is_refresh kind ≡ true → is_code kind ≡ false
refresh_no_code Code is = cc
refresh_no_code (Token token) is = refl

pub refresh_as_told : (history : List Event) (m client : ℕ) (digest : List ℕ) →
    where_passes (is_own is_refresh client) (told_at history digest m) ≡ refresh_of_client history m client digest
refresh_as_told history m client digest = told_whole is_refresh digest history m client refresh_no_code

-- a code that was used before ends its family, whatever is shown with it
pub spent_ends : (s : Setting) (known : KnownClient) (sent : Presented) (code : Grant) → Some code ≡ told_code s.history s.moment known.number sent.digest →
    is_spent s.history sent.digest s.moment ≡ true → exchange_at s known sent ≡ ends_family code
spent_ends s known sent code is spent = by (grant_at s.history sent.digest s.moment) refl is
  where
    by : (o : Option Grant) → grant_at s.history sent.digest s.moment ≡ o →
        Some code ≡ where_passes (is_own is_code known.number) (option_map (told_as (is_spent s.history sent.digest s.moment)) o) → exchange_at s known sent ≡ ends_family code
    by None at some = cc
    by (Some g) at some = own (is_own is_code known.number g) refl some
      where
        own : (b : Bool) → is_own is_code known.number g ≡ b → Some code ≡ cond {A = Option Grant} b (Some (told_as (is_spent s.history sent.digest s.moment) g)) None → exchange_at s known sent ≡ ends_family code
        own true its same = rw (at, its, spent) (sym (ap ends_family (same_Some code (told_as (is_spent s.history sent.digest s.moment) g) same)))
        own false its same = cc

pub exchange_told : (s : Setting) (params : Parameters) (known : KnownClient) (text : List ℕ) (sent : Presented) →
    value_sent (codes "code") params ≡ Some text → value_sent (codes "redirect_uri") params ≡ Some sent.uri.now →
    value_sent (codes "code_verifier") params ≡ Some sent.verifier.now → digest_told text ≡ Some sent.digest →
    exchange s params known ≡ exchange_at s known sent
exchange_told s params known text sent code uri verifier digest = rw (code, uri, verifier, digest) refl

module _ (s : Setting) (params : Parameters) (known : KnownClient) (text digest : List ℕ) (token : Grant) (scope : ℕ) (left : Narrowed) where
  pub refresh_told : value_sent (codes "refresh_token") params ≡ Some text → digest_told text ≡ Some digest →
      refresh_of_client s.history s.moment known.number digest ≡ Some token → is_spent s.history digest s.moment ≡ false →
      has_ended s.history token.family ≡ false → scope_within s.rules token.scope params ≡ Some scope →
      left ≡ left_by_host s (ask_for s known kind.Refresh token.owner scope) → refresh s params known ≡ refreshed_by s token left
  refresh_told sent told found unspent alive within host = rw (sent, told, found, unspent, alive, within, host) refl
