-- What the host is asked, once all is known that is looked at before; and what is presented.
use Rattle.std.proofs.Common.{◌≡◌, ℕ, List, Bool, true, false, cond, Option, None, Some, refl, ap, sym, arith}
use Rattle.std.specs.Prelude.{not, codes, bytes_eq, option_map}
use Rattle.answers.specs.Texts.{where_passes}
use Rattle.answers.specs.Tokens.{is_own}
use Rattle.consent.specs.History.{Event, grant_at, is_code}
use Rattle.consent.specs.Seen.{told_as, told_at}
use Rattle.hook_record.specs.declared.Kind.TheVariants as kind
use Rattle.token_endpoint.specs.Names.{AuthorizationCode, RefreshToken, value_sent, proves, Grant, is_spent, has_ended, Parameters, KnownClient, scope_within, Setting, digest_told, code_of_client, refresh_of_client}
use Rattle.token_endpoint.specs.Asks.{code_ask, exchange_ask, refresh_ask, credentials_ask, lineage_of, lineage_presented}
use Rattle.token_endpoint.specs.ClientCredentials.{own_ask}
use Rattle.token_endpoint.specs.Grants.{ask_for}
use Rattle.token_endpoint.specs.Parts.{told_code}

module _ (s : Setting) (params : Parameters) (known : KnownClient) (text digest : List ℕ) where
  module _ (uri verifier : List ℕ) where
    -- a good code is asked for
    pub exchange_asked : (code : Grant) → value_sent (codes "code") params ≡ Some text → value_sent (codes "redirect_uri") params ≡ Some uri →
        value_sent (codes "code_verifier") params ≡ Some verifier → digest_told text ≡ Some digest →
        code_of_client s.history s.moment known.number digest ≡ Some code → is_spent s.history digest s.moment ≡ false →
        has_ended s.history code.family ≡ false → not (bytes_eq uri code.redirect) ≡ false → proves verifier code.challenge ≡ true →
        exchange_ask s params known ≡ Some (ask_for s known kind.Code code.owner code.scope)
    exchange_asked code sent to by told found unspent alive same proven = rw (sent, to, by, told, found, unspent, alive, same, proven) refl

    -- for one that was used before nothing is
    pub spent_asks : (code : Grant) → value_sent (codes "code") params ≡ Some text → value_sent (codes "redirect_uri") params ≡ Some uri →
        value_sent (codes "code_verifier") params ≡ Some verifier → digest_told text ≡ Some digest →
        Some code ≡ told_code s.history s.moment known.number digest → is_spent s.history digest s.moment ≡ true → exchange_ask s params known ≡ None
    spent_asks code sent to by told is spent = rw (sent, to, by, told) (at (code_of_client s.history s.moment known.number digest))
      where
        at : (o : Option Grant) → code_ask s known uri verifier digest o ≡ None
        at None = refl
        at (Some g) = rw spent refl

  pub refresh_asked : (token : Grant) (scope : ℕ) → value_sent (codes "refresh_token") params ≡ Some text → digest_told text ≡ Some digest →
      refresh_of_client s.history s.moment known.number digest ≡ Some token → is_spent s.history digest s.moment ≡ false →
      has_ended s.history token.family ≡ false → scope_within s.rules token.scope params ≡ Some scope →
      refresh_ask s params known ≡ Some (ask_for s known kind.Refresh token.owner scope)
  refresh_asked token scope sent told found unspent alive within = rw (sent, told, found, unspent, alive, within) refl

pub credentials_asked : (s : Setting) (params : Parameters) (known : KnownClient) (scope : ℕ) →
    scope_within s.rules known.client.allowed params ≡ Some scope → credentials_ask s params known ≡ Some (own_ask s known scope)
credentials_asked s params known scope within = rw within refl

-- a code comes from where it came from, whatever is told of its texts
pub same_lineage : (history : List Event) (m client : ℕ) (digest : List ℕ) →
    option_map lineage_of (told_code history m client digest) ≡ option_map lineage_of (code_of_client history m client digest)
same_lineage history m client digest = by (grant_at history digest m)
  where
    own : (g : Grant) (b : Bool) → option_map lineage_of (cond {A = Option Grant} b (Some (told_as (is_spent history digest m) g)) None) ≡ option_map lineage_of (cond {A = Option Grant} b (Some g) None)
    own g true = refl
    own g false = refl

    by : (o : Option Grant) → option_map lineage_of (where_passes (is_own is_code client) (option_map (told_as (is_spent history digest m)) o)) ≡ option_map lineage_of (where_passes (is_own is_code client) o)
    by None = refl
    by (Some g) = own g (is_own is_code client g)

-- what is presented, once its digest is known
module _ (s : Setting) (params : Parameters) (client : ℕ) (text digest : List ℕ) where
  pub code_presented : value_sent (codes "code") params ≡ Some text → digest_told text ≡ Some digest →
      lineage_presented AuthorizationCode s params client ≡ option_map lineage_of (code_of_client s.history s.moment client digest)
  code_presented sent told = rw (sent, told) refl

  pub token_presented : value_sent (codes "refresh_token") params ≡ Some text → digest_told text ≡ Some digest →
      lineage_presented RefreshToken s params client ≡ option_map lineage_of (refresh_of_client s.history s.moment client digest)
  token_presented sent told = rw (sent, told) refl
