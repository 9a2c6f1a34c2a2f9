-- What comes of a request may come next and is right, whichever way the request goes.
use Rattle.std.proofs.Common.{◌≡◌, inl, inr, sym, subst, refl, ap, ℕ, List, [], ◌∷◌, Option, true, Some, arith}
use Rattle.endpoints.proofs.Names.{is_some, option_map_or, ClientRecord, client_at, is_taken-parts, IsHistory, is_within, is_within-self, is_within-trans, grant_at, lives_of}
use Rattle.endpoints.proofs.Names.{code_terms-of_code, opener-new, nat_tests, sha256, plain, Setting, KnownClient, Asked, own_ask, is_of_code, allowed_to, MayHave, AllRight}
use Rattle.consent.specs.History.{Change, Event, is_new, next_family}
use Rattle.consent.specs.History.Change.{Consented, HookSet, HookGone}
use Rattle.std.specs.List.{range_with_len}
use Rattle.std.specs.Prelude.{length, map}
use Rattle.endpoints.proofs.Telling.{good}
use Rattle.endpoints.proofs.Sound.{IsFair, IsRightToken, still, withdrawn_fair, access_fair, both_fair, ends_fair, left_within, refresh_no_code, right_may, right_token, scope_is_within}
use Rattle.endpoints.proofs.Ways.{Proven, TokenWay, Refused, Wanting, Again, InVain, Once, Twice, Refreshed, Own, Way, Quiet, ByToken, Turned, Coded, Consents, Revokes, Tells, Installs, Removes, Leaves}
use Rattle.endpoints.proofs.Ways.{IsAt, code_ask, refresh_ask, token_outcome, outcome_by}
use Rattle.answers.specs.declared.endpoint.Endpoint.{Endpoint}
use Rattle.answers.specs.declared.endpoint.Endpoint.TheVariants.{InstallHook, RemoveHook}

-- the next number is new
pub next_new : (history : List Event) (family : ℕ) → next_family history ≡ Some family → is_new history family ≡ true
next_new history family next = grind (arith, nat_tests, next)

-- the change is not of the hooks
abbrev pub IsUnhooked : Change → Type 0
IsUnhooked (HookSet name version code) = ⊥
IsUnhooked (HookGone name) = ⊥
IsUnhooked _ = Unit {0}

abbrev pub AllUnhooked : List Change → Type 0
AllUnhooked [] = Unit {0}
AllUnhooked (c ∷ cs) = IsUnhooked c × AllUnhooked cs

module _ (s : Setting) (is : IsHistory s.history s.moment) (all : AllRight s.rules [] s.history) (asked : Asked) where
  may : (known : KnownClient) (scope : ℕ) → client_at known.number s.rules.clients ≡ Some known.client → is_within scope known.client.allowed ≡ true →
      MayHave s.rules known.number scope
  may known scope at within =
      let allowed : allowed_to s.rules known.number ≡ known.client.allowed = ap (λ (o : Option ClientRecord). option_map_or (λ c. c.allowed) o 0) at in
      record { is_client = ap is_some at; within = rw allowed within }

  of_code : (x : Proven s asked) → IsRightToken s.rules s.history x.code.grant
  of_code x =
      let g = x.code.grant in (
        right_may s.rules s.history x.code.digest s.moment g all x.code.named,
        inr (g.scope, code_terms-of_code s.history x.code.digest s.moment s.moment g is x.code.named x.code.kind_is, is_within-self g.scope),
      )

  pub token_fair : (way : TokenWay s asked) → IsFair s (token_outcome way)
  token_fair (Refused error) = still s _
  token_fair Wanting = still s _
  token_fair (Again type name test x spent) = ends_fair s is x.digest x.grant x.named
  token_fair (InVain x error) = record { follow = (tt, tt); right = (tt, tt) }
  token_fair (Once x left e free) =
      let less = left_within s (code_ask x) left.scope left.life e in
      access_fair s is x.code.digest x.code.grant x.code.named left (of_code x) x.alive less.0 less.1 free
  token_fair (Twice x left e free) =
      let less = left_within s (code_ask x) left.scope left.life e in
      both_fair s is x.code.digest x.code.grant x.code.named left left.scope (of_code x) x.alive less.0 less.0 less.1 free
  token_fair (Refreshed x left e free) =
      let g = x.token.grant in
      let less = left_within s (refresh_ask x) left.scope left.life e in
      let right = right_token s.rules s.history x.token.digest s.moment g all x.token.named (refresh_no_code g.kind x.token.kind_is) in
      let within = is_within-trans left.scope x.scope g.scope less.0 (scope_is_within s.rules g.scope x.token.sender.params x.scope x.asks) in
      both_fair s is x.token.digest g x.token.named left g.scope right x.alive within (is_within-self g.scope) less.1 free
  token_fair (Own sender typed scope left family new e free) =
      let known = sender.known in
      let less = left_within s (own_ask s known scope) left.scope left.life e in
      let own = inl (record { no_owner = refl; no_code = ap is_of_code (opener-new s.history family (next_new s.history family new)) }) in
      record {
        follow = ((let is_it = next_new s.history family new in grind (arith, is_it), (is_taken-parts s.history s.moment (sha256 s.draws.first) [] free.0).0), tt);
        right = ((may known left.scope sender.known_is (is_within-trans left.scope scope known.client.allowed less.0 (scope_is_within s.rules known.client.allowed sender.params scope free.1)), less.1, own), tt);
      }

  pub way_fair : (way : Way s asked) → IsFair s (outcome_by way)
  way_fair (Quiet status body moves active) = still s (plain status body)
  way_fair (ByToken way) = token_fair way
  way_fair (Turned x error) = still s _
  way_fair (Coded x code family new key of) =
      let names = x.names in
      let at : client_at x.known.number s.rules.clients ≡ Some x.known.client = grind (arith, names) in
      record {
        follow = ((next_new s.history family new, (is_taken-parts s.history s.moment (sha256 s.draws.first) [] of.4).0), tt);
        right = ((subst (λ n. MayHave s.rules n code.scope) (sym of.0) (may x.known code.scope at of.2), of.3), tt);
      }
  way_fair (Consents owner client mask key) = record { follow = (tt, tt); right = (tt, tt) }
  way_fair (Revokes x own) =
      let named = good s.history x.digest s.moment (grant_at s.history x.digest s.moment) x.token x.live in
      record { follow = (lives_of s.history x.digest s.moment x.token named, tt); right = (tt, tt) }
  way_fair (Tells x) = still s _
  way_fair (Installs name version code operator) = record { follow = (tt, tt); right = (tt, tt) }
  way_fair (Removes name operator) = record { follow = (tt, tt); right = (tt, tt) }
  way_fair (Leaves owner params form named operator) = withdrawn_fair s owner

-- the hooks are not changed at it
abbrev pub IsHookless : Endpoint → Type 0
IsHookless InstallHook = ⊥
IsHookless RemoveHook = ⊥
IsHookless endpoint = Unit {0}

withdrawn_unhooked : (owner : ℕ) (clients : List ℕ) → AllUnhooked (map (λ client. Consented owner client 0) clients)
withdrawn_unhooked owner [] = tt
withdrawn_unhooked owner (client ∷ clients) = (tt, withdrawn_unhooked owner clients)

-- and changes no hook, unless it is at an endpoint for that
pub way_unhooked : (s : Setting) (asked : Asked) (way : Way s asked) → IsAt IsHookless way → AllUnhooked (outcome_by way).changes
way_unhooked s asked (Leaves owner params form named operator) free = withdrawn_unhooked owner (range_with_len 1 (length s.rules.clients))
way_unhooked s asked way free = grind (arith, free)
