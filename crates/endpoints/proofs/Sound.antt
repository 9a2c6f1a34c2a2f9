-- What comes of codes and tokens may come next and is right.
use Rattle.std.proofs.Common.{◌≡◌, ◌≤◌, ℕ, List, [], ◌∷◌, ◌++◌, true, false, Some, None, bit_and, refl, sym, ap, ◌∙◌, arith, subst, inl, inr}
use Rattle.endpoints.proofs.Names.{eq-eqb, false≢true, same_Some, sha256, RegistryRecord, is_within-trans, code_terms-keep, has_ended-push_other}
use Rattle.endpoints.proofs.Names.{Event, Grant, event_at, grant_by, grant_at, is_code, is_within, code_terms, has_ended, grant_at-given, Kind, Allowed, Reply, Extent}
use Rattle.endpoints.proofs.Names.{Outcome, only, Parameters, scope_within, Setting, is_refresh, ends_family, access_issued, both_digests, owner_ended}
use Rattle.endpoints.proofs.Names.{all_right-at, AllFollowAt, IsHistory, CanFollow, with_change, is_taken, is_taken-parts, home_of, lives_of, left_by_host, new_token, AllRight}
use Rattle.endpoints.proofs.Names.{AllRightAfter, IsRightChange, IsOfCode, IsOwn, MayHave, allowed_to, own-later}
use Rattle.std.specs.List.{range_with_len}
use Rattle.std.specs.Prelude.{◌⊎◌, find, length, map}
use Rattle.consent.specs.History.{Change}
use Rattle.consent.specs.History.Change.{Consented, CodeGiven, Issued, Spent}
use Rattle.consent.specs.Changes.{issued_with}
use Rattle.consent.specs.declared.change.NewToken.{NewToken}
use Rattle.consent.specs.GrowthLaws.{grant_at-keep, is_taken-push}
use Rattle.token_endpoint.specs.Grants.{refresh_issued}
use Rattle.consent.specs.declared.grant.TokenKind.TheVariants.{Access, Refresh}
use Rattle.hook_record.specs.declared.Ask.{Ask}
use Rattle.hook_host.specs.DecisionLaws.{met_with_narrows}
use Rattle.consent.specs.History.{Terms, grants, is_code_of, terms_of}
use Rattle.consent.specs.HistoryLaws.{found-given}
use Rattle.endpoints.proofs.Walking.{option_map_some}
use Rattle.endpoints.proofs.Ways.{both_issued, one_issued}

-- the changes may come next, and each is right
pub record IsFair (s : Setting) (o : Outcome) : Type 0 where
  pub follow : AllFollowAt s.history s.moment o.changes
  pub right : AllRightAfter s.rules s.history s.moment o.changes

-- a client that may have a scope may have less
pub may_have-less : (rules : RegistryRecord) (client scope less : ℕ) → MayHave rules client scope → is_within less scope ≡ true → MayHave rules client less
may_have-less rules client scope less may within =
    record { is_client = may.is_client; within = is_within-trans less scope (allowed_to rules client) within may.within }

may_by : (rules : RegistryRecord) (before : List Event) (moment : ℕ) (c : Change) (g : Grant) →
    grant_by moment c ≡ Some g → IsRightChange rules before c → MayHave rules g.client g.scope
may_by rules before moment (CodeGiven family facts digest) g at right =
    subst (λ (x : Grant). MayHave rules x.client x.scope) (same_Some _ g at) right.0
may_by rules before moment (Issued family parties token) g at right =
    subst (λ (x : Grant). MayHave rules x.client x.scope) (same_Some _ g at) right.0
may_by rules before moment _ g at right = cc

-- what is named is of a client that may have its scope
pub right_may : (rules : RegistryRecord) (history : List Event) (digest : List ℕ) (m : ℕ) (g : Grant) → AllRight rules [] history →
    grant_at history digest m ≡ Some g → MayHave rules g.client g.scope
right_may rules history digest m g all at =
    let given = grant_at-given history digest m g at in
    let right = all_right-at rules [] given.before given.later given.event (subst (λ h. AllRight rules [] h) given.whole all) in
    may_by rules given.before given.event.moment given.event.change g given.gives_it right

-- and so is the code of a family
pub right_terms : (rules : RegistryRecord) (history : List Event) (family : ℕ) (terms : Terms) → AllRight rules [] history →
    code_terms history family ≡ Some terms → MayHave rules terms.client terms.scope
right_terms rules history family terms all at =
    option_map_some {P = MayHave rules terms.client terms.scope} terms_of (find (is_code_of family) (grants history)) terms at (λ g found same.
    let given = found-given (is_code_of family) history g found in
    let right = all_right-at rules [] given.before given.later given.event (subst (λ h. AllRight rules [] h) given.whole all) in
    subst (λ (x : Terms). MayHave rules x.client x.scope) same (may_by rules given.before given.event.moment given.event.change g given.gives_it right))

-- it is a client's own, or comes of a code
abbrev pub Comes : List Event → Grant → Type 0
Comes history g =
    IsOwn history g.family g.owner
    ⊎ ((of : ℕ) × (code_terms history g.family ≡ Some (record { client = g.client; owner = g.owner; scope = of })) × (is_within g.scope of ≡ true))

-- a token keeps to what its client may be allowed, and to its code's scope
abbrev pub IsRightToken : RegistryRecord → List Event → Grant → Type 0
IsRightToken rules history g = MayHave rules g.client g.scope × Comes history g

right_change : (rules : RegistryRecord) (before later : List Event) (e : Event) (moment : ℕ) (c : Change) (g : Grant) →
    e.change ≡ c → grant_by moment c ≡ Some g → IsRightChange rules before c → is_code g.kind ≡ false → IsRightToken rules (before ++ e ∷ later) g
right_change rules before later e moment (CodeGiven family code digest) g is at right token =
    let same = same_Some _ g at in absurd (false≢true (sym token ∙ sym (ap (λ (x : Grant). is_code x.kind) same)))
right_change rules before later e moment (Issued family parties new) g is at right token =
    let same = same_Some _ g at in
    subst (λ (x : Grant). IsRightToken rules (before ++ e ∷ later) x) same (
      right.0,
      elim right.2 [
        | inl own ↦ inl (own-later before later e family parties new is own)
        | inr of ↦ inr (of.0, code_terms-keep before (e ∷ later) family _ of.1, of.2)
      ],
    )
right_change rules before later e moment _ g is at right token = cc

pub right_token : (rules : RegistryRecord) (history : List Event) (digest : List ℕ) (m : ℕ) (g : Grant) → AllRight rules [] history →
    grant_at history digest m ≡ Some g → is_code g.kind ≡ false → IsRightToken rules history g
right_token rules history digest m g all at token =
    let given = grant_at-given history digest m g at in
    let right = all_right-at rules [] given.before given.later given.event (subst (λ h. AllRight rules [] h) given.whole all) in
    subst (λ h. IsRightToken rules h g) (sym given.whole)
    (right_change rules given.before given.later given.event given.event.moment given.event.change g refl given.gives_it right token)

pub refresh_no_code : (k : Kind) → is_refresh k ≡ true → is_code k ≡ false
refresh_no_code k h = grind (arith, h)

-- the scope that is asked for is within the limit
pub scope_is_within : (rules : RegistryRecord) (limit : ℕ) (params : Parameters) (scope : ℕ) → scope_within rules limit params ≡ Some scope → is_within scope limit ≡ true
scope_is_within rules limit params scope is = grind (arith, is)

module _ (s : Setting) where
  -- nothing happens
  pub still : (reply : Reply) → IsFair s (only reply)
  still reply = record { follow = tt; right = tt }

  -- an owner withdraws its consent from some clients
  withdrawn_follow : (history : List Event) (owner : ℕ) (clients : List ℕ) →
      AllFollowAt history s.moment (map (λ client. Consented owner client 0) clients)
  withdrawn_follow history owner [] = tt
  withdrawn_follow history owner (client ∷ clients) =
      (tt, withdrawn_follow (with_change history s.moment (Consented owner client 0)) owner clients)

  withdrawn_right : (history : List Event) (owner : ℕ) (clients : List ℕ) →
      AllRightAfter s.rules history s.moment (map (λ client. Consented owner client 0) clients)
  withdrawn_right history owner [] = tt
  withdrawn_right history owner (client ∷ clients) =
      (tt, withdrawn_right (with_change history s.moment (Consented owner client 0)) owner clients)

  pub withdrawn_fair : (owner : ℕ) → IsFair s (owner_ended s owner)
  withdrawn_fair owner =
      let clients = range_with_len 1 (length s.rules.clients) in
      record { follow = withdrawn_follow s.history owner clients; right = withdrawn_right s.history owner clients }

  -- what a host leaves is within what it was asked
  pub left_within : (ask : Ask) (scope life : ℕ) → left_by_host s ask ≡ Allowed scope life → (is_within scope ask.scope ≡ true) × (life ≤ ask.life)
  left_within ask scope life e =
      let narrow = met_with_narrows ask (s.host.answer ask) scope life e in (eq-eqb (bit_and scope ask.scope) scope narrow.within, narrow.no_longer)

  first : (g : Grant) (less : ℕ) → has_ended s.history g.family ≡ false → is_within less g.scope ≡ true → Comes s.history g →
      IsOwn s.history g.family g.owner ⊎ IsOfCode s.history g.family g.client g.owner less
  first g less alive within (inl own) = inl own
  first g less alive within (inr of) = inr (of.0, of.1, is_within-trans less g.scope of.0 within of.2, alive)

  second : (g : Grant) (left : Extent) (kept : ℕ) → has_ended s.history g.family ≡ false → is_within kept g.scope ≡ true → Comes s.history g →
      IsOwn (s.history ++ event_at s.moment (access_issued g s.draws.first left) ∷ []) g.family g.owner
      ⊎ IsOfCode (s.history ++ event_at s.moment (access_issued g s.draws.first left) ∷ []) g.family g.client g.owner kept
  second g left kept alive within (inl own) =
      inl (own-later s.history [] (event_at s.moment (access_issued g s.draws.first left)) g.family (record { owner = g.owner; client = g.client }) (new_token Access s.draws.first left) refl own)
  second g left kept alive within (inr of) =
      let e = event_at s.moment (access_issued g s.draws.first left) in
      inr (
        of.0,
        code_terms-keep s.history (e ∷ []) g.family _ of.1,
        is_within-trans kept g.scope of.0 within of.2,
        has_ended-push_other s.history e g.family refl ∙ alive,
      )

-- what comes of a right grant that is in the history
module _ (s : Setting) (is : IsHistory s.history s.moment) (digest : List ℕ) (g : Grant) (at : grant_at s.history digest s.moment ≡ Some g) where
  pub ends_fair : IsFair s (ends_family g)
  ends_fair = record { follow = (lives_of s.history digest s.moment g at, tt); right = (tt, tt) }

  -- a token may be issued in its family
  can_join : (history : List Event) (new : NewToken) → grant_at history digest s.moment ≡ Some g → has_ended history g.family ≡ false →
      grant_at history new.digest s.moment ≡ None → CanFollow history s.moment (issued_with new g)
  can_join history new there alive free = (let home = home_of history digest s.moment g there alive in grind (arith, home), free)

  -- tokens of both draws in its family
  both_follow : (left kept : Extent) → has_ended s.history g.family ≡ false → is_taken s.history s.moment (both_digests s.draws) ≡ false →
      AllFollowAt s.history s.moment (access_issued g s.draws.first left ∷ refresh_issued g s.draws.second kept ∷ Spent g.digest ∷ [])
  both_follow left kept alive free =
      let m = s.moment in
      let change : Change = access_issued g s.draws.first left in
      let first = (is_taken-parts s.history m (sha256 s.draws.first) (sha256 s.draws.second ∷ []) free).0 in
      let can : CanFollow s.history m change = can_join s.history (new_token Access s.draws.first left) at alive first in
      let still_there = grant_at-keep s.history (event_at m change ∷ []) digest m g at in
      let still_alive = has_ended-push_other s.history (event_at m change) g.family refl ∙ alive in
      let second = is_taken-push s.history (event_at m change) _ m (sha256 s.draws.second ∷ []) refl free in
      let untaken = (is_taken-parts (with_change s.history m change) m (sha256 s.draws.second) [] second).0 in
      (can, (can_join (with_change s.history m change) (new_token Refresh s.draws.second kept) still_there still_alive untaken, (tt, tt)))

  pub access_fair : (left : Extent) → IsRightToken s.rules s.history g → has_ended s.history g.family ≡ false →
      is_within left.scope g.scope ≡ true → left.life ≤ s.rules.access_life →
      is_taken s.history s.moment (sha256 s.draws.first ∷ []) ≡ false → IsFair s (one_issued s g left)
  access_fair left right alive within short free = record {
    follow = (can_join s.history (new_token Access s.draws.first left) at alive (is_taken-parts s.history s.moment (sha256 s.draws.first) [] free).0, (tt, tt));
    right = (
      (may_have-less s.rules g.client g.scope left.scope right.0 within, short, first s g left.scope alive within right.1),
      (tt, tt),
    );
  }

  pub both_fair : (left : Extent) (kept : ℕ) → IsRightToken s.rules s.history g → has_ended s.history g.family ≡ false →
      is_within left.scope g.scope ≡ true → is_within kept g.scope ≡ true → left.life ≤ s.rules.access_life →
      is_taken s.history s.moment (both_digests s.draws) ≡ false → IsFair s (both_issued s g left kept)
  both_fair left kept right alive within more short free = record {
    follow = both_follow left (record { scope = kept; life = s.rules.refresh_life }) alive free;
    right = (
      (may_have-less s.rules g.client g.scope left.scope right.0 within, short, first s g left.scope alive within right.1),
      (
        (may_have-less s.rules g.client g.scope kept right.0 more, omega arith, second s g left kept alive more right.1),
        (tt, tt),
      ),
    );
  }
