-- What a store that is made of a list tells of families, as the list goes on.
use Rattle.std.proofs.Common.{◌≡◌, ◌≢◌, ℕ, List, [], ◌∷◌, ◌++◌, Option, Some, None, Bool, true, false, refl, ap, ◌∙◌, sym, subst, arith}
use Rattle.token_store.proofs.Names.{◌==◌, ◌||◌, if◌then◌else◌, option_or, find, is_some, find-passes, find-some, found_kin, IsHistory, Event, Grant, Terms, grant_of, grants, has_ended, code_terms}
use Rattle.token_store.proofs.Names.{code_scope, terms_of, is_code_of, is_beyond}
use Rattle.token_store.proofs.Names.{may_end, code_terms-push_other, code_terms-push_none, has_ended-push, has_ended-push_other, parties_of, home_shared, terms_by, HasAltered, shared_or}
use Rattle.token_store.proofs.Names.{shared_seen, BecomesKnown}
use Rattle.token_store.proofs.Names.{family_numbered, Shared, same_Some, nat_tests}
use Rattle.std.specs.Prelude.{option_map}
use Rattle.consent.specs.GrowthLaws.{grants-push_none, opener-append}
use Rattle.consent.specs.History.{opener, ends, all_kin}
use Rattle.consent.specs.declared.change.Home.{Home}
use Rattle.consent.specs.declared.parties.Parties.{Parties}
use Rattle.token_store.specs.Found.{SeenFamily, family_of_grant}
use Rattle.token_store.specs.Lists.{family_told, can_be_of}
use Rattle.token_store.proofs.Issuing.{IsShared}

-- each family that the list names is there, as the list tells of it, and no other
abbrev pub Knows : List (ℕ × Shared) → List Event → Type 0
Knows families list = (n : ℕ) → option_map shared_seen (family_numbered families n) ≡ family_told list n

-- what has ended is known
abbrev pub KnowsEnded : List Event → Type 0
KnowsEnded list = (n : ℕ) → has_ended list n ≡ true → is_some (family_told list n) ≡ true

scope_told : (s : Shared) → option_map (λ (t : Terms). t.scope) (option_map (terms_by s.client s.owner) (code_scope s)) ≡ code_scope s
scope_told s = grind arith

-- WHAT A FAMILY SHARES

-- a code is of the client and the owner of what opened its family
code_whose : (list : List Event) (n : ℕ) (g : Grant) → all_kin (grants list) ≡ true → opener list n ≡ Some g →
    code_terms list n ≡ option_map (terms_by g.client g.owner) (option_map (λ (t : Terms). t.scope) (code_terms list n))
code_whose list n g kin at = by (find (is_code_of n) (grants list)) refl
  where
    by : (o : Option Grant) → find (is_code_of n) (grants list) ≡ o →
        option_map terms_of o ≡ option_map (terms_by g.client g.owner) (option_map (λ (t : Terms). t.scope) (option_map terms_of o))
    by None found = refl
    by (Some c) found =
        let alike = found_kin (λ x. x.family == n) (is_code_of n) (grants list) g c kin at found in
        let its = find-passes (λ x. x.family == n) (grants list) g at in
        let code = find-passes (is_code_of n) (grants list) c found in
        let client : c.client ≡ g.client = grind (arith, nat_tests, alike, its, code) in
        let owner : c.owner ≡ g.owner = grind (arith, nat_tests, alike, its, code) in
        rw (client, owner) refl

-- what looks as the list tells of a family shares what is its
shared_as : (list : List Event) (n : ℕ) (s : Shared) (g : Grant) → all_kin (grants list) ≡ true → opener list n ≡ Some g → shared_seen s ≡ family_of_grant list g →
    IsShared list n (record { owner = s.owner; client = s.client }) s
shared_as list n s g kin at seen =
    let its = find-passes (λ x. x.family == n) (grants list) g at in
    let of : g.family ≡ n = grind (arith, nat_tests, its) in
    let client : s.client ≡ g.client = ap (λ (x : SeenFamily). x.client) seen in
    let owner : s.owner ≡ g.owner = ap (λ (x : SeenFamily). x.owner) seen in
    let scope : code_scope s ≡ option_map (λ (t : Terms). t.scope) (code_terms list n) = rw of at (ap (λ (x : SeenFamily). x.code_scope) seen) in
    let ended : s.ended ≡ has_ended list n = rw of at (ap (λ (x : SeenFamily). x.ended) seen) in
    record { client = refl; owner = refl; terms = rw (client, owner, scope) (code_whose list n g kin at); ended = sym ended }

-- and looks so
told_shared : (list : List Event) (n : ℕ) (parties : Parties) (s : Shared) (g : Grant) → IsShared list n parties s → g.family ≡ n → g.client ≡ s.client → g.owner ≡ s.owner →
    shared_seen s ≡ family_of_grant list g
told_shared list n parties s g is of client owner = rw (of, client, owner, is.terms, is.ended, scope_told s) refl

-- what is known of a family that is there
record Known (list : List Event) (n : ℕ) (s : Shared) : Type 0 where
  pub grant : Grant
  pub at : opener list n ≡ Some grant
  pub seen : shared_seen s ≡ family_of_grant list grant

known : (families : List (ℕ × Shared)) (list : List Event) (n : ℕ) (s : Shared) → Knows families list → family_numbered families n ≡ Some s → Known list n s
known families list n s knows there = by (opener list n) refl (sym (ap (option_map shared_seen) there) ∙ knows n)
  where
    by : (o : Option Grant) → opener list n ≡ o → Some (shared_seen s) ≡ option_map (family_of_grant list) o → Known list n s
    by None at is = cc
    by (Some g) at is = record { grant = g; at = at; seen = same_Some (shared_seen s) (family_of_grant list g) is }

-- a family that is not there is not named
unknown : (families : List (ℕ × Shared)) (list : List Event) (n : ℕ) → Knows families list → family_numbered families n ≡ None → opener list n ≡ None
unknown families list n knows none = by (opener list n) refl (sym (ap (option_map shared_seen) none) ∙ knows n)
  where
    by : (o : Option Grant) → opener list n ≡ o → None ≡ option_map (family_of_grant list) o → o ≡ None
    by None at is = refl
    by (Some g) at is = cc

-- has no code, and has not ended
pub uncoded : (list : List Event) (n : ℕ) → opener list n ≡ None → code_terms list n ≡ None
uncoded list n none = by (find (is_code_of n) (grants list)) refl
  where
    by : (o : Option Grant) → find (is_code_of n) (grants list) ≡ o → option_map terms_of o ≡ None
    by None found = refl
    by (Some c) found =
        let code = find-passes (is_code_of n) (grants list) c found in
        let some = find-some (is_code_of n) (λ x. x.family == n) (grants list) c found (grind (arith, nat_tests, code)) in
        absurd (grind (arith, some, none))

unended : (list : List Event) (n : ℕ) → KnowsEnded list → opener list n ≡ None → has_ended list n ≡ false
unended list n ended none = by (has_ended list n) refl
  where
    by : (b : Bool) → has_ended list n ≡ b → b ≡ false
    by false is = refl
    by true is = absurd (let some = ended n is in grind (arith, some, none))

-- a token's family shares what it says of it, where it can be of that
pub open_shared : (families : List (ℕ × Shared)) (list : List Event) (home : Home) → Knows families list → KnowsEnded list → all_kin (grants list) ≡ true →
    can_be_of list home.family (parties_of home) ≡ true → IsShared list home.family (parties_of home) (shared_or families home.family (home_shared home 0))
open_shared families list home knows ended kin can = by (family_numbered families home.family) refl
  where
    by : (o : Option Shared) → family_numbered families home.family ≡ o → IsShared list home.family (parties_of home) (shared_or families home.family (home_shared home 0))
    by None at =
        let none = unknown families list home.family knows at in
        rw at (record { client = refl; owner = refl; terms = uncoded list home.family none; ended = unended list home.family ended none })
    by (Some s) at =
        let is = known families list home.family s knows at in
        let shared = shared_as list home.family s is.grant kin is.at is.seen in
        let told : family_told list home.family ≡ Some (shared_seen s) = sym (knows home.family) ∙ ap (option_map shared_seen) at in
        let client : s.client ≡ home.client = grind (arith, nat_tests, can, told) in
        let owner : s.owner ≡ (parties_of home).owner = grind (arith, nat_tests, can, told) in
        rw at (record { client = client; owner = owner; terms = shared.terms; ended = shared.ended })

-- A CODE OR TOKEN MORE

opener-push : (list : List Event) (e : Event) (g : Grant) (n : ℕ) → grant_of e ≡ Some g → opener (list ++ e ∷ []) n ≡ option_or (opener list n) (if g.family == n then Some g else None)
opener-push list e g n gives = let pushed = opener-append list (e ∷ []) n in grind (arith, pushed, gives)

-- nothing else is told of another family
told_other : (list : List Event) (e : Event) (g : Grant) (n : ℕ) → grant_of e ≡ Some g → may_end e.change ≡ false → (g.family == n) ≡ false →
    family_told (list ++ e ∷ []) n ≡ family_told list n
told_other list e g n gives lasting other = by (opener list n) refl
  where
    by : (o : Option Grant) → opener list n ≡ o → family_told (list ++ e ∷ []) n ≡ family_told list n
    by None at = let pushed = opener-push list e g n gives in grind (arith, pushed, other, at)
    by (Some h) at =
        let pushed = opener-push list e g n gives in
        let its = find-passes (λ x. x.family == n) (grants list) h at in
        let of : h.family ≡ n = grind (arith, nat_tests, its) in
        let terms = code_terms-push_other list e g n gives (grind (arith, other)) in
        let ended = has_ended-push_other list e n lasting in
        let here : opener (list ++ e ∷ []) n ≡ Some h = grind (arith, pushed, at) in
        rw (here, at, of, terms, ended) refl

-- and of the family, whose it was
told_its : (families : List (ℕ × Shared)) (list : List Event) (e : Event) (g : Grant) (s : Shared) → grant_of e ≡ Some g → Knows families list → s.client ≡ g.client → s.owner ≡ g.owner →
    IsShared (list ++ e ∷ []) g.family (record { owner = g.owner; client = g.client }) (shared_or families g.family s) →
    Some (shared_seen (shared_or families g.family s)) ≡ family_told (list ++ e ∷ []) g.family
told_its families list e g s gives knows client owner shared = by (family_numbered families g.family) refl
  where
    pushed : opener (list ++ e ∷ []) g.family ≡ option_or (opener list g.family) (Some g)
    pushed = let more = opener-push list e g g.family gives in grind (arith, nat_tests, more)

    by : (o : Option Shared) → family_numbered families g.family ≡ o → Some (shared_seen (shared_or families g.family s)) ≡ family_told (list ++ e ∷ []) g.family
    by None at =
        let new : opener (list ++ e ∷ []) g.family ≡ Some g = pushed ∙ ap (λ o. option_or o (Some g)) (unknown families list g.family knows at) in
        rw (new, at) (ap (λ x. Some x) (told_shared (list ++ e ∷ []) g.family _ s g (rw at at shared) refl (sym client) (sym owner)))
    by (Some was) at =
        let is = known families list g.family was knows at in
        let old : opener (list ++ e ∷ []) g.family ≡ Some is.grant = pushed ∙ ap (λ o. option_or o (Some g)) is.at in
        let its = find-passes (λ x. x.family == g.family) (grants list) is.grant is.at in
        rw (old, at) (ap (λ x. Some x) (told_shared (list ++ e ∷ []) g.family _ was is.grant (rw at at shared) (grind (arith, nat_tests, its))
        (sym (ap (λ (x : SeenFamily). x.client) is.seen)) (sym (ap (λ (x : SeenFamily). x.owner) is.seen))))

pub knows_given : (old new : List (ℕ × Shared)) (list : List Event) (e : Event) (g : Grant) (s : Shared) → grant_of e ≡ Some g → may_end e.change ≡ false → Knows old list →
    s.client ≡ g.client → s.owner ≡ g.owner → IsShared (list ++ e ∷ []) g.family (record { owner = g.owner; client = g.client }) (shared_or old g.family s) →
    BecomesKnown old new g.family s → Knows new (list ++ e ∷ [])
knows_given old new list e g s gives lasting knows client owner shared becomes n = by (g.family == n) refl
  where
    by : (b : Bool) → (g.family == n) ≡ b → option_map shared_seen (family_numbered new n) ≡ family_told (list ++ e ∷ []) n
    by true same =
        subst (λ k. option_map shared_seen (family_numbered new k) ≡ family_told (list ++ e ∷ []) k) (grind (arith, nat_tests, same))
        (becomes.here ∙ told_its old list e g s gives knows client owner shared)
    by false other =
        let ne : n ≢ g.family = λ is. absurd (grind (arith, nat_tests, other, is)) in
        ap (option_map shared_seen) (becomes.others n ne) ∙ knows n ∙ sym (told_other list e g n gives lasting other)

-- what was known is known
known_on : (list more : List Event) (n : ℕ) → is_some (family_told list n) ≡ true → is_some (family_told (list ++ more) n) ≡ true
known_on list more n is = let both = opener-append list more n in grind (arith, both, is)

pub ended_given : (list : List Event) (e : Event) → may_end e.change ≡ false → KnowsEnded list → KnowsEnded (list ++ e ∷ [])
ended_given list e lasting ended n is = known_on list (e ∷ []) n (ended n (sym (has_ended-push_other list e n lasting) ∙ is))

-- ANY OTHER CHANGE

altered_seen : (b : Bool) (s : Shared) → shared_seen (if b then record s { ended = true } else s) ≡ record (shared_seen s) { ended = s.ended || b }
altered_seen b s = grind arith

pub knows_altered : (old new : List (ℕ × Shared)) (list : List Event) (e : Event) (m : ℕ) → grant_of e ≡ None → IsHistory list m → Knows old list →
    HasAltered old new e.change → Knows new (list ++ e ∷ [])
knows_altered old new list e m none is knows is_altered n = by (family_numbered old n) refl
  where
    same : opener (list ++ e ∷ []) n ≡ opener list n
    same = ap (find (λ g. g.family == n)) (grants-push_none list e none)

    by : (o : Option Shared) → family_numbered old n ≡ o → option_map shared_seen (family_numbered new n) ≡ family_told (list ++ e ∷ []) n
    by None at = rw (is_altered n, at, same, unknown old list n knows at) refl
    by (Some s) at =
        let has = known old list n s knows at in
        let g = has.grant in
        let its = find-passes (λ x. x.family == n) (grants list) g has.at in
        let of : g.family ≡ n = grind (arith, nat_tests, its) in
        let shared = shared_as list n s g is.kin has.at has.seen in
        let terms = code_terms-push_none list e n none in
        let ended = has_ended-push list e n (is.one_code n) in
        let client : g.client ≡ s.client = sym (ap (λ (x : SeenFamily). x.client) has.seen) in
        let owner : g.owner ≡ s.owner = sym (ap (λ (x : SeenFamily). x.owner) has.seen) in
        rw (is_altered n, at, same, has.at, of, client, owner, terms, ended, shared.terms, shared.ended, scope_told s)
        (ap (λ x. Some x) (altered_seen (ends n e.change || is_beyond e.change (option_map (terms_by s.client s.owner) (code_scope s))) s))

pub ended_altered : (list : List Event) (e : Event) (m : ℕ) → IsHistory list m → KnowsEnded list →
    ((n : ℕ) → ends n e.change ≡ true → is_some (family_told list n) ≡ true) → KnowsEnded (list ++ e ∷ [])
ended_altered list e m is ended names n has = known_on list (e ∷ []) n (by (has_ended list n) refl (ends n e.change) refl)
  where
    by : (b : Bool) → has_ended list n ≡ b → (c : Bool) → ends n e.change ≡ c → is_some (family_told list n) ≡ true
    by true was c now = ended n was
    by false was true now = names n now
    by false was false now =
        let pushed = has_ended-push list e n (is.one_code n) in
        let beyond : is_beyond e.change (code_terms list n) ≡ true = grind (arith, pushed, was, now, has) in
        by_opener (opener list n) refl beyond
      where
        by_opener : (o : Option Grant) → opener list n ≡ o → is_beyond e.change (code_terms list n) ≡ true → is_some (family_told list n) ≡ true
        by_opener None at beyond = absurd (let none = uncoded list n at in grind (arith, none, beyond))
        by_opener (Some g) at beyond = rw at refl
