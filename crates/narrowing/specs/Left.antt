-- What is left of a history under other rules.
use Rattle.std.specs.Prelude.{◌≡◌, ◌⊎◌, ◌≤◌, ℕ, List, [], Bool, true, false, not, ◌&&◌, ◌||◌, min, bit_and, map, count_by, Option, Some, None, is_some, unwrap_or, if◌then◌else◌, Contains}
use Rattle.change_codec.specs.Rules.{RulesFact}
use Rattle.clients.specs.Clients.{client_at}
use Rattle.clients.specs.RegistryRecord.{RegistryRecord}
use Rattle.consent.specs.History.{Event, Change, Grant, Terms, event_at, is_within, code_terms, consented_scope, grant_at, grants, is_good, is_unexpired, IsHistory}
use Rattle.consent.specs.History.Change.{Consented, CodeGiven, Issued, FamilyEnded}
use Rattle.consent.specs.declared.grant.TokenKind.{TokenKind}
use Rattle.consent.specs.declared.change.NewToken.{NewToken}
use Rattle.endpoints.specs.Bounded.{AllRight, allowed_to, token_life_limit}
use Rattle.shortening.specs.Left.{KeepsFamily}
use Rattle.shortening.specs.Standing.{IsLeftOf}
use Rattle.rules_beside.specs.Beside.{IsOne, beside, is_former, was_somebody}
use Rattle.state_file.specs.Telling.{rules_of}
use Rattle.rules_beside.specs.declared.owners.OwnersBeside.{OwnersBeside}

-- what is left goes by these: what a registry allows, and its owners beside those told
pub record Under : Type 0 where
  pub rules : RegistryRecord
  pub owners : OwnersBeside

-- the registry, where these rules are told; where none are, its own
abbrev pub under_told : Option RulesFact → RegistryRecord → Under
under_told told rules = record { rules = rules; owners = beside (unwrap_or told (rules_of rules)) (rules_of rules) }

-- the client may not be allowed all of the scope
abbrev pub goes_beyond : RegistryRecord → ℕ → ℕ → Bool
goes_beyond rules client scope = not (is_within scope (allowed_to rules client))

-- a code of these terms goes beyond what is allowed, or its owner is a former one
abbrev pub do_go_beyond : Under → Option Terms → Bool
do_go_beyond under None = false
do_go_beyond under (Some terms) = is_former under.owners terms.owner || goes_beyond under.rules terms.client terms.scope

-- so it is of the family's code
abbrev pub is_beyond_rules : Under → List Event → ℕ → Bool
is_beyond_rules under history family = do_go_beyond under (code_terms history family)

-- for how long a token is good that was issued for a life: no longer than one of its kind may be, and not at all where it goes
-- beyond the rules
abbrev pub life_under : RegistryRecord → ℕ → TokenKind → ℕ → ℕ → ℕ
life_under rules client kind scope life = if goes_beyond rules client scope then 0 else min life (token_life_limit rules kind)

-- what of the scope the client may be allowed
abbrev pub scope_under : RegistryRecord → ℕ → ℕ → ℕ
scope_under rules client scope = bit_and scope (allowed_to rules client)

-- the client's token with this scope and this life
abbrev pub token_under : RegistryRecord → ℕ → NewToken → NewToken
token_under rules client token =
    record (token) { scope = scope_under rules client token.scope; life = life_under rules client token.kind token.scope token.life }

-- what the owner consents to: a former one to nothing
abbrev pub mask_under : Under → ℕ → ℕ → ℕ
mask_under under owner mask = if is_former under.owners owner then 0 else mask

-- What is left of a change, where these families are beyond the rules: their end stands in the place of each of their codes and
-- tokens. Other tokens keep to the rules, and former owners consent to nothing.
abbrev pub left_of : Under → (ℕ → Bool) → Change → Change
left_of under beyond (Consented owner client mask) = Consented owner client (mask_under under owner mask)
left_of under beyond (CodeGiven family code digest) =
    if beyond family then FamilyEnded family else CodeGiven family code digest
left_of under beyond (Issued family parties token) =
    if beyond family then FamilyEnded family else Issued family parties (token_under under.rules parties.client token)
left_of under beyond change = change

abbrev pub left_event : Under → (ℕ → Bool) → Event → Event
left_event under beyond e = event_at e.moment (left_of under beyond e.change)

-- what is left of the history: each change has its moment and its place
abbrev pub left_under : Under → List Event → List Event
left_under under history = map (left_event under (is_beyond_rules under history)) history

-- the code or token was good at the moment, and its digest names nothing in what is left
abbrev pub ends_under : Under → List Event → ℕ → Grant → Bool
ends_under under history moment g =
    is_unexpired moment g && is_good history g.digest moment g && not (is_some (grant_at (left_under under history) g.digest moment))

-- how many codes and tokens end at the moment
abbrev pub ended_count : Under → List Event → ℕ → ℕ
ended_count under history moment = count_by (ends_under under history moment) (grants history)

-- each client is still one
abbrev pub KeepsClients : RegistryRecord → RegistryRecord → Type 0
KeepsClients old new = (client : ℕ) → is_some (client_at client old.clients) ≡ true → is_some (client_at client new.clients) ≡ true

-- WHAT THAT IS

-- what is left under new rules of what was right under the old ones is right under these
abbrev pub LeavesRight : RegistryRecord → Under → Type 0
LeavesRight old under =
    (history : List Event) (moment : ℕ) → IsHistory history moment → AllRight old [] history → AllRight under.rules [] (left_under under history)

-- each owner's consents are in the one what they are in the other, but former owners consent to nothing
abbrev pub KeepsConsents : Under → List Event → List Event → Type 0
KeepsConsents under history left =
    (owner client : ℕ) → consented_scope left owner client ≡ mask_under under owner (consented_scope history owner client)

-- each family that is not beyond the rules has its terms, and has ended where it had
abbrev pub KeepsFamilies : Under → List Event → List Event → Type 0
KeepsFamilies under history left = (family : ℕ) → is_beyond_rules under history family ≡ false → KeepsFamily history left family

-- the list is left of what happened when both are left under the rules, as it was before
abbrev pub IsLeftStill : Under → List Event → List Event → ℕ → Type 0
IsLeftStill under list history m = IsLeftOf list history m → IsLeftOf (left_under under list) (left_under under history) m

-- OWNERS

-- something is the owner's: a code or token, spent and expired ones too, or a consent to something
abbrev pub HasSomething : List Event → ℕ → Type 0
HasSomething history owner =
    ((g : Grant) × Contains (grants history) g × (g.owner ≡ owner)) ⊎ ((client : ℕ) × (¬ (consented_scope history owner client ≡ 0)))

-- nothing is a former owner's
abbrev pub HasNoFormer : OwnersBeside → List Event → Type 0
HasNoFormer owners history = (owner : ℕ) → 1 ≤ owner → HasSomething history owner → is_former owners owner ≡ false

-- each owner of something, who was somebody by the rules told, is one and the same by those and by the registry's
abbrev pub KeepsOwners : OwnersBeside → List Event → Type 0
KeepsOwners owners history =
    (owner : ℕ) → 1 ≤ owner → HasSomething history owner → was_somebody owners owner ≡ true → IsOne owners owner
