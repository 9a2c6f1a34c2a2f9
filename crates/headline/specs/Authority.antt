-- Whose credentials and keys bring about what happens.
use Rattle.std.specs.Prelude.{◌≡◌, ◌≢◌, ◌⊎◌, ℕ, List, true, false, Some, All, Contains, codes}
use Rattle.headline.specs.Names.{RegistryRecord, Parameters, form_of, Change, Grant, Terms, code_terms, grant_at, grants, has_ended, Consented, CodeGiven, Issued, Spent, FamilyEnded}
use Rattle.consent.specs.History.{Event, next_family}
use Rattle.endpoints.specs.OwnerPath.{owner_asked}
use Rattle.headline.specs.Bearers.{BearsCredentials, BearsOwnerKey, BearsOperatorKey}
use Rattle.headline.specs.Occasions.{Occasion, GoesTo, history_after, outcome_of}

-- the request is a consent of the owner of this number: it goes to /consent, with the owner's key
abbrev pub IsConsentOf : RegistryRecord → Occasion → ℕ → Type 0
IsConsentOf rules occasion owner = GoesTo occasion (codes "/consent") × BearsOwnerKey rules occasion.arrival.asked owner

-- the request is the operator's end of what the owner of this number granted: it goes to /owners/end, with the operator's key and a
-- form that names the owner
abbrev pub IsEndOf : RegistryRecord → Occasion → ℕ → Type 0
IsEndOf rules occasion owner =
    GoesTo occasion (codes "/owners/end") × BearsOperatorKey rules occasion.arrival.asked
    × ((params : Parameters) × (form_of occasion.arrival.asked ≡ Some params) × (owner_asked params ≡ Some owner))

-- the request bears what the change wants: the operator's key, the owner's, or the gateway's with the owner's number, or the
-- credentials of the family's client
abbrev pub IsAuthorized : RegistryRecord → List Event → Occasion → Change → Type 0
IsAuthorized rules history occasion (Consented owner client mask) =
    IsConsentOf rules occasion owner ⊎ (IsEndOf rules occasion owner × (mask ≡ 0))
IsAuthorized rules history occasion (CodeGiven family code digest) =
    BearsOwnerKey rules occasion.arrival.asked code.owner × (next_family history ≡ Some family)
IsAuthorized rules history occasion (Issued family parties token) =
    BearsCredentials rules occasion.arrival.asked parties.client × ((g : Grant) → Contains (grants history) g → g.family ≡ family → g.client ≡ parties.client)
IsAuthorized rules history occasion (Spent digest) =
    (g : Grant) × (grant_at history digest occasion.arrival.moment ≡ Some g) × BearsCredentials rules occasion.arrival.asked g.client
IsAuthorized rules history occasion (FamilyEnded family) =
    (g : Grant) × Contains (grants history) g × (g.family ≡ family) × BearsCredentials rules occasion.arrival.asked g.client
IsAuthorized rules history occasion of_a_hook = BearsOperatorKey rules occasion.arrival.asked

-- so it is of each change that happens
abbrev pub IsAllAuthorized : RegistryRecord → List Event → Occasion → Type 0
IsAllAuthorized rules history occasion = All (IsAuthorized rules history occasion) (outcome_of rules history occasion).changes

-- the family has a code, and the request is a consent of its owner
abbrev pub IsConsentOfOwner : RegistryRecord → List Event → Occasion → ℕ → Type 0
IsConsentOfOwner rules history occasion family =
    (terms : Terms) × (code_terms history family ≡ Some terms) × IsConsentOf rules occasion terms.owner

-- the family has a code, and the request is the operator's end of what its owner granted
abbrev pub IsEndOfOwner : RegistryRecord → List Event → Occasion → ℕ → Type 0
IsEndOfOwner rules history occasion family =
    (terms : Terms) × (code_terms history family ≡ Some terms) × IsEndOf rules occasion terms.owner

-- either of the two
abbrev pub IsOfOwner : RegistryRecord → List Event → Occasion → ℕ → Type 0
IsOfOwner rules history occasion family = IsConsentOfOwner rules history occasion family ⊎ IsEndOfOwner rules history occasion family

-- Where a family ends that had not ended, the request bears the credentials of a client of one of its codes and tokens, or is a
-- consent of the owner of its code, or the operator's end of what that owner granted.
abbrev pub EndsWithAuthority : RegistryRecord → List Event → Occasion → Type 0
EndsWithAuthority rules history occasion =
    (family : ℕ) → has_ended history family ≡ false → has_ended (history_after rules history occasion) family ≡ true →
    IsAuthorized rules history occasion (FamilyEnded family) ⊎ IsOfOwner rules history occasion family

-- the change adds nothing to the family of the code or token, which it neither uses nor ends
abbrev pub LeavesAlone : List Event → ℕ → Grant → Change → Type 0
LeavesAlone history moment g (CodeGiven family code digest) = family ≢ g.family
LeavesAlone history moment g (Issued family parties token) = family ≢ g.family
LeavesAlone history moment g (Spent digest) = grant_at history digest moment ≢ Some g
LeavesAlone history moment g (FamilyEnded family) = family ≢ g.family
LeavesAlone history moment g change = Unit {0}

-- the family has ended after the request just where it had before, unless the request is a consent of the owner of its code, or the
-- operator's end of what that owner granted
abbrev pub EndsByOwnerAlone : RegistryRecord → List Event → Occasion → ℕ → Type 0
EndsByOwnerAlone rules history occasion family =
    (has_ended (history_after rules history occasion) family ≡ has_ended history family) ⊎ IsOfOwner rules history occasion family

-- What comes of a request with a client's credentials leaves each other client's codes and tokens alone. It ends none of their
-- families, unless it is a consent of the owner besides, or the operator's end of what the owner granted.
abbrev pub IsIsolated : RegistryRecord → List Event → Occasion → Type 0
IsIsolated rules history occasion =
    (client : ℕ) (g : Grant) → BearsCredentials rules occasion.arrival.asked client → Contains (grants history) g → g.client ≢ client →
    All (LeavesAlone history occasion.arrival.moment g) (outcome_of rules history occasion).changes × EndsByOwnerAlone rules history occasion g.family
