-- Whether a change of a list is right under rules, as it is decided: what is, IsRightChange holds of (Bounded).
use Rattle.std.specs.Prelude.{ℕ, List, Bool, true, false, ◌&&◌, ◌==◌, not, nat_le, Option, Some, None}
use Rattle.endpoints.specs.Names.{option_map_or, RegistryRecord, client_at, Event, consented_scope, is_within, NewToken}
use Rattle.consent.specs.Owners.{owner_number}
use Rattle.consent.specs.declared.change.Home.{Home}
use Rattle.consent.specs.declared.change.Change.{Change}
use Rattle.consent.specs.declared.change.Change.TheVariants.{CodeGiven, Issued}
use Rattle.token_store.specs.Found.{SeenFamily}
use Rattle.token_store.specs.Lists.{family_told}
use Rattle.endpoints.specs.Bounded.{token_life_limit}

-- the client is one of the registry's, and may be allowed the scope
abbrev pub may_have : RegistryRecord → ℕ → ℕ → Bool
may_have rules client scope = option_map_or (λ c. is_within scope c.allowed) (client_at client rules.clients) false

-- the client may have the token, which lives no longer than its kind may
abbrev pub may_have_token : RegistryRecord → ℕ → NewToken → Bool
may_have_token rules client token = may_have rules client token.scope && nat_le token.life (token_life_limit rules token.kind)

-- A token of the scope may come of a family: within the scope of its code, unless it has ended; or, where no code is of the
-- family, as the client's own.
abbrev pub comes_of : Bool → ℕ → Option ℕ → ℕ → Bool
comes_of ended owner (Some code_scope) scope = is_within scope code_scope && not ended
comes_of ended owner None scope = owner == 0

-- a token of the scope may come of the family that is known; that of a new one is the client's own
abbrev pub comes_of_family : Option SeenFamily → ℕ → ℕ → Bool
comes_of_family None owner scope = owner == 0
comes_of_family (Some family) owner scope = comes_of family.ended owner family.code_scope scope

-- the token may come of the family, whether something of that is unexpired or not
abbrev pub is_right_token : RegistryRecord → List Event → Home → NewToken → Bool
is_right_token rules list home token =
    may_have_token rules home.client token && comes_of_family (family_told list home.family) (owner_number home.owner) token.scope

-- the change is right under the rules
abbrev pub is_right : RegistryRecord → List Event → Change → Bool
is_right rules list (CodeGiven family facts digest) =
    may_have rules facts.client facts.scope && is_within facts.scope (consented_scope list facts.owner facts.client)
is_right rules list (Issued home token) = is_right_token rules list home token
is_right rules list _ = true
