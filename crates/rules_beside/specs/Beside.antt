-- Who an owner is, by the rules that a file tells and by a registry's.
use Rattle.std.specs.Prelude.{◌≡◌, ◌⊎◌, ◌&&◌, ◌||◌, not, ℕ, Bool, true, Option, None, Some, find, option_map, if◌then◌else◌}
use Rattle.change_codec.specs.Rules.{OwnerFact, RulesFact}
use Rattle.rules_beside.specs.Owners.{has_moved, is_same_owner, is_told, owner_told}
use Rattle.rules_beside.specs.declared.owners.OwnersBeside.{OwnersBeside}

-- the owners of rules that are told, beside those of a registry's: where both state numbers, these are their owners' for ever
abbrev pub beside : RulesFact → RulesFact → OwnersBeside
beside told now = record {
  told = told.owners;
  listed = now.owners;
  numbered = told.numbered && now.numbered;
  told_gateway = told.gateway;
  gateway = now.gateway;
}

module _ (owners : OwnersBeside) where
  -- the number of the first of those told who has moved
  abbrev pub first_moved_owner : Option ℕ
  first_moved_owner = if owners.numbered then None else option_map (λ o. o.number) (find (has_moved owners.listed) owners.told)

  module _ (number : ℕ) where
    -- somebody had the number, or has it: he is listed, or comes by the gateway
    abbrev pub was_somebody : Bool
    was_somebody = is_told number owners.told || owners.told_gateway

    abbrev pub is_somebody : Bool
    is_somebody = is_told number owners.listed || owners.gateway

    -- who was listed is listed; who came by the gateway comes by it, or is listed where both state numbers
    abbrev pub is_still : Bool
    is_still =
        if is_told number owners.told then is_told number owners.listed
        else (if is_told number owners.listed then owners.numbered else owners.gateway)

    -- both list him, or he comes by the gateway of both
    abbrev pub AreSame : Option OwnerFact → Option OwnerFact → Type 0
    AreSame (Some was) (Some owner) = is_same_owner owners.listed was owner ≡ true
    AreSame None None = (owners.told_gateway ≡ true) × (owners.gateway ≡ true)
    AreSame _ _ = ⊥

    -- the number is of one and the same by both: since both state numbers, or by what he is called, or by his key
    abbrev pub IsOne : Type 0
    IsOne = ((owners.numbered ≡ true) × (is_somebody ≡ true)) ⊎ AreSame (owner_told number owners.told) (owner_told number owners.listed)

-- the number is a former owner's: he was somebody, and is no more
unfoldable pub is_former : OwnersBeside → ℕ → Bool
is_former owners number = was_somebody owners number && not (is_still owners number)
