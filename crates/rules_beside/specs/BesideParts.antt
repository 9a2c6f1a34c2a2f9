-- Beside Beside: only the contracts of this crate's own parts and their proofs cite this, no public clause.
use Rattle.std.specs.Prelude.{◌&&◌, ◌||◌, not, Bool}
use Rattle.rules_beside.specs.OwnersParts.{are_told}
use Rattle.rules_beside.specs.declared.owners.OwnersBeside.{OwnersBeside}

-- somebody is a former owner: of those told, or of those who came by the gateway
abbrev pub has_former : OwnersBeside → Bool
has_former owners =
    not (are_told owners.told owners.listed)
    || owners.told_gateway && (not owners.gateway || not owners.numbered && not (are_told owners.listed owners.told))
