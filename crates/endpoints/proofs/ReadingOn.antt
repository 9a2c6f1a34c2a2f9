-- What the operator's requests come to before they are decided on.
use Rattle.std.proofs.Common.{◌≡◌, Option, Some, None, refl}
use Rattle.endpoints.proofs.Names.{HookFault, InvalidRequest, need, refuse, Parameters, hook_points}
use Rattle.std.specs.Prelude.{option_and_then}
use Rattle.consent.specs.History.{Change}

-- the change of the parameters, where they are there
pub points_of : (params : Option Parameters) (change : Parameters → Option Change) (fault : Option HookFault) →
    hook_points (option_and_then change params) fault ≡ need params (refuse InvalidRequest) (λ p. hook_points (change p) fault)
points_of None change fault = refl
points_of (Some params) change fault = refl
