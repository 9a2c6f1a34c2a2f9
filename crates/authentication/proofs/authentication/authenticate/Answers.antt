use Rattle.std.proofs.Common.{◌≡◌, Result, Ok, Err}
use Rattle.std.specs.Result.{IfOk}
use Rattle.std.specs.Option.{option_copied}
use Rattle.registry_json.specs.Faults.{GivesUnless}
use Rattle.authentication.specs.AuthenticationLaws.{authenticated-from, authenticated-listed}
use Rattle.authentication.specs.declared.authentication.AuthFault.{AuthFault}
use Rattle.authentication.specs.declared.authentication.AuthFault.TheVariants.{Memory}
use Rattle.authentication.proofs.authentication.authenticate.Goals as goal

-- what holds of the expected answer holds of the one that was given
of_given : {A : Type 0} (W : Type 0) (answer expected : Result A AuthFault) (P : A → Type 0) → GivesUnless Memory W answer expected → ((x : A) → expected ≡ Ok x → P x) → IfOk answer P
of_given W (Ok x) expected P gives holds = holds x gives
of_given W (Err e) expected P gives holds = tt

pub returns-clause-sent : goal.returns-clause-sent
returns-clause-sent c =
    of_given _ c.by_header_or_parameters.result _ _ c.by_header_or_parameters.ensures (authenticated-from c.args.registry.now.clients (option_copied c.args.header) c.args.params.now)

pub returns-clause-listed : goal.returns-clause-listed
returns-clause-listed c =
    of_given _ c.by_header_or_parameters.result _ _ c.by_header_or_parameters.ensures (authenticated-listed c.args.registry.now.clients (option_copied c.args.header) c.args.params.now)
