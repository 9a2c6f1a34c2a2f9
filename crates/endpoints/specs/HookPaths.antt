-- POST /hooks and POST /hooks/remove: the operator's requests
use Rattle.std.specs.Prelude.{ℕ, List, [], ◌∷◌, not, codes, bytes_eq, Bool, false, Option, Some, None, if◌then◌else◌, option_and_then, option_map}
use Rattle.endpoints.specs.Names.{option_map_or, result_ok, read_params, value_sent, RegistryRecord, RecordVersion, First, Second, HookFault, Asked, query_of, InvalidRequest, AccessDenied, hook_body}
use Rattle.endpoints.specs.Names.{plain, refused_body, Outcome, point, need, only, refuse, unavailable, Parameters, form_of, Setting, Endpoint}
pub use Rattle.answers.specs.Requesters.{is_operator, with_operator}
use Rattle.consent.specs.History.{Change}
use Rattle.consent.specs.History.Change.{HookSet, HookGone}
use Rattle.hook_host.specs.declared.fault.HookFault.TheVariants as hook
use Rattle.hook_host.specs.Faults.{hook_fault_text}
use Rattle.answers.specs.declared.endpoint.Endpoint.TheVariants as endpoint

-- WHAT IS ASKED

-- the version of the record that the hook reads: 1 where none is named
abbrev pub version_asked : Option (List ℕ) → Option RecordVersion
version_asked None = Some First
version_asked (Some text) =
    if bytes_eq text (codes "1") then Some First else (if bytes_eq text (codes "2") then Some Second else None)

-- the hook that the query names, with the body for its code
abbrev pub hook_set : Parameters → List ℕ → List ℕ → Option Change
hook_set params code name =
    option_map (λ version. HookSet name version code) (version_asked (value_sent (codes "record") params))

-- by its parameters
abbrev pub hook_set_by : Parameters → List ℕ → Option Change
hook_set_by params code = option_and_then (hook_set params code) (value_sent (codes "name") params)

abbrev pub installation : Asked → Option Change
installation asked = option_and_then (λ params. hook_set_by params asked.body) (result_ok (read_params (query_of asked.target)))

-- the hook that the form names
abbrev pub hook_gone : Parameters → Option Change
hook_gone params = option_map HookGone (value_sent (codes "name") params)

abbrev pub removal : Asked → Option Change
removal asked = option_and_then hook_gone (form_of asked)

-- the change of the hooks that a request asks for, if it asks for one
abbrev pub hook_change_at : Endpoint → Asked → Option Change
hook_change_at endpoint.InstallHook asked = installation asked
hook_change_at endpoint.RemoveHook asked = removal asked
hook_change_at endpoint.Authorize asked = None
hook_change_at endpoint.GiveConsent asked = None
hook_change_at endpoint.IssueToken asked = None
hook_change_at endpoint.RevokeToken asked = None
hook_change_at endpoint.Introspect asked = None
hook_change_at endpoint.EndOwner asked = None
hook_change_at (endpoint.Read document) asked = None

-- WHAT IS DONE

-- the name of a hook that is set or gone
abbrev pub hook_name : Change → List ℕ
hook_name (HookSet name version code) = name
hook_name (HookGone name) = name
hook_name _ = []

-- by the fault that the host has for the change, if it has one
abbrev pub by_fault : Change → Option HookFault → Outcome
by_fault change None = record { reply = plain 200 (hook_body (hook_name change)); changes = change ∷ [] }
by_fault change (Some hook.Memory) = unavailable
by_fault change (Some fault) = only (plain 400 (refused_body (hook_fault_text fault)))

-- the change that is asked for, if one is, which the host makes or refuses
abbrev pub change_hooks : Setting → Asked → Option Change → Outcome
change_hooks setting asked change =
    with_operator setting.rules asked
    (need change (refuse InvalidRequest) (λ change.
    by_fault change setting.host.fault))

abbrev pub install_hook : Setting → Asked → Outcome
install_hook setting asked = change_hooks setting asked (installation asked)

abbrev pub remove_hook : Setting → Asked → Outcome
remove_hook setting asked = change_hooks setting asked (removal asked)
