-- What is told of a server by reading alone.
use Rattle.std.specs.Prelude.{List, [], ◌∷◌, Result, Ok, Err, codes, if◌then◌else◌}
use Rattle.endpoints.specs.Names.{Asked, plain, Told, ErrorName, AccessDenied, Outcome, only, refuse, Situation}
use Rattle.messages.specs.Members.{Member}
use Rattle.messages.specs.Members.Member.{Texts}
use Rattle.answers.specs.declared.endpoint.Document.{Document}
use Rattle.answers.specs.declared.endpoint.Document.TheVariants.{Hooks}
use Rattle.endpoints.specs.HookPaths.{is_operator}

-- GET /hooks/list: the names of the hooks, for the operator
abbrev pub hook_list : Situation → Asked → Result (List Member) ErrorName
hook_list situation asked =
    if is_operator situation.rules asked then Ok (Texts (codes "hooks") situation.hooks ∷ []) else Err AccessDenied

-- what each document says
abbrev pub document_at : Document → Situation → Asked → Result (List Member) ErrorName
document_at Hooks situation asked = hook_list situation asked

-- it is answered, and nothing happens
abbrev pub document_outcome : Result (List Member) ErrorName → Outcome
document_outcome (Ok members) = only (plain 200 (Told members))
document_outcome (Err error) = refuse error
