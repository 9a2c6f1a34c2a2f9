-- The reply that an answer is.
use Rattle.std.specs.Prelude.{ℕ, List, [], ◌∷◌, codes, Option, Some, None, option_copied}
use Rattle.answers.specs.Names.{scope_text, token_text, option_map_or, RegistryRecord, client_at, sub_of, owner_number, Draws, ErrorName, Reply, body, consent_body, ended_body, hook_body, plain, refused_body}
use Rattle.answers.specs.Names.{sent_back, error_text, Answer, Done, Unavailable, Access, Both, Consented, CodeSent, TurnedBack, Active, Inactive, HookDone, HookRefused, Ended}
use Rattle.hook_host.specs.Faults.{hook_fault_text}
use Rattle.messages.specs.Members.Member.{Texts}
use Rattle.answers.specs.Outcomes.{status_of}
use Rattle.answers.specs.declared.answer.Answer.TheVariants.{Failure, Denied, Hooks}

-- the reply with an access token
abbrev pub access_reply : RegistryRecord → List ℕ → ℕ → ℕ → Reply
access_reply rules draw scope life = plain 200 (body.Tokens (token_text draw) life None (scope_text rules.scopes scope))

-- or with a refresh token too
abbrev pub both_reply : RegistryRecord → Draws → ℕ → ℕ → Reply
both_reply rules draws scope life =
    plain 200 (body.Tokens (token_text draws.first) life (Some (token_text draws.second)) (scope_text rules.scopes scope))

-- the user agent is sent back with the code of the draw, or with an error
abbrev pub code_reply : List ℕ → List ℕ → Option (List ℕ) → Reply
code_reply uri draw state = sent_back uri (codes "code") (token_text draw) state

abbrev pub error_reply : List ℕ → ErrorName → Option (List ℕ) → Reply
error_reply uri error state = sent_back uri (codes "error") (error_text error) state

-- the id of the client of the number
abbrev pub id_of : RegistryRecord → ℕ → List ℕ
id_of rules number = option_map_or (λ c. c.id) (client_at number rules.clients) []

-- under the rules, where the host's hooks have these names
abbrev pub reply_of : RegistryRecord → List (List ℕ) → Answer → Reply
reply_of rules names Done = plain 200 body.Empty
reply_of rules names (Failure error) = plain (status_of error) (body.Failure error)
reply_of rules names (Denied error) = plain (status_of error) (body.Failure error)
reply_of rules names (Unavailable want) = plain 503 body.Empty
reply_of rules names (Access draw scope life) = access_reply rules draw scope life
reply_of rules names (Both draws scope life) = both_reply rules draws scope life
reply_of rules names (Consented mask) = plain 200 (consent_body (scope_text rules.scopes mask))
reply_of rules names (CodeSent uri draw state) = code_reply uri.now draw (option_copied state)
reply_of rules names (TurnedBack uri error state) = error_reply uri.now error (option_copied state)
reply_of rules names (Active client issued expires scope owner kind) =
    plain 200 (body.Active (id_of rules client) expires issued (scope_text rules.scopes scope) (sub_of (owner_number owner) rules) kind)
reply_of rules names Inactive = plain 200 body.Inactive
reply_of rules names (HookDone name) = plain 200 (hook_body name.now)
reply_of rules names (HookRefused fault) = plain 400 (refused_body (hook_fault_text fault))
reply_of rules names (Ended families consents) = plain 200 (ended_body families consents)
reply_of rules names Hooks = plain 200 (body.Told (Texts (codes "hooks") names ∷ []))
