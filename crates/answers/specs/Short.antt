-- How long replies are.
use Rattle.std.specs.Prelude.{◌≤◌, ◌<◌, ℕ, List, [], Option, length, option_copied, unwrap_or}
use Rattle.answers.specs.Names.{Written, reply_bytes, Answer, CodeSent, TurnedBack, HookDone}
use Rattle.clients.specs.Limits.{identifier_limit, key_limit, redirect_limit}
use Rattle.hook_host.specs.Names.{name_limit}
use Rattle.params.specs.Limits.{scope_text_limit}
use Rattle.messages.specs.Small.{reply_limit}

-- its bytes are few
pub record IsShortReply (reply : Written) : Type 0 where
  pub short : length (reply_bytes reply) < reply_limit

-- so many bytes has a state at most that is sent back
abbrev pub state_limit : ℕ
state_limit = 8192

-- the user agent is sent back to a short URI with a short state
pub record IsShortReturn (uri : List ℕ) (state : Option (List ℕ)) : Type 0 where
  pub short_uri : length uri ≤ redirect_limit
  pub short_state : length (unwrap_or state []) ≤ state_limit

-- what came with the request and is said again is short
abbrev pub IsShortAnswer : Answer → Type 0
IsShortAnswer (CodeSent uri draw state) = IsShortReturn uri.now (option_copied state)
IsShortAnswer (TurnedBack uri error state) = IsShortReturn uri.now (option_copied state)
IsShortAnswer (HookDone name) = length name.now ≤ name_limit
IsShortAnswer answer = Unit {0}
