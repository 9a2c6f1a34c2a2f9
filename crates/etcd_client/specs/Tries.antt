-- What was sent to the members of a cluster, and what came of it.
use Rattle.std.specs.Prelude.{◌≡◌, ◌≢◌, ◌⊎◌, ◌+◌, ◌-◌, ◌/◌, ◌^◌, min, nat_lt, length, ℕ, List, ◌∷◌, codes, if◌then◌else◌, Option, None, Some, option_and_then, option_map, Result, Ok, Err, true, String, string_bytes, vec_len}
use Rattle.std.specs.Global.{Global, Vec}
use Rattle.etcd_json.specs.Replies.{code_told, login_told}
use Rattle.etcd_json.specs.Requests.{login_text}
use Rattle.http_call.specs.declared.call.Response.{Response}
use Rattle.http_call.specs.declared.fault.CallFault.{CallFault}
use Rattle.etcd_client.specs.Told.{is_refusal}
use Rattle.etcd_client.specs.declared.asking.Access.{Access}
use Rattle.etcd_client.specs.declared.members.AskFault.{AskFault}
use Rattle.etcd_client.specs.declared.members.AskFault.TheVariants.{Memory, Refused, Unclear}

-- a response that came
pub record Came : Type 0 where
  pub status : ℕ
  pub body : List ℕ

abbrev pub came_as : ℕ → List ℕ → Came
came_as status body = record { status = status; body = body }

-- A request that was sent once: to which member, with which token, and within how many milliseconds it was to be answered; and what
-- came, if anything did.
pub record Try : Type 0 where
  pub member : ℕ
  pub token : Option (List ℕ)
  pub path : List ℕ
  pub body : List ℕ
  pub limit : ℕ
  pub came : Option Came

pub record User : Type 0 where
  pub name : List ℕ
  pub password : List ℕ

abbrev pub user_of : String Global × String Global → User
user_of both = record { name = string_bytes both.0; password = string_bytes both.1 }

-- Who asks: as which user, which of so many members, with which token; and what was sent, the last first.
pub record Asker : Type 0 where
  pub user : Option User
  pub count : ℕ
  pub at : ℕ
  pub token : Option (List ℕ)
  pub tries : List Try

abbrev pub asker : Access → ℕ → Option (String Global) → List Try → Asker
asker access at token tries = record {
  user = option_map user_of access.user;
  count = vec_len access.members;
  at = at;
  token = option_map string_bytes token;
  tries = tries;
}

-- a second, and one more for each 50,000 bytes
abbrev pub limit_of : ℕ → ℕ
limit_of size = min (1000 + size / 50) (2 ^ 64 - 1)

abbrev pub try_by : Asker → List ℕ → List ℕ → Option Came → Try
try_by asker path body came = record {
  member = asker.at;
  token = asker.token;
  path = path;
  body = body;
  limit = limit_of (length body);
  came = came;
}

-- once it was sent
abbrev pub sent_by : List ℕ → List ℕ → Option Came → Asker → Asker
sent_by path body came asker = record asker { tries = try_by asker path body came ∷ asker.tries }

-- WHAT CAME

abbrev pub came_in : Result Response CallFault → Option Came
came_in (Ok response) = Some (came_as response.status response.body.items)
came_in (Err fault) = None

-- the code of a fault, if one came
abbrev pub code_in : Option Came → Option ℕ
code_in came = option_and_then (λ c. code_told c.body) came

-- SENT ONCE

-- The response is what came.
abbrev pub IsResponse : Option Came → Result Response AskFault → Type 0
IsResponse came (Ok response) = came ≡ Some (came_as response.status response.body.items)
IsResponse came (Err fault) = came ≡ None

-- It was sent once; or not at all, and it is not clear.
abbrev pub IsSent : List ℕ → List ℕ → Result Response AskFault → Asker → Asker → Type 0
IsSent path body result old new =
    ((came : Option Came) × (new ≡ sent_by path body came old) × IsResponse came result) ⊎ ((result ≡ Err Unclear) × (new ≡ old))

-- WHO IS NEXT

abbrev pub next_of : ℕ → ℕ → ℕ
next_of count at = if nat_lt (at + 1) count then at + 1 else 0

-- another member
abbrev pub turned : Asker → Asker
turned asker = record asker { at = next_of asker.count asker.at }

-- without a token
abbrev pub unknown : Asker → Asker
unknown asker = record asker { token = None }

-- It was done where 200 came, and refused where a code says so. Else it is not clear: code 16 forgets the token, and anything else makes
-- way for another member; where memory was refused for the code, it does both.
abbrev pub IsNext : Option Came → Result (Vec ℕ) AskFault → Asker → Asker → Type 0
IsNext came (Ok text) old new = (came ≡ Some (came_as 200 text.items)) × (new ≡ old)
IsNext came (Err (Refused code)) old new = (code_in came ≡ Some code) × (is_refusal code ≡ true) × (new ≡ old)
IsNext came (Err Memory) old new = new ≡ turned (unknown old)
IsNext came (Err Unclear) old new = ((code_in came ≢ Some 16) × (new ≡ turned old)) ⊎ ((code_in came ≡ Some 16) × (new ≡ unknown old))

-- A request was sent once, or not at all; and who is next.
abbrev pub AsksOnce : List ℕ → List ℕ → Result (Vec ℕ) AskFault → Asker → Asker → Type 0
AsksOnce path body result old new =
    ((came : Option Came) × IsNext came result (sent_by path body came old) new) ⊎ ((result ≡ Err Unclear) × (new ≡ turned old))

-- TOKENS

abbrev pub login_path : List ℕ
login_path = codes "/v3/auth/authenticate"

-- A token was asked for, once, and is at hand from then on.
pub record HasToken (body : List ℕ) (old new : Asker) : Type 0 where
  pub text : Vec ℕ
  pub token : List ℕ
  pub asked : Asker
  pub once : AsksOnce login_path body (Ok text) old asked
  pub told : login_told text.items ≡ Some token
  pub is : new ≡ record asked { token = Some token }

-- none was told, or memory was refused to read it
abbrev pub IsNoToken : Vec ℕ → AskFault → Type 0
IsNoToken text fault = ((fault ≡ Unclear) × (login_told text.items ≡ None)) ⊎ (fault ≡ Memory)

-- or it was, and there is none
abbrev pub HasNoToken : List ℕ → AskFault → Asker → Asker → Type 0
HasNoToken body fault old new =
    AsksOnce login_path body (Err fault) old new ⊎ ((text : Vec ℕ) × AsksOnce login_path body (Ok text) old new × IsNoToken text fault)

abbrev pub AsksToken : List ℕ → Result (Unit {0}) AskFault → Asker → Asker → Type 0
AsksToken body (Ok done) old new = HasToken body old new
AsksToken body (Err fault) old new = HasNoToken body fault old new

-- there is no user, or a token is at hand
abbrev pub IsKnown : Asker → Type 0
IsKnown asker = (asker.user ≡ None) ⊎ ((token : List ℕ) × (asker.token ≡ Some token))

-- there is a user, and no token is
abbrev pub LacksToken : User → Asker → Type 0
LacksToken user asker = (asker.user ≡ Some user) × (asker.token ≡ None)

-- Where there is a user and no token, one is asked for.
abbrev pub LogsIn : Result (Unit {0}) AskFault → Asker → Asker → Type 0
LogsIn (Ok done) old new =
    (IsKnown old × (new ≡ old)) ⊎ ((user : User) × LacksToken user old × HasToken (login_text user.name user.password) old new)
LogsIn (Err fault) old new =
    ((fault ≡ Memory) × (new ≡ old)) ⊎ ((user : User) × LacksToken user old × HasNoToken (login_text user.name user.password) fault old new)

-- WHAT IS ASKED

-- A request is sent once, once a token is at hand; or there is none, and it is not sent.
abbrev pub AsksKnown : List ℕ → List ℕ → Result (Vec ℕ) AskFault → Asker → Asker → Type 0
AsksKnown path body result old new =
    ((mid : Asker) × (LogsIn (Ok tt) old mid × AsksOnce path body result mid new))
    ⊎ ((fault : AskFault) × ((result ≡ Err fault) × LogsIn (Err fault) old new))
