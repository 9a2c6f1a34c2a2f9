-- An ask that is told by a few numbers, and its record as hex.
use Rattle.std.specs.Prelude.{◌≡◌, ◌<◌, ℕ, ◌^◌, List, Some, ⊤, Result, Ok, Err}
use Rattle.hook_commands.specs.Names.{encode_lower, Layout, V1, V2, kind_of, record_v1, record_v2, string_bytes, HookAnswer, HookCommandFault}
use Rattle.std.specs.Str.Parse.{IsNumeral, digits_value}
use Rattle.hook_record.specs.declared.Ask.{Ask}
use Rattle.hook_commands.specs.declared.asking.AskWords.{AskWords}
use Rattle.hook_commands.specs.declared.answer.HookAnswer.TheVariants as answers
use Rattle.hook_commands.specs.declared.fault.HookCommandFault.TheVariants as faults

-- a text is one decimal digit or more, for a number below a limit
pub record IsNumber (limit : ℕ) (text : List ℕ) (n : ℕ) : Type 0 where
  pub digits : IsNumeral 10 text
  pub value : n ≡ digits_value 10 text
  pub below : n < limit

-- Words tell an ask: its kind by its number, the moment, the client, the owner, the scopes and the lifetime. All scopes that
-- are asked are allowed and consented to, and no token lives longer than this one.
pub record SayAsk (words : AskWords) (ask : Ask) : Type 0 where
  pub kind : ℕ
  pub kind_said : IsNumber (2 ^ 64) words.kind.now kind
  pub is_kind : kind_of kind ≡ Some ask.kind
  pub now_said : IsNumber (2 ^ 64) words.now.now ask.now
  pub client_said : IsNumber (2 ^ 64) words.client.now ask.client
  pub owner_said : IsNumber (2 ^ 64) words.owner.now ask.owner
  pub scope_said : IsNumber (2 ^ 64) words.scope.now ask.scope
  pub life_said : IsNumber (2 ^ 32) words.life.now ask.life
  pub asked : ask.asked ≡ ask.scope
  pub allowed : ask.allowed ≡ ask.scope
  pub consented : ask.consented ≡ ask.scope
  pub access_limit : ask.access_limit ≡ ask.life
  pub refresh_limit : ask.refresh_limit ≡ ask.life

-- an ask's record as hex, in the version of a layout
abbrev pub record_hex : Layout → Ask → List ℕ
record_hex V1 ask = encode_lower (record_v1 ask)
record_hex V2 ask = encode_lower (record_v2 ask)

-- the answer is the record of the ask that words tell, as hex; they are bad where they tell none
abbrev pub IsAskedAs : Layout → AskWords → Result HookAnswer HookCommandFault → Type 0
IsAskedAs layout words (Ok (answers.Code hex)) = (ask : Ask) × SayAsk words ask × (string_bytes hex ≡ record_hex layout ask)
IsAskedAs layout words (Ok answer) = ⊥
IsAskedAs layout words (Err faults.BadArguments) = (ask : Ask) → SayAsk words ask → ⊥
IsAskedAs layout words (Err faults.OutOfMemory) = ⊤
IsAskedAs layout words (Err fault) = ⊥
