-- Which bytes ask for a reload, or for metrics.
use Rattle.std.specs.Prelude.{◌≡◌, ◌⊎◌, ◌<◌, ◌||◌, ◌&&◌, ℕ, List, ◌++◌, length, map, take, drop, Bool, false, Option, Some, None, bytes_eq, codes}
use Rattle.std.specs.Char.{to_ascii_lowercase}
use Rattle.std.specs.Option.{option_map_or}
use Rattle.clients.specs.Registry.{is_key_of}
use Rattle.heads.specs.Message.{Message, BeginsWithMessage, HasNone, asked_of_message}
use Rattle.messages.specs.Asked.{Asked}
use Rattle.desk.specs.declared.judging.Judged.{Judged}
use Rattle.desk.specs.declared.judging.Judged.TheVariants as judged
use Rattle.desk.specs.declared.judging.Wish.{Wish}
use Rattle.desk.specs.declared.judging.Wish.TheVariants as wish

-- the bytes with which a request for a reload begins
abbrev pub reload_front : List ℕ
reload_front = codes "POST /reload "

-- and one for metrics
abbrev pub metrics_front : List ℕ
metrics_front = codes "GET /metrics "

-- the bytes begin with these
abbrev pub BeginsWith : List ℕ → List ℕ → Type 0
BeginsWith bytes front = (more : List ℕ) × (bytes ≡ front ++ more)

-- the bytes begin as this does, as far as they go
abbrev pub MayAsk : List ℕ → List ℕ → Type 0
MayAsk bytes front = BeginsWith bytes front ⊎ BeginsWith front bytes

-- the bytes begin with a whole request, and that so
pub record AsksBy (start bytes : List ℕ) : Type 0 where
  pub message : Message
  pub behind : List ℕ
  pub begins : BeginsWithMessage bytes message behind
  pub front : BeginsWith bytes start

-- with method and target of a reload, or of metrics
abbrev pub AsksReload : List ℕ → Type 0
AsksReload bytes = AsksBy reload_front bytes

abbrev pub AsksMetrics : List ℕ → Type 0
AsksMetrics bytes = AsksBy metrics_front bytes

-- the operator's key was sent, of which this is the digest
abbrev pub has_operator_key : Asked → List ℕ → Bool
has_operator_key asked key = option_map_or (λ text. is_key_of text key) asked.operator_key false

-- a header has it behind `Bearer`, in either case, with one space
abbrev pub bears_key : List ℕ → List ℕ → Bool
bears_key key header = bytes_eq (map to_ascii_lowercase (take 7 header)) (codes "bearer ") && is_key_of (drop 7 header) key

-- it was sent as elsewhere, or so
abbrev pub has_metrics_key : Asked → List ℕ → Bool
has_metrics_key asked key = has_operator_key asked key || option_map_or (bears_key key) asked.authorization false

-- so many bytes are looked at
abbrev pub peek_limit : ℕ
peek_limit = 8192

-- they do not, and with more behind them they don't come to, unless they are as many as are looked at
pub record NeverAsksBy (front bytes : List ℕ) : Type 0 where
  pub none : ¬ (AsksBy front bytes)
  pub never : length bytes < peek_limit → (more : List ℕ) → ¬ (AsksBy front (bytes ++ more))

pub record NeverAsks (bytes : List ℕ) : Type 0 where
  pub reload : NeverAsksBy reload_front bytes
  pub metrics : NeverAsksBy metrics_front bytes

-- What bytes are, beside the digest of the operator's key: where they ask for a reload or for metrics, whether with the key; where they may
-- come to, nothing of them is a whole request; and else they never do.
abbrev pub IsJudged : List ℕ → List ℕ → Judged → Type 0
IsJudged bytes key judged.Else = NeverAsks bytes
IsJudged bytes key judged.More = HasNone bytes × (MayAsk bytes reload_front ⊎ MayAsk bytes metrics_front)
IsJudged bytes key (judged.Asks with_key) = (asks : AsksReload bytes) × (with_key ≡ has_operator_key (asked_of_message asks.message) key)
IsJudged bytes key (judged.AsksMetrics with_key) = (asks : AsksMetrics bytes) × (with_key ≡ has_metrics_key (asked_of_message asks.message) key)

-- what is asked for, by how bytes begin
abbrev pub IsWish : List ℕ → Option Wish → Type 0
IsWish bytes None = (¬ (MayAsk bytes reload_front)) × (¬ (MayAsk bytes metrics_front))
IsWish bytes (Some wish.Reload) = MayAsk bytes reload_front
IsWish bytes (Some wish.Metrics) = MayAsk bytes metrics_front

-- by a whole request
abbrev pub asks_for : Wish → Asked → List ℕ → Judged
asks_for wish.Reload asked key = judged.Asks (has_operator_key asked key)
asks_for wish.Metrics asked key = judged.AsksMetrics (has_metrics_key asked key)
