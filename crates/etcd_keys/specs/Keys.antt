-- The keys of a list that stands under a prefix, and what its head says as bytes.
use Rattle.std.specs.Prelude.{ℕ, List, ◌++◌, ◌==◌, ◌&&◌, ◌<◌, ◌^◌, length, nat_eq, bytes_eq, take, drop, codes, if◌then◌else◌, Option, None, Some, option_and_then, Result, Ok, Err, Bool, not}
use Rattle.std.specs.List.{starts_with}
use Rattle.std.specs.Int.{w64, to_be_bytes, from_be_bytes}
use Rattle.hex.specs.Hex.{decode_sized, encode_lower}
use Rattle.hex.specs.declared.error.FromHexError.{FromHexError}
use Rattle.etcd_cluster.specs.declared.change.Head.{Head}

-- a number, as 16 digits
abbrev pub digits : ℕ → List ℕ
digits n = encode_lower (to_be_bytes w64 n)

abbrev pub number_of : Result (List ℕ) FromHexError → Option ℕ
number_of (Ok bytes) = Some (from_be_bytes w64 bytes)
number_of (Err fault) = None

-- what 16 digits are worth, in either case
abbrev pub worth : List ℕ → Option ℕ
worth text = number_of (decode_sized text 8)

abbrev pub where_spelled : List ℕ → ℕ → Option ℕ
where_spelled text n = if bytes_eq text (digits n) then Some n else None

-- the number that is spelled so
abbrev pub number_told : List ℕ → Option ℕ
number_told text = option_and_then (where_spelled text) (worth text)

-- KEYS

-- who writes
abbrev pub leader_key : List ℕ → List ℕ
leader_key prefix = prefix ++ codes "/leader"

abbrev pub head_key : List ℕ → List ℕ
head_key prefix = prefix ++ codes "/head"

-- what the keys of all pieces begin with, and what stands behind them all
abbrev pub first_key : List ℕ → List ℕ
first_key prefix = prefix ++ codes "/at/"

abbrev pub last_key : List ℕ → List ℕ
last_key prefix = prefix ++ codes "/at0"

-- what those of a generation begin with, and what stands behind them
abbrev pub before_key : List ℕ → ℕ → List ℕ
before_key prefix generation = first_key prefix ++ (digits generation ++ codes "/")

abbrev pub behind_key : List ℕ → ℕ → List ℕ
behind_key prefix generation = first_key prefix ++ (digits generation ++ codes "0")

-- the piece of a generation at that place
abbrev pub piece_key : List ℕ → ℕ → ℕ → List ℕ
piece_key prefix generation at = before_key prefix generation ++ digits at

-- the place that the key of a piece names, where it is one that begins so
abbrev pub place_told : List ℕ → List ℕ → Option ℕ
place_told before key = if starts_with nat_eq key before then number_told (drop (length before) key) else None

-- WHAT A HEAD SAYS

-- six numbers of eight bytes each, the high byte first: the cluster in which it was put, and those of the head
abbrev pub head_bytes : ℕ → Head → List ℕ
head_bytes cluster head =
    to_be_bytes w64 cluster
    ++ (to_be_bytes w64 head.server
    ++ (to_be_bytes w64 head.turn ++ (to_be_bytes w64 head.generation ++ (to_be_bytes w64 head.end ++ to_be_bytes w64 head.room))))

abbrev pub number_at : List ℕ → ℕ → ℕ
number_at bytes at = from_be_bytes w64 (take 8 (drop at bytes))

-- the head that bytes say
abbrev pub head_at : List ℕ → Head
head_at bytes = record {
  server = number_at bytes 8;
  turn = number_at bytes 16;
  generation = number_at bytes 24;
  end = number_at bytes 32;
  room = number_at bytes 40;
}

-- A list that was copied to another cluster, as a snapshot is, has a head of the first one: it is none there.
abbrev pub head_told : ℕ → List ℕ → Option Head
head_told cluster bytes = if length bytes == 48 && number_at bytes 0 == cluster then Some (head_at bytes) else None

-- bytes are a head, of another cluster than that one
abbrev pub is_head_of_other : ℕ → List ℕ → Bool
is_head_of_other cluster bytes = length bytes == 48 && not (number_at bytes 0 == cluster)

-- each number of it is one of 64 bits
pub record IsOfWords (head : Head) : Type 0 where
  pub server : head.server < 2 ^ 64
  pub turn : head.turn < 2 ^ 64
  pub generation : head.generation < 2 ^ 64
  pub end : head.end < 2 ^ 64
  pub room : head.room < 2 ^ 64
