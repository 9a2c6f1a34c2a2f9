-- The bytes of a list, of the pieces that stand there.
use Rattle.std.specs.Prelude.{◌≡◌, ◌<◌, ◌+◌, ◌++◌, ℕ, zero, suc, List, [], length, replicate, take, Option, Some, unwrap_or}
use Rattle.etcd_cluster.specs.Stands.{Stand}

-- From this place on the pieces make these bytes: each begins where the one before it ends. What stands behind the last of them does
-- not matter.
pub data Make (pieces : ℕ → Option (List ℕ)) : ℕ → List ℕ → Type 0 where
  none : (at : ℕ) → Make pieces at []
  one_more : (at : ℕ) (piece rest : List ℕ) → pieces at ≡ Some piece → 0 < length piece → Make pieces (at + length piece) rest →
      Make pieces at (piece ++ rest)

-- the list has these bytes: those that its head counts
abbrev pub HasBytes : Stand → List ℕ → Type 0
HasBytes stand bytes = Make (stand.pieces stand.head.generation) 0 bytes × (stand.head.end ≡ length bytes)

-- no more than so many pieces, from this place on
unfoldable pub laid : ℕ → (ℕ → Option (List ℕ)) → ℕ → List ℕ
laid zero pieces at = []
laid (suc n) pieces at = unwrap_or (pieces at) [] ++ laid n pieces (at + length (unwrap_or (pieces at) []))

-- the bytes that the head counts
abbrev pub bytes_of : Stand → List ℕ
bytes_of stand = take stand.head.end (laid stand.head.end (stand.pieces stand.head.generation) 0)

-- with the zeros behind them
abbrev pub file_of : Stand → List ℕ
file_of stand = bytes_of stand ++ replicate stand.head.room 0
