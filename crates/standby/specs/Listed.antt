-- A list that is read as it stood at one version.
use Rattle.std.specs.Prelude.{◌≡◌, ◌<◌, ◌≤◌, ◌^◌, ◌++◌, ℕ, List, [], ◌∷◌, length, Some}
use Rattle.etcd_client.specs.Exchanges.{Exchange, Question}
use Rattle.etcd_client.specs.Past.{IsListed, OnlyReads, WasTold}
use Rattle.etcd_cluster.specs.Stands.{PieceFact}
use Rattle.etcd_json.specs.Requests.{TransactionFact}

-- by this transaction it was asked, and what is given was told
pub record Told {A B : Type 0} (question : Question A B) (transaction : TransactionFact) (asked : List Exchange) (given : A) : Type 0 where
  pub text : List ℕ
  pub was : WasTold asked transaction text
  pub read : question.read text ≡ Some (question.view given)

-- A LIST WAS TAKEN: these bytes are those of the list as it stood at one version, by what was asked, and nothing else was.
pub record IsTaken (prefix : List ℕ) (asked : List Exchange) (bytes : List ℕ) : Type 0 where
  pub cluster : ℕ
  pub listed : IsListed prefix cluster asked bytes
  pub reads : OnlyReads [] asked

-- so it is by what was asked of some members
abbrev pub IsListOf : List ℕ → List ℕ → Type 0
IsListOf prefix bytes = (asked : List Exchange) × IsTaken prefix asked bytes

-- A piece is added, where it is the only one, begins where those end that are there, and stays within so many bytes.
pub record AddsPiece (pieces : List PieceFact) (end : ℕ) (old new : List ℕ) : Type 0 where
  pub piece : PieceFact
  pub only : pieces ≡ piece ∷ []
  pub at : piece.at ≡ length old
  pub some : 0 < length piece.bytes
  pub is : new ≡ old ++ piece.bytes
  pub within : length new ≤ end
  pub fits : end < 2 ^ 64
