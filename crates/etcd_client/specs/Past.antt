-- A list as it stood at one version: that is the revision at which its head was put, and what stood there then is told later, too, until
-- it is let go of.
use Rattle.std.specs.Prelude.{◌≡◌, ◌⊎◌, ◌<◌, ◌^◌, ◌++◌, ℕ, List, [], ◌∷◌, replicate, Option, None, Some, option_and_then, Ok}
use Rattle.etcd_cluster.specs.Bytes.{HasBytes, Make}
use Rattle.etcd_cluster.specs.Stands.{PieceFact, Pieces, Stand}
use Rattle.etcd_cluster.specs.Worlds.{AreThere}
use Rattle.etcd_cluster.specs.declared.change.Standing.{Standing}
use Rattle.etcd_cluster.specs.declared.change.Wanted.{Wanted}
use Rattle.etcd_json.specs.Replies.{EntryFact, FoundThere, ReplyFact, ResponseFact}
use Rattle.etcd_json.specs.Requests.{TransactionFact, transaction_text}
use Rattle.etcd_client.specs.Asked.{head_asked, past_asked}
use Rattle.etcd_client.specs.Effects.{AreHeld, ArePlaces, Held, HoldsPieces, effects}
use Rattle.etcd_client.specs.Exchanges.{Exchange, exchange, head_question, past_question, reply_by, txn_path}
use Rattle.etcd_client.specs.Told.{only_of}
use Rattle.etcd_keys.specs.Keys.{IsOfWords}

-- NOTHING IS CHANGED

-- A transaction was asked for that changes nothing, whatever stands there.
pub record IsReading (one : Exchange) : Type 0 where
  pub transaction : TransactionFact
  pub path : one.path ≡ txn_path
  pub body : one.body ≡ transaction_text transaction
  pub success : (held : Held) → effects transaction.success held ≡ held
  pub failure : (held : Held) → effects transaction.failure held ≡ held

-- nothing else was asked since
pub data OnlyReads (old : List Exchange) : List Exchange → Type 0 where
  nothing : OnlyReads old old
  one_more : (one : Exchange) (before : List Exchange) → IsReading one → OnlyReads old before → OnlyReads old (one ∷ before)

-- WHAT STOOD THERE

-- it was asked, and this was told
abbrev pub WasTold : List Exchange → TransactionFact → List ℕ → Type 0
WasTold [] transaction text = ⊥
WasTold (one ∷ before) transaction text = (one ≡ exchange txn_path (transaction_text transaction) (Ok text)) ⊎ WasTold before transaction text

abbrev pub entries_of : ResponseFact → Option (List EntryFact)
entries_of (FoundThere found) = Some found.entries
entries_of other = None

abbrev pub entries_in : ReplyFact → Option (List EntryFact)
entries_in reply = option_and_then entries_of (only_of reply.responses)

-- the entries that a text of that cluster tells
abbrev pub entries_told : ℕ → List ℕ → Option (List EntryFact)
entries_told cluster text = option_and_then entries_in (reply_by (Some cluster) text)

-- WHAT IS TRUSTED HERE: a range at a revision tells what stood there then. By all that was told of pieces of that version, this did.
abbrev pub IsAsTold : List ℕ → ℕ → ℕ → List Exchange → Held → Type 0
IsAsTold prefix cluster version asked held =
    (wanted : Wanted) (text : List ℕ) (entries : List EntryFact) → wanted.version ≡ version → WasTold asked (past_asked prefix wanted) text
    → entries_told cluster text ≡ Some entries → AreHeld held entries

-- Pieces that were told of a version stood there then.
abbrev pub StoodThere : Type 0
StoodThere =
    (prefix : List ℕ) (cluster : ℕ) (wanted : Wanted) (asked : List Exchange) (text : List ℕ) (pieces : List PieceFact) (held : Held) (stand : Stand)
    → wanted.generation < 2 ^ 64 → WasTold asked (past_asked prefix wanted) text → (past_question prefix cluster wanted).read text ≡ Some pieces
    → ArePlaces pieces → IsAsTold prefix cluster wanted.version asked held → HoldsPieces prefix held stand.pieces
    → AreThere wanted.generation pieces stand

-- the first bytes of pieces that stood there then
abbrev pub AreFirst : List ℕ → ℕ → Standing → List Exchange → List ℕ → Type 0
AreFirst prefix cluster standing asked bytes =
    (held : Held) (pieces : Pieces) → IsAsTold prefix cluster standing.version asked held → standing.head.generation < 2 ^ 64 → HoldsPieces prefix held pieces
    → Make (pieces standing.head.generation) 0 bytes

-- the bytes of any list of that head that stood there then
abbrev pub AreOf : List ℕ → ℕ → Standing → List Exchange → List ℕ → Type 0
AreOf prefix cluster standing asked bytes =
    (held : Held) (stand : Stand) → IsAsTold prefix cluster standing.version asked held → IsOfWords stand.head → stand.head ≡ standing.head
    → HoldsPieces prefix held stand.pieces → HasBytes stand bytes

-- THE BYTES OF A LIST AS IT STOOD AT ONE VERSION: its head was told, and these are those of its pieces then, with its zeros behind them.
pub record IsListed (prefix : List ℕ) (cluster : ℕ) (asked : List Exchange) (bytes : List ℕ) : Type 0 where
  pub standing : Standing
  pub text : List ℕ
  pub told : WasTold asked (head_asked prefix) text
  pub read : (head_question prefix cluster).read text ≡ Some (Some standing)
  pub some : 0 < standing.version
  pub pieced : List ℕ
  pub are : AreOf prefix cluster standing asked pieced
  pub is : bytes ≡ pieced ++ replicate standing.head.room 0
