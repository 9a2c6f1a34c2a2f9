-- A list that is read as it stood at one version.
use Rattle.std.proofs.Common.{◌≡◌, ◌∙◌, ◌<◌, ◌+◌, ◌++◌, inl, inr, ℕ, List, [], ◌∷◌, ap, append-nil, append_assoc, arith, length, length-append, refl, subst, sym}
use Rattle.std.specs.Prelude.{Bool, Err, IfOk, None, Ok, Option, Result, Some}
use Rattle.std.specs.Global.{Vec}
use Rattle.etcd_client.specs.Asked.{head_asked, leader_asked, past_asked}
use Rattle.etcd_client.specs.Effects.{Held, effects}
use Rattle.etcd_client.specs.Exchanges.{Exchange, MayAsk, asking, cluster_question, cluster_told, elsewhere_question, head_question, past_question}
use Rattle.etcd_client.specs.Past.{AreFirst, AreOf, IsAsTold, IsListed, OnlyReads, StoodThere, WasTold, nothing, one_more}
use Rattle.etcd_client.specs.Told.{elsewhere_told, head_read, past_told, pieces_of}
use Rattle.etcd_client.specs.declared.members.AskFault.{AskFault}
use Rattle.etcd_client.specs.declared.members.AskFault.TheVariants.{Memory}
use Rattle.etcd_cluster.specs.Bytes.{Make}
use Rattle.etcd_cluster.specs.Bytes as bytes
use Rattle.etcd_cluster.specs.Stands.{Stand, no_head}
use Rattle.etcd_cluster.specs.declared.change.Head.{Head}
use Rattle.etcd_cluster.specs.declared.change.Piece.{Piece}
use Rattle.etcd_cluster.specs.declared.change.Standing.{Standing}
use Rattle.etcd_cluster.specs.declared.change.Wanted.{Wanted}
use Rattle.etcd_json.specs.Replies.{ReplyFact}
use Rattle.etcd_json.specs.Requests.{TransactionFact}
use Rattle.standby.specs.Listed.{AddsPiece, IsTaken, Told}
use Rattle.standby.specs.declared.fault.ListFault.{ListFault}

-- NOTHING ELSE IS ASKED

pub reads_on : (old mid new : List Exchange) → OnlyReads old mid → OnlyReads mid new → OnlyReads old new
reads_on old mid _ before nothing = before
reads_on old mid _ before (one_more one rest is later) = one_more one rest is (reads_on old mid rest before later)

-- by a transaction that changes nothing
pub record ChangesNothing (transaction : TransactionFact) : Type 0 where
  pub success : (held : Held) → effects transaction.success held ≡ held
  pub failure : (held : Held) → effects transaction.failure held ≡ held

pub reads_one : {A B : Type 0} (known : Option ℕ) (transaction : TransactionFact) (view : A → B) (read : ReplyFact → Option B) (r : Result A AskFault) (old new : List Exchange)
    → ChangesNothing transaction → MayAsk (asking known transaction view read) r old new → OnlyReads old new
reads_one known transaction view read r old new harmless (inl asks) =
    subst (λ (e : List Exchange). OnlyReads old e) (sym asks.exchanges)
    (one_more _ old (record { transaction = transaction; path = refl; body = refl; success = harmless.success; failure = harmless.failure }) nothing)
reads_one known transaction view read r old new harmless (inr none) = subst (λ (e : List Exchange). OnlyReads old e) (sym none.1) nothing

-- what was told is told still
pub told_still : (old new : List Exchange) (transaction : TransactionFact) (text : List ℕ) → OnlyReads old new → WasTold old transaction text → WasTold new transaction text
told_still old _ transaction text nothing was = was
told_still old _ transaction text (one_more one rest is later) was = inr (told_still old rest transaction text later was)

no_fault : {A : Type 0} (x : A) → ◌≡◌ {A = Result A AskFault} (Ok x) (Err Memory) → ⊥
no_fault x is = cc

-- what is given was told
pub told_one : {A B : Type 0} (known : Option ℕ) (transaction : TransactionFact) (view : A → B) (read : ReplyFact → Option B) (given : A) (old new : List Exchange)
    → MayAsk (asking known transaction view read) (Ok given) old new → Told (asking known transaction view read) transaction new given
told_one known transaction view read given old new (inl asks) =
    let text = asks.read.0 in
    record {
      text = text;
      was = subst (λ (e : List Exchange). WasTold e transaction text) (sym asks.exchanges) (inl (rw asks.read.1 refl));
      read = asks.read.2;
    }
told_one known transaction view read given old new (inr none) = absurd (no_fault given none.0)

-- THE HEAD AND PIECES

module _ (prefix : List ℕ) (cluster : ℕ) (old new : List Exchange) where
  pub head_reads : (r : Result (Option Standing) AskFault) → MayAsk (head_question prefix cluster) r old new → OnlyReads old new
  head_reads r may =
      reads_one (Some cluster) (head_asked prefix) (λ (found : Option Standing). found) (head_read prefix) r old new (record { success = λ held. refl; failure = λ held. refl }) may

  pub head_told : (found : Option Standing) → MayAsk (head_question prefix cluster) (Ok found) old new
      → Told (head_question prefix cluster) (head_asked prefix) new found
  head_told found may = told_one (Some cluster) (head_asked prefix) (λ (f : Option Standing). f) (head_read prefix) found old new may

  pub pieces_reads : (wanted : Wanted) (r : Result (Vec Piece) AskFault) → MayAsk (past_question prefix cluster wanted) r old new → OnlyReads old new
  pieces_reads wanted r may =
      reads_one (Some cluster) (past_asked prefix wanted) pieces_of (past_told prefix wanted.generation) r old new (record { success = λ held. refl; failure = λ held. refl }) may

  pub pieces_told : (wanted : Wanted) (found : Vec Piece) → MayAsk (past_question prefix cluster wanted) (Ok found) old new
      → Told (past_question prefix cluster wanted) (past_asked prefix wanted) new found
  pieces_told wanted found may = told_one (Some cluster) (past_asked prefix wanted) pieces_of (past_told prefix wanted.generation) found old new may

-- in which cluster members are, and whether a list was begun there
pub cluster_reads : (prefix : List ℕ) (r : Result ℕ AskFault) (old new : List Exchange) → MayAsk (cluster_question prefix) r old new → OnlyReads old new
cluster_reads prefix r old new may =
    reads_one None (leader_asked prefix) (λ (cluster : ℕ). cluster) cluster_told r old new (record { success = λ held. refl; failure = λ held. refl }) may

pub elsewhere_reads : (prefix : List ℕ) (r : Result Bool AskFault) (old new : List Exchange) → MayAsk (elsewhere_question prefix) r old new → OnlyReads old new
elsewhere_reads prefix r old new may =
    reads_one None (head_asked prefix) (λ (elsewhere : Bool). elsewhere) (elsewhere_told prefix) r old new (record { success = λ held. refl; failure = λ held. refl }) may

-- WHAT STOOD THERE

-- by more that is asked no less is known
pub as_told_before : (prefix : List ℕ) (cluster version : ℕ) (old new : List Exchange) (held : Held) → OnlyReads old new → IsAsTold prefix cluster version new held
    → IsAsTold prefix cluster version old held
as_told_before prefix cluster version old new held reads told =
    λ wanted text entries is was are. told wanted text entries is (told_still old new (past_asked prefix wanted) text reads was) are

-- no piece makes no bytes
pub first_none : (prefix : List ℕ) (cluster : ℕ) (standing : Standing) (asked : List Exchange) → AreFirst prefix cluster standing asked []
first_none prefix cluster standing asked = λ held pieces told fits holds. bytes.none 0

-- one piece more, behind the others
make_more : (pieces : ℕ → Option (List ℕ)) (at place : ℕ) (made piece : List ℕ) → Make pieces at made → place ≡ at + length made → pieces place ≡ Some piece → 0 < length piece
    → Make pieces at (made ++ piece)
make_more pieces at place _ piece (bytes.none _) is there some =
    let here : place ≡ at = omega (arith, is) in
    subst (λ (b : List ℕ). Make pieces at b) (append-nil piece)
    (bytes.one_more at piece [] (rw here at there) some (bytes.none (at + length piece)))
make_more pieces at place _ piece (bytes.one_more _ one rest first first_some later) is there some =
    let long = length-append one rest in
    let here : place ≡ (at + length one) + length rest = omega (arith, is, long) in
    subst (λ (b : List ℕ). Make pieces at b) (sym (append_assoc one rest piece))
    (bytes.one_more at one (rest ++ piece) first first_some (make_more pieces (at + length one) place rest piece later here there some))

pub first_more : StoodThere → (prefix : List ℕ) (cluster : ℕ) (standing : Standing) (wanted : Wanted) (old new : List Exchange) (pieces : Vec Piece) (end : ℕ) (made all : List ℕ)
    → AreFirst prefix cluster standing old made → OnlyReads old new → Told (past_question prefix cluster wanted) (past_asked prefix wanted) new pieces
    → wanted.version ≡ standing.version → wanted.generation ≡ standing.head.generation → AddsPiece (pieces_of pieces) end made all
    → AreFirst prefix cluster standing new all
first_more law prefix cluster standing wanted old new pieces end made all are reads told version generation adds =
    λ held stood as_told generation_fits holds.
    let was = are held stood (as_told_before prefix cluster standing.version old new held reads as_told) generation_fits holds in
    let stand : Stand = record { version = 0; head = no_head; pieces = stood } in
    let long = length-append made adds.piece.bytes in
    let size = ap (λ (b : List ℕ). length b) adds.is in
    let at = adds.at in
    let some = adds.some in
    let within = adds.within in
    let fits = adds.fits in
    let place : adds.piece.at < 0xffffffffffffffff = omega (arith, long, size, at, some, within, fits) in
    let from : adds.piece.at ≡ 0 + length made = omega (arith, at) in
    let read = told.read in
    let there = law prefix cluster wanted new told.text (adds.piece ∷ []) held stand (rw generation generation_fits) told.was (rw adds.only at read) (place, tt) (rw version as_told) holds in
    let first : stood standing.head.generation adds.piece.at ≡ Some adds.piece.bytes = rw generation at there.0 in
    subst (λ (b : List ℕ). Make (stood standing.head.generation) 0 b) (sym adds.is)
    (make_more (stood standing.head.generation) 0 adds.piece.at made adds.piece.bytes was from first some)

-- all of them are the bytes of the list
pub are_of : (prefix : List ℕ) (cluster : ℕ) (standing : Standing) (asked : List Exchange) (made : List ℕ) → AreFirst prefix cluster standing asked made
    → length made ≡ standing.head.end → AreOf prefix cluster standing asked made
are_of prefix cluster standing asked made are size =
    λ held stand told words same holds.
    let generation = ap (λ (h : Head). h.generation) same in
    let end = ap (λ (h : Head). h.end) same in
    let fits = words.generation in
    (rw generation (are held stand.pieces told (rw generation at fits) holds), end ∙ sym size)

-- in some cluster
pub listed_in : (prefix : List ℕ) (cluster : ℕ) (asked : List Exchange) (r : Result (Vec ℕ) ListFault) → IfOk r (λ bytes. IsListed prefix cluster asked bytes.items)
    → IfOk r (λ bytes. (some : ℕ) × IsListed prefix some asked bytes.items)
listed_in prefix cluster asked (Ok bytes) listed = (cluster, listed)
listed_in prefix cluster asked (Err fault) listed = tt

-- all that was asked is known
pub taken_of : (prefix name : List ℕ) (old asked : List Exchange) (cluster : ℕ) (bytes : List ℕ) → name ≡ prefix → IsListed name cluster asked bytes → old ≡ [] → OnlyReads old asked
    → IsTaken prefix asked bytes
taken_of prefix name old asked cluster bytes of_prefix listed none reads = record {
  cluster = cluster;
  listed = rw of_prefix at listed;
  reads = rw none at reads;
}
