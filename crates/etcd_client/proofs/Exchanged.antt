-- What is given is read of what was told.
use Rattle.std.proofs.Common.{◌≡◌, ◌∙◌, inl, inr, ℕ, Bool, true, false, List, ◌∷◌, ap, refl, subst}
use Rattle.std.specs.Prelude.{◌==◌, if◌then◌else◌, not, Option, None, Some, option_and_then, option_map, Result, Ok, Err}
use Rattle.etcd_json.specs.Replies.{ReplyFact, reply_fact, transaction_told}
use Rattle.etcd_json.specs.Requests.{TransactionFact, transaction_text}
use Rattle.etcd_json.specs.Outcomes.{ReadsAs}
use Rattle.etcd_json.specs.declared.reply.Reply.{Reply}
use Rattle.etcd_json.specs.declared.reply.ReplyFault.{ReplyFault}
use Rattle.etcd_json.specs.declared.reply.ReplyFault.TheVariants as reply
use Rattle.etcd_client.specs.Told.{unread_by}
use Rattle.etcd_client.specs.Exchanges.{Asks, Exchange, IsReadOf, IsUntold, MayAsk, Question, asking, exchange, is_other, of_cluster, reply_by, reply_question, txn_path}
use Rattle.etcd_client.specs.declared.members.AskFault.{AskFault}
use Rattle.etcd_client.specs.declared.members.AskFault.TheVariants.{Memory, Refused, Unclear}

no_fault : {A : Type 0} (given : A) → ◌≡◌ {A = Result A AskFault} (Ok given) (Err Memory) → ⊥
no_fault given is = cc

-- a fault is told as it was
pub fault_read : {A B : Type 0} (question : Question A B) (fault : AskFault) → IsReadOf question (Err fault) (Err fault)
fault_read question Unclear = refl
fault_read question Memory = tt
fault_read question (Refused code) = refl

-- What was asked, and what was told of it, by the text that was sent.
module _ {A B : Type 0} (question : Question A B) (body : List ℕ) (old new : List Exchange) (is : body ≡ question.body) where
  told_so : (told : Result (List ℕ) AskFault) → new ≡ exchange question.path body told ∷ old → new ≡ exchange question.path question.body told ∷ old
  told_so told asked = asked ∙ ap (λ (b : List ℕ). exchange question.path b told ∷ old) is

  pub asked_fault : (fault : AskFault) → new ≡ exchange question.path body (Err fault) ∷ old → Asks question (Err fault) old new
  asked_fault fault asked = record { told = Err fault; exchanges = told_so (Err fault) asked; read = fault_read question fault }

  -- a text that is not read
  pub asked_unread : (unread : ReplyFault) (text : List ℕ) (read : Option B) → new ≡ exchange question.path body (Ok text) ∷ old → question.read text ≡ read
      → ReadsAs question.view (Err unread) read → Asks question (Err (unread_by unread)) old new
  asked_unread reply.Memory text read asked is none = record { told = Ok text; exchanges = told_so (Ok text) asked; read = tt }
  asked_unread reply.Strange text read asked is none = record { told = Ok text; exchanges = told_so (Ok text) asked; read = is ∙ none }

  pub asked_none : (text : List ℕ) → new ≡ exchange question.path body (Ok text) ∷ old → question.read text ≡ None → Asks question (Err Unclear) old new
  asked_none text asked none = record { told = Ok text; exchanges = told_so (Ok text) asked; read = none }

  pub asked_given : (text : List ℕ) (given : A) → new ≡ exchange question.path body (Ok text) ∷ old → question.read text ≡ Some (question.view given)
      → Asks question (Ok given) old new
  asked_given text given asked read = record { told = Ok text; exchanges = told_so (Ok text) asked; read = (text, refl, read) }

-- What is given was asked for.
pub asks_clear : {A B : Type 0} (question : Question A B) (given : A) (old new : List Exchange) → MayAsk question (Ok given) old new → Asks question (Ok given) old new
asks_clear question given old new (inl asks) = asks
asks_clear question given old new (inr none) = absurd (no_fault given none.0)

pub asks_so : {A B : Type 0} (question : Question A B) (given this : A) (old new : List Exchange) → given ≡ this → MayAsk question (Ok given) old new
    → Asks question (Ok this) old new
asks_so question given this old new is may = subst (λ a. Asks question (Ok a) old new) is (asks_clear question given old new may)

module _ {A B : Type 0} (known : Option ℕ) (transaction : TransactionFact) (view : A → B) (told : ReplyFact → Option B) (old new : List Exchange) where
  abbrev whole : Question Reply ReplyFact
  whole = reply_question known (transaction_text transaction)

  abbrev part : Question A B
  part = asking known transaction view told

  no_reply : (text : Result (List ℕ) AskFault) → IsUntold whole text → IsUntold part text
  no_reply (Ok text) is = ap (λ (o : Option ReplyFact). option_and_then told o) is
  no_reply (Err fault) is = is

  fault_as : (fault : AskFault) (text : Result (List ℕ) AskFault) → IsReadOf whole text (Err fault) → IsReadOf part text (Err fault)
  fault_as Unclear text is = no_reply text is
  fault_as Memory text is = tt
  fault_as (Refused code) text is = is

  -- where there is no reply
  pub asks_fault : (fault : AskFault) → Asks whole (Err fault) old new → Asks part (Err fault) old new
  asks_fault fault asks = record { told = asks.told; exchanges = asks.exchanges; read = fault_as fault asks.told asks.read }

  -- where the reply tells what is given
  pub asks_given : (reply : Reply) (given : A) → told (reply_fact reply) ≡ Some (view given) → Asks whole (Ok reply) old new → Asks part (Ok given) old new
  asks_given reply given is asks =
      let read = asks.read in
      record {
        told = asks.told;
        exchanges = asks.exchanges;
        read = (read.0, read.1, ap (λ (o : Option ReplyFact). option_and_then told o) read.2 ∙ is);
      }

  not_told : (text : Result (List ℕ) AskFault) (reply : Reply) → IsReadOf whole text (Ok reply) → told (reply_fact reply) ≡ None → IsUntold part text
  not_told text reply read none =
      rw read.1 (ap (λ (o : Option ReplyFact). option_and_then told o) read.2 ∙ none)

  -- where it tells nothing of the kind, or memory was refused
  pub asks_unread : (unread : ReplyFault) (reply : Reply) → ReadsAs view (Err unread) (told (reply_fact reply)) → Asks whole (Ok reply) old new
      → Asks part (Err (unread_by unread)) old new
  asks_unread reply.Memory reply is asks = record { told = asks.told; exchanges = asks.exchanges; read = tt }
  asks_unread reply.Strange reply is asks = record { told = asks.told; exchanges = asks.exchanges; read = not_told asks.told reply asks.read is }

-- what tells nothing tells nothing that is made of it
pub unread_map : {A B C D : Type 0} (view : A → B) (other : C → D) (f : B → D) (unread : ReplyFault) (read : Option B) → ReadsAs view (Err unread) read
    → ReadsAs other (Err unread) (option_map f read)
unread_map view other f reply.Memory read is = tt
unread_map {B = B} view other f reply.Strange read is = ap (λ (o : Option B). option_map f o) is

-- a text that is no reply
pub asked_no_reply : (known : Option ℕ) (body text : List ℕ) (old new : List Exchange) (unread : ReplyFault) (read : Option ReplyFact)
    → new ≡ exchange txn_path body (Ok text) ∷ old → transaction_told text ≡ read → ReadsAs reply_fact (Err unread) read
    → Asks (reply_question known body) (Err (unread_by unread)) old new
asked_no_reply known body text old new reply.Memory read asked is none = record { told = Ok text; exchanges = asked; read = tt }
asked_no_reply known body text old new reply.Strange read asked is none =
    record { told = Ok text; exchanges = asked; read = ap (λ (o : Option ReplyFact). option_and_then (of_cluster known) o) (is ∙ none) }

-- it is of the cluster that is known
pub same_cluster : (known : Option ℕ) (reply : ReplyFact) → is_other known reply.header.cluster ≡ false → of_cluster known reply ≡ Some reply
same_cluster None reply is = refl
same_cluster (Some known) reply is = by_test (known == reply.header.cluster) is
  where
    by_test : (b : Bool) → not b ≡ false → (if b then Some reply else None) ≡ Some reply
    by_test true is = refl
    by_test false is = absurd cc

-- it is of another one
pub other_cluster : (known : Option ℕ) (reply : ReplyFact) → is_other known reply.header.cluster ≡ true → of_cluster known reply ≡ None
other_cluster None reply is = absurd cc
other_cluster (Some known) reply is = by_test (known == reply.header.cluster) is
  where
    by_test : (b : Bool) → not b ≡ true → (if b then Some reply else None) ≡ None
    by_test true is = absurd cc
    by_test false is = refl

pub other_read : (known : Option ℕ) (text : List ℕ) (reply : Reply) → transaction_told text ≡ Some (reply_fact reply) → is_other known reply.header.cluster ≡ true
    → reply_by known text ≡ None
other_read known text reply is other = ap (λ (o : Option ReplyFact). option_and_then (of_cluster known) o) is ∙ other_cluster known (reply_fact reply) other

pub reply_read : (known : Option ℕ) (text : List ℕ) (reply : Reply) → transaction_told text ≡ Some (reply_fact reply) → is_other known reply.header.cluster ≡ false
    → reply_by known text ≡ Some (reply_fact reply)
reply_read known text reply is same = ap (λ (o : Option ReplyFact). option_and_then (of_cluster known) o) is ∙ same_cluster known (reply_fact reply) same
