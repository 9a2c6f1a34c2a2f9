-- What was asked of the members of a cluster, and what was told.
use Rattle.std.specs.Prelude.{◌≡◌, ◌⊎◌, ◌<◌, ◌≤◌, ◌==◌, ◌+◌, ◌-◌, ◌*◌, ◌/◌, ◌^◌, min, ℕ, List, ◌∷◌, codes, if◌then◌else◌, nat_le, Option, None, Some, option_and_then, option_map, Result, Ok, Err, Bool, true, false, not}
use Rattle.std.specs.Global.{Vec}
use Rattle.etcd_cluster.specs.Stands.{ChangeFact, PieceFact}
use Rattle.etcd_cluster.specs.declared.change.Answer.{Answer}
use Rattle.etcd_cluster.specs.declared.change.Answer.TheVariants.{Done, NotDone}
use Rattle.etcd_cluster.specs.declared.change.CallFault.{CallFault}
use Rattle.etcd_cluster.specs.declared.change.CallFault.TheVariants as call
use Rattle.etcd_cluster.specs.declared.change.Piece.{Piece}
use Rattle.etcd_cluster.specs.declared.change.Standing.{Standing}
use Rattle.etcd_cluster.specs.declared.change.Wanted.{Wanted}
use Rattle.etcd_json.specs.Replies.{ReplyFact, granted_told, keepalive_told, reply_fact, revision_told, transaction_told}
use Rattle.etcd_json.specs.Requests.{TransactionFact, compaction_text, grant_text, lease_text, transaction_text}
use Rattle.etcd_json.specs.declared.reply.Granted.{Granted}
use Rattle.etcd_json.specs.declared.reply.Header.{Header}
use Rattle.etcd_json.specs.declared.reply.Reply.{Reply}
use Rattle.etcd_client.specs.Asked.{change_asked, head_asked, lead_asked, leader_asked, past_asked, pieces_asked}
use Rattle.etcd_client.specs.Told.{change_told, elsewhere_told, head_read, leader_told, past_told, pieces_of, pieces_seen, pieces_told}
use Rattle.etcd_client.specs.declared.leading.Led.{Led}
use Rattle.etcd_client.specs.declared.members.AskFault.{AskFault}
use Rattle.etcd_client.specs.declared.members.AskFault.TheVariants.{Memory, Refused, Unclear}

-- a request, and the text that was told of it
pub record Exchange : Type 0 where
  pub path : List ℕ
  pub body : List ℕ
  pub told : Result (List ℕ) AskFault

abbrev pub exchange : List ℕ → List ℕ → Result (List ℕ) AskFault → Exchange
exchange path body told = record { path = path; body = body; told = told }

abbrev pub text_of : Result (Vec ℕ) AskFault → Result (List ℕ) AskFault
text_of (Ok text) = Ok text.items
text_of (Err fault) = Err fault

-- what is asked, and how what is told is read
pub record Question (A B : Type 0) : Type 0 where
  pub path : List ℕ
  pub body : List ℕ
  pub view : A → B
  pub read : List ℕ → Option B

-- nothing that can be read was told
abbrev pub IsUntold : {A B : Type 0} → Question A B → Result (List ℕ) AskFault → Type 0
IsUntold question (Ok text) = question.read text ≡ None
IsUntold question (Err fault) = fault ≡ Unclear

-- What is given was read of the text that was told. It is refused only where that was told, and not clear only where nothing that can
-- be read was.
abbrev pub IsReadOf : {A B : Type 0} → Question A B → Result (List ℕ) AskFault → Result A AskFault → Type 0
IsReadOf question told (Ok given) = (text : List ℕ) × (told ≡ Ok text) × (question.read text ≡ Some (question.view given))
IsReadOf question told (Err Unclear) = IsUntold question told
IsReadOf question told (Err Memory) = Unit {0}
IsReadOf question told (Err (Refused code)) = told ≡ Err (Refused code)

-- It was asked once, and what is given is read of what was told.
pub record Asks {A B : Type 0} (question : Question A B) (result : Result A AskFault) (old new : List Exchange) : Type 0 where
  pub told : Result (List ℕ) AskFault
  pub exchanges : new ≡ exchange question.path question.body told ∷ old
  pub read : IsReadOf question told result

-- or nothing was asked: memory was refused
abbrev pub MayAsk : {A B : Type 0} → Question A B → Result A AskFault → List Exchange → List Exchange → Type 0
MayAsk question result old new = Asks question result old new ⊎ ((result ≡ Err Memory) × (new ≡ old))

-- TRANSACTIONS

abbrev pub is_other : Option ℕ → ℕ → Bool
is_other None cluster = false
is_other (Some known) cluster = not (known == cluster)

-- What a member of another cluster tells is no answer.
abbrev pub of_cluster : Option ℕ → ReplyFact → Option ReplyFact
of_cluster None reply = Some reply
of_cluster (Some known) reply = if known == reply.header.cluster then Some reply else None

abbrev pub reply_by : Option ℕ → List ℕ → Option ReplyFact
reply_by known text = option_and_then (of_cluster known) (transaction_told text)

abbrev pub txn_path : List ℕ
txn_path = codes "/v3/kv/txn"

abbrev pub reply_question : Option ℕ → List ℕ → Question Reply ReplyFact
reply_question known body = record { path = txn_path; body = body; view = reply_fact; read = reply_by known }

-- what is read of a reply
abbrev pub asking : {A B : Type 0} → Option ℕ → TransactionFact → (A → B) → (ReplyFact → Option B) → Question A B
asking known transaction view told =
    record { path = txn_path; body = transaction_text transaction; view = view; read = λ text. option_and_then told (reply_by known text) }

-- Each is asked in the cluster in which the server leads.
abbrev pub change_question : List ℕ → Led → ChangeFact → Question Answer Answer
change_question prefix led change = asking (Some led.cluster) (change_asked prefix led.server led.cluster change) (λ answer. answer) (change_told prefix)

abbrev pub head_question : List ℕ → ℕ → Question (Option Standing) (Option Standing)
head_question prefix cluster = asking (Some cluster) (head_asked prefix) (λ found. found) (head_read prefix)

abbrev pub pieces_question : List ℕ → Led → Wanted → Question (Option (Vec Piece)) (Option (List PieceFact))
pieces_question prefix led wanted = asking (Some led.cluster) (pieces_asked prefix wanted) pieces_seen (pieces_told prefix wanted.generation)

-- pieces that stood there then
abbrev pub past_question : List ℕ → ℕ → Wanted → Question (Vec Piece) (List PieceFact)
past_question prefix cluster wanted = asking (Some cluster) (past_asked prefix wanted) pieces_of (past_told prefix wanted.generation)

-- WHAT A CLUSTER IS TOLD TO HAVE ANSWERED

abbrev pub fault_by : AskFault → CallFault
fault_by Unclear = call.Unclear
fault_by Memory = call.Unclear
fault_by (Refused code) = call.Refused

-- a change is done only at a later version than the one that it names
abbrev pub answer_by : ChangeFact → Result Answer AskFault → Result Answer CallFault
answer_by change (Ok (Done version)) = if nat_le version change.after then Err call.Unclear else Ok (Done version)
answer_by change (Ok (NotDone found)) = Ok (NotDone found)
answer_by change (Err fault) = Err (fault_by fault)

-- a head that is there has a version
abbrev pub head_by : Result (Option Standing) AskFault → Result (Option Standing) CallFault
head_by (Ok None) = Ok None
head_by (Ok (Some found)) = if found.version == 0 then Err call.Unclear else Ok (Some found)
head_by (Err fault) = Err (fault_by fault)

abbrev pub pieces_by : Result (Option (Vec Piece)) AskFault → Result (Option (Vec Piece)) CallFault
pieces_by (Ok found) = Ok found
pieces_by (Err fault) = Err (fault_by fault)

-- OLDER REVISIONS

abbrev pub compaction_question : ℕ → Question Header Header
compaction_question version =
    record { path = codes "/v3/kv/compaction"; body = compaction_text version; view = λ header. header; read = revision_told }

-- LEASES

abbrev pub keepalive_question : ℕ → Question ℕ ℕ
keepalive_question lease =
    record { path = codes "/v3/lease/keepalive"; body = lease_text lease; view = λ seconds. seconds; read = keepalive_told }

-- a lease ends
abbrev pub revoke_question : ℕ → Question Header Header
revoke_question lease = record { path = codes "/v3/lease/revoke"; body = lease_text lease; view = λ header. header; read = revision_told }

abbrev pub grant_question : ℕ → Question Granted Granted
grant_question seconds = record { path = codes "/v3/lease/grant"; body = grant_text seconds; view = λ granted. granted; read = granted_told }

-- a lease was to begin anew, or not
abbrev pub MayKeep : ℕ → List Exchange → List Exchange → Type 0
MayKeep lease old new = (new ≡ old) ⊎ ((result : Result ℕ AskFault) × MayAsk (keepalive_question lease) result old new)

-- three times in the time that it lasts, in milliseconds
abbrev pub third : ℕ → ℕ
third seconds = min (seconds * 1000) (2 ^ 64 - 1) / 3

abbrev pub due_at : Led → ℕ → ℕ
due_at led kept = min (kept + third led.seconds) (2 ^ 64 - 1)

-- by when it is to be kept again, by what was told: or it is no more
abbrev pub kept_by : Led → ℕ → Result ℕ AskFault → Result ℕ CallFault
kept_by led now (Ok seconds) = if seconds == 0 then Err call.Refused else Ok (due_at led now)
kept_by led now (Err Unclear) = Ok (min (now + third led.seconds / 4) (2 ^ 64 - 1))
kept_by led now (Err Memory) = Ok (min (now + third led.seconds / 4) (2 ^ 64 - 1))
kept_by led now (Err (Refused code)) = Err call.Refused

-- A lease begins anew where it is time.
abbrev pub KeepsLease : Led → ℕ → ℕ → Result ℕ CallFault → List Exchange → List Exchange → Type 0
KeepsLease led kept now result old new =
    ((now < due_at led kept) × (result ≡ Ok (due_at led kept)) × (new ≡ old))
    ⊎ ((due_at led kept ≤ now) × ((told : Result ℕ AskFault) × MayAsk (keepalive_question led.lease) told old new × (result ≡ kept_by led now told)))

-- WHO LEADS

-- in which cluster nobody does: none where somebody does
abbrev pub free_in : ℕ → Bool → Option ℕ
free_in cluster true = None
free_in cluster false = Some cluster

abbrev pub free_told : ReplyFact → Option (Option ℕ)
free_told reply = option_map (free_in reply.header.cluster) (leader_told reply)

abbrev pub leader_question : List ℕ → Question (Option ℕ) (Option ℕ)
leader_question prefix = asking None (leader_asked prefix) (λ free. free) free_told

-- whether the list was begun in another cluster than the one that answers
abbrev pub elsewhere_question : List ℕ → Question Bool Bool
elsewhere_question prefix = asking None (head_asked prefix) (λ elsewhere. elsewhere) (elsewhere_told prefix)

-- which cluster answers that, whoever leads there
abbrev pub cluster_told : ReplyFact → Option ℕ
cluster_told reply = Some reply.header.cluster

abbrev pub cluster_question : List ℕ → Question ℕ ℕ
cluster_question prefix = asking None (leader_asked prefix) (λ cluster. cluster) cluster_told

abbrev pub lead_question : List ℕ → ℕ → ℕ → Question Reply ReplyFact
lead_question prefix cluster lease = reply_question (Some cluster) (transaction_text (lead_asked prefix lease))

-- Nobody led in that cluster, and a lease was granted, by these requests.
pub record MayLead (prefix : List ℕ) (seconds cluster : ℕ) (lease : Granted) (old new : List Exchange) : Type 0 where
  pub asked : List Exchange
  pub none_leads : Asks (leader_question prefix) (Ok (Some cluster)) old asked
  pub grants : Asks (grant_question seconds) (Ok lease) asked new

-- A server leads: nobody did, and by its lease it does since that revision, which is its number.
pub record HasLed (prefix : List ℕ) (seconds : ℕ) (led : Led) (old new : List Exchange) : Type 0 where
  pub granted : List Exchange
  pub lease : Granted
  pub reply : Reply
  pub may : MayLead prefix seconds led.cluster lease old granted
  pub leads : Asks (lead_question prefix led.cluster lease.lease) (Ok reply) granted new
  pub done : reply.succeeded ≡ true
  pub is : led ≡ record { cluster = led.cluster; server = reply.header.revision; lease = lease.lease; seconds = lease.seconds }

-- It does not: somebody does, or did by then.
pub data HasNotLed (prefix : List ℕ) (seconds : ℕ) (old new : List Exchange) : Type 0 where
  some_lead : Asks (leader_question prefix) (Ok None) old new → HasNotLed prefix seconds old new
  too_late : (cluster : ℕ) (granted : List Exchange) (lease : Granted) (reply : Reply) → MayLead prefix seconds cluster lease old granted
      → Asks (lead_question prefix cluster lease.lease) (Ok reply) granted new → reply.succeeded ≡ false → HasNotLed prefix seconds old new

-- It is not clear, or it was refused: where somebody was to be asked for, a lease, or the lead.
pub data HasStopped (prefix : List ℕ) (seconds : ℕ) (fault : AskFault) (old new : List Exchange) : Type 0 where
  at_first : MayAsk (leader_question prefix) (Err fault) old new → HasStopped prefix seconds fault old new
  at_lease : (cluster : ℕ) (asked : List Exchange) → Asks (leader_question prefix) (Ok (Some cluster)) old asked
      → MayAsk (grant_question seconds) (Err fault) asked new → HasStopped prefix seconds fault old new
  at_last : (cluster : ℕ) (granted : List Exchange) (lease : Granted) → MayLead prefix seconds cluster lease old granted
      → MayAsk (lead_question prefix cluster lease.lease) (Err fault) granted new → HasStopped prefix seconds fault old new

abbrev pub Leads : List ℕ → ℕ → Result (Option Led) AskFault → List Exchange → List Exchange → Type 0
Leads prefix seconds (Ok (Some led)) old new = HasLed prefix seconds led old new
Leads prefix seconds (Ok None) old new = HasNotLed prefix seconds old new
Leads prefix seconds (Err fault) old new = HasStopped prefix seconds fault old new
