-- How a request for a reload, or for metrics, is answered.
use Rattle.std.specs.Prelude.{◌≡◌, ◌≤◌, ⊤, ℕ, List, [], ◌∷◌, ◌++◌, Bool, true, false, Option, None, Some, codes, length}
use Rattle.std.specs.Option.{option_copied}
use Rattle.messages.specs.Members.{Member}
use Rattle.messages.specs.Members.Member.{Text, Number}
use Rattle.messages.specs.Reply.{Reply, plain}
use Rattle.messages.specs.Reply.Body.{Empty, Failure, Told}
use Rattle.messages.specs.Written.{crlf, in_writing, length_line, line, reply_bytes}
use Rattle.messages.specs.declared.error.ErrorName.TheVariants as error
use Rattle.registry_json.specs.declared.spot.Spot.{Spot}
use Rattle.state_file.specs.declared.fault.StateFault.{StateFault}
use Rattle.state_file.specs.declared.fault.StateFault.TheVariants as state
use Rattle.desk.specs.declared.candidate.ReloadFault.{ReloadFault}
use Rattle.desk.specs.declared.candidate.ReloadFault.TheVariants as faults
use Rattle.desk.specs.declared.not_begun.NotBegun.{NotBegun}
use Rattle.desk.specs.declared.not_begun.NotBegun.TheVariants as not_begun
use Rattle.desk.specs.declared.reply.Refusal.{Refusal}
use Rattle.desk.specs.declared.reply.Refusal.TheVariants as refusal
use Rattle.desk.specs.declared.reply.Reloaded.{Reloaded}

-- a refusal for something, at this spot, where there is one
abbrev pub refused_members : List ℕ → Option (List ℕ) → List Member
refused_members detail (Some spot) = Text (codes "at") spot ∷ Text (codes "detail") detail ∷ Text (codes "error") (codes "reload_refused") ∷ []
refused_members detail None = Text (codes "detail") detail ∷ Text (codes "error") (codes "reload_refused") ∷ []

abbrev pub refused_for : List ℕ → Option (List ℕ) → Reply
refused_for detail spot = plain 400 (Told (refused_members detail spot))

abbrev pub refusal_of : Refusal → Reply
refusal_of refusal.NoKey = plain 403 (Failure error.AccessDenied)
refusal_of refusal.NotNow = plain 503 Empty
refusal_of (refusal.For detail spot) = refused_for detail.now (option_copied spot)

abbrev pub IsRefusalReply : Refusal → List ℕ → Type 0
IsRefusalReply why bytes = bytes ≡ reply_bytes (in_writing (refusal_of why))

-- how many clients and owners the registry has
abbrev pub granted : Reloaded → Reply
granted reloaded = plain 200 (Told (Number (codes "clients") reloaded.clients ∷ Number (codes "owners") reloaded.owners ∷ []))

abbrev pub IsGrantedReply : Reloaded → List ℕ → Type 0
IsGrantedReply reloaded bytes = bytes ≡ reply_bytes (in_writing (granted reloaded))

-- a text that a reply may have
abbrev pub IsShort : List ℕ → Type 0
IsShort text = length text ≤ 512

abbrev pub AreShort : List ℕ → Option (List ℕ) → Type 0
AreShort detail None = IsShort detail
AreShort detail (Some spot) = IsShort detail × IsShort spot

abbrev pub HasShortTexts : Refusal → Type 0
HasShortTexts (refusal.For detail spot) = AreShort detail.now (option_copied spot)
HasShortTexts why = ⊤

-- METRICS

-- they are this text, in the format of Prometheus
abbrev pub metrics_reply : List ℕ → List ℕ
metrics_reply text =
    line (codes "HTTP/1.1 200 OK") ++ line (codes "Content-Type: text/plain; version=0.0.4") ++ line (codes "Cache-Control: no-store")
    ++ line (codes "Connection: close") ++ length_line (length text) ++ crlf ++ text

-- they are not told without the operator's key
abbrev pub no_key_bytes : List ℕ
no_key_bytes =
    line (codes "HTTP/1.1 403 Forbidden") ++ line (codes "Content-Type: application/json") ++ line (codes "Cache-Control: no-store")
    ++ line (codes "Pragma: no-cache") ++ line (codes "Content-Length: 25") ++ crlf ++ codes "{\"error\":\"access_denied\"}"

-- nor where memory for them is refused
abbrev pub no_memory_bytes : List ℕ
no_memory_bytes = line (codes "HTTP/1.1 503 Service Unavailable") ++ line (codes "Content-Length: 0") ++ crlf

-- by whether that was sent, and by the page, where memory was had for it
abbrev pub scrape_reply : Bool → Option (List ℕ) → List ℕ
scrape_reply false page = no_key_bytes
scrape_reply true (Some page) = page
scrape_reply true None = no_memory_bytes

-- WHY A RELOAD IS NOT BEGUN

-- no request for one is answered now
abbrev pub IsUnavailable : List ℕ → Type 0
IsUnavailable bytes = IsRefusalReply refusal.NotNow bytes

-- it is refused for something, at this spot, where there is one; rows say how faults and spots are spelled
abbrev pub IsRefusedAt : Option (List ℕ) → List ℕ → Type 0
IsRefusedAt spot bytes = (detail : List ℕ) × (bytes ≡ reply_bytes (in_writing (refused_for detail spot)))

-- for a fault of its registry, whose spot is told, where there is one
abbrev pub IsConfigReply : Option Spot → List ℕ → Type 0
IsConfigReply None bytes = IsRefusedAt None bytes
IsConfigReply (Some spot) bytes = (at : List ℕ) × IsRefusedAt (Some at) bytes

-- for its registry's file
abbrev pub IsFileReply : ReloadFault → List ℕ → Type 0
IsFileReply faults.Memory bytes = IsUnavailable bytes
IsFileReply faults.CannotRead bytes = bytes ≡ reply_bytes (in_writing (refused_for (codes "CannotRead") None))
IsFileReply (faults.Config fault spot) bytes = IsConfigReply spot bytes

-- beside the state
abbrev pub IsStateReply : StateFault → List ℕ → Type 0
IsStateReply state.Memory bytes = IsUnavailable bytes
IsStateReply fault bytes = IsRefusedAt None bytes

abbrev pub IsNotBegunReply : NotBegun → List ℕ → Type 0
IsNotBegunReply (not_begun.File fault) bytes = IsFileReply fault bytes
IsNotBegunReply (not_begun.Beside fault) bytes = IsStateReply fault bytes
IsNotBegunReply not_begun.NoSeed bytes = IsUnavailable bytes
