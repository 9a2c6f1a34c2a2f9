-- What is told of a list: each reply is read exactly so, or not at all.
use Rattle.std.specs.Prelude.{◌≡◌, ◌==◌, ◌||◌, ◌&&◌, bytes_eq, ℕ, List, [], ◌∷◌, Bool, true, false, if◌then◌else◌, Option, None, Some, option_and_then, option_map, map}
use Rattle.etcd_cluster.specs.declared.change.Answer.{Answer}
use Rattle.etcd_cluster.specs.declared.change.Answer.TheVariants.{Done, NotDone}
use Rattle.etcd_cluster.specs.declared.change.Head.{Head}
use Rattle.etcd_cluster.specs.declared.change.Standing.{Standing}
use Rattle.etcd_cluster.specs.Stands.{PieceFact, piece_fact}
use Rattle.etcd_cluster.specs.declared.change.Piece.{Piece}
use Rattle.std.specs.Global.{Vec}
use Rattle.etcd_json.specs.Replies.{EntryFact, FoundThere, ReplyFact, ResponseFact}
use Rattle.etcd_json.specs.declared.reply.ReplyFault.{ReplyFault}
use Rattle.etcd_json.specs.declared.reply.ReplyFault.TheVariants as reply
use Rattle.etcd_keys.specs.Keys.{before_key, head_key, head_told, is_head_of_other, place_told}
use Rattle.etcd_client.specs.declared.members.AskFault.{AskFault}
use Rattle.etcd_client.specs.declared.members.AskFault.TheVariants.{Memory, Refused, Unclear}

-- the head that stands under its key, and its version
abbrev pub standing_by : ℕ → Head → Standing
standing_by version head = record { version = version; head = head }

abbrev pub head_in : List ℕ → ℕ → EntryFact → Option Head
head_in prefix cluster entry = if bytes_eq entry.key (head_key prefix) then head_told cluster entry.value else None

abbrev pub standing_in : List ℕ → ℕ → EntryFact → Option Standing
standing_in prefix cluster entry = option_map (standing_by entry.written) (head_in prefix cluster entry)

-- the head that was found in that cluster: none where no list stands there
abbrev pub standing_of : List ℕ → ℕ → List EntryFact → Option (Option Standing)
standing_of prefix cluster [] = Some None
standing_of prefix cluster (entry ∷ []) = option_map (λ standing. Some standing) (standing_in prefix cluster entry)
standing_of prefix cluster entries = None

abbrev pub standing_told : List ℕ → ℕ → ResponseFact → Option (Option Standing)
standing_told prefix cluster (FoundThere found) = standing_of prefix cluster found.entries
standing_told prefix cluster other = None

-- the one response that there is
abbrev pub only_of : List ResponseFact → Option ResponseFact
only_of (response ∷ []) = Some response
only_of responses = None

-- the head
abbrev pub head_read : List ℕ → ReplyFact → Option (Option Standing)
head_read prefix reply = option_and_then (standing_told prefix reply.header.cluster) (only_of reply.responses)

-- what became of a change
abbrev pub change_told : List ℕ → ReplyFact → Option Answer
change_told prefix reply = if reply.succeeded then Some (Done reply.header.revision) else option_map (λ told. NotDone told) (head_read prefix reply)

abbrev pub piece_by : List ℕ → ℕ → PieceFact
piece_by bytes at = record { at = at; bytes = bytes }

abbrev pub piece_told : List ℕ → EntryFact → Option PieceFact
piece_told before entry = option_map (piece_by entry.value) (place_told before entry.key)

-- what each of these tells, where each tells something
abbrev pub each : {A B : Type 0} → (A → Option B) → List A → Option (List B)
each told [] = Some []
each told (one ∷ later) = option_and_then (λ first. option_map (λ more. first ∷ more) (each told later)) (told one)

abbrev pub pieces_in : List ℕ → List EntryFact → Option (List PieceFact)
pieces_in before entries = each (piece_told before) entries

abbrev pub pieces_found : List ℕ → ResponseFact → Option (List PieceFact)
pieces_found before (FoundThere found) = pieces_in before found.entries
pieces_found before other = None

-- pieces of that generation
abbrev pub past_told : List ℕ → ℕ → ReplyFact → Option (List PieceFact)
past_told prefix generation reply = option_and_then (pieces_found (before_key prefix generation)) (only_of reply.responses)

-- those, where the head was of the version that was wanted
abbrev pub pieces_told : List ℕ → ℕ → ReplyFact → Option (Option (List PieceFact))
pieces_told prefix generation reply = if reply.succeeded then option_map (λ pieces. Some pieces) (past_told prefix generation reply) else Some None

-- pieces, without where they lie in memory
abbrev pub pieces_of : Vec Piece → List PieceFact
pieces_of pieces = map piece_fact pieces.items

abbrev pub pieces_seen : Option (Vec Piece) → Option (List PieceFact)
pieces_seen found = option_map pieces_of found

-- whether somebody leads
abbrev pub are_some : List EntryFact → Bool
are_some [] = false
are_some (entry ∷ more) = true

abbrev pub leader_found : ResponseFact → Option Bool
leader_found (FoundThere found) = Some (are_some found.entries)
leader_found other = None

abbrev pub leader_told : ReplyFact → Option Bool
leader_told reply = option_and_then leader_found (only_of reply.responses)

-- whether the head that was found was put in another cluster than that one
abbrev pub are_of_other : List ℕ → ℕ → List EntryFact → Bool
are_of_other prefix cluster (entry ∷ []) = bytes_eq entry.key (head_key prefix) && is_head_of_other cluster entry.value
are_of_other prefix cluster entries = false

abbrev pub elsewhere_found : List ℕ → ℕ → ResponseFact → Option Bool
elsewhere_found prefix cluster (FoundThere found) = Some (are_of_other prefix cluster found.entries)
elsewhere_found prefix cluster other = None

abbrev pub elsewhere_told : List ℕ → ReplyFact → Option Bool
elsewhere_told prefix reply = option_and_then (elsewhere_found prefix reply.header.cluster) (only_of reply.responses)

-- why nothing is told where a reply is not read
abbrev pub unread_by : ReplyFault → AskFault
unread_by reply.Memory = Memory
unread_by reply.Strange = Unclear

-- With these codes etcd tells that nothing was done: the request was wrong as it stands, or asked for what stood there at a revision
-- that was let go of (11). A full database is told by another one, 8, and of what was done, too.
abbrev pub is_refusal : ℕ → Bool
is_refusal code = code == 3 || (code == 5 || (code == 7 || (code == 9 || code == 11)))

-- a request was refused only by one of them
abbrev pub IsRefusedRight : AskFault → Type 0
IsRefusedRight Unclear = Unit {0}
IsRefusedRight Memory = Unit {0}
IsRefusedRight (Refused code) = is_refusal code ≡ true
