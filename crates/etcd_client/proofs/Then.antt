-- What was told of a version stood there then.
use Rattle.std.proofs.Common.{◌≡◌, ◌<◌, ◌^◌, ℕ, List, refl}
use Rattle.std.specs.Prelude.{Option, None, Some, option_and_then}
use Rattle.etcd_cluster.specs.Stands.{PieceFact, Stand}
use Rattle.etcd_cluster.specs.Worlds.{AreThere}
use Rattle.etcd_cluster.specs.declared.change.Wanted.{Wanted}
use Rattle.etcd_json.specs.Replies.{Deleted, EntryFact, FoundThere, Put, ReplyFact, ResponseFact}
use Rattle.etcd_client.specs.Asked.{past_asked}
use Rattle.etcd_client.specs.Effects.{ArePlaces, Held, HoldsPieces}
use Rattle.etcd_client.specs.Exchanges.{Exchange, past_question, reply_by}
use Rattle.etcd_client.specs.Past.{IsAsTold, WasTold, entries_in, entries_of}
use Rattle.etcd_client.specs.Told.{only_of, past_told, pieces_found, pieces_in}
use Rattle.etcd_client.proofs.Found.{pieces_there}
use Rattle.etcd_keys.specs.Keys.{before_key}

-- the entries of which pieces are read
record Entries (told : Option (List EntryFact)) (before : List ℕ) (pieces : List PieceFact) : Type 0 where
  entries : List EntryFact
  told_is : told ≡ Some entries
  are : pieces_in before entries ≡ Some pieces

of_response : (before : List ℕ) (response : Option ResponseFact) (pieces : List PieceFact) → option_and_then (pieces_found before) response ≡ Some pieces
    → Entries (option_and_then entries_of response) before pieces
of_response before None pieces is = absurd cc
of_response before (Some Put) pieces is = absurd cc
of_response before (Some Deleted) pieces is = absurd cc
of_response before (Some (FoundThere found)) pieces is = record { entries = found.entries; told_is = refl; are = is }

of_reply : (prefix : List ℕ) (generation : ℕ) (reply : Option ReplyFact) (pieces : List PieceFact) → option_and_then (past_told prefix generation) reply ≡ Some pieces
    → Entries (option_and_then entries_in reply) (before_key prefix generation) pieces
of_reply prefix generation None pieces is = absurd cc
of_reply prefix generation (Some reply) pieces is = of_response (before_key prefix generation) (only_of reply.responses) pieces is

pub stood_there : (prefix : List ℕ) (cluster : ℕ) (wanted : Wanted) (asked : List Exchange) (text : List ℕ) (pieces : List PieceFact) (held : Held) (stand : Stand)
    → wanted.generation < 2 ^ 64 → WasTold asked (past_asked prefix wanted) text → (past_question prefix cluster wanted).read text ≡ Some pieces → ArePlaces pieces
    → IsAsTold prefix cluster wanted.version asked held → HoldsPieces prefix held stand.pieces → AreThere wanted.generation pieces stand
stood_there prefix cluster wanted asked text pieces held stand fits was read places told holds =
    let found = of_reply prefix wanted.generation (reply_by (Some cluster) text) pieces read in
    pieces_there prefix wanted.generation found.entries pieces held stand fits (told wanted text found.entries refl was found.told_is) places holds found.are
