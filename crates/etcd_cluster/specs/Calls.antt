-- THE PREMISE OF A CLIENT, in the calls that it made of a cluster: what may be the case, by what it sent and was told. The sentence
-- that this is: a transaction with a put, a delete or a linearizable range, and a linearizable range, takes effect at one moment;
-- where it is answered (200), at one between its sending and its answer; else at any later one, or never; and what was done is
-- never undone.
use Rattle.std.specs.Prelude.{◌≡◌, ◌⊎◌, ◌≤◌, ℕ, List, [], ◌∷◌, length, Option, None, Some, Result, Ok}
use Rattle.etcd_cluster.specs.declared.change.Answer.{Answer}
use Rattle.etcd_cluster.specs.declared.change.CallFault.{CallFault}
use Rattle.etcd_cluster.specs.declared.change.Standing.{Standing}
use Rattle.etcd_cluster.specs.declared.change.Wanted.{Wanted}
use Rattle.etcd_cluster.specs.Stands.{ChangeFact, PieceFact, Stand, no_stand}
use Rattle.etcd_cluster.specs.Worlds.{AreThere, Follows, HeadFollows, PiecesFollow, Side, Unanswered, World, forgotten, sent_then, side, stand_seen, stand_then, stand_told}

pub data Called : Type 0 where
  Sent : (change : ChangeFact) → (result : Result Answer CallFault) → Called
  AskedHead : (result : Result (Option Standing) CallFault) → Called
  AskedPieces : (wanted : Wanted) → (result : Result (Option (List PieceFact)) CallFault) → Called
  Kept : Called
  Compacted : (version : ℕ) → Called
  Forgot : Called

-- which changes were sent, by these calls, the last of them first
abbrev pub WasSent : List Called → ChangeFact → Type 0
WasSent [] one = ⊥
WasSent (Sent change result ∷ before) one = (sent_then change result (side 0 0 (WasSent before))).sent one
WasSent (call ∷ before) one = WasSent before one

abbrev pub side_by : ℕ → List Called → Side
side_by server calls = side server (length calls) (WasSent calls)

-- what stands there, by what was sent and told
abbrev pub stand_by : List Called → Stand
stand_by [] = no_stand
stand_by (Sent change result ∷ before) = stand_then change result (stand_by before)
stand_by (AskedHead result ∷ before) = stand_told result (stand_by before)
stand_by (AskedPieces wanted result ∷ before) = stand_seen wanted result (stand_by before)
stand_by (Kept ∷ before) = stand_by before
stand_by (Compacted version ∷ before) = stand_by before
stand_by (Forgot ∷ before) = forgotten (stand_by before)

-- what was told of the version that is known stands there by what is known
abbrev pub IsTrueOf : Wanted → Result (Option (List PieceFact)) CallFault → Stand → Type 0
IsTrueOf wanted (Ok (Some pieces)) stand = wanted.version ≡ stand.version → AreThere wanted.generation pieces (stand_seen wanted (Ok (Some pieces)) stand)
IsTrueOf wanted told stand = Unit {0}

-- What may be the case after them. What a server forgets changes nothing there; nor does it when older revisions are let go of.
abbrev pub MayBe : ℕ → List Called → World → Type 0
MayBe server [] w = w.begun ≡ None
MayBe server (Sent change result ∷ before) w = Follows (side_by server before) change result (MayBe server before) w
MayBe server (AskedHead result ∷ before) w = HeadFollows (side_by server before) result (MayBe server before) w
MayBe server (AskedPieces wanted result ∷ before) w =
    PiecesFollow (side_by server before) wanted result (MayBe server before) w × IsTrueOf wanted result (stand_by before)
MayBe server (Kept ∷ before) w = Unanswered (side_by server before) (MayBe server before) w
MayBe server (Compacted version ∷ before) w = Unanswered (side_by server before) (MayBe server before) w
MayBe server (Forgot ∷ before) w = MayBe server before w

-- or may have been, since so many of them
abbrev pub BeenSince : ℕ → List Called → ℕ → World → Type 0
BeenSince server [] t w = MayBe server [] w
BeenSince server (call ∷ before) t w = MayBe server (call ∷ before) w ⊎ ((t ≤ length before) × BeenSince server before t w)

-- Whatever was told of pieces is what was known of them, or was not known before: so it is where anything may be the case.
abbrev pub AreTrue : List Called → Type 0
AreTrue [] = Unit {0}
AreTrue (Sent change result ∷ before) = AreTrue before
AreTrue (AskedHead result ∷ before) = AreTrue before
AreTrue (AskedPieces wanted result ∷ before) = AreTrue before × IsTrueOf wanted result (stand_by before)
AreTrue (Kept ∷ before) = AreTrue before
AreTrue (Compacted version ∷ before) = AreTrue before
AreTrue (Forgot ∷ before) = AreTrue before
