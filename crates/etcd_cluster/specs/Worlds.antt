-- What may be the case in a cluster, by what one server sent and was told.
use Rattle.std.specs.Prelude.{◌≡◌, ◌≢◌, ◌⊎◌, ◌<◌, ◌≤◌, ◌==◌, ◌&&◌, nat_lt, Bool, if◌then◌else◌, ℕ, List, [], ◌∷◌, Option, None, Some, map, option_map, unwrap_or, Result, Ok, Err}
use Rattle.std.specs.Global.{Vec}
use Rattle.etcd_cluster.specs.Stands.{ChangeFact, PieceFact, Pieces, Stand, done_at, no_head, piece_fact}
use Rattle.etcd_cluster.specs.declared.change.Answer.{Answer}
use Rattle.etcd_cluster.specs.declared.change.Answer.TheVariants.{Done, NotDone}
use Rattle.etcd_cluster.specs.declared.change.CallFault.{CallFault}
use Rattle.etcd_cluster.specs.declared.change.CallFault.TheVariants.{Refused}
use Rattle.etcd_cluster.specs.declared.change.Head.{Head}
use Rattle.etcd_cluster.specs.declared.change.Piece.{Piece}
use Rattle.etcd_cluster.specs.declared.change.Standing.{Standing}
use Rattle.etcd_cluster.specs.declared.change.Wanted.{Wanted}

-- Another server has begun: at which moment of this one, and what it found.
pub record Begun : Type 0 where
  pub moment : ℕ
  pub found : Stand

-- what stands there, and whether another server has begun since this one put the head last
pub record World : Type 0 where
  pub stand : Stand
  pub begun : Option Begun

-- one server at a moment: its number, and the changes that it sent by then
pub record Side : Type 1 where
  pub server : ℕ
  pub moment : ℕ
  pub sent : ChangeFact → Type 0

abbrev pub side : ℕ → ℕ → (ChangeFact → Type 0) → Side
side server moment sent = record { server = server; moment = moment; sent = sent }

-- THE PREMISE. What may happen in a cluster at a moment of this server, which sent these changes by then: one of them comes, however
-- late and however often, and is done where the head is of the version that it names; or another server does anything that
-- makes the version greater, with a head of its own. The version never falls.
pub data Step (side : Side) (w : World) : World → Type 0 where
  comes : (change : ChangeFact) (version : ℕ) → side.sent change → change.after ≡ w.stand.version → w.stand.version < version →
      Step side w (record { stand = done_at version change w.stand; begun = None })
  another : (stand : Stand) → w.stand.version < stand.version → stand.head.server ≢ side.server →
      Step side w (record { stand = stand; begun = Some (unwrap_or w.begun (record { moment = side.moment; found = w.stand })) })

-- steps lead from the one to the other
pub data Goes (side : Side) (w : World) : World → Type 0 where
  stays : Goes side w w
  goes : {mid later : World} → Goes side w mid → Step side mid later → Goes side w later

-- what was told of the head is what stands there
abbrev pub IsStanding : Stand → Option Standing → Type 0
IsStanding stand None = (stand.version ≡ 0) × (stand.head ≡ no_head)
IsStanding stand (Some told) = (told.version ≡ stand.version) × (told.head ≡ stand.head)

-- What was told of a change that was sent: it was done in that world, at that version; or it was not, and this stood there.
abbrev pub Tells : ChangeFact → World → Answer → World → Type 0
Tells change w (Done version) w' =
    (change.after ≡ w.stand.version) × (w.stand.version < version) × (w' ≡ record { stand = done_at version change w.stand; begun = None })
Tells change w (NotDone told) w' = IsStanding w.stand told × (w' ≡ w)

-- the change was sent, too
abbrev pub with_sent : ChangeFact → Side → Side
with_sent change by = record by { sent = λ one. (one ≡ change) ⊎ by.sent one }

-- by what became of the last change
abbrev pub sent_then : ChangeFact → Result Answer CallFault → Side → Side
sent_then change (Err Refused) by = by
sent_then change result by = with_sent change by

-- Nothing was told, while what might happen happened.
pub record Unanswered (by : Side) (before : World → Type 0) (w : World) : Type 0 where
  pub first : World
  pub was : before first
  pub since : Goes by first w

-- Something was asked in a world that might have been, and what was told was so at a moment while what might happen happened.
pub record Asked (by : Side) (IsSo : World → Type 0) (before : World → Type 0) (w : World) : Type 0 where
  pub first : World
  pub was : before first
  pub at : World
  pub until : Goes by first at
  pub told : IsSo at
  pub since : Goes by at w

-- what stands there has a version
abbrev pub IsVersioned : Option Standing → Type 0
IsVersioned None = Unit {0}
IsVersioned (Some told) = 0 < told.version

-- a head of this version was told
abbrev pub IsHeadOf : ℕ → Result (Option Standing) CallFault → Type 0
IsHeadOf version (Ok (Some told)) = told.version ≡ version
IsHeadOf version told = ⊥

-- what was told of the head, if anything was
abbrev pub HeadFollows : Side → Result (Option Standing) CallFault → (World → Type 0) → World → Type 0
HeadFollows by (Ok told) before w = Asked by (λ at. IsStanding at.stand told) before w
HeadFollows by (Err fault) before w = Unanswered by before w

-- each of the pieces stands there, in this generation
abbrev pub AreThere : ℕ → List PieceFact → Stand → Type 0
AreThere generation [] stand = Unit {0}
AreThere generation (piece ∷ later) stand = (stand.pieces generation piece.at ≡ Some piece.bytes) × AreThere generation later stand

-- what was told, without where it lies in memory
abbrev pub seen_pieces : Result (Option (Vec Piece)) CallFault → Result (Option (List PieceFact)) CallFault
seen_pieces (Ok told) = Ok (option_map (λ pieces. map piece_fact pieces.items) told)
seen_pieces (Err fault) = Err fault

-- What was told of pieces, where the head was of this version.
abbrev pub PiecesFollow : Side → Wanted → Result (Option (List PieceFact)) CallFault → (World → Type 0) → World → Type 0
PiecesFollow by wanted (Ok (Some pieces)) before w =
    Asked by (λ at. (at.stand.version ≡ wanted.version) × AreThere wanted.generation pieces at.stand) before w
PiecesFollow by wanted told before w = Unanswered by before w

-- The last change was sent in a world that might have been, and was told of while what might happen happened.
pub record Answered (by : Side) (change : ChangeFact) (answer : Answer) (before : World → Type 0) (w : World) : Type 0 where
  pub first : World
  pub was : before first
  pub at : World
  pub until : Goes (with_sent change by) first at
  pub then_at : World
  pub told : Tells change at answer then_at
  pub since : Goes (with_sent change by) then_at w

abbrev pub Follows : Side → ChangeFact → Result Answer CallFault → (World → Type 0) → World → Type 0
Follows by change (Ok answer) before w = Answered by change answer before w
Follows by change (Err fault) before w = Unanswered (sent_then change (Err fault) by) before w

-- a version at which it was done is greater than the one that it names
abbrev pub IsLater : ChangeFact → Answer → Type 0
IsLater change (Done version) = change.after < version
IsLater change (NotDone told) = Unit {0}

-- WHAT THE SERVER KNOWS TO STAND THERE

abbrev pub is_head : Head → Head → Bool
is_head a b = a.server == b.server && (a.turn == b.turn && (a.generation == b.generation && (a.end == b.end && a.room == b.room)))

-- At which version a change was done before, where it was not done this time: its own head stands there.
abbrev pub version_found : ChangeFact → Option Standing → Option ℕ
version_found change None = None
version_found change (Some told) = if is_head told.head change.head && nat_lt change.after told.version then Some told.version else None

-- at which version it is known to be done
abbrev pub version_told : ChangeFact → Result Answer CallFault → Option ℕ
version_told change (Ok (Done version)) = Some version
version_told change (Ok (NotDone told)) = version_found change told
version_told change (Err fault) = None

abbrev pub stand_at : ChangeFact → Option ℕ → Stand → Stand
stand_at change None stand = stand
stand_at change (Some version) stand = done_at version change stand

-- by what was told of a change
abbrev pub stand_then : ChangeFact → Result Answer CallFault → Stand → Stand
stand_then change result stand = stand_at change (version_told change result) stand

-- what was known stays so
abbrev pub known_or : Option (List ℕ) → List ℕ → Option (List ℕ)
known_or (Some known) told = Some known
known_or None told = Some told

abbrev pub with_pieces : ℕ → List PieceFact → Pieces → Pieces
with_pieces generation [] pieces = pieces
with_pieces generation (piece ∷ later) pieces =
    with_pieces generation later (λ g p. if g == generation && p == piece.at then known_or (pieces g p) piece.bytes else pieces g p)

-- by what was told of pieces, of that version
abbrev pub stand_seen : Wanted → Result (Option (List PieceFact)) CallFault → Stand → Stand
stand_seen wanted (Ok (Some pieces)) stand =
    if wanted.version == stand.version then record stand { pieces = with_pieces wanted.generation pieces stand.pieces } else stand
stand_seen wanted told stand = stand

-- by what was told of the head, where nothing was known before, and no piece is. Once some is known, another head is another server's,
-- and what this one knew stays so.
abbrev pub stand_anew : Standing → Stand
stand_anew told = record { version = told.version; head = told.head; pieces = λ generation at. None }

abbrev pub stand_told : Result (Option Standing) CallFault → Stand → Stand
stand_told (Ok (Some told)) stand = if stand.version == 0 then stand_anew told else stand
stand_told told stand = stand

-- what was told of pieces is not known any more
abbrev pub forgotten : Stand → Stand
forgotten stand = record stand { pieces = λ generation at. None }

-- Time goes on: what may have been since t may have been so before, or is what may be now.
pub record Passes (before : ℕ) (past since : ℕ → World → Type 0) (may_be : World → Type 0) : Type 0 where
  pub nothing_else : (t : ℕ) (w : World) → t ≤ before → since t w → past t w ⊎ may_be w
  pub keeps : (t : ℕ) (w : World) → t ≤ before → past t w → since t w
