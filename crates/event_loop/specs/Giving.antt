-- How bytes of a connection are given to the edge.
use Rattle.std.specs.Prelude.{◌≡◌, ◌⊎◌, ◌≤◌, ℕ, true, false, List, [], ◌++◌, None, length}
use Rattle.event_loop.specs.Names.{ChaCha, Hosting, Piece, SeenEdge, PieceGoesOn, is_closing, IsPieceRefusal, EdgeFault, IsBrought}
use Rattle.heads.specs.Message.{Message}
use Rattle.http_edge.specs.declared.fault.EdgeFault.TheVariants.{TooManyRequests}
use Rattle.http_edge.specs.Sources.{draws_for, draws_behind}
use Rattle.http_edge.specs.contracts.chance.ChaCha20RngDrawSource.TheImpl as generators
use Rattle.telling.specs.Audience.{Audience, heard_by}
use Rattle.event_loop.specs.Progress.{Progress, known, led}

-- where a piece completes too many requests, it is given in cuts of so many bytes
abbrev pub cut_limit : ℕ
cut_limit = 512

-- A piece was given to the edge: each request that it brings had the generator's next draws, where it wants some, and the
-- generator stands behind them. What is told of them is heard.
pub record IsPieceGiven {H : Type 0} (hosting : Hosting H) (piece : Piece) (progress : Progress H) : Type 0 where
  pub edge : SeenEdge H
  pub generator : ChaCha
  pub messages : List Message
  pub brought : IsBrought progress.journey.world.connections piece messages
  pub after : generator ≡ draws_behind generators.ghosts progress.generator messages
  pub on : PieceGoesOn hosting edge progress.journey piece (draws_for generators.ghosts progress.generator messages)
  pub audience : Audience
  pub heard : audience ≡ heard_by progress.audience on.tellings

-- the bytes of a piece are given in parts, one after another, none after the 400 of a faulty head
pub data GivesPieces {H : Type 0} (hosting : Hosting H) (piece : Piece) (first : Progress H) : List ℕ → Progress H → Type 0 where
  nothing : GivesPieces hosting piece first [] first
  gives : {bytes : List ℕ} {progress : Progress H} (part : List ℕ) → GivesPieces hosting piece first bytes progress →
      is_closing (known progress piece.connection) ≡ false → (g : IsPieceGiven hosting (record piece { bytes = part }) progress) →
      GivesPieces hosting piece first (bytes ++ part) (record (led progress g.on.on) { generator = g.generator; audience = g.audience })

-- All its bytes were given, or the rest comes behind the 400 of a faulty head.
pub record AreBytesHeard {H : Type 0} (hosting : Hosting H) (piece : Piece) (progress progress' : Progress H) : Type 0 where
  pub given : List ℕ
  pub rest : List ℕ
  pub all : piece.bytes ≡ given ++ rest
  pub gives : GivesPieces hosting piece progress given progress'
  pub over : (rest ≡ []) ⊎ (is_closing (known progress' piece.connection) ≡ true)

-- A front of them was given, and then a part was refused that is no longer cut. A refused part takes no draws.
pub record IsUnheard {H : Type 0} (hosting : Hosting H) (piece : Piece) (fault : EdgeFault) (progress progress' : Progress H) : Type 0 where
  pub given : List ℕ
  pub part : List ℕ
  pub rest : List ℕ
  pub all : piece.bytes ≡ given ++ (part ++ rest)
  pub gives : GivesPieces hosting piece progress given progress'
  pub refused : IsPieceRefusal fault progress'.journey.world.connections piece.connection part None
  pub cut : fault ≡ TooManyRequests → length part ≤ cut_limit
