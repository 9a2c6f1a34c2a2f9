-- Bytes given in cuts.
use Rattle.std.proofs.Common.{◌≡◌, ◌≤◌, ◌+◌, ◌-◌, ℕ, List, [], ◌∷◌, ◌++◌, false, None, length, take, drop, append_assoc, append-nil, refl, sym, ap, ◌∙◌, inl, arith, take-append-drop, length-take, take-add}
use Rattle.event_loop.proofs.Names.{Piece, Came, connection_at, SeenEdge, Journey, Reached, is_closing, led_on, PieceGiven, RefusesPiece, supplied, Progress, GivesPieces, nothing, gives, cut_limit}
use Rattle.event_loop.proofs.Names.{AreBytesHeard, IsUnheard, GivesOn, Hosting}
use Rattle.rand_chacha.specs.ChaCha.{ChaCha}
use Rattle.telling.specs.Audience.{Audience}
use Rattle.http_edge.specs.declared.fault.EdgeFault.{EdgeFault}
use Rattle.http_edge.specs.declared.fault.EdgeFault.TheVariants.{TooManyRequests}
use Rattle.http_edge.specs.Sources.{draws_for}
use Rattle.http_edge.specs.contracts.chance.ChaCha20RngDrawSource.TheImpl as generators

module _ {H : Type 0} (hosting : Hosting H) (piece : Piece) where
  -- a front of its bytes was given
  pub record GivesFront (first : Progress H) (front : List ℕ) (edge : SeenEdge H) (generator : ChaCha) (audience : Audience) : Type 0 where
    pub journey : Journey H
    pub given : GivesPieces hosting piece first front (record { edge = edge; generator = generator; audience = audience; journey = journey })

  -- one more part was given
  pub gives_part : (first progress : Progress H) (front part : List ℕ) (edge : SeenEdge H) (generator : ChaCha) (audience : Audience) → GivesPieces hosting piece first front progress →
      Reached hosting progress.edge progress.journey → is_closing (connection_at progress.journey.world.connections piece.connection) ≡ false →
      PieceGiven hosting generators.ghosts (supplied progress.edge progress.generator progress.audience) (record piece { bytes = part }) (supplied edge generator audience) → GivesFront first (front ++ part) edge generator audience
  gives_part first progress front part edge generator audience given reached stays part_given =
      let on = part_given.leads progress.journey reached in
      record {
        journey = led_on progress.journey (Came (record { piece = record piece { bytes = part }; draws = draws_for generators.ghosts progress.generator part_given.messages; mishaps = on.mishaps; closes = on.closes; tellings = on.tellings }) ∷ []) on.on.world;
        given = gives part given stays (record { edge = edge; generator = generator; messages = part_given.messages; brought = part_given.brought progress.journey reached; after = part_given.source_is; on = on; audience = audience; heard = part_given.heard progress.journey reached });
      }

  -- all was given at once
  pub heard_at_once : (progress : Progress H) (edge : SeenEdge H) (generator : ChaCha) (audience : Audience) → Reached hosting progress.edge progress.journey →
      is_closing (connection_at progress.journey.world.connections piece.connection) ≡ false → PieceGiven hosting generators.ghosts (supplied progress.edge progress.generator progress.audience) piece (supplied edge generator audience) → GivesOn (AreBytesHeard hosting piece progress) (supplied edge generator audience)
  heard_at_once progress edge generator audience reached stays piece_given =
      let front = gives_part progress progress [] piece.bytes edge generator audience nothing reached stays piece_given in
      record {
        journey = front.journey;
        given = record { given = piece.bytes; rest = []; all = sym (append-nil piece.bytes); gives = front.given; over = inl refl };
      }

  -- a part behind the front was refused, and is not cut
  pub unheard_behind : (first progress : Progress H) (front part rest : List ℕ) (fault : EdgeFault) (edge : SeenEdge H) (generator : ChaCha) (audience : Audience) → GivesPieces hosting piece first front progress →
      Reached hosting progress.edge progress.journey → piece.bytes ≡ front ++ (part ++ rest) → RefusesPiece hosting progress.edge (record piece { bytes = part }) None fault → edge ≡ progress.edge → generator ≡ progress.generator → audience ≡ progress.audience →
      (fault ≡ TooManyRequests → length part ≤ cut_limit) → GivesOn (IsUnheard hosting piece fault first) (supplied edge generator audience)
  unheard_behind first progress front part rest fault edge generator audience given reached all refused same undrawn untold cut = record {
    journey = progress.journey;
    given = record {
      given = front;
      part = part;
      rest = rest;
      all = all;
      gives = rw (same, undrawn, untold) given;
      refused = refused progress.journey reached;
      cut = cut;
    };
  }

-- a cut behind a front
pub front_more : (bytes : List ℕ) (start count : ℕ) → take start bytes ++ take (start + count - start) (drop start bytes) ≡ take (start + count) bytes
front_more bytes start count =
    let e : start + count - start ≡ count = omega arith in
    ap (λ n. take start bytes ++ take n (drop start bytes)) e ∙ sym (take-add start count bytes)

pub cut_rest : (bytes : List ℕ) (start count : ℕ) → bytes ≡ take start bytes ++ (take (start + count - start) (drop start bytes) ++ drop (start + count) bytes)
cut_rest bytes start count =
    sym (take-append-drop (start + count) bytes) ∙ ap (λ l. l ++ drop (start + count) bytes) (sym (front_more bytes start count))
    ∙ append_assoc (take start bytes) (take (start + count - start) (drop start bytes)) (drop (start + count) bytes)

pub cut_short : (bytes : List ℕ) (start count : ℕ) → count ≤ 512 → length (take (start + count - start) (drop start bytes)) ≤ 512
cut_short bytes start count short = grind (arith, length-take)
