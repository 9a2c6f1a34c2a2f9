-- What is refused by what is kept is refused by what is known.
use Rattle.std.proofs.Common.{inl, inr, ◌++◌, ℕ, List, Option, ap, sym, ◌∙◌, arith}
use Rattle.http_edge.proofs.Names.{IfErr, Result, Ok, Err, Hosting, Message, Messages, messages_cut, Connection, connection_at, has_stream_ended, SeenLane, lane_at, ShowsConnections, IsHearing}
use Rattle.http_edge.proofs.Names.{IsHearingRefusal, SeenEdge, IsOpenRefusal, IsEndRefusal, IsBytesRefusal, MayHear, MaySend, Completes, IsPieceRefusal, IsOpeningRefusal, IsEndingRefusal}
use Rattle.http_edge.proofs.Names.{WhereReached, TooMany, NotOpen, AlreadyOpen, PieceTooLong, DrawsShort, TooManyRequests, Memory}
use Rattle.http_edge.specs.declared.fault.EdgeFault.{EdgeFault}
use Rattle.http_edge.proofs.Showing.{shows_at, shows_here, shows_none, shows_length}

-- a fault of what came is one of the bytes
pub refused_is : (fault : EdgeFault) (lanes : List SeenLane) (c : ℕ) (piece : List ℕ) (supply : Option ℕ) (may : MayHear lanes c piece) →
    IsHearingRefusal fault (may.lane.rest ++ piece) supply → IsBytesRefusal fault lanes c piece supply
refused_is NotOpen lanes c piece supply may h = absurd h
refused_is PieceTooLong lanes c piece supply may h = absurd h
refused_is fault lanes c piece supply may h = (may, h)

module _ (lanes : List SeenLane) (ks : List Connection) (c : ℕ) (shows : ShowsConnections lanes ks) where
  hearing_is : (IsHearing (lane_at lanes c) → MaySend (connection_at ks c)) × (MaySend (connection_at ks c) → IsHearing (lane_at lanes c))
  hearing_is = elim (shows_at lanes ks c shows) [
    | inl none ↦ rw (none.0, none.1) ((λ x. x), (λ x. x))
    | inr at ↦ rw (at.2, at.3) ((λ hears. sym (ap has_stream_ended at.4.phase) ∙ hears), (λ may. ap has_stream_ended at.4.phase ∙ may))
  ]

  pub opening_refused : (fault : EdgeFault) → IsOpenRefusal fault lanes c → IsOpeningRefusal fault ks c
  opening_refused AlreadyOpen r = let at = shows_at lanes ks c shows in grind (arith, at, r)
  opening_refused TooMany r = let size = shows_length lanes ks shows in (shows_none lanes ks c shows r.0, omega (arith, size, r.1))
  opening_refused Memory r = let size = shows_length lanes ks shows in (shows_none lanes ks c shows r.0, omega (arith, size, r.1))
  opening_refused fault r = absurd r

  pub ending_refused : (fault : EdgeFault) → IsEndRefusal fault lanes c → IsEndingRefusal fault ks c
  ending_refused NotOpen r = λ may. r (hearing_is.1 may)
  ending_refused fault r = absurd r

  completes : (piece : List ℕ) (may : MayHear lanes c piece) (messages : List Message) (rest : List ℕ) → Messages (may.lane.rest ++ piece) messages rest → Completes ks c piece messages
  completes piece may messages rest reads =
      let at = shows_here lanes ks c may.lane shows may.here in
      let opened = sym at.2.phase ∙ may.is_open in
      record { connection = at.0; here = at.1; is_open = opened; short = may.short; rest = rest; reads = messages_cut at.0.stream piece at.0.messages messages may.lane.rest rest (at.2.rest opened) reads }

  pub piece_refused : (fault : EdgeFault) (piece : List ℕ) (supply : Option ℕ) → IsBytesRefusal fault lanes c piece supply → IsPieceRefusal fault ks c piece supply
  piece_refused NotOpen piece supply r = λ may. r (hearing_is.1 may)
  piece_refused PieceTooLong piece supply r = (hearing_is.0 r.0, r.1)
  piece_refused TooManyRequests piece supply r = (r.1.0, completes piece r.0 r.1.0 r.1.1 r.1.2, r.1.3)
  piece_refused DrawsShort piece supply r = (r.1.0, completes piece r.0 r.1.0 r.1.1 r.1.2, r.1.3, r.1.4)
  piece_refused Memory piece supply r = (r.1.0, completes piece r.0 r.1.0 r.1.1 r.1.2, r.1.3, r.1.4)
  piece_refused fault piece supply r = absurd r.1

-- a fault that the lanes tell is one that the connections tell, wherever the edge was reached
pub refuses : {H A : Type 0} (hosting : Hosting H) (edge : SeenEdge H) (r : Result A EdgeFault) (P : EdgeFault → Type 0) (Q : EdgeFault → List Connection → Type 0) →
    ((fault : EdgeFault) (ks : List Connection) → ShowsConnections edge.lanes ks → P fault → Q fault ks) → IfErr r P → IfErr r (λ fault. WhereReached hosting edge (Q fault))
refuses hosting edge (Ok x) P Q tells is = is
refuses hosting edge (Err fault) P Q tells is = λ journey reached. tells fault journey.world.connections reached.shows is
