-- What is said on a connection, event by event.
use Rattle.std.proofs.Common.{◌≡◌, ◌⊎◌, inl, inr, ◌<◌, ◌+◌, ℕ, List, [], ◌++◌, true, false, Option, take, drop, append_assoc, append-nil, take-append-drop, refl, sym, ap, subst, ◌∙◌, arith, drop-drop}
use Rattle.std.proofs.lemmas.List.{drop-append-le}
use Rattle.std.proofs.lemmas.Bool.{false≢true}
use Rattle.heads.specs.Message.{Messages}
use Rattle.heads.specs.ReadingLaws.{nothing_has_none}
use Rattle.http_edge.specs.Answers.{replies_of}
use Rattle.http_edge.specs.Edges.{SeenEdge}
use Rattle.http_edge.specs.Reached.{Reached, is_closing, Journey}
use Rattle.http_edge.specs.Schedule.{World, Connection, PieceComes, PiecePasses, Opens, StreamEnds, TakesOutput, TakesNothing, connection_at, fresh, heard, untaken, faulty_if, AnsweredPiece, ended}
use Rattle.http_edge.proofs.Connections.{same_connection, found_put, found_fresh, shown}
use Rattle.hook_host.specs.declared.host.HookHost.{Ghosts as Hosting}
use Rattle.serving.specs.Talks.{Talk}

pub talk_opened : (old new : World) (c : ℕ) → Opens old new c → Talk [] [] [] (connection_at new.connections c)
talk_opened old new c opens = record {
  connection = fresh c;
  here = rw opens.connections (found_fresh old.connections c opens.absent);
  stream = refl;
  rest = [];
  requests = record { reads = refl; none = nothing_has_none };
  front = refl;
}

-- bytes more were lost
pub talk_lost : (read written lost more : List ℕ) (o : Option Connection) → Talk read written lost o → Talk (read ++ more) written (lost ++ more) o
talk_lost read written lost more o t = record {
  connection = t.connection;
  here = t.here;
  stream = ap (λ bytes. bytes ++ more) t.stream ∙ append_assoc t.connection.stream lost more;
  rest = t.rest;
  requests = t.requests;
  front = t.front;
}

-- a piece came, and is heard
pub talk_came : {H : Type 0} (hosting : Hosting H) (edge : SeenEdge H) (journey : Journey H) (new : World) (came : AnsweredPiece) (read written : List ℕ) →
    Reached hosting edge journey → is_closing (connection_at journey.world.connections came.piece.connection) ≡ false →
    PieceComes hosting journey.outset journey.world came new ⊎ PiecePasses journey.world came new → Talk read written [] (connection_at journey.world.connections came.piece.connection) →
    Talk (read ++ came.piece.bytes) written [] (connection_at new.connections came.piece.connection)
talk_came hosting edge journey new came read written reached stays (inr passes) t =
    let closed : is_closing (connection_at journey.world.connections came.piece.connection) ≡ true = rw (passes.here, passes.is_closing) refl in
    absurd (false≢true (sym stays ∙ closed))
talk_came hosting edge journey new came read written reached stays (inl comes) t =
    let old = journey.world in
    let c = came.piece.connection in
    let piece = came.piece.bytes in
    let k = comes.before in
    let same : t.connection ≡ k = same_connection t.connection k (sym t.here ∙ comes.here) in
    let within = (shown edge.lanes old.connections c k reached.shows comes.here).0 in
    let more : List ℕ = replies_of comes.requests ++ faulty_if came.closes in
    let k' : Connection = heard k piece comes.messages comes.requests came.closes in
    let front : written ++ drop k.taken k.output ≡ k.output = subst (λ (y : Connection). written ++ drop y.taken y.output ≡ y.output) same t.front in
    record {
      connection = k';
      here = rw comes.connections (found_put old.connections c k k' comes.here refl);
      stream = ap (λ bytes. bytes ++ piece) (t.stream ∙ append-nil t.connection.stream ∙ ap (λ (y : Connection). y.stream) same) ∙ sym (append-nil (k.stream ++ piece));
      rest = comes.rest;
      requests = comes.reads;
      front = ap (λ bytes. written ++ bytes) (drop-append-le k.taken k.output more within) ∙ sym (append_assoc written (drop k.taken k.output) more) ∙ ap (λ bytes. bytes ++ more) front;
    }

pub talk_ended : (old new : World) (c : ℕ) (read written lost : List ℕ) → StreamEnds old new c → Talk read written lost (connection_at old.connections c) → Talk read written lost (connection_at new.connections c)
talk_ended old new c read written lost ends t =
    let k = ends.before in
    let same : t.connection ≡ k = same_connection t.connection k (sym t.here ∙ ends.here) in
    let k' : Connection = record k { phase = ended k.phase } in
    record {
      connection = k';
      here = rw ends.connections (found_put old.connections c k k' ends.here refl);
      stream = subst (λ (y : Connection). read ≡ y.stream ++ lost) same t.stream;
      rest = t.rest;
      requests = subst (λ (y : Connection). Messages y.stream y.messages t.rest) same t.requests;
      front = subst (λ (y : Connection). written ++ drop y.taken y.output ≡ y.output) same t.front;
    }

-- a front of the output was written, and just as much was taken
pub talk_written : (old new : World) (c n : ℕ) (read written lost front : List ℕ) → 0 < n → front ≡ take n (untaken (connection_at old.connections c)) →
    TakesOutput old new c n ⊎ TakesNothing old new c n → Talk read written lost (connection_at old.connections c) → Talk read (written ++ front) lost (connection_at new.connections c)
talk_written old new c n read written lost front some is (inr absent) t = absurd (let zero = absent.nothing in omega (arith, zero, some))
talk_written old new c n read written lost front some is (inl takes) t =
    let k = takes.before in
    let same : t.connection ≡ k = same_connection t.connection k (sym t.here ∙ takes.here) in
    let k' : Connection = record k { taken = k.taken + n } in
    let all : written ++ drop k.taken k.output ≡ k.output = subst (λ (y : Connection). written ++ drop y.taken y.output ≡ y.output) same t.front in
    let is_front : front ≡ take n (drop k.taken k.output) = is ∙ ap (λ o. take n (untaken o)) takes.here in
    let left : front ++ drop (k.taken + n) k.output ≡ drop k.taken k.output =
    ap (λ bytes. bytes ++ drop (k.taken + n) k.output) is_front
    ∙ ap (λ bytes. take n (drop k.taken k.output) ++ bytes) (sym (drop-drop n k.taken k.output))
    ∙ take-append-drop n (drop k.taken k.output) in
    record {
      connection = k';
      here = rw takes.connections (found_put old.connections c k k' takes.here refl);
      stream = subst (λ (y : Connection). read ≡ y.stream ++ lost) same t.stream;
      rest = t.rest;
      requests = subst (λ (y : Connection). Messages y.stream y.messages t.rest) same t.requests;
      front = append_assoc written front (drop (k.taken + n) k.output) ∙ ap (λ bytes. written ++ bytes) left ∙ all;
    }
