-- Each crash leaves what stands for what was kept at some state.
use Rattle.std.proofs.Common.{◌≡◌, ◌≢◌, ◌⊎◌, inl, inr, ℕ, suc, List, [], ◌∷◌, Option, Some, length, refl, sym, ap, subst, ◌∙◌, arith}
use Rattle.event_loop.proofs.Names.{Event, IsFrontOf, Holds, Keeps, KeepsBasis, Leaves, TellsBasis, Place, Closes, leaves, same_Some, World, IsServerStill, moment_after, PieceComes, PiecePasses}
use Rattle.event_loop.proofs.Names.{TakesOutput, TakesNothing, AnsweredPiece, Piece, piece_of, Journey, Progress, IsReached, led, GivesPieces, nothing, gives, Message, Outset, Promises, LoopState}
use Rattle.event_loop.proofs.Names.{IsAllKept, IsUnkept, with_call, Ready, Call, Transfer, Wrote, waits_done, opens, denies, finds_nobody, asks, LoopStep, Served, Shuts, TellsLast, tells_nothing}
use Rattle.event_loop.proofs.Names.{audits, comes, reads, writes, closes, keeps, shortens, no_slice, begins, goes, stops, shuts, reports_last, LoopFault, Carries, Onward, stays, onward, KeeperHolds, StandsBetween}
use Rattle.event_loop.proofs.Names.{IsWritable, past_of, MomentIsHeld, CannotGoOn, confirms, tends, not_confirmed, not_tended, no_wait, looks_again, fails_to_look, no_time, too_far, no_moment, not_kept, not_shortened, no_more, to_reload, passes_on, Passes, hands_on, Queue, LastTold, Noted, ReadsPlace, WritesPlace, Hosting}
use Rattle.event_loop.specs.Coming.{fails}
use Rattle.event_loop.specs.Served.{waits}
use Rattle.event_loop.specs.Done as deed
use Rattle.event_loop.specs.Done.{HaveDone}
use Rattle.event_loop.specs.Reading as reading
use Rattle.event_loop.specs.Writing as writing
use Rattle.event_loop.specs.DurableLaws.{front_then, same_front, served_on}
use Rattle.event_loop.specs.EndsLaws.{end_keeper}
use Rattle.event_loop.proofs.Answering.{served_answered}
use Rattle.event_loop.proofs.Lasting.{keeps_same, keeps_within, leaves_either, leaves_now, leaves_same, tells_within}
use Rattle.change_codec.specs.Keeping.{HeldMeanwhile, horizon_bound}
use Rattle.event_loop.specs.Durable.{told_by}
use Rattle.event_loop.specs.Ends.{told_then}
use Rattle.event_loop.proofs.Kept.{front_noted, kept_history, kept_last}

-- the history grows, what was kept last is as it was, and the greatest moment too, or it is this one
pub record Grows (m : ℕ) (old new : World) : Type 0 where
  pub kept : new.kept ≡ old.kept
  pub front : IsFrontOf old.history new.history
  pub greatest : (new.greatest ≡ old.greatest) ⊎ (new.greatest ≡ m)

grows_not : (m : ℕ) (old new : World) → new ≡ old → Grows m old new
grows_not m old new same = record {
  kept = ap (λ (w : World). w.kept) same;
  front = same_front old.history new.history (ap (λ (w : World). w.history) same);
  greatest = inl (ap (λ (w : World). w.greatest) same);
}

-- the server's side is as it was
grows_still : (m : ℕ) (old new : World) → IsServerStill old new → Grows m old new
grows_still m old new still = record { kept = still.kept; front = same_front old.history new.history still.history; greatest = inl still.greatest }

grows_then : (m : ℕ) (a b c : World) → Grows m a b → Grows m b c → Grows m a c
grows_then m a b c one two = record {
  kept = two.kept ∙ one.kept;
  front = front_then a.history b.history c.history one.front two.front;
  greatest = grind (arith, one.greatest, two.greatest);
}

-- only requests move the greatest moment
moved_to : (greatest m : ℕ) (messages : List Message) → (moment_after greatest m messages ≡ greatest) ⊎ (moment_after greatest m messages ≡ m)
moved_to greatest m [] = inl refl
moved_to greatest m (message ∷ messages) = grind arith

came_grows : {H : Type 0} (hosting : Hosting H) (outset : Outset H) (old new : World) (came : AnsweredPiece) →
    PieceComes hosting outset old came new ⊎ PiecePasses old came new → Grows came.piece.moment old new
came_grows hosting outset old new came (inl answers) = record {
  kept = answers.kept;
  front = (_, answers.history);
  greatest = (let moved = moved_to old.greatest came.piece.moment answers.messages in grind (arith, moved, answers.greatest));
}
came_grows hosting outset old new came (inr passes) = grows_not came.piece.moment old new passes.same

gives_grows : {H : Type 0} (hosting : Hosting H) (piece : Piece) (first : Progress H) (bytes : List ℕ) (progress : Progress H) → GivesPieces hosting piece first bytes progress →
    Grows piece.moment first.journey.world progress.journey.world
gives_grows hosting piece first bytes progress nothing = grows_not piece.moment _ _ refl
gives_grows hosting piece first bytes progress (gives {bytes = front} {progress = before} part given still g) =
    grows_then piece.moment first.journey.world before.journey.world _ (gives_grows hosting piece first front before given) (came_grows hosting before.journey.outset before.journey.world g.on.on.world _ g.on.on.happens.1)

-- giving leaves what the server began with
gives_outset : {H : Type 0} (hosting : Hosting H) (piece : Piece) (first : Progress H) (bytes : List ℕ) (progress : Progress H) → GivesPieces hosting piece first bytes progress →
    progress.journey.outset ≡ first.journey.outset
gives_outset hosting piece first bytes progress nothing = refl
gives_outset hosting piece first bytes progress (gives {bytes = front} {progress = before} part given still g) = gives_outset hosting piece first front before given

takes_grows : (m : ℕ) (old new : World) (c n : ℕ) → TakesOutput old new c n ⊎ TakesNothing old new c n → Grows m old new
takes_grows m old new c n (inl takes) = grows_still m old new takes.still
takes_grows m old new c n (inr absent) = grows_not m old new absent.same

carries_all : {H : Type 0} (journey : Journey H) → Carries journey journey
carries_all journey = record { outset = refl; front = same_front _ _ refl; kept = λ before is. (before, is, same_front before before refl) }

-- the clocks' times are as they were, and no wait was done
abbrev pub IsSameTime : {N C J K H : Type 0} → LoopState N C J K H → LoopState N C J K H → Type 0
IsSameTime s s' = (s'.times ≡ s.times) × (waits_done s'.calls ≡ waits_done s.calls)

-- what was kept last is held still
abbrev pub KeepsLast : {N C J K H : Type 0} → Promises N C J K H → LoopState N C J K H → K → Type 0
KeepsLast p s keeper = (kept : List Event) → s.progress.journey.world.kept ≡ Some kept → Keeps p.keeping.crashes kept kept s.keeper keeper

-- Within a limit for moments that are told, the keeper is as it was, and the history grows; or what is unkept is kept; or what was kept is kept in another way
pub data Moves {N C J K H : Type 0} (p : Promises N C J K H) (limit : ℕ) (s s' : LoopState N C J K H) : Type 0 where
  goes_on : (s'.keeper ≡ s.keeper) × IsSameTime s s' × (s'.progress.journey.outset ≡ s.progress.journey.outset) → Grows s.times.moment s.progress.journey.world s'.progress.journey.world → Moves p limit s s'
  keeps_all : (unkept : IsUnkept s.progress.journey.world) → Keeps p.keeping.crashes unkept.kept s.progress.journey.world.history s.keeper s'.keeper → s'.progress.journey.world.kept ≡ Some s.progress.journey.world.history →
      s'.progress.journey.world.history ≡ s.progress.journey.world.history → KeepsBasis p.keeping.crashes limit s.keeper s'.keeper →
      IsSameTime s s' × (s'.progress.journey.world.greatest ≡ s.progress.journey.world.greatest) × (s'.progress.journey.outset ≡ s.progress.journey.outset) → Moves p limit s s'
  keeps_still : KeepsLast p s s'.keeper → s'.progress.journey ≡ s.progress.journey → KeepsBasis p.keeping.crashes limit s.keeper s'.keeper →
      IsSameTime s s' ⊎ (MomentIsHeld p s' × (waits_done s'.calls ≡ suc (waits_done s.calls))) → Moves p limit s s'

-- what a step does: to the keeper, and to what happened; to the sockets; and where it is a write, it may be written
pub record Does {N C J K H : Type 0} (p : Promises N C J K H) (limit : ℕ) (s s' : LoopState N C J K H) : Type 0 where
  pub moves : Moves p limit s s'
  pub did : (first : N) → HaveDone p.sockets first s.calls s.sockets → HaveDone p.sockets first s'.calls s'.sockets
  pub written : (k room : ℕ) (took : Transfer) → s'.calls ≡ Wrote k room took ∷ s.calls → IsWritable (past_of s) s.progress.audience

-- what a failure does: to the sockets, and to the keeper alone
pub record FailDoes {N C J K H : Type 0} (p : Promises N C J K H) (limit : ℕ) (s s' : LoopState N C J K H) : Type 0 where
  pub did : (first : N) → HaveDone p.sockets first s.calls s.sockets → HaveDone p.sockets first s'.calls s'.sockets
  pub reached : IsReached p.hosting s.progress → IsReached p.hosting s'.progress
  pub tells : TellsBasis p.keeping.crashes limit s.keeper s'.keeper

module _ {N C J K H : Type 0} (p : Promises N C J K H) where
  not_longer : (calls : List Call) (call : Call) → calls ≡ call ∷ calls → ⊥
  not_longer calls call is = let more = ap length is in omega (arith, more)

  -- no call is made, and the server's side is as it was
  quiet : {limit : ℕ} (s : LoopState N C J K H) {found : List Ready} {queue : Queue} {places : List Place} {told : LastTold} {refused reload : Option ℕ} {noted : Noted J} →
      Does p limit s (record s { found = found; queue = queue; places = places; told = told; refused = refused; reload = reload; noted = noted })
  quiet s = record {
    moves = goes_on (refl, (refl, refl), refl) (grows_not s.times.moment _ _ refl);
    did = λ first before. before;
    written = λ k room took is. absurd (not_longer s.calls _ is);
  }

  -- one call is made, which is no wait and no write
  calls_on : {limit : ℕ} (s : LoopState N C J K H) (call : Call) (n : N) (progress : Progress H) {places : List Place} {queue : Queue} {noted : Noted J} {accepted : ℕ} → p.sockets.does s.sockets call n →
      waits_done (call ∷ s.calls) ≡ waits_done s.calls → ((k room : ℕ) (took : Transfer) → call ≢ Wrote k room took) → progress.journey.outset ≡ s.progress.journey.outset →
      Grows s.times.moment s.progress.journey.world progress.journey.world →
      Does p limit s (record (with_call s call n) { progress = progress; places = places; queue = queue; noted = noted; accepted = accepted })
  calls_on s call n progress done not_wait not_write outset grows = record {
    moves = goes_on (refl, (refl, not_wait), outset) grows;
    did = λ first before. deed.did call n before done;
    written = λ k room took is. absurd (not_write k room took (let same : call ≡ Wrote k room took = cc in same));
  }

  reads_does : {limit : ℕ} (j : ℕ) (place : Place) (s s' : LoopState N C J K H) → ReadsPlace p j place s s' → Does p limit s s'
  reads_does j place s s' (reading.hears bytes n progress place' some few done heard is) =
      calls_on s _ n progress done refl (λ k room took is. absurd (cc)) (gives_outset p.hosting _ s.progress heard.given progress heard.gives) (gives_grows p.hosting (piece_of j bytes s.times.moment) s.progress heard.given progress heard.gives)
  reads_does j place s s' (reading.refuses bytes n fault progress some few done unheard) =
      calls_on s _ n progress done refl (λ k room took is. absurd (cc)) (gives_outset p.hosting _ s.progress unheard.given progress unheard.gives) (gives_grows p.hosting (piece_of j bytes s.times.moment) s.progress unheard.given progress unheard.gives)
  reads_does j place s s' (reading.ends n e on done) = calls_on s _ n (led s.progress on) done refl (λ k room took is. absurd (cc)) refl (grows_still s.times.moment s.progress.journey.world on.world on.happens.still)
  reads_does j place s s' (reading.ends_nothing n fault done refused) = calls_on s _ n s.progress done refl (λ k room took is. absurd (cc)) refl (grows_not s.times.moment _ _ refl)
  reads_does j place s s' (reading.finds_nothing n done) = calls_on s _ n s.progress done refl (λ k room took is. absurd (cc)) refl (grows_not s.times.moment _ _ refl)
  reads_does j place s s' (reading.fails n done) = calls_on s _ n s.progress done refl (λ k room took is. absurd (cc)) refl (grows_not s.times.moment _ _ refl)

  writes_does : {limit : ℕ} (j : ℕ) (place : Place) (s s' : LoopState N C J K H) → IsWritable (past_of s) s.progress.audience → WritesPlace p j place s s' → Does p limit s s'
  writes_does j place s s' may (writing.sends count front n e on some within is_front done) = record {
    moves = goes_on (refl, (refl, refl), refl) (takes_grows s.times.moment s.progress.journey.world on.world j count on.happens);
    did = λ first before. deed.did _ n before done;
    written = λ k room took is. may;
  }
  writes_does j place s s' may (writing.finds_no_room n done) = record { moves = goes_on (refl, (refl, refl), refl) (grows_not s.times.moment _ _ refl); did = λ first before. deed.did _ n before done; written = λ k room took is. may }
  writes_does j place s s' may (writing.fails n done) = record { moves = goes_on (refl, (refl, refl), refl) (grows_not s.times.moment _ _ refl); did = λ first before. deed.did _ n before done; written = λ k room took is. may }

  closes_does : {limit : ℕ} (j : ℕ) (place : Place) (s s' : LoopState N C J K H) → Closes p j place s s' → Does p limit s s'
  closes_does j place s s' (leaves n e on noted done noting) = calls_on s _ n (led s.progress on) done refl (λ k room took is. absurd (cc)) refl (grows_still s.times.moment s.progress.journey.world on.world on.happens.still)

  passes_does : {limit : ℕ} (j : ℕ) (place : Place) (s s' : LoopState N C J K H) → Passes p j place s s' → Does p limit s s'
  passes_does j place s s' (hands_on n e on done) = calls_on s _ n (led s.progress on) done refl (λ k room took is. absurd (cc)) refl (grows_still s.times.moment s.progress.journey.world on.world on.happens.still)

  pub step_does : (s s' : LoopState N C J K H) (step : LoopStep p s s') → Does p (horizon_bound (told_by step)) s s'
  step_does s s' (waits limit room found n times c keeper may done told near kept further) = record {
    moves = keeps_still (λ last is. kept.holds last) refl kept.basis (inr (kept.told, refl));
    did = λ first before. deed.did _ n before done;
    written = λ k r took is. absurd (cc);
  }
  step_does s s' (comes s'' told (opens j n e on within free done)) = calls_on s _ n (led s.progress on) done refl (λ k room took is. absurd (cc)) refl (grows_still s.times.moment s.progress.journey.world on.world on.happens.still)
  step_does s s' (comes s'' told (denies j n n' fault noted within free done refused closed noting)) = record {
    moves = goes_on (refl, (refl, refl), refl) (grows_not s.times.moment _ _ refl);
    did = λ first before. deed.did _ n' (deed.did _ n before done) closed;
    written = λ k room took is. absurd (cc);
  }
  step_does s s' (comes s'' told (finds_nobody j n done)) = calls_on s _ n s.progress done refl (λ k room took is. absurd (cc)) refl (grows_not s.times.moment _ _ refl)
  step_does s s' (comes s'' told (fails j n noted done noting)) = calls_on s _ n s.progress done refl (λ k room took is. absurd (cc)) refl (grows_not s.times.moment _ _ refl)
  step_does s s' (comes s'' told (asks n taken done)) = calls_on s _ n s.progress done refl (λ k room took is. absurd (cc)) refl (grows_not s.times.moment _ _ refl)
  step_does s s' (reads j place s'' here readable unread may reading) = reads_does j place s s'' reading
  step_does s s' (writes j place s'' here writable unwritten all told asked may writing) = writes_does j place s s'' (record { kept = all; told = told; confirmed = asked }) writing
  step_does s s' (closes j place s'' here taken cause closing) = closes_does j place s s'' closing
  step_does s s' (shortens keeper all long undone kept basis until slice nearer) = record {
    moves = keeps_still (λ last is. subst (λ (h : List Event). Keeps p.keeping.crashes h h s.keeper keeper) (sym (all last is)) kept) refl (keeps_within p.keeping.crashes 0 (horizon_bound 0) s.keeper keeper (omega arith) basis) (inl (refl, refl));
    did = λ first before. deed.shortened before;
    written = λ k room took is. absurd (cc);
  }
  step_does s s' (looks_again nth room found n may done) = record {
    moves = goes_on (refl, (refl, refl), refl) (grows_not s.times.moment _ _ refl);
    did = λ first before. deed.looked nth room found n before done;
    written = λ k r took is. absurd (cc);
  }
  step_does s s' (fails_to_look nth room n may done) = record {
    moves = goes_on (refl, (refl, refl), refl) (grows_not s.times.moment _ _ refl);
    did = λ first before. deed.failed_to_look nth room n before done;
    written = λ k r took is. absurd (cc);
  }
  step_does s s' (no_slice keeper journal all long ago kept basis until size told) = record {
    moves = keeps_still (λ last is. subst (λ (h : List Event). Keeps p.keeping.crashes h h s.keeper keeper) (sym (all last is)) kept) refl (keeps_within p.keeping.crashes 0 (horizon_bound 0) s.keeper keeper (omega arith) basis) (inl (refl, refl));
    did = λ first before. before;
    written = λ k room took is. absurd (not_longer s.calls _ is);
  }
  step_does s s' (keeps keeper e unkept on undone kept basis further sole) = record {
    moves = keeps_all unkept kept (kept_last s.progress.journey.world on.world on.happens) (kept_history s.progress.journey.world on.world on.happens) basis.basis ((refl, refl), ap (λ (w : World). w.greatest) on.happens.kept, refl);
    did = λ first before. deed.kept before;
    written = λ k room took is. absurd (cc);
  }
  step_does s s' (confirms keeper all holds sole) = record {
    moves = keeps_still (λ last is. holds.still last) refl (keeps_within p.keeping.crashes 0 (horizon_bound 0) s.keeper keeper (omega arith) holds.basis) (inl (refl, refl));
    did = λ first before. deed.confirmed before;
    written = λ k room took is. absurd (cc);
  }
  step_does s s' (tends keeper due holds told) = record {
    moves = keeps_still (λ last is. holds.still last) refl (keeps_within p.keeping.crashes 0 (horizon_bound 0) s.keeper keeper (omega arith) holds.basis) (inl (refl, refl));
    did = λ first before. deed.tended due before;
    written = λ k room took is. absurd (cc);
  }
  step_does s s' (audits journal all some heard) = record {
    moves = goes_on (refl, (refl, refl), refl) (grows_not s.times.moment _ _ refl);
    did = λ first before. before;
    written = λ k room took is. absurd (not_longer s.calls _ is);
  }
  step_does s s' step = quiet s

  pub step_moves : (s s' : LoopState N C J K H) (step : LoopStep p s s') → Moves p (horizon_bound (told_by step)) s s'
  step_moves s s' step = (step_does s s' step).moves

  pub fails_does : (s s' : LoopState N C J K H) (fault : LoopFault) (failing : CannotGoOn p s fault s') → FailDoes p (horizon_bound (told_then failing)) s s'
  fails_does s s' fault (no_wait limit room n may done) = record { did = λ first before. deed.did _ n before done; reached = λ was. was; tells = (keeps_same p.keeping.crashes (horizon_bound 0) s.keeper s.keeper refl).meanwhile }
  fails_does s s' fault (no_time limit room found n c may done told) = record { did = λ first before. deed.did _ n before done; reached = λ was. was; tells = (keeps_same p.keeping.crashes (horizon_bound 0) s.keeper s.keeper refl).meanwhile }
  fails_does s s' fault (too_far limit room found n times c seconds may done told far) = record { did = λ first before. deed.did _ n before done; reached = λ was. was; tells = (keeps_same p.keeping.crashes (horizon_bound 0) s.keeper s.keeper refl).meanwhile }
  fails_does s s' fault (no_moment limit room found n times c keeper may done told near lost basis asked) = record { did = λ first before. deed.did _ n before done; reached = λ was. was; tells = basis }
  fails_does s s' fault (not_kept keeper unkept undone lost basis asked) = record { did = λ first before. before; reached = λ was. was; tells = basis }
  fails_does s s' fault (not_shortened keeper all undone lost basis asked) = record { did = λ first before. before; reached = λ was. was; tells = tells_within p.keeping.crashes 0 (horizon_bound 0) s.keeper keeper (omega arith) basis }
  fails_does s s' fault (not_confirmed keeper all lost basis asked) = record { did = λ first before. before; reached = λ was. was; tells = tells_within p.keeping.crashes 0 (horizon_bound 0) s.keeper keeper (omega arith) basis }
  fails_does s s' fault (not_tended keeper lost basis asked) = record { did = λ first before. before; reached = λ was. was; tells = tells_within p.keeping.crashes 0 (horizon_bound 0) s.keeper keeper (omega arith) basis }
  fails_does s s' fault (to_reload time) = record { did = λ first before. before; reached = λ was. was; tells = (keeps_same p.keeping.crashes (horizon_bound 0) s.keeper s.keeper refl).meanwhile }
  fails_does s s' fault (no_more many) = record { did = λ first before. before; reached = λ was. was; tells = (keeps_same p.keeping.crashes (horizon_bound 0) s.keeper s.keeper refl).meanwhile }

  -- what was kept is a front of what happened, wherever steps lead to
  pub served_front : (first s : LoopState N C J K H) → Served p first s → (kept : List Event) → s.progress.journey.world.kept ≡ Some kept → IsFrontOf kept s.progress.journey.world.history
  served_front first s served kept is = front_noted s.progress.edge.server.unkept s.progress.journey.world.kept s.progress.journey.world.history (served_answered p first s served).reached.notes kept is

  moves_held : {limit : ℕ} (s s' : LoopState N C J K H) → Moves p limit s s' → KeeperHolds p s → KeeperHolds p s'
  moves_held s s' (goes_on same grows) held = λ kept is c left. held kept (sym grows.kept ∙ is) c (subst (λ k. p.keeping.crashes.may_leave k c) same.0 left)
  moves_held s s' (keeps_all unkept kept last history basis still) held = λ now is c left.
      subst (p.keeping.crashes.stands_for c) (same_Some s.progress.journey.world.history now (sym last ∙ is)) (kept.holds (held unkept.kept unkept.here) c left)
  moves_held s s' (keeps_still last same basis still) held = λ now is c left.
      let before : s.progress.journey.world.kept ≡ Some now = ap (λ (j : Journey H). j.world.kept) (sym same) ∙ is in
      (last now before).holds (held now before) c left

  served_held : (first s : LoopState N C J K H) → KeeperHolds p first → Served p first s → KeeperHolds p s
  served_held first s held (begins is) = held
  served_held first s held (goes {s = before} served step) = moves_held before s (step_moves before s step) (served_held first before held served)

  moves_carries : {limit : ℕ} (s s' : LoopState N C J K H) → ((kept : List Event) → s.progress.journey.world.kept ≡ Some kept → IsFrontOf kept s.progress.journey.world.history) → Moves p limit s s' → Carries s.progress.journey s'.progress.journey
  moves_carries s s' fronts (goes_on same grows) = record { outset = same.2; front = grows.front; kept = λ before is. (before, grows.kept ∙ is, same_front before before refl) }
  moves_carries s s' fronts (keeps_all unkept kept last history basis still) = record {
    outset = still.2;
    front = same_front _ _ history;
    kept = λ before is. (s.progress.journey.world.history, last, fronts before is);
  }
  moves_carries s s' fronts (keeps_still last same basis still) = subst (Carries s.progress.journey) (sym same) (carries_all s.progress.journey)

  -- so it is wherever steps lead on
  pub onward_carries : (first s s' : LoopState N C J K H) → Served p first s → Onward p s s' → Carries s.progress.journey s'.progress.journey
  onward_carries first s s' served stays = carries_all s.progress.journey
  onward_carries first s s' served (onward {s' = middle} on step) =
      let one = onward_carries first s middle served on in
      let two = moves_carries middle s' (served_front first middle (served_on p first s middle served on)) (step_moves middle s' step) in
      record {
        outset = two.outset ∙ one.outset;
        front = front_then s.progress.journey.world.history middle.progress.journey.world.history s'.progress.journey.world.history one.front two.front;
        kept = λ before is. (let then = one.kept before is in let now = two.kept then.0 then.1 in (now.0, now.1, front_then before then.0 now.0 then.2 now.2));
      }

  -- what was kept at the last state lies between
  kept_between : (first s : LoopState N C J K H) (before : List Event) (s' : LoopState N C J K H) → Served p first s → s.progress.journey.world.kept ≡ Some before → Onward p s s' →
      (kept : List Event) → s'.progress.journey.world.kept ≡ Some kept → (c : List ℕ) → p.keeping.crashes.stands_for c kept → StandsBetween p s before s' c
  kept_between first s before s' served at_s on kept is c stands =
      let then = (onward_carries first s s' served on).kept before at_s in
      record {
        at = s';
        since = on;
        until = stays;
        kept = kept;
        kept_there = is;
        stands = stands;
        from = subst (IsFrontOf before) (same_Some then.0 kept (sym then.1 ∙ is)) then.2;
        to = served_front first s' (served_on p first s s' served on) kept is;
      }

  -- it still lies between one step later
  between_on : (s : LoopState N C J K H) (before : List Event) (s' s'' : LoopState N C J K H) (c : List ℕ) → LoopStep p s' s'' → IsFrontOf s'.progress.journey.world.history s''.progress.journey.world.history →
      StandsBetween p s before s' c → StandsBetween p s before s'' c
  between_on s before s' s'' c step grows b = record {
    at = b.at;
    since = b.since;
    until = onward b.until step;
    kept = b.kept;
    kept_there = b.kept_there;
    stands = b.stands;
    from = b.from;
    to = front_then b.kept s'.progress.journey.world.history s''.progress.journey.world.history b.to grows;
  }

  -- what the sockets did, from the first state on
  served_did : (first s : LoopState N C J K H) → Served p first s → HaveDone p.sockets first.sockets s.calls s.sockets
  served_did first s (begins is) = subst (λ (calls : List Call). HaveDone p.sockets first.sockets calls s.sockets) (sym is.calls) deed.nothing
  served_did first s (goes {s = before} served next) = (step_does before s next).did first.sockets (served_did first before served)

  shuts_did : {fault : LoopFault} (first : N) (s s' : LoopState N C J K H) → Shuts p fault s s' → HaveDone p.sockets first s.calls s.sockets → HaveDone p.sockets first s'.calls s'.sockets
  shuts_did first s s' stops before = before
  shuts_did first s s' (shuts {s = middle} k place shut here taken apart closing) before = (closes_does {limit = 0} k place middle s' closing).did first (shuts_did first s middle shut before)
  shuts_did first s s' (passes_on {s = middle} k place shut here wanted between passing) before = (passes_does {limit = 0} k place middle s' passing).did first (shuts_did first s middle shut before)

  emptied_did : (first last failed emptied : LoopState N C J K H) (fault : LoopFault) → Served p first last → CannotGoOn p last fault failed → Shuts p fault failed emptied → HaveDone p.sockets first.sockets emptied.calls emptied.sockets
  emptied_did first last failed emptied fault served failing shut = shuts_did first.sockets failed emptied shut ((fails_does last failed fault failing).did first.sockets (served_did first last served))

  -- and up to the end
  pub end_did : (first last failed emptied end : LoopState N C J K H) (fault : LoopFault) → Served p first last → CannotGoOn p last fault failed →
      Shuts p fault failed emptied → TellsLast p emptied end → HaveDone p.sockets first.sockets end.calls end.sockets
  end_did first last failed emptied end fault served failing shut (reports_last report journal wanted tells done) = emptied_did first last failed emptied fault served failing shut
  end_did first last failed emptied end fault served failing shut (tells_nothing none) = emptied_did first last failed emptied fault served failing shut

  module _ (only_now : (keeper : K) (c : List ℕ) → p.keeping.crashes.left_since keeper (p.keeping.crashes.moment keeper) c → p.keeping.crashes.may_leave keeper c) (first : LoopState N C J K H) (at_first : KeeperHolds p first)
      (s : LoopState N C J K H) (before : List Event) (served : Served p first s) (is : s.progress.journey.world.kept ≡ Some before) where
    -- the keeper holds what was kept wherever steps lead on
    held_at : (s' : LoopState N C J K H) → Onward p s s' → KeeperHolds p s'
    held_at s' on = served_held first s' at_first (served_on p first s s' served on)

    step_leaves : {limit : ℕ} (s' s'' : LoopState N C J K H) → Onward p s s' → Leaves p.keeping.crashes s.keeper s'.keeper (StandsBetween p s before s') → LoopStep p s' s'' → Moves p limit s' s'' →
        Leaves p.keeping.crashes s.keeper s''.keeper (StandsBetween p s before s'')
    step_leaves s' s'' on so_far step (goes_on same grows) = leaves_same p.keeping.crashes s.keeper s'.keeper s''.keeper _ _ so_far same.0 (λ c. between_on s before s' s'' c step grows.front)
    step_leaves s' s'' on so_far step (keeps_all unkept kept last history basis still) =
        let grows : IsFrontOf s'.progress.journey.world.history s''.progress.journey.world.history = same_front _ _ history in
        leaves_either p.keeping.crashes s.keeper s'.keeper s''.keeper unkept.kept s'.progress.journey.world.history _ _ so_far (kept.meanwhile (held_at s' on unkept.kept unkept.here))
        (λ c old. between_on s before s' s'' c step grows (kept_between first s before s' served is on unkept.kept unkept.here c old))
        (λ c new. kept_between first s before s'' served is (onward on step) s'.progress.journey.world.history last c new)
        (λ c. between_on s before s' s'' c step grows)
    step_leaves s' s'' on so_far step (keeps_still last same basis still) =
        let grows : IsFrontOf s'.progress.journey.world.history s''.progress.journey.world.history = same_front _ _ (ap (λ (j : Journey H). j.world.history) same) in
        let now = (onward_carries first s s' served on).kept before is in
        let stands : (c : List ℕ) → p.keeping.crashes.stands_for c now.0 → StandsBetween p s before s'' c = λ c old. between_on s before s' s'' c step grows (kept_between first s before s' served is on now.0 now.1 c old) in
        leaves_either p.keeping.crashes s.keeper s'.keeper s''.keeper now.0 now.0 _ _ so_far ((last now.0 now.1).meanwhile (held_at s' on now.0 now.1)) stands stands
        (λ c. between_on s before s' s'' c step grows)

    -- each crash leaves what was kept at some state
    pub leaves_between : (s' : LoopState N C J K H) → Onward p s s' → Leaves p.keeping.crashes s.keeper s'.keeper (StandsBetween p s before s')
    leaves_between s' stays = leaves_now p.keeping.crashes only_now s.keeper _ (λ c left. kept_between first s before s served is stays before is c (held_at s stays before is c left))
    leaves_between s' (onward {s' = middle} on step) = step_leaves middle s' on (leaves_between middle on) step (step_moves middle s' step)

    -- so it did where the keeper was lost while it held what was kept
    lost_leaves : (last : LoopState N C J K H) (keeper : K) → Onward p s last → HeldMeanwhile p.keeping.crashes last.keeper keeper →
        Leaves p.keeping.crashes s.keeper keeper (λ c. StandsBetween p s before last c ⊎ p.keeping.crashes.stands_for c last.progress.journey.world.history)
    lost_leaves last keeper on lost =
        let now = (onward_carries first s last served on).kept before is in
        leaves_either p.keeping.crashes s.keeper last.keeper keeper now.0 now.0 _ _ (leaves_between last on) ((lost now.0).meanwhile (held_at last on now.0 now.1))
        (λ c old. inl (kept_between first s before last served is on now.0 now.1 c old)) (λ c old. inl (kept_between first s before last served is on now.0 now.1 c old)) (λ c. inl)

    -- where something failed then, it may also leave all that had happened
    fails_leave : (last failed : LoopState N C J K H) (fault : LoopFault) → Onward p s last → CannotGoOn p last fault failed →
        Leaves p.keeping.crashes s.keeper failed.keeper (λ c. StandsBetween p s before last c ⊎ p.keeping.crashes.stands_for c last.progress.journey.world.history)
    fails_leave last failed fault on (no_moment limit room found n times c keeper may done told near lost basis asked) = lost_leaves last keeper on lost
    fails_leave last failed fault on (not_confirmed keeper all lost basis asked) = lost_leaves last keeper on lost
    fails_leave last failed fault on (not_tended keeper lost basis asked) = lost_leaves last keeper on lost
    fails_leave last failed fault on (not_kept keeper unkept undone lost basis asked) =
        leaves_either p.keeping.crashes s.keeper last.keeper keeper unkept.kept last.progress.journey.world.history _ _ (leaves_between last on) (lost.meanwhile (held_at last on unkept.kept unkept.here))
        (λ c old. inl (kept_between first s before last served is on unkept.kept unkept.here c old)) (λ c. inr) (λ c. inl)
    fails_leave last failed fault on (not_shortened keeper all undone lost basis asked) =
        let now = (onward_carries first s last served on).kept before is in
        let held : Holds p.keeping.crashes last.keeper last.progress.journey.world.history = subst (λ (h : List Event). Holds p.keeping.crashes last.keeper h) (all now.0 now.1) (held_at last on now.0 now.1) in
        leaves_either p.keeping.crashes s.keeper last.keeper keeper last.progress.journey.world.history last.progress.journey.world.history _ _ (leaves_between last on) (lost.meanwhile held) (λ c. inr) (λ c. inr) (λ c. inl)
    fails_leave last failed fault on failing = leaves_same p.keeping.crashes s.keeper last.keeper last.keeper _ _ (leaves_between last on) refl (λ c. inl)

    -- and so it does up to the end
    pub leaves_to_end : (last failed emptied end : LoopState N C J K H) (fault : LoopFault) → Onward p s last → CannotGoOn p last fault failed → Shuts p fault failed emptied → TellsLast p emptied end →
        Leaves p.keeping.crashes s.keeper end.keeper (λ c. StandsBetween p s before last c ⊎ p.keeping.crashes.stands_for c last.progress.journey.world.history)
    leaves_to_end last failed emptied end fault on failing shut told =
        leaves_same p.keeping.crashes s.keeper failed.keeper end.keeper _ _ (fails_leave last failed fault on failing) (end_keeper p failed emptied end shut told) (λ c stands. stands)
