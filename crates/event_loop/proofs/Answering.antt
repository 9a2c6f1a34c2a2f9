-- Whatever steps lead to, what was written answers what was read.
use Rattle.std.proofs.Common.{◌≡◌, ◌≢◌, inl, inr, ℕ, List, [], ◌∷◌, ◌++◌, false, Some, length, append_assoc, refl, sym, ap, subst, ◌∙◌, slice_get, slice_set}
use Rattle.event_loop.proofs.Names.{Place, IsOccupied, IsInService, IsFreeAt, MayRead, read_limit, Closes, leaves, eqb_tells, connection_at, piece_of, untaken, is_closing, Progress, known, IsReached}
use Rattle.event_loop.proofs.Names.{GivesPieces, false≢true, no_other, Promises, LoopState, with_call, with_place, Free, Open, Ended, Broken, Call, opens, denies, fresh_place, LoopStep, Served, Leaving, IsStaying, to_offer, taken_stage}
use Rattle.event_loop.proofs.Names.{audits, hears_of, hears_out, comes, reads, writes, closes, keeps, begins, goes, ReadsPlace, WritesPlace, Read, Write, Refused}
use Rattle.event_loop.specs.Coming.{fails}
use Rattle.event_loop.specs.declared.place.Stage.{Stage}
use Rattle.outside.specs.declared.sockets.Accepted.TheVariants as accepted
use Rattle.outside.specs.Calls as call
use Rattle.event_loop.specs.Reading as reading
use Rattle.event_loop.specs.Writing as writing
use Rattle.event_loop.specs.Answered.{PlaceExchange, IsAllAnswered, has_ended, read_at, written_at}
use Rattle.event_loop.proofs.Putting.{set_cases}
use Rattle.event_loop.proofs.Kept.{kept_connections}
use Rattle.event_loop.proofs.Others.{is_itself, opens_other, ends_other, takes_other, forgets_other}
use Rattle.event_loop.proofs.Telling.{talk_given, closing_taken, ended_taken, gives_reached, gives_other, gives_unended, opened_here}
use Rattle.serving.specs.Talks.{Talk}
use Rattle.serving.proofs.Talking.{talk_opened, talk_lost, talk_ended, talk_written}

-- one that is served is there
pub served_taken : (stage : Stage) → IsInService stage → IsOccupied stage
served_taken Free is = absurd is
served_taken stage is = tt

-- where a place is free, no connection is there
not_free : (places : List Place) (k : ℕ) (place : Place) → IsFreeAt places k → slice_get places k ≡ Some place → IsOccupied place.stage → ⊥
not_free places k place free here taken = subst IsOccupied (free place here) taken

-- so is one that does not make room
pub staying_taken : (stage : Stage) → IsStaying stage → IsOccupied stage
staying_taken Open is = tt
staying_taken Ended is = tt
staying_taken stage is = absurd is

-- it is read once bytes were taken, if it was before
open_before : (stage : Stage) (count : ℕ) → taken_stage stage count ≡ Open → stage ≡ Open
open_before (Leaving left) count is = absurd (cc)
open_before stage count is = is

module _ {N C J K H : Type 0} where
  exchange_of : (s : LoopState N C J K H) (k : ℕ) (place : Place) (read written lost : List ℕ) → read_at k s.calls ≡ read → written_at k s.calls ≡ written → (t : Talk read written lost (known s.progress k)) →
      (place.stage ≡ Open → is_closing (known s.progress k) ≡ false → lost ≡ []) → (place.stage ≡ Open → has_ended (known s.progress k) ≡ false) → PlaceExchange s k place
  exchange_of s k place read written lost same_read same_written t whole unended = record {
    lost = lost;
    talk = subst (λ r. Talk r (written_at k s.calls) lost (known s.progress k)) (sym same_read) (subst (λ w. Talk read w lost (known s.progress k)) (sym same_written) t);
    whole = whole;
    unended = unended;
  }

  -- nothing happened to it
  stays_same : (s s' : LoopState N C J K H) (k : ℕ) (place place' : Place) → PlaceExchange s k place → known s'.progress k ≡ known s.progress k → read_at k s'.calls ≡ read_at k s.calls → written_at k s'.calls ≡ written_at k s.calls →
      (place'.stage ≡ Open → place.stage ≡ Open) → PlaceExchange s' k place'
  stays_same s s' k place place' x same_known same_read same_written opened =
      exchange_of s' k place' _ _ x.lost same_read same_written (subst (Talk (read_at k s.calls) (written_at k s.calls) x.lost) (sym same_known) x.talk)
      (λ is_open stays. x.whole (opened is_open) (ap is_closing (sym same_known) ∙ stays)) (λ is_open. ap has_ended same_known ∙ x.unended (opened is_open))

  -- the place of a step at j, and another
  module _ (p : Promises N C J K H) (s : LoopState N C J K H) (before : IsAllAnswered p s) where
    -- the place of a step is as it says, and the others are as they were
    at_places : (s' : LoopState N C J K H) (j : ℕ) (place' : Place) → s'.places ≡ slice_set s.places j place' → (IsOccupied place'.stage → PlaceExchange s' j place') →
        ((k : ℕ) → k ≢ j → known s'.progress k ≡ known s.progress k) → ((k : ℕ) → k ≢ j → read_at k s'.calls ≡ read_at k s.calls) → ((k : ℕ) → k ≢ j → written_at k s'.calls ≡ written_at k s.calls) →
        (k : ℕ) (place : Place) → slice_get s'.places k ≡ Some place → IsOccupied place.stage → PlaceExchange s' k place
    at_places s' j place' put at same_known same_read same_written k place here taken =
        elim (set_cases s.places j k place' place (subst (λ places. slice_get places k ≡ Some place) put here)) [
          | inl is ↦
              let taken' : IsOccupied place'.stage = subst (λ (q : Place). IsOccupied q.stage) is.1 taken in
              subst (λ q. PlaceExchange s' k q) (sym is.1) (subst (λ i. PlaceExchange s' i place') (sym is.0) (at taken'))
          | inr other ↦ stays_same s s' k place place (before.exchanges k place other.1 taken) (same_known k other.0) (same_read k other.0) (same_written k other.0) (λ e. e)
        ]

    -- a call at one place is none at another
    read_other : (j k : ℕ) (bytes : List ℕ) (calls : List Call) → k ≢ j → read_at k (call.Read j read_limit (call.Bytes bytes) ∷ calls) ≡ read_at k calls
    read_other j k bytes calls other = rw (no_other j j k (is_itself j) other) refl

    read_here : (j : ℕ) (bytes : List ℕ) (calls : List Call) → read_at j (call.Read j read_limit (call.Bytes bytes) ∷ calls) ≡ read_at j calls ++ bytes
    read_here j bytes calls = rw (is_itself j) refl

    wrote_other : (j k room : ℕ) (bytes : List ℕ) (calls : List Call) → k ≢ j → written_at k (call.Wrote j room (call.Bytes bytes) ∷ calls) ≡ written_at k calls
    wrote_other j k room bytes calls other = rw (no_other j j k (is_itself j) other) refl

    wrote_here : (j room : ℕ) (bytes : List ℕ) (calls : List Call) → written_at j (call.Wrote j room (call.Bytes bytes) ∷ calls) ≡ written_at j calls ++ bytes
    wrote_here j room bytes calls = rw (is_itself j) refl

    came_other : (j k : ℕ) (calls : List Call) → k ≢ j → (read_at k (call.Tried j accepted.Taken ∷ calls) ≡ read_at k calls) × (written_at k (call.Tried j accepted.Taken ∷ calls) ≡ written_at k calls)
    came_other j k calls other = rw (no_other j j k (is_itself j) other) (refl, refl)

    came_here : (j : ℕ) (calls : List Call) → (read_at j (call.Tried j accepted.Taken ∷ calls) ≡ []) × (written_at j (call.Tried j accepted.Taken ∷ calls) ≡ [])
    came_here j calls = rw (is_itself j) (refl, refl)

    -- nothing was done at any place
    idles : (s' : LoopState N C J K H) → s'.places ≡ s.places → s'.progress ≡ s.progress → ((k : ℕ) → read_at k s'.calls ≡ read_at k s.calls) → ((k : ℕ) → written_at k s'.calls ≡ written_at k s.calls) → IsAllAnswered p s'
    idles s' same_places same_progress same_read same_written = record {
      reached = subst (IsReached p.hosting) (sym same_progress) before.reached;
      exchanges = λ k place here taken.
          stays_same s s' k place place (before.exchanges k place (subst (λ places. slice_get places k ≡ Some place) same_places here) taken) (ap (λ progress. known progress k) same_progress) (same_read k) (same_written k) (λ e. e);
    }

    -- one place is noted to be otherwise, and its connection is as it was
    notes_place : (s' : LoopState N C J K H) (j : ℕ) (place place' : Place) → slice_get s.places j ≡ Some place → s'.places ≡ slice_set s.places j place' → s'.progress ≡ s.progress → (IsOccupied place'.stage → IsOccupied place.stage) → (place'.stage ≡ Open → place.stage ≡ Open) →
        ((k : ℕ) → read_at k s'.calls ≡ read_at k s.calls) → ((k : ℕ) → written_at k s'.calls ≡ written_at k s.calls) → IsAllAnswered p s'
    notes_place s' j place place' here put same_progress taken opened same_read same_written = record {
      reached = subst (IsReached p.hosting) (sym same_progress) before.reached;
      exchanges =
          at_places s' j place' put
          (λ taken'. stays_same s s' j place place' (before.exchanges j place here (taken taken')) (ap (λ progress. known progress j) same_progress) (same_read j) (same_written j) opened)
          (λ k other. ap (λ progress. known progress k) same_progress) (λ k other. same_read k) (λ k other. same_written k);
    }

    -- a front of the bytes that were read is given to the connection, and the rest is lost
    given_answered : (j : ℕ) (place place' : Place) (bytes given lost : List ℕ) (n : N) (progress : Progress H) → slice_get s.places j ≡ Some place → MayRead place (known s.progress j) →
        GivesPieces p.hosting (piece_of j bytes s.times.moment) s.progress given progress → bytes ≡ given ++ lost → (place'.stage ≡ Open → is_closing (known progress j) ≡ false → lost ≡ []) →
        IsAllAnswered p (record (with_place (with_call s (call.Read j read_limit (call.Bytes bytes)) n) j place') { progress = progress })
    given_answered j place place' bytes given lost n progress here may giving all whole =
        let x = before.exchanges j place here (subst IsOccupied (sym may.is_open) tt) in
        let nothing_lost : x.lost ≡ [] = x.whole may.is_open may.stays in
        let t : Talk (read_at j s.calls) (written_at j s.calls) [] (known s.progress j) = subst (λ lost. Talk (read_at j s.calls) (written_at j s.calls) lost (known s.progress j)) nothing_lost x.talk in
        let t' = talk_given p.hosting (piece_of j bytes s.times.moment) s.progress given progress (read_at j s.calls) (written_at j s.calls) giving before.reached t in
        let read : read_at j (call.Read j read_limit (call.Bytes bytes) ∷ s.calls) ≡ (read_at j s.calls ++ given) ++ lost =
        read_here j bytes s.calls ∙ ap (λ l. read_at j s.calls ++ l) all ∙ sym (append_assoc (read_at j s.calls) given lost) in
        record {
          reached = gives_reached p.hosting (piece_of j bytes s.times.moment) s.progress given progress giving before.reached;
          exchanges =
              at_places _ j place' refl (λ taken. exchange_of _ j place' _ _ lost read refl (talk_lost _ _ [] lost _ t') whole (λ is_open. gives_unended p.hosting (piece_of j bytes s.times.moment) s.progress given progress giving (x.unended may.is_open)))
              (λ k other. gives_other p.hosting (piece_of j bytes s.times.moment) k s.progress given progress giving other)
              (λ k other. read_other j k bytes s.calls other) (λ k other. refl);
        }

    reads_answered : (j : ℕ) (place : Place) (s' : LoopState N C J K H) → slice_get s.places j ≡ Some place → MayRead place (known s.progress j) → ReadsPlace p j place s s' → IsAllAnswered p s'
    reads_answered j place s' here may (reading.hears bytes n progress place' some few done heard is) =
        given_answered j place place' bytes heard.given heard.rest n progress here may heard.gives heard.all
        (λ is_open stays. elim heard.over [ inl none ↦ none | inr closed ↦ absurd (false≢true (sym stays ∙ closed)) ])
    reads_answered j place s' here may (reading.refuses bytes n fault progress some few done unheard) =
        given_answered j place (record place { stage = Broken (Refused fault) }) bytes unheard.given (unheard.part ++ unheard.rest) n progress here may unheard.gives unheard.all (λ is_open stays. absurd (cc))
    reads_answered j place s' here may (reading.ends n e on done) =
        let taken : IsOccupied place.stage = subst IsOccupied (sym may.is_open) tt in
        let x = before.exchanges j place here taken in
        record {
          reached = on.reached;
          exchanges =
              at_places _ j (record place { stage = Ended }) refl
              (λ taken'. exchange_of _ j (record place { stage = Ended }) _ _ x.lost refl refl (talk_ended s.progress.journey.world on.world j _ _ x.lost on.happens x.talk) (λ is_open stays. absurd (cc)) (λ is_open. absurd (cc)))
              (λ k other. ends_other s.progress.journey.world on.world j k on.happens other) (λ k other. refl) (λ k other. refl);
        }
    reads_answered j place s' here may (reading.ends_nothing n fault done refused) =
        notes_place _ j place (record place { stage = Broken (Refused fault) }) here refl refl (λ taken. subst IsOccupied (sym may.is_open) tt) (λ e. may.is_open) (λ k. refl) (λ k. refl)
    reads_answered j place s' here may (reading.finds_nothing n done) =
        notes_place _ j place (record place { readable = false }) here refl refl (λ taken. taken) (λ e. e) (λ k. refl) (λ k. refl)
    reads_answered j place s' here may (reading.fails n done) =
        notes_place _ j place (record place { stage = Broken Read }) here refl refl (λ taken. subst IsOccupied (sym may.is_open) tt) (λ e. may.is_open) (λ k. refl) (λ k. refl)

    writes_answered : (j : ℕ) (place : Place) (s' : LoopState N C J K H) → slice_get s.places j ≡ Some place → IsOccupied place.stage → WritesPlace p j place s s' → IsAllAnswered p s'
    writes_answered j place s' here taken (writing.sends count front n e on some within is_front done) =
        let x = before.exchanges j place here taken in
        let room = length (to_offer place.stage (untaken (known s.progress j))) in
        let t' = talk_written s.progress.journey.world on.world j count _ _ x.lost front some is_front on.happens x.talk in
        record {
          reached = on.reached;
          exchanges =
              at_places _ j (record place { stage = taken_stage place.stage count; since = s.times.steady; turn = s.turn }) refl
              (λ taken'. exchange_of _ j (record place { stage = taken_stage place.stage count; since = s.times.steady; turn = s.turn }) _ _ x.lost refl (wrote_here j room front s.calls) t' (λ is_open stays. x.whole (open_before place.stage count is_open) (sym (closing_taken s.progress.journey.world on.world j count on.happens) ∙ stays))
              (λ is_open. ended_taken s.progress.journey.world on.world j count on.happens ∙ x.unended (open_before place.stage count is_open)))
              (λ k other. takes_other s.progress.journey.world on.world j k count on.happens other) (λ k other. refl) (λ k other. wrote_other j k room front s.calls other);
        }
    writes_answered j place s' here taken (writing.finds_no_room n done) =
        notes_place _ j place (record place { writable = false }) here refl refl (λ t. t) (λ e. e) (λ k. refl) (λ k. refl)
    writes_answered j place s' here taken (writing.fails n done) =
        notes_place _ j place (record place { stage = Broken Write }) here refl refl (λ t. taken) (λ e. absurd (cc)) (λ k. refl) (λ k. refl)

    closes_answered : (j : ℕ) (place : Place) (s' : LoopState N C J K H) → Closes p j place s s' → IsAllAnswered p s'
    closes_answered j place s' (leaves n e on noted done noting) = record {
      reached = on.reached;
      exchanges =
          at_places _ j (record place { stage = Free }) refl (λ taken. absurd taken)
          (λ k other. forgets_other s.progress.journey.world on.world j k on.happens other) (λ k other. refl) (λ k other. refl);
    }

    step_answered : (s' : LoopState N C J K H) → LoopStep p s s' → IsAllAnswered p s'
    step_answered s' (hears_of j readable writable hung more place place' is here told) =
        let same : place'.stage ≡ place.stage = ap (λ (q : Place). q.stage) told in
        notes_place _ j place place' here refl refl (λ t. subst IsOccupied same t) (λ e. sym same ∙ e) (λ k. refl) (λ k. refl)
    step_answered s' (comes s'' told (opens j n e on within free done)) = record {
      reached = on.reached;
      exchanges =
          at_places _ j (fresh_place s.times.steady) refl
          (λ taken. exchange_of _ j (fresh_place s.times.steady) [] [] [] (came_here j s.calls).0 (came_here j s.calls).1 (talk_opened s.progress.journey.world on.world j on.happens) (λ is_open stays. refl) (λ is_open. ap has_ended (opened_here s.progress.journey.world on.world j on.happens)))
          (λ k other. opens_other s.progress.journey.world on.world j k on.happens other) (λ k other. (came_other j k s.calls other).0) (λ k other. (came_other j k s.calls other).1);
    }
    step_answered s' (comes s'' told (denies j n n' fault noted within free done refused closed noting)) = record {
      reached = before.reached;
      exchanges = λ k place here taken. elim (eqb_tells k j) [
        | inl is ↦ absurd (not_free s.places j place free (subst (λ i. slice_get s.places i ≡ Some place) is.1 here) taken)
        | inr is ↦ stays_same s _ k place place (before.exchanges k place here taken) refl (came_other j k s.calls is.1).0 (came_other j k s.calls is.1).1 (λ e. e)
      ];
    }
    step_answered s' (reads j place s'' here readable unread may reading) = reads_answered j place s'' here may reading
    step_answered s' (writes j place s'' here writable unwritten kept told asked may writing) = writes_answered j place s'' here (served_taken place.stage may.served) writing
    step_answered s' (closes j place s'' here taken cause closing) = closes_answered j place s'' closing
    step_answered s' (hears_out j place left here waiting late eldest none is_left some) =
        notes_place _ j place (record place { stage = Leaving left; came = s.times.steady }) here refl refl (λ taken. staying_taken place.stage eldest.holds.stays) (λ e. absurd (cc)) (λ k. refl) (λ k. refl)
    step_answered s' (keeps keeper e unkept on undone kept basis further sole) = record {
      reached = on.reached;
      exchanges = λ k place here taken.
          stays_same s _ k place place (before.exchanges k place here taken) (ap (λ ks. connection_at ks k) (kept_connections s.progress.journey.world on.world on.happens)) refl refl (λ e. e);
    }
    step_answered s' (audits journal all some heard) = record {
      reached = before.reached;
      exchanges = λ k place here taken. stays_same s _ k place place (before.exchanges k place here taken) refl refl refl (λ e. e);
    }
    step_answered s' step = idles _ refl refl (λ k. refl) (λ k. refl)

  -- so it is wherever steps lead to
  pub served_answered : (p : Promises N C J K H) (first s : LoopState N C J K H) → Served p first s → IsAllAnswered p s
  served_answered p first s (begins is) = record {
    reached = is.reached;
    exchanges = λ k place here taken. absurd (not_free first.places k place (is.free k) here taken);
  }
  served_answered p first s (goes {s = before} served step) = step_answered p before (served_answered p first before served) s step
