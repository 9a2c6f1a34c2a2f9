-- Whatever steps lead to, one that makes room goes at the end of a reply.
use Rattle.std.proofs.Common.{◌≡◌, ◌≢◌, ◌≤◌, ◌<◌, ◌+◌, ◌-◌, ◌⊎◌, inl, inr, ℕ, List, [], Option, Some, None, length, length-append, length-take, take, refl, sym, ap, subst, ◌∙◌, arith, slice_get, slice_set}
use Rattle.std.specs.Prelude.{Contains, false}
use Rattle.std.proofs.lemmas.List.{length-drop}
use Rattle.event_loop.proofs.Names.{Place, IsFreeAt, Connection, World, connection_at, untaken, known, Promises, LoopState, Free, Open, Ended, Leaving, Broken, fresh_place, taken_stage, to_offer, AreLeftOfReply, TakesOutput, TakesNothing, found_put}
use Rattle.event_loop.proofs.Names.{ReadsPlace, WritesPlace, Closes, leaves, opens, LoopStep, Served, hears_of, hears_out, comes, reads, writes, closes, keeps, begins, goes, MayRead, Read, Write, Refused}
use Rattle.event_loop.proofs.Names.{IsOccupied, HasWhole, same_Some}
use Rattle.event_loop.specs.Answered.{HasWholeReplies, PlaceExchange, written_at}
use Rattle.event_loop.specs.Closing.{none_begun, took_rest}
use Rattle.event_loop.specs.declared.place.Stage.{Stage}
use Rattle.event_loop.specs.Reading as reading
use Rattle.event_loop.specs.Writing as writing
use Rattle.event_loop.proofs.Answering.{served_answered, staying_taken}
use Rattle.event_loop.proofs.Putting.{set_cases}
use Rattle.event_loop.proofs.Kept.{kept_connections}
use Rattle.event_loop.proofs.Others.{opens_other, ends_other, takes_other, forgets_other}
use Rattle.event_loop.proofs.Telling.{gives_other}

-- so many bytes more of its output end at an end of a reply
pub record IsUpToEnd (connection : Option Connection) (left : ℕ) : Type 0 where
  pub k : Connection
  pub here : connection ≡ Some k
  pub end : Contains k.ends (k.taken + left)
  pub within : k.taken + left ≤ length k.output

-- so it is at each place where one makes room
pub record AreUpToEnds {N C J K H : Type 0} (s : LoopState N C J K H) : Type 0 where
  pub at : (k : ℕ) (place : Place) (left : ℕ) → slice_get s.places k ≡ Some place → place.stage ≡ Leaving left → IsUpToEnd (known s.progress k) left

-- what the edge tells is so
pub up_to_end : (connection : Option Connection) (left : ℕ) → 0 < length (untaken connection) → AreLeftOfReply connection left → IsUpToEnd connection left
up_to_end None left some is = absurd (omega (arith, some))
up_to_end (Some k) left some is =
    let size = length-drop k.taken k.output in
    let has : 0 < length k.output = omega (arith, size, some) in
    record { k = k; here = refl; end = (is has).ends; within = (is has).within }

-- what was taken is no longer left
up_taken : (k : Connection) (left count : ℕ) → count ≤ left → IsUpToEnd (Some k) left → IsUpToEnd (Some (record k { taken = k.taken + count })) (left - count)
up_taken k left count le up =
    let same : up.k ≡ k = (let here = up.here in cc) in
    let moved : k.taken + left ≡ k.taken + count + (left - count) = omega (arith, le) in
    let within : k.taken + left ≤ length k.output = subst (λ (x : Connection). x.taken + left ≤ length x.output) same up.within in
    record {
      k = record k { taken = k.taken + count };
      here = refl;
      end = subst (λ n. Contains k.ends n) moved (subst (λ (x : Connection). Contains x.ends (x.taken + left)) same up.end);
      within = omega (arith, within, le);
    }

takes_up : (old new : World) (c left count : ℕ) → count ≤ left → 0 < count → TakesOutput old new c count ⊎ TakesNothing old new c count → IsUpToEnd (connection_at old.connections c) left →
    IsUpToEnd (connection_at new.connections c) (left - count)
takes_up old new c left count le some (inr absent) up = absurd (let zero = absent.nothing in omega (arith, zero, some))
takes_up old new c left count le some (inl takes) up =
    let k = takes.before in
    let k' : Connection = record k { taken = k.taken + count } in
    let here : connection_at new.connections c ≡ Some k' = rw takes.connections (found_put old.connections c k k' takes.here refl) in
    subst (λ o. IsUpToEnd o (left - count)) (sym here) (up_taken k left count le (subst (λ o. IsUpToEnd o left) takes.here up))

-- one that makes room behind a write did so before it, and no more than was offered was taken
record DidLeave (stage : Stage) (bytes : List ℕ) (count left : ℕ) : Type 0 where
  pub before : ℕ
  pub leaving : stage ≡ Leaving before
  pub less : count ≤ before
  pub left_is : left ≡ before - count

did_leave : (stage : Stage) (bytes : List ℕ) (count left : ℕ) → count ≤ length (to_offer stage bytes) → taken_stage stage count ≡ Leaving left → DidLeave stage bytes count left
did_leave (Leaving before) bytes count left within is =
    let size = length-take before bytes in
    record { before = before; leaving = refl; less = grind (arith, size, within); left_is = (let same : before - count ≡ left = cc in sym same) }
did_leave stage bytes count left within is = absurd (let not : stage ≡ Leaving left = is in cc)

module _ {N C J K H : Type 0} (p : Promises N C J K H) (s : LoopState N C J K H) (before : AreUpToEnds s) where
  -- one place is other
  at_place : (s' : LoopState N C J K H) (j : ℕ) (place' : Place) → s'.places ≡ slice_set s.places j place' → ((left : ℕ) → place'.stage ≡ Leaving left → IsUpToEnd (known s'.progress j) left) →
      ((k : ℕ) → k ≢ j → known s'.progress k ≡ known s.progress k) → AreUpToEnds s'
  at_place s' j place' put at same = record {
    at = λ k place left here leaving.
        elim (set_cases s.places j k place' place (subst (λ places. slice_get places k ≡ Some place) put here)) [
          | inl is ↦ subst (λ i. IsUpToEnd (known s'.progress i) left) (sym is.0) (at left (ap (λ (q : Place). q.stage) (sym is.1) ∙ leaving))
          | inr other ↦ subst (λ o. IsUpToEnd o left) (sym (same k other.0)) (before.at k place left other.1 leaving)
        ];
  }

  -- and none makes room there
  at_stage : (s' : LoopState N C J K H) (j : ℕ) (place' : Place) → s'.places ≡ slice_set s.places j place' → ((left : ℕ) → place'.stage ≡ Leaving left → ⊥) →
      ((k : ℕ) → k ≢ j → known s'.progress k ≡ known s.progress k) → AreUpToEnds s'
  at_stage s' j place' put none same = at_place s' j place' put (λ left leaving. absurd (none left leaving)) same

  -- what is known of the place is other, but not its stage
  stage_still : (s' : LoopState N C J K H) (j : ℕ) (place place' : Place) → slice_get s.places j ≡ Some place → s'.places ≡ slice_set s.places j place' → place'.stage ≡ place.stage → s'.progress ≡ s.progress → AreUpToEnds s'
  stage_still s' j place place' here put stage same =
      at_place s' j place' put (λ left leaving. subst (λ progress. IsUpToEnd (known progress j) left) (sym same) (before.at j place left here (sym stage ∙ leaving))) (λ k other. ap (λ progress. known progress k) same)

  still : (s' : LoopState N C J K H) → s'.places ≡ s.places → ((k : ℕ) → known s'.progress k ≡ known s.progress k) → AreUpToEnds s'
  still s' places same = record { at = λ k place left here leaving. subst (λ o. IsUpToEnd o left) (sym (same k)) (before.at k place left (subst (λ ps. slice_get ps k ≡ Some place) places here) leaving) }

  reads_up : (j : ℕ) (place : Place) (s' : LoopState N C J K H) → place.stage ≡ Open → ReadsPlace p j place s s' → AreUpToEnds s'
  reads_up j place s' is_open (reading.hears bytes n progress place' some few done heard is) =
      at_stage _ j place' refl (λ left leaving. (let stage = ap (λ (q : Place). q.stage) is in cc)) (λ k other. gives_other p.hosting _ k s.progress heard.given progress heard.gives other)
  reads_up j place s' is_open (reading.refuses bytes n fault progress some few done unheard) =
      at_stage _ j (record place { stage = Broken (Refused fault) }) refl (λ left leaving. cc) (λ k other. gives_other p.hosting _ k s.progress unheard.given progress unheard.gives other)
  reads_up j place s' is_open (reading.ends n e on done) =
      at_stage _ j (record place { stage = Ended }) refl (λ left leaving. cc) (λ k other. ends_other s.progress.journey.world on.world j k on.happens other)
  reads_up j place s' is_open (reading.ends_nothing n fault done refused) = at_stage _ j (record place { stage = Broken (Refused fault) }) refl (λ left leaving. cc) (λ k other. refl)
  reads_up j place s' is_open (reading.finds_nothing n done) = at_stage _ j (record place { readable = false }) refl (λ left leaving. cc) (λ k other. refl)
  reads_up j place s' is_open (reading.fails n done) = at_stage _ j (record place { stage = Broken Read }) refl (λ left leaving. cc) (λ k other. refl)

  writes_up : (j : ℕ) (place : Place) (s' : LoopState N C J K H) → slice_get s.places j ≡ Some place → WritesPlace p j place s s' → AreUpToEnds s'
  writes_up j place s' here (writing.sends count front n e on some within is_front done) =
      at_place _ j (record place { stage = taken_stage place.stage count; since = s.times.steady; turn = s.turn }) refl
      (λ left leaving.
      let did = did_leave place.stage (untaken (known s.progress j)) count left within leaving in
      subst (λ l. IsUpToEnd (connection_at on.world.connections j) l) (sym did.left_is)
      (takes_up s.progress.journey.world on.world j did.before count did.less some on.happens (before.at j place did.before here did.leaving)))
      (λ k other. takes_other s.progress.journey.world on.world j k count on.happens other)
  writes_up j place s' here (writing.finds_no_room n done) = stage_still _ j place (record place { writable = false }) here refl refl refl
  writes_up j place s' here (writing.fails n done) = at_stage _ j (record place { stage = Broken Write }) refl (λ left leaving. cc) (λ k other. refl)

  closes_up : (j : ℕ) (place : Place) (s' : LoopState N C J K H) → Closes p j place s s' → AreUpToEnds s'
  closes_up j place s' (leaves n e on noted done noting) =
      at_stage _ j (record place { stage = Free }) refl (λ left leaving. cc) (λ k other. forgets_other s.progress.journey.world on.world j k on.happens other)

  step_up : (s' : LoopState N C J K H) → LoopStep p s s' → AreUpToEnds s'
  step_up s' (hears_of j readable writable hung more place place' is here told) = stage_still _ j place place' here refl (ap (λ (q : Place). q.stage) told) refl
  step_up s' (comes s'' told (opens j n e on within free done)) =
      at_stage _ j (fresh_place s.times.steady) refl (λ left leaving. cc) (λ k other. opens_other s.progress.journey.world on.world j k on.happens other)
  step_up s' (comes s'' told accepting) = still _ refl (λ k. refl)
  step_up s' (reads j place s'' here readable unread may reading) = reads_up j place s'' may.is_open reading
  step_up s' (writes j place s'' here writable unwritten kept told asked may writing) = writes_up j place s'' here writing
  step_up s' (closes j place s'' here taken cause closing) = closes_up j place s'' closing
  step_up s' (hears_out j place left here waiting late eldest none is_left some) =
      at_place _ j (record place { stage = Leaving left; came = s.times.steady }) refl
      (λ more leaving. (let same : left ≡ more = cc in subst (λ l. IsUpToEnd (known s.progress j) l) same (up_to_end (known s.progress j) left eldest.holds.some_left is_left)))
      (λ k other. refl)
  step_up s' (keeps keeper e unkept on undone kept basis further sole) = still _ refl (λ k. ap (λ ks. connection_at ks k) (kept_connections s.progress.journey.world on.world on.happens))
  step_up s' step = still _ refl (λ k. refl)

module _ {N C J K H : Type 0} where
  pub served_up : (p : Promises N C J K H) (first s : LoopState N C J K H) → Served p first s → AreUpToEnds s
  served_up p first s (begins is) = record { at = λ k place left here leaving. absurd (let free = is.free k place here in cc) }
  served_up p first s (goes {s = before} served step) = step_up p before (served_up p first before served) s step

-- so what was written to it are whole replies
whole_at : {N C J K H : Type 0} (s : LoopState N C J K H) (k : ℕ) (place : Place) → PlaceExchange s k place → IsUpToEnd (known s.progress k) 0 → HasWholeReplies s k
whole_at s k place x up =
    let talk = x.talk in
    let same : up.k ≡ talk.connection = (let one = up.here in let other = talk.here in same_Some up.k talk.connection (sym one ∙ other)) in
    let within : talk.connection.taken + 0 ≤ length talk.connection.output = subst (λ (y : Connection). y.taken + 0 ≤ length y.output) same up.within in
    let all = ap length talk.front in
    let parts = length-append (written_at k s.calls) (untaken (Some talk.connection)) in
    let left = length-drop talk.connection.taken talk.connection.output in
    let is : talk.connection.taken + 0 ≡ length (written_at k s.calls) = omega (arith, within, all, parts, left) in
    record {
      connection = talk.connection;
      here = talk.here;
      front = talk.front;
      whole = subst (λ n. Contains talk.connection.ends n) is (subst (λ (y : Connection). Contains y.ends (y.taken + 0)) same up.end);
    }

-- nothing is left of what was to be taken
none_left : (connection : Option Connection) (left : ℕ) → take left (untaken connection) ≡ [] → IsUpToEnd connection left → IsUpToEnd connection 0
none_left connection left none up =
    let size = ap length none in
    let taken = length-take left (untaken connection) in
    let output = ap (λ o. length (untaken o)) up.here in
    let rest = length-drop up.k.taken up.k.output in
    let within = up.within in
    let zero : left ≡ 0 = grind (arith, size, taken, output, rest, within) in
    subst (IsUpToEnd connection) zero up

whole_end : (place : Place) (connection : Option Connection) → ((left : ℕ) → place.stage ≡ Leaving left → IsUpToEnd connection left) → HasWhole place connection → IsUpToEnd connection 0
whole_end place connection ups (none_begun owed is_left) = up_to_end connection 0 owed.some_left is_left
whole_end place connection ups (took_rest left leaving none) = none_left connection left none (ups left leaving)

whole_taken : (place : Place) (connection : Option Connection) → HasWhole place connection → IsOccupied place.stage
whole_taken place connection (none_begun owed is_left) = staying_taken place.stage owed.stays
whole_taken place connection (took_rest left leaving none) = subst IsOccupied (sym leaving) tt

pub served_whole : {N C J K H : Type 0} (p : Promises N C J K H) (first s : LoopState N C J K H) → Served p first s → (k : ℕ) (place : Place) → slice_get s.places k ≡ Some place → HasWhole place (known s.progress k) →
    HasWholeReplies s k
served_whole p first s served k place here has =
    whole_at s k place ((served_answered p first s served).exchanges k place here (whole_taken place (known s.progress k) has))
    (whole_end place (known s.progress k) (λ left leaving. (served_up p first s served).at k place left here leaving) has)
