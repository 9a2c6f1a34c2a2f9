-- Between what is written and a moment that is written behind it there is more than a minute.
use Rattle.std.proofs.Common.{◌≡◌, inl, inr, ◌≤◌, ◌<◌, ℕ, refl, ap, arith}
use Rattle.std.proofs.lemmas.Bool.{cases_lt}
use Rattle.change_codec.specs.Keeping.{horizon_of}
use Rattle.event_loop.specs.Coming.{AcceptsOne, opens}
use Rattle.event_loop.specs.Closing.{Closes, leaves}
use Rattle.event_loop.specs.Durable.{Onward, stays, onward}
use Rattle.event_loop.specs.LoopStates.{LoopState, Promises}
use Rattle.event_loop.specs.Minutes.{Writes, WritesMoment}
use Rattle.event_loop.specs.Reading.{ReadsPlace, hears}
use Rattle.event_loop.specs.Served.{LoopStep, closes, comes, confirms, keeps, no_slice, reads, shortens, tends, waits, writes}
use Rattle.event_loop.specs.Writing.{WritesPlace, sends}
use Rattle.event_loop.specs.declared.place.Place.{Place}

module _ {N C J K H : Type 0} (p : Promises N C J K H) where
  abbrev until : LoopState N C J K H → ℕ
  until s = p.keeping.kept_until s.keeper

  -- What a step does with the moment that is kept: it is never an earlier one, and with what is written it is a minute ahead.
  record IsRare (s s' : LoopState N C J K H) : Type 0 where
    pub later : until s ≤ until s'
    pub ahead : Writes p s s' → horizon_of s'.times.moment ≤ until s'
    pub rare : WritesMoment p s s' → until s < s'.times.moment

  -- nothing is written
  unwritten : (s s' : LoopState N C J K H) → until s' ≡ until s → p.keeping.size s'.keeper ≡ p.keeping.size s.keeper → IsRare s s'
  unwritten s s' same size = record {
    later = omega (arith, same);
    ahead = λ writing. absurd (writing.size size);
    rare = λ writing. absurd (writing.writes.size size);
  }

  untouched : (s s' : LoopState N C J K H) → s'.keeper ≡ s.keeper → IsRare s s'
  untouched s s' same = unwritten s s' (ap p.keeping.kept_until same) (ap p.keeping.size same)

  accepts_rare : (s s' : LoopState N C J K H) → AcceptsOne p s s' → IsRare s s'
  accepts_rare s s' (opens k n e on within free done) = untouched s _ refl
  accepts_rare s s' accepting = untouched s s' refl

  reads_rare : (k : ℕ) (place : Place) (s s' : LoopState N C J K H) → ReadsPlace p k place s s' → IsRare s s'
  reads_rare k place s s' (hears bytes n progress place' some few done heard is) = untouched s _ refl
  reads_rare k place s s' reading = untouched s s' refl

  writes_rare : (k : ℕ) (place : Place) (s s' : LoopState N C J K H) → WritesPlace p k place s s' → IsRare s s'
  writes_rare k place s s' (sends count front n e on some within is_front done) = untouched s _ refl
  writes_rare k place s s' writing = untouched s s' refl

  closes_rare : (k : ℕ) (place : Place) (s s' : LoopState N C J K H) → Closes p k place s s' → IsRare s s'
  closes_rare k place s s' (leaves n e on noted done noting) = untouched s _ refl

  step_rare : (s s' : LoopState N C J K H) → LoopStep p s s' → IsRare s s'
  step_rare s s' (waits limit room found n times c keeper may done told near kept further) = elim (cases_lt (until s) times.moment) [
    | inl less ↦ (let ahead = kept.until less in record {
      later = omega (arith, ahead);
      ahead = λ writing. omega (arith, ahead);
      rare = λ writing. less;
    })
    | inr le ↦ untouched s _ (kept.idle le)
  ]
  step_rare s s' (comes s'' told accepting) = accepts_rare s s'' accepting
  step_rare s s' (reads k place s'' here readable unread may reading) = reads_rare k place s s'' reading
  step_rare s s' (writes k place s'' here writable unwritten kept told asked may writing) = writes_rare k place s s'' writing
  step_rare s s' (closes k place s'' here taken cause closing) = closes_rare k place s s'' closing
  step_rare s s' (keeps keeper e unkept on undone kept basis further sole) = (let ahead = basis.until in record {
    later = omega (arith, ahead);
    ahead = λ writing. omega (arith, ahead);
    rare = λ writing. absurd (writing.unkept refl);
  })
  step_rare s s' (confirms keeper all holds sole) = unwritten s _ holds.until holds.size
  step_rare s s' (tends keeper due holds told) = unwritten s _ holds.until holds.size
  step_rare s s' (shortens keeper all long undone kept basis same slice nearer) = record {
    later = omega (arith, same);
    ahead = λ writing. absurd (writing.unshortened refl);
    rare = λ writing. absurd (writing.writes.unshortened refl);
  }
  step_rare s s' (no_slice keeper journal all long ago kept basis same size told) = unwritten s _ same size
  step_rare s s' step = untouched s s' refl

  -- the moment that is kept is never an earlier one
  onward_later : (s s' : LoopState N C J K H) → Onward p s s' → until s ≤ until s'
  onward_later s s' stays = omega arith
  onward_later s s' (onward {s' = middle} on step) =
      let before = onward_later s middle on in
      let behind = (step_rare middle s' step).later in
      omega (arith, before, behind)

  pub once_a_minute : (s s' t t' : LoopState N C J K H) → LoopStep p s s' → Writes p s s' → Onward p s' t → LoopStep p t t' → WritesMoment p t t' →
      horizon_of s'.times.moment < t'.times.moment
  once_a_minute s s' t t' first written on second again =
      let ahead = (step_rare s s' first).ahead written in
      let later = onward_later s' t on in
      let rare = (step_rare t t' second).rare again in
      omega (arith, ahead, later, rare)
