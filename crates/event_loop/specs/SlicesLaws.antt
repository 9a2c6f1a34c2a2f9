-- A shortening ends.
use Rattle.std.proofs.Common.{◌≡◌, ◌⊎◌, inl, inr, ◌≤◌, ◌-◌, ◌+◌, ◌*◌, ℕ, Option, None, Some, true, false, refl, sym, ap, subst, ◌∙◌, arith, nat_le}
use Rattle.std.specs.Prelude.{unwrap_or}
use Rattle.event_loop.specs.Coming.{AcceptsOne, opens}
use Rattle.event_loop.specs.Closing.{Closes, leaves}
use Rattle.event_loop.specs.LoopStates.{LoopState, Promises}
use Rattle.event_loop.specs.Reading.{ReadsPlace, hears}
use Rattle.event_loop.specs.Reporting.{is_long_ago}
use Rattle.event_loop.specs.Served.{LoopStep, closes, comes, confirms, keeps, no_slice, reads, shortens, tends, waits, writes}
use Rattle.event_loop.specs.Slices.{IsNoLonger, IsUnended, LongOnward, is_there, long_onward, slices_done}
use Rattle.event_loop.specs.Writing.{WritesPlace, sends}
use Rattle.event_loop.specs.declared.place.Place.{Place}

module _ {N C J K H : Type 0} (p : Promises N C J K H) where
  -- the keeper is as it was, and no slice was gone over
  record IsStill (s s' : LoopState N C J K H) : Type 0 where
    pub keeper : s'.keeper ≡ s.keeper
    pub slices : slices_done s'.calls ≡ slices_done s.calls

  still_longer : (s s' : LoopState N C J K H) → IsStill s s' → IsNoLonger p s s'
  still_longer s s' still =
      let keeper = still.keeper in
      let slices = still.slices in
      rw keeper (omega (arith, slices))

  accepts_still : (s s' : LoopState N C J K H) → AcceptsOne p s s' → IsStill s s'
  accepts_still s s' (opens k n e on within free done) = record { keeper = refl; slices = refl }
  accepts_still s s' accepting = record { keeper = refl; slices = refl }

  reads_still : (k : ℕ) (place : Place) (s s' : LoopState N C J K H) → ReadsPlace p k place s s' → IsStill s s'
  reads_still k place s s' (hears bytes n progress place' some few done heard is) = record { keeper = refl; slices = refl }
  reads_still k place s s' reading = record { keeper = refl; slices = refl }

  writes_still : (k : ℕ) (place : Place) (s s' : LoopState N C J K H) → WritesPlace p k place s s' → IsStill s s'
  writes_still k place s s' (sends count front n e on some within is_front done) = record { keeper = refl; slices = refl }
  writes_still k place s s' writing = record { keeper = refl; slices = refl }

  closes_still : (k : ℕ) (place : Place) (s s' : LoopState N C J K H) → Closes p k place s s' → IsStill s s'
  closes_still k place s s' (leaves n e on noted done noting) = record { keeper = refl; slices = refl }

  -- what was refused just now was not refused long ago
  not_again : (refused : Option ℕ) (now : ℕ) → is_long_ago refused now 60 ≡ true → (Some now ≡ refused) ⊎ (Some now ≡ None) → ⊥
  not_again refused now ago (inl same) =
      let none : now - now ≡ 0 = omega arith in
      let short : is_long_ago (Some now) now 60 ≡ false = ap (nat_le 60) none in
      let long = subst (λ (o : Option ℕ). is_long_ago o now 60 ≡ true) (sym same) ago in
      cc
  not_again refused now ago (inr none) = cc

  step_longer : (s s' : LoopState N C J K H) → LoopStep p s s' → IsUnended p s s' → IsNoLonger p s s'
  step_longer s s' (waits limit room found n times c keeper may done told near kept further) unended = omega (arith, further)
  step_longer s s' (comes s'' told accepting) unended = still_longer s s'' (accepts_still s s'' accepting)
  step_longer s s' (reads k place s'' here readable unread may reading) unended = still_longer s s'' (reads_still k place s s'' reading)
  step_longer s s' (writes k place s'' here writable unwritten kept told asked may writing) unended = still_longer s s'' (writes_still k place s s'' writing)
  step_longer s s' (closes k place s'' here taken cause closing) unended = still_longer s s'' (closes_still k place s s'' closing)
  step_longer s s' (keeps keeper e unkept on undone kept basis further sole) unended = omega (arith, further)
  step_longer s s' (confirms keeper all holds sole) unended = (let further = holds.no_further in omega (arith, further))
  step_longer s s' (tends keeper due holds told) unended = (let further = holds.no_further in omega (arith, further))
  step_longer s s' (shortens keeper all long undone kept basis until slice (inl nearer)) unended =
      let less = nearer.0 in
      let size = nearer.1 in
      rw size (omega (arith, less))
  step_longer s s' (shortens keeper all long undone kept basis until slice (inr shorter)) unended = absurd (unended.unshortened refl shorter)
  step_longer s s' (no_slice keeper journal all long ago kept basis until size told) unended = absurd (not_again s.refused s.times.steady ago unended.unrefused)
  step_longer s s' step unended = still_longer s s' (record { keeper = refl; slices = refl })

  -- So many slices are gone over until it ends, if none is refused: what is kept grows by what is kept, and by nothing else.
  pub shortening_ends : (s s' : LoopState N C J K H) → LongOnward p s s' → IsNoLonger p s s'
  shortening_ends s s' is_there = omega arith
  shortening_ends s s' (long_onward {s' = middle} on step unended) =
      let before = shortening_ends s middle on in
      let next = step_longer middle s' step unended in
      omega (arith, before, next)
