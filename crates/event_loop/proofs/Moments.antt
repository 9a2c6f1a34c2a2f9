-- The keeper tells the moment that the clocks told last, and each crash the moments by which requests were answered.
use Rattle.std.proofs.Common.{◌≡◌, ◌≢◌, ◌⊎◌, inl, inr, ◌<◌, ◌≤◌, ℕ, List, [], refl, sym, ap, subst, ◌∙◌, arith}
use Rattle.event_loop.proofs.Names.{Until, HoldsBasis, KeepsBasis, TellsBasis, Times, AllFree, IsInService, IsStaying, IsOccupied, eqb_tells, World, Journey, Promises, LoopState, LoopStep, Served, Shuts}
use Rattle.event_loop.proofs.Names.{TellsLast, begins, goes, LoopFault, Empty, Onward, stays, onward, MomentIsHeld, MomentStays, CannotGoOn}
use Rattle.outside.specs.Calls.{waits}
use Rattle.event_loop.specs.EndsLaws.{end_keeper}
use Rattle.event_loop.specs.Served as step
use Rattle.event_loop.proofs.Lasting.{keeps_same, keeps_then, leaves_told, tells_then}
use Rattle.change_codec.specs.Keeping.{horizon_bound}
use Rattle.event_loop.specs.Durable.{told_by, latest}
use Rattle.event_loop.specs.Ends.{told_then}
use Rattle.std.specs.Prelude.{max}
use Rattle.std.proofs.Math.Nat.{le-max_left, le-max_right}
use Rattle.event_loop.proofs.Fronts.{Moves, IsSameTime, goes_on, keeps_all, keeps_still, step_moves, fails_does}

module _ {N C J K H : Type 0} (p : Promises N C J K H) where
  -- what was told is told behind each step
  moves_basis : (limit : ℕ) (s s' : LoopState N C J K H) → Moves p limit s s' → KeepsBasis p.keeping.crashes limit s.keeper s'.keeper
  moves_basis limit s s' (goes_on same grows) = keeps_same p.keeping.crashes limit s.keeper s'.keeper same.0
  moves_basis limit s s' (keeps_all unkept kept last history basis still) = basis
  moves_basis limit s s' (keeps_still last same basis still) = basis

  step_basis : (s s' : LoopState N C J K H) (step : LoopStep p s s') → KeepsBasis p.keeping.crashes (horizon_bound (told_by step)) s.keeper s'.keeper
  step_basis s s' step = moves_basis (horizon_bound (told_by step)) s s' (step_moves p s s' step)

  -- what is told no later than the one moment is told no later than the greater of two
  within_one : (m n : ℕ) → horizon_bound m ≤ horizon_bound (max m n)
  within_one m n = let le = le-max_left m n in omega (arith, le)

  within_other : (m n : ℕ) → horizon_bound n ≤ horizon_bound (max m n)
  within_other m n = let le = le-max_right m n in omega (arith, le)

  -- and wherever steps lead to
  pub onward_basis : (s s' : LoopState N C J K H) (on : Onward p s s') → KeepsBasis p.keeping.crashes (horizon_bound (latest on)) s.keeper s'.keeper
  onward_basis s s' stays = keeps_same p.keeping.crashes (horizon_bound 0) s.keeper s.keeper refl
  onward_basis s s' (onward {s' = middle} on step) =
      keeps_then p.keeping.crashes (horizon_bound (latest on)) (horizon_bound (told_by step)) (horizon_bound (max (latest on) (told_by step))) s.keeper middle.keeper s'.keeper
      (within_one (latest on) (told_by step)) (within_other (latest on) (told_by step)) (onward_basis s middle on) (step_basis middle s' step)

  still_held : (limit : ℕ) (s s' : LoopState N C J K H) → IsSameTime s s' → KeepsBasis p.keeping.crashes limit s.keeper s'.keeper → (0 < waits s.calls → MomentIsHeld p s) →
      0 < waits s'.calls → MomentIsHeld p s'
  still_held limit s s' still basis held some =
      let before : 0 < waits s.calls = subst (λ (n : ℕ). 0 < n) still.1 some in
      basis.holds (Until s'.times.moment) tt (subst (λ (t : Times). HoldsBasis p.keeping.crashes s.keeper (Until t.moment)) (sym still.0) (held before))

  moves_held : (limit : ℕ) (s s' : LoopState N C J K H) → Moves p limit s s' → (0 < waits s.calls → MomentIsHeld p s) → 0 < waits s'.calls → MomentIsHeld p s'
  moves_held limit s s' (goes_on same grows) = still_held limit s s' same.1 (keeps_same p.keeping.crashes limit s.keeper s'.keeper same.0)
  moves_held limit s s' (keeps_all unkept kept last history basis still) = still_held limit s s' still.0 basis
  moves_held limit s s' (keeps_still last same basis (inl still)) = still_held limit s s' still basis
  moves_held limit s s' (keeps_still last same basis (inr told)) = λ held some. told.0

  -- behind the first wait the moment is held
  pub served_moment : (first s : LoopState N C J K H) → Served p first s → 0 < waits s.calls → MomentIsHeld p s
  served_moment first s (begins is) some = absurd (let none = ap waits is.calls in omega (arith, none, some))
  served_moment first s (goes {s = before} served step) some = moves_held (horizon_bound (told_by step)) before s (step_moves p before s step) (served_moment first before served) some

  waits_more : {limit : ℕ} (s s' : LoopState N C J K H) → Moves p limit s s' → waits s.calls ≤ waits s'.calls
  waits_more s s' (goes_on same grows) = (let e = same.1.1 in omega (arith, e))
  waits_more s s' (keeps_all unkept kept last history basis still) = (let e = still.0.1 in omega (arith, e))
  waits_more s s' (keeps_still last same basis (inl still)) = (let e = still.1 in omega (arith, e))
  waits_more s s' (keeps_still last same basis (inr told)) = (let e = told.1 in omega (arith, e))

  -- before the first wait no connection is there, and none is known to wait
  record IsUntouched (s : LoopState N C J K H) : Type 0 where
    pub free : AllFree s.places
    pub found : s.found ≡ []
    pub queue : s.queue ≡ Empty

  -- so nothing is answered
  untouched_on : (s s' : LoopState N C J K H) → IsUntouched s → LoopStep p s s' → (s'.progress.journey.world.greatest ≡ s.progress.journey.world.greatest) × (waits s'.calls ≡ 0 → IsUntouched s')
  untouched_on s s' u (step.waits limit room found n times c keeper may done told near kept further) = (refl, λ none. absurd (omega (arith, none)))
  untouched_on s s' u (step.looks_again nth room found n may done) = (refl, λ none. absurd (let some = may.behind in omega (arith, none, some)))
  untouched_on s s' u (step.fails_to_look nth room n may done) = (refl, λ none. absurd (let some = may.behind in omega (arith, none, some)))
  untouched_on s s' u (step.hears_of_listener more is) = absurd (let not = sym u.found ∙ is in cc)
  untouched_on s s' u (step.hears_of_reload more is) = absurd (let not = sym u.found ∙ is in cc)
  untouched_on s s' u (step.hears_of j readable writable hung more place place' is here told) = absurd (let not = sym u.found ∙ is in cc)
  untouched_on s s' u (step.hears_of_none j readable writable hung more is none) = absurd (let not = sym u.found ∙ is in cc)
  untouched_on s s' u (step.comes s'' told coming) = absurd (let not = sym u.queue ∙ told in cc)
  untouched_on s s' u (step.tries_again since barred later) = absurd (let not = sym u.queue ∙ barred in cc)
  untouched_on s s' u (step.reads j place s'' here readable unread may reading) = absurd (let not = sym (u.free j place here) ∙ may.is_open in cc)
  untouched_on s s' u (step.writes j place s'' here writable unwritten kept handed asked may writing) = absurd (subst IsInService (u.free j place here) may.served)
  untouched_on s s' u (step.closes j place s'' here taken cause closing) = absurd (subst IsOccupied (u.free j place here) taken)
  untouched_on s s' u (step.hears_out j place left here waiting late eldest none is_left some) = absurd (subst IsStaying (u.free j place here) eldest.holds.stays)
  untouched_on s s' u (step.keeps keeper e unkept on undone kept moments further sole) =
      (ap (λ (w : World). w.greatest) on.happens.kept, λ none. record { free = u.free; found = u.found; queue = u.queue })
  untouched_on s s' u next = (refl, λ none. record { free = u.free; found = u.found; queue = u.queue })

  untouched : (first s : LoopState N C J K H) → Served p first s → waits s.calls ≡ 0 → IsUntouched s
  untouched first s (begins is) none = record { free = is.free; found = is.found; queue = is.queue }
  untouched first s (goes {s = before} served next) none =
      let more = waits_more before s (step_moves p before s next) in
      (untouched_on before s (untouched first before served (omega (arith, more, none))) next).1 none

  -- a step moves the greatest moment on to the one that the clocks told, behind the first wait
  moves_greatest : {limit : ℕ} (s s' : LoopState N C J K H) → Moves p limit s s' →
      (s'.progress.journey.world.greatest ≡ s.progress.journey.world.greatest) ⊎ (s'.progress.journey.world.greatest ≡ s.times.moment)
  moves_greatest s s' (goes_on same grows) = grows.greatest
  moves_greatest s s' (keeps_all unkept kept last history basis still) = inl still.1
  moves_greatest s s' (keeps_still last same basis still) = inl (ap (λ (j : Journey H). j.world.greatest) same)

  step_greatest : (first s s' : LoopState N C J K H) → Served p first s → LoopStep p s s' →
      (s'.progress.journey.world.greatest ≡ s.progress.journey.world.greatest) ⊎ ((s'.progress.journey.world.greatest ≡ s.times.moment) × (0 < waits s.calls))
  step_greatest first s s' served next = elim (eqb_tells (waits s.calls) 0) [
    | inl none ↦ inl (untouched_on s s' (untouched first s served none.1) next).0
    | inr some ↦ (let moves = moves_greatest s s' (step_moves p s s' next) in grind (arith, moves, some.1))
  ]

  -- the greatest moment is told, where it was moved on
  pub served_greatest : (first s : LoopState N C J K H) → Served p first s → s.progress.journey.world.greatest ≢ first.progress.journey.world.greatest →
      HoldsBasis p.keeping.crashes s.keeper (Until s.progress.journey.world.greatest)
  served_greatest first s (begins is) moved = absurd (moved refl)
  served_greatest first s (goes {s = before} served next) moved =
      let keeps = step_basis before s next in
      elim (step_greatest first before s served next) [
        | inl same ↦ subst (λ m. HoldsBasis p.keeping.crashes s.keeper (Until m)) (sym same)
            (keeps.holds (Until before.progress.journey.world.greatest) tt (served_greatest first before served (λ e. moved (same ∙ e))))
        | inr now ↦ subst (λ m. HoldsBasis p.keeping.crashes s.keeper (Until m)) (sym now.0)
            (keeps.holds (Until before.times.moment) tt (served_moment first before served now.1))
      ]

  -- so it is told up to the end
  pub basis_to_end : (s last failed emptied end : LoopState N C J K H) (fault : LoopFault) (on : Onward p s last) (failing : CannotGoOn p last fault failed) → Shuts p fault failed emptied →
      TellsLast p emptied end → TellsBasis p.keeping.crashes (horizon_bound (max (latest on) (told_then failing))) s.keeper end.keeper
  basis_to_end s last failed emptied end fault on failing shut told =
      let limit = horizon_bound (max (latest on) (told_then failing)) in
      subst (TellsBasis p.keeping.crashes limit s.keeper) (sym (end_keeper p failed emptied end shut told))
      (tells_then p.keeping.crashes (horizon_bound (latest on)) (horizon_bound (told_then failing)) limit s.keeper last.keeper failed.keeper
      (within_one (latest on) (told_then failing)) (within_other (latest on) (told_then failing)) (onward_basis s last on) (fails_does p last failed fault failing).tells)

  module _ (only_now : (keeper : K) (c : List ℕ) → p.keeping.crashes.left_since keeper (p.keeping.crashes.moment keeper) c → p.keeping.crashes.may_leave keeper c) (first : LoopState N C J K H) where
    -- each crash tells it
    pub moment_stays : (limit : ℕ) (s s' : LoopState N C J K H) → Served p first s → TellsBasis p.keeping.crashes limit s.keeper s'.keeper → MomentStays p first s s'
    moment_stays limit s s' served tells = λ moved. leaves_told p.keeping.crashes only_now limit s.keeper s'.keeper _ tt tells (served_greatest first s served moved)
