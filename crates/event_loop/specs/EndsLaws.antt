-- Laws of the keeper at the end of a loop.
use Rattle.std.proofs.Common.{◌≡◌, ℕ, refl, sym, ap, subst, ◌∙◌}
use Rattle.event_loop.specs.Names.{LoopFault}
use Rattle.outside.specs.declared.fault.LoopFault.TheVariants.{Keep}
use Rattle.event_loop.specs.declared.place.Place.{Place}
use Rattle.event_loop.specs.declared.tools.Tools.{Tools}
use Rattle.event_loop.specs.Closing.{Closes, Passes, hands_on, leaves}
use Rattle.event_loop.specs.Ends.{Beginning, CannotGoOn, HasServed, no_more, no_moment, no_time, no_wait, too_far, not_confirmed, not_kept, not_shortened, not_tended, to_reload}
use Rattle.event_loop.specs.LoopStates.{LoopState, Promises}
use Rattle.event_loop.specs.Served.{Shuts, TellsLast, passes_on, reports_last, shuts, stops, tells_nothing}

module _ {N C J K H : Type 0} (p : Promises N C J K H) where
  -- closing keeps nothing
  closes_keeper : (k : ℕ) (place : Place) (s s' : LoopState N C J K H) → Closes p k place s s' → s'.keeper ≡ s.keeper
  closes_keeper k place s s' (leaves n e on noted done noting) = refl

  -- nor does handing on
  passes_keeper : (k : ℕ) (place : Place) (s s' : LoopState N C J K H) → Passes p k place s s' → s'.keeper ≡ s.keeper
  passes_keeper k place s s' (hands_on n e on done) = refl

  shuts_keeper : {fault : LoopFault} (s s' : LoopState N C J K H) → Shuts p fault s s' → s'.keeper ≡ s.keeper
  shuts_keeper s s' stops = refl
  shuts_keeper s s' (shuts {s = before} k place shut here taken apart closing) = closes_keeper k place before s' closing ∙ shuts_keeper s before shut
  shuts_keeper s s' (passes_on {s = before} k place shut here wanted between passing) = passes_keeper k place before s' passing ∙ shuts_keeper s before shut

  pub end_keeper : {fault : LoopFault} (failed emptied end : LoopState N C J K H) → Shuts p fault failed emptied → TellsLast p emptied end → end.keeper ≡ failed.keeper
  end_keeper failed emptied end shut (reports_last report journal wanted tells done) = shuts_keeper failed emptied shut
  end_keeper failed emptied end shut (tells_nothing unwanted) = shuts_keeper failed emptied shut

  has_failed : (last failed : LoopState N C J K H) (fault : LoopFault) → CannotGoOn p last fault failed → fault ≡ Keep → p.keeping.has_failed failed.keeper
  has_failed last failed fault (no_wait limit room n may done) is = absurd (cc)
  has_failed last failed fault (no_time limit room found n c may done told) is = absurd (cc)
  has_failed last failed fault (too_far limit room found n times c seconds may done told far) is = absurd (cc)
  has_failed last failed fault (no_moment limit room found n times c keeper may done told near lost basis asked) is = asked
  has_failed last failed fault (not_kept keeper unkept undone lost basis asked) is = asked
  has_failed last failed fault (not_shortened keeper all undone lost basis asked) is = asked
  has_failed last failed fault (not_confirmed keeper all lost basis asked) is = asked
  has_failed last failed fault (not_tended keeper lost basis asked) is = asked
  has_failed last failed fault (to_reload time) is = absurd (cc)
  has_failed last failed fault (no_more many) is = absurd (cc)

  -- a keeper that is blamed failed when it was called last
  pub blamed_failed : (start : Beginning N C J K H) (fault : LoopFault) (tools' : Tools N C J K H) → HasServed p start fault tools' → fault ≡ Keep →
      p.keeping.has_failed tools'.keeper
  blamed_failed start fault tools' served is =
      let left = ap (λ (tools : Tools N C J K H). tools.keeper) served.tools_are_then ∙ end_keeper served.failed served.emptied served.end served.shuts served.tells_last in
      subst p.keeping.has_failed (sym left) (has_failed served.last served.failed fault served.fails is)
