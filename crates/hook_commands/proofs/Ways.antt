-- Laws of ways, and of the table by which one is sought.
use Rattle.std.proofs.Common.{◌≡◌, ◌≢◌, ℕ, zero, suc, ◌+◌, ◌≤◌, ◌<◌, Bool, true, false, pos, negsuc, ℤ, List, [], ◌∷◌, ◌++◌, Option, Some, None, length, replicate, set, drop, refl, sym, ap, ◌∙◌, ◌-◌, arith, append_assoc, append-nil, ◌⊎◌, inl, inr}
use Rattle.std.specs.Prelude.{if◌then◌else◌, is_some, slice_get, slice_index_or, option_and_then}
use Rattle.std.specs.Option.{option_map, option_or}
use Rattle.std.proofs.Math.Seq.{drop-append-add}
use Rattle.std.proofs.lemmas.Bool.{cases_eq, cases_lt, eq-eqb, ne_eqb}
use Rattle.std.proofs.lemmas.List.{get_or-set_same, get_or-set_other, length-set, length-replicate}
use Rattle.std.proofs.lemmas.List.Sums.{sum_by-cons}
use Rattle.insn.specs.declared.instruction.Insn.{Insn}
use Rattle.insn.specs.Instruction.{slots_of}
use Rattle.insn.specs.Program.{begins_at, joined, places, slot_count, slots_with}
use Rattle.insn.specs.RunLaws.{begins_along, begins_here, StandsAt}
use Rattle.insn.specs.SlotLaws.{slots_of_bounds, length-places, length-slots_with, nothing_inside}
use Rattle.hook_commands.specs.declared.way.Hop.{Hop}
use Rattle.hook_commands.specs.declared.way.Step.{Step}
use Rattle.hook_commands.specs.declared.way.Step.TheVariants.{Past, Jumping}
use Rattle.verifier.specs.declared.walk.Onward.{Onward}
use Rattle.hook_commands.specs.Ways.{jump_target, onward_at, slot_ahead, slot_behind, target_past, Goes, GoesBehind, IsJump, Here, Further, Leads, Roads}
use Rattle.hook_commands.specs.WaySteps.{is_led, step_of, where_led, AreWaySteps, IsStepFrom, WayLeadsOn}

-- something begins at slots of the program alone
pub begins_inside : (program : List Insn) (k : ℕ) (j : Insn) → begins_at program k ≡ Some j → k < slot_count program
begins_inside program k j e = let h = places_inside (places program) k j e in let l = length-places program in omega arith where
  places_inside : (xs : List (Option Insn)) (k : ℕ) (j : Insn) → joined (slice_get xs k) ≡ Some j → k < length xs
  places_inside [] k j e = absurd cc
  places_inside (x ∷ xs) zero j e = omega arith
  places_inside (x ∷ xs) (suc k) j e = let h = places_inside xs k j e in omega arith

-- a table without steps
abbrev pub no_steps : ℕ → List (Option Step)
no_steps n = replicate n None

module _ (roads : Roads) where
  -- one goes on, and then a way leads on
  pub past_first : (from next to : ℕ) (hops : List Hop) → GoesBehind roads from next
      → Leads roads next hops to → Leads roads from hops to
  past_first from next to [] g s = Further g s
  past_first from next to (h ∷ hs) g l = (Further g l.0, l.1, l.2)

  -- one jumps, and then a way leads on
  pub jump_first : (from next to : ℕ) (hops : List Hop) → IsJump roads from next
      → Leads roads next hops to → Leads roads from (record { from = from; to = next } ∷ hops) to
  jump_first from next to hops j l = (Here, j, l)

  -- what a way that doesn't end where it begins begins with
  abbrev pub FirstMove : ℕ → ℕ → Type 0
  FirstMove from goal =
      ((next : ℕ) × GoesBehind roads from next × (rest : List Hop) × Leads roads next rest goal)
      ⊎ ((next : ℕ) × IsJump roads from next × (rest : List Hop) × Leads roads next rest goal)

  pub first_move : (from goal : ℕ) (hops : List Hop) → from ≢ goal → Leads roads from hops goal → FirstMove from goal
  first_move from goal [] apart Here = absurd (apart refl)
  first_move from goal [] apart (Further {next = next} g s) = inl (next, g, [], s)
  first_move from goal (h ∷ hs) apart (Here, j, l) = inr (h.to, j, hs, l)
  first_move from goal (h ∷ hs) apart (Further {next = next} g s, j, l) = inl (next, g, h ∷ hs, (s, j, l))

  -- where nothing begins no way goes on
  pub nowhere : (from goal : ℕ) → begins_at roads.program from ≡ None → from ≢ goal → (hops : List Hop)
      → Leads roads from hops goal → ⊥
  nowhere from goal none apart hops l = by (first_move from goal hops apart l) where
    by : FirstMove from goal → ⊥
    by (inl m) = let some = m.1.begins in absurd cc
    by (inr m) = let some = m.1.begins in absurd cc

  -- ---- the table

  -- a way leads on to the goal, or none does
  abbrev OneLeads : ℕ → ℕ → Bool → Type 0
  OneLeads goal to true = (rest : List Hop) × Leads roads to rest goal
  OneLeads goal to false = (hops : List Hop) → Leads roads to hops goal → ⊥

  -- a target from which a way leads on is found; or from none that there is does one lead on
  abbrev IsFound : ℕ → Option ℕ → Option ℕ → Type 0
  IsFound goal target (Some to) = (target ≡ Some to) × OneLeads goal to true
  IsFound goal target None = (to : ℕ) → target ≡ Some to → OneLeads goal to false

  module _ (goal from : ℕ) (steps : List (Option Step)) (a : AreWaySteps roads goal from steps) where
    by_step : (to : ℕ) (o : Option Step) → IsStepFrom roads goal to o → OneLeads goal to (is_some o)
    by_step to None s = s
    by_step to (Some (Past next)) s = (s.rest, past_first to next goal s.rest s.moves s.leads)
    by_step to (Some (Jumping next)) s = (record { from = to; to = next } ∷ s.rest, jump_first to next goal s.rest s.moves s.leads)

    leads_on : (to : ℕ) → from ≤ to → OneLeads goal to (is_led steps goal to)
    leads_on to low = by (cases_eq to goal) where
      by : (to ≡ goal) ⊎ (to ≡ goal → ⊥) → OneLeads goal to (is_led steps goal to)
      by (inl same) = rw (same, eq-eqb goal goal refl) ([], Here)
      by (inr apart) = rw (ne_eqb to goal apart) (by_step to (slice_index_or steps to None) (a.each to low apart))

    found : (target : Option ℕ) → ((to : ℕ) → target ≡ Some to → from ≤ to) → IsFound goal target (where_led steps goal target)
    found None low = λ to none. absurd cc
    found (Some x) low = by (is_led steps goal x) (leads_on x (low x refl)) where
      by : (b : Bool) → OneLeads goal x b → IsFound goal (Some x) (if b then Some x else None)
      by true way = (refl, way)
      by false none = λ to e. let same : x ≡ to = cc in rw (← same) none

    module _ (slot : ℕ) (i : Insn) (next_is : from ≡ slot + slots_of i) (begins : begins_at roads.program slot ≡ Some i) where
      abbrev here : Onward
      here = onward_at roads.onward slot

      abbrev past : Option ℕ
      past = target_past roads.unwritten here slot i

      abbrev jump : Option ℕ
      jump = jump_target here slot i

      past_is : (b : Bool) (to : ℕ) → (if b then Some (slot_behind slot i) else None) ≡ Some to → from ≤ to
      past_is true to e = let same : slot_behind slot i ≡ to = cc in omega arith
      past_is false to e = absurd cc

      further : (b : Bool) (d : Option ℤ) (to : ℕ) → (if b then option_and_then (slot_ahead (slot_behind slot i)) d else None) ≡ Some to → from ≤ to
      further false d to e = absurd cc
      further true None to e = absurd cc
      further true (Some (pos d)) to e = let same : slot_behind slot i + d ≡ to = cc in omega arith
      further true (Some (negsuc d)) to e = absurd cc

      leads_there : (target : Onward → ℕ → Insn → Option ℕ) (next : ℕ) → Goes roads target slot next → target here slot i ≡ Some next
      leads_there target next g = let same : g.insn ≡ i = let there = g.begins in cc in rw same at g.leads

      step_by : (p j : Option ℕ) → slot ≢ goal → IsFound goal past p → IsFound goal jump j → IsStepFrom roads goal slot (option_or (option_map Past p) (option_map Jumping j))
      step_by (Some to) j apart f g =
          let low = past_is _ to f.0 in
          let bounds = slots_of_bounds i in
          record { moves = record { insn = i; begins = begins; leads = f.0 }; rest = f.1.0; leads = f.1.1; further = omega arith }
      step_by None (Some to) apart f g =
          let low = further _ _ to g.0 in
          let bounds = slots_of_bounds i in
          record { moves = record { insn = i; begins = begins; leads = g.0 }; rest = g.1.0; leads = g.1.1; further = omega arith }
      step_by None None apart f g = λ hops l. by (first_move slot goal hops apart l) where
        by : FirstMove slot goal → ⊥
        by (inl m) = f m.0 (leads_there (target_past roads.unwritten) m.0 m.1) m.2 m.3
        by (inr m) = g m.0 (leads_there jump_target m.0 m.1) m.2 m.3

      abbrev pub step : Option Step
      step = step_of steps goal past jump

      -- one step more
      pub step_set : ((d : ℕ) → 1 ≤ d → d < slots_of i → begins_at roads.program (slot + d) ≡ None) → AreWaySteps roads goal slot (set steps slot step)
      step_set inside = record { long = length-set steps slot step ∙ a.long; each = each; before = λ k low. get_or-set_other steps slot k step None (λ e. omega arith) ∙ a.before k (omega arith) } where
        long : slot < length steps
        long = let h = begins_inside roads.program slot i begins in rw a.long h

        right : slot ≢ goal → IsStepFrom roads goal slot step
        right apart = step_by (where_led steps goal past) (where_led steps goal jump) apart (found past (past_is _)) (found jump (further _ _))

        between : (k : ℕ) → slot ≤ k → k ≢ slot → k < from → k ≢ goal → IsStepFrom roads goal k (slice_index_or steps k None)
        between k low other less apart =
            let at : slot + (k - slot) ≡ k = omega arith in
            rw (a.before k less) (nowhere k goal (rw at at (inside (k - slot) (omega arith) (omega arith))) apart)

        each : (k : ℕ) → slot ≤ k → k ≢ goal → IsStepFrom roads goal k (slice_index_or (set steps slot step) k None)
        each k low apart = by (cases_eq k slot) (cases_lt k from) where
          by : (k ≡ slot) ⊎ (k ≡ slot → ⊥) → (k < from) ⊎ (from ≤ k) → IsStepFrom roads goal k (slice_index_or (set steps slot step) k None)
          by (inl same) which = rw (same, get_or-set_same steps slot step None long) (right (λ e. apart (same ∙ e)))
          by (inr other) (inl less) = rw (get_or-set_other steps slot k step None other) (between k low other less apart)
          by (inr other) (inr more) = rw (get_or-set_other steps slot k step None other) (a.each k more apart)

  -- a table without steps has those behind the program
  pub none_behind : (goal : ℕ) → AreWaySteps roads goal (slot_count roads.program) (no_steps (slot_count roads.program))
  none_behind goal = record { long = length-replicate {A = Option Step} (slot_count roads.program) None; each = each; before = λ k low. no_step (slot_count roads.program) k } where
    no_step : (n k : ℕ) → slice_index_or (no_steps n) k None ≡ None
    no_step zero k = refl
    no_step (suc n) zero = refl
    no_step (suc n) (suc k) = no_step n k

    nothing : (k : ℕ) → slot_count roads.program ≤ k → (o : Option Insn) → begins_at roads.program k ≡ o → begins_at roads.program k ≡ None
    nothing k low None e = e
    nothing k low (Some j) e = let h = begins_inside roads.program k j e in absurd (omega arith)

    each : (k : ℕ) → slot_count roads.program ≤ k → k ≢ goal
        → IsStepFrom roads goal k (slice_index_or (no_steps (slot_count roads.program)) k None)
    each k low apart =
        rw (no_step (slot_count roads.program) k) (nowhere k goal (nothing k low (begins_at roads.program k) refl) apart)

  -- the last of some instructions gives one step more
  pub step_back : (goal : ℕ) (before after : List Insn) (i : Insn) (steps : List (Option Step)) → roads.program ≡ before ++ i ∷ after → AreWaySteps roads goal (slot_count before + slots_of i) steps
      → AreWaySteps roads goal (slot_count before) (set steps (slot_count before) (step_of steps goal (target_past roads.unwritten (onward_at roads.onward (slot_count before)) (slot_count before) i) (jump_target (onward_at roads.onward (slot_count before)) (slot_count before) i)))
  step_back goal before after i steps is a = step_set goal _ steps a (slot_count before) i refl (begins_here roads.program (slot_count before) i after there)
      (λ d low less. sym (begins_along roads.program (slot_count before) (i ∷ after) d there) ∙ nothing_inside i after d low less) where
        stands : (before : List Insn) → StandsAt (before ++ i ∷ after) (slot_count before) (i ∷ after)
        stands [] = record { same = refl }
        stands (j ∷ before) =
            let long : length (slots_with j) + slot_count before ≡ slot_count (j ∷ before) = omega (arith, length-slots_with j, sum_by-cons slots_of j before) in
            let others : List (Option Insn) = slots_with j ++ places (before ++ i ∷ after) in
            record { same = (stands before).same ∙ sym (drop-append-add (slots_with j) (places (before ++ i ∷ after)) (slot_count before)) ∙ ap (λ (n : ℕ). drop n others) long }

        there : StandsAt roads.program (slot_count before) (i ∷ after)
        there = rw is (stands before)

  -- ---- following the table

  -- the jumps so far lead to a slot, and from there a way leads on to the goal, or it is slot 0
  pub record IsFollowed (goal : ℕ) (hops : List Hop) (at : ℕ) : Type 0 where
    pub so_far : (rest : List Hop) → Leads roads at rest goal → Leads roads 0 (hops ++ rest) goal
    pub leads : (at ≡ 0) ⊎ ((rest : List Hop) × Leads roads at rest goal)

  pub gone_past : (goal : ℕ) (hops : List Hop) (at to : ℕ) → IsFollowed goal hops at → WayLeadsOn roads goal at (Past to)
      → IsFollowed goal hops to
  gone_past goal hops at to f s = record {
    so_far = λ rest l. f.so_far rest (past_first at to goal rest s.moves l);
    leads = inr (s.rest, s.leads);
  }

  pub jumped : (goal : ℕ) (hops : List Hop) (at to : ℕ) → IsFollowed goal hops at → WayLeadsOn roads goal at (Jumping to)
      → IsFollowed goal (hops ++ record { from = at; to = to } ∷ []) to
  jumped goal hops at to f s = record {
    so_far = λ rest l. rw append_assoc (f.so_far (record { from = at; to = to } ∷ rest) (jump_first at to goal rest s.moves l));
    leads = inr (s.rest, s.leads);
  }

  pub arrived : (goal : ℕ) (hops : List Hop) → IsFollowed goal hops goal → Leads roads 0 hops goal
  arrived goal hops f = rw (append-nil hops) at (f.so_far [] Here)

  pub stuck : (goal : ℕ) (hops : List Hop) (at : ℕ) → IsFollowed goal hops at → IsStepFrom roads goal at None
      → (way : List Hop) → Leads roads 0 way goal → ⊥
  stuck goal hops at f none way l = by f.leads where
    by : (at ≡ 0) ⊎ ((rest : List Hop) × Leads roads at rest goal) → ⊥
    by (inl start) = none way (rw start l)
    by (inr m) = none m.0 m.1
