-- Laws of ways: a step's shape is among those of its shape, and without conditional jumps they are the run's.
use Rattle.std.proofs.Common.{◌≡◌, ℕ, zero, suc, ◌+◌, ℤ, List, [], ◌∷◌, length, map, replicate, Option, Some, None, refl, sym, ap, ◌∙◌, arith, ◌⊎◌, inl, inr}
use Rattle.verifier.specs.Names.{filter_map, option_map, RegNo, W64, Add, Sub, Reg, Insn, Layout, slots_of, ◌>>=◌, Config, IsRecord, State, record_size, start, Effect, Falls, Jumps, Action, Operate}
use Rattle.verifier.specs.Names.{action_of, effect, passed, Reaches, lead, begins_at}
use Rattle.std.specs.Prelude.{Contains, ◌↔◌}
use Rattle.std.specs.List.{cons_option}
use Rattle.std.specs.Option.{option_to_list}
use Rattle.std.proofs.lemmas.List.{length-replicate}
use Rattle.insn.specs.Jumps.{target}
use Rattle.insn.specs.declared.action.Action.TheVariants.{Branch}
use Rattle.insn.specs.Outcomes.{Tested, Passes, action_outcome, outcome}
use Rattle.insn.specs.Step.{step, steps}
use Rattle.verifier.specs.Shapes.{HasNoBranch, MovesNone, MovesNoPointer, NoMovedPointer, IsPointer, IsRunShape, OnWay, blank_cell, both_ways, branch_in, branch_of, shape_config, shape_of, ways}
use Rattle.verifier.specs.Shapes.{ways_from}
use Rattle.verifier.proofs.Waits.{has_first}
use Rattle.links.proofs.Linked.{bind_some}
use Rattle.verifier.proofs.ShapeLaws.{blank, blank_effect, no_amount, outcome-shape, passed-seen, seen, shape_twice, shape_value, shown_of, state_with}

-- ---- effects

-- an effect at a shape is that at the state, but for amounts
abbrev pub SameEffect : Option Effect → Option Effect → Type 0
SameEffect e f = option_map blank_effect e ≡ option_map blank_effect f

straight-shape : (layout : Layout) (action : Action) (s : State) → MovesNone action s → branch_in action ≡ None → seen blank_effect (action_outcome layout action (shape_of s)) ≡ seen blank_effect (action_outcome layout action s)
straight-shape layout (Branch w cond dst operand offset) s h none = absurd cc
straight-shape layout action s h none = outcome-shape layout action s h

-- an instruction that is no conditional jump does to a shape what it does to the state, but for amounts
pub effect-shape : (layout : Layout) (i : Insn) (s : State) → NoMovedPointer i s → branch_of i ≡ None → SameEffect (effect layout i (shape_of s)) (effect layout i s)
effect-shape layout i s h none =
    sym (passed-seen blank_effect (outcome layout i (shape_of s))) ∙ ap passed (straight-shape layout (action_of i) s h none) ∙ passed-seen blank_effect (outcome layout i s)

-- ---- ways

abbrev config_at : ℕ → State → Config
config_at slot s = record { slot = slot; state = s }

lead-blank : (program : List Insn) (behind : ℕ) (e : Effect) → lead program behind (blank_effect e) ≡ option_map shape_config (lead program behind e)
lead-blank program behind (Jumps d s) = grind arith
lead-blank program behind e = refl

-- effects that differ in amounts alone lead to the same shapes
lead-alike : (program : List Insn) (behind : ℕ) (e f : Option Effect) → SameEffect e f → option_map shape_config (e >>= lead program behind) ≡ option_map shape_config (f >>= lead program behind)
lead-alike program behind e f h = grind (arith, lead-blank program behind)

one_way : (program : List Insn) (behind : ℕ) (s : State) (e : Option Effect) → map shape_config (filter_map (lead program behind) (both_ways None s e)) ≡ option_to_list (option_map shape_config (e >>= lead program behind))
one_way program behind s e = grind arith

module _ (layout : Layout) (program : List Insn) (c : Config) (i : Insn) (here : begins_at program c.slot ≡ Some i) (still : NoMovedPointer i c.state) where
  abbrev behind : ℕ
  behind = c.slot + slots_of i

  step_here : step layout program c ≡ (effect layout i c.state >>= lead program behind)
  step_here = rw here refl

  ways_here : ways layout program (shape_config c) ≡ map shape_config (filter_map (lead program behind) (both_ways (branch_of i) (shape_of c.state) (effect layout i (shape_of c.state))))
  ways_here = ap (ways_from layout program (shape_config c)) here

  -- at an instruction that is no conditional jump the one way leads where the step does
  pub way_of_step : branch_of i ≡ None → ways layout program (shape_config c) ≡ option_to_list (option_map shape_config (step layout program c))
  way_of_step none =
      ways_here ∙ rw (none, step_here) (one_way program behind (shape_of c.state) (effect layout i (shape_of c.state))
      ∙ ap option_to_list (lead-alike program behind (effect layout i (shape_of c.state)) (effect layout i c.state) (effect-shape layout i c.state still none)))

-- ---- conditional jumps

-- a conditional jump goes on behind it, or jumps
either_action : (layout : Layout) (action : Action) (s : State) (d : ℤ) (e : Effect) → branch_in action ≡ Some d → passed (action_outcome layout action s) ≡ Some e → (e ≡ Falls s) ⊎ (e ≡ Jumps d s)
either_action layout (Branch w cond dst operand offset) s d e is goes = grind arith
either_action layout action s d e is goes = absurd cc

passes_too : {A B : Type 0} (f : A → B) (t u : Tested A) (x : A) → seen f t ≡ seen f u → passed u ≡ Some x → (y : A) × (passed t ≡ Some y)
passes_too f (Passes y) (Passes z) x e h = (y, refl)
passes_too f t u x e h = absurd (grind arith)

-- where it goes on from a state, it does from its shape
shape_goes : (layout : Layout) (i : Insn) (s : State) (e : Effect) → NoMovedPointer i s → effect layout i s ≡ Some e → (f : Effect) × (effect layout i (shape_of s) ≡ Some f)
shape_goes layout i s e still goes = passes_too (shown_of (action_of i)) (outcome layout i (shape_of s)) (outcome layout i s) e (outcome-shape layout (action_of i) s still) goes

-- one of both ways leads where the step does
both_lead : (program : List Insn) (behind : ℕ) (s : State) (d : ℤ) (e : Effect) (c : Config) → (e ≡ Falls s) ⊎ (e ≡ Jumps d s) → lead program behind e ≡ Some c
    → Contains (map shape_config (filter_map (lead program behind) (Falls (shape_of s) ∷ Jumps d (shape_of s) ∷ []))) (shape_config c)
both_lead program behind s d e c (inl is) leads =
    let there : Some (config_at behind s) ≡ Some c = ap (lead program behind) (sym is) ∙ leads in
    let same : config_at behind s ≡ c = cc in
    (0, omega arith, ap (config_at behind) (shape_twice s) ∙ ap shape_config same)
both_lead program behind s d e c (inr is) leads = by (target program behind d) (ap (lead program behind) (sym is) ∙ leads) where
  by : (o : Option ℕ) → (o >>= λ to. Some (config_at to s)) ≡ Some c
      → Contains (map shape_config (config_at behind (shape_of s) ∷ cons_option (o >>= λ to. Some (config_at to (shape_of s))) [])) (shape_config c)
  by None h = absurd cc
  by (Some to) h =
      let same : config_at to s ≡ c = cc in
      (1, omega arith, ap (config_at to) (shape_twice s) ∙ ap shape_config same)

module _ (layout : Layout) (program : List Insn) (c d : Config) (i : Insn) (here : begins_at program c.slot ≡ Some i) (still : NoMovedPointer i c.state) where
  by_branch : (b : Option ℤ) → branch_of i ≡ b → step layout program c ≡ Some d → Contains (ways layout program (shape_config c)) (shape_config d)
  by_branch None none leads = rw (way_of_step layout program c i here still none, leads) (has_first (shape_config d) [])
  by_branch (Some offset) is leads =
      let x = bind_some (effect layout i c.state) (lead program (c.slot + slots_of i)) d (sym (step_here layout program c i here still) ∙ leads) in
      let shape = shape_goes layout i c.state x.0 still x.1 in
      let all : ways layout program (shape_config c) ≡ map shape_config (filter_map (lead program (c.slot + slots_of i)) (Falls (shape_of c.state) ∷ Jumps offset (shape_of c.state) ∷ [])) =
      ways_here layout program c i here still ∙ rw (is, shape.1) refl in
      rw all (both_lead program (c.slot + slots_of i) c.state offset x.0 d (either_action layout (action_of i) c.state offset x.0 is x.1) x.2)

-- a step's shape is among the ways of the shape
pub step_is_way : (layout : Layout) (program : List Insn) (c d : Config) → ((i : Insn) → begins_at program c.slot ≡ Some i → NoMovedPointer i c.state) → step layout program c ≡ Some d → Contains (ways layout program (shape_config c)) (shape_config d)
step_is_way layout program c d still leads =
    let i = bind_some (begins_at program c.slot) (λ i. effect layout i c.state >>= lead program (c.slot + slots_of i)) d leads in
    by_branch layout program c d i.0 i.1 (still i.0 i.1) (branch_of i.0) refl leads

-- ---- runs

pointer_kept : (s : State) (r : RegNo) → IsPointer s r → IsPointer (shape_of s) r
pointer_kept s r (p, e) = (p, shape_value s r ∙ ap blank e)

-- what moves no pointer of the shape moves none of the state
unmoved-shape : (action : Action) (s : State) → MovesNone action (shape_of s) → MovesNone action s
unmoved-shape (Operate W64 Add dst (Reg src)) s h = (λ p. h.0 (pointer_kept s dst p), λ p. h.1 (pointer_kept s src p))
unmoved-shape (Operate W64 Sub dst (Reg src)) s h = (λ p. h.0 (pointer_kept s dst p), λ p. h.1 (pointer_kept s src p))
unmoved-shape action s h = tt

zeros : (xs : List ℕ) → map no_amount xs ≡ replicate (length xs) 0
zeros [] = refl
zeros (x ∷ xs) = ap (λ (l : List ℕ). 0 ∷ l) (zeros xs)

-- all records of a size have one shape at entry
pub start_shape : (layout : Layout) (bytes : List ℕ) → IsRecord layout bytes → shape_config (start bytes) ≡ shape_config (start (replicate (record_size layout) 0))
start_shape layout bytes fits =
    let n = record_size layout in
    let same : map no_amount bytes ≡ map no_amount (replicate n 0) = zeros bytes ∙ ap (λ (k : ℕ). replicate k 0) (fits.long ∙ sym (length-replicate n 0)) ∙ sym (zeros (replicate n 0)) in
    ap (λ (b : List ℕ). config_at 0 (state_with (map blank (start bytes).state.registers) b (map blank_cell (start bytes).state.stack))) same

contains_only : {A : Type 0} (o : Option A) (x : A) → Contains (option_to_list o) x → o ≡ Some x
contains_only (Some y) x (zero, inside, e) = ap Some e
contains_only o x (k, inside, e) = absurd (omega arith)

shape_some : (o : Option Config) (d : Config) → option_map shape_config o ≡ Some d → (c : Config) × (o ≡ Some c) × (d ≡ shape_config c)
shape_some None d h = absurd cc
shape_some (Some c) d h = (c, refl, cc)

module _ (layout : Layout) (program : List Insn) (bytes : List ℕ) (straight : HasNoBranch program) (still : MovesNoPointer layout program) (fits : IsRecord layout bytes) where
  -- where nothing begins there is neither a way nor a step
  one_at : (n : ℕ) (c : Config) → OnWay layout program n (shape_config c) → ways layout program (shape_config c) ≡ option_to_list (option_map shape_config (step layout program c))
  one_at n c on = by (begins_at program c.slot) refl where
    by : (o : Option Insn) → begins_at program c.slot ≡ o → ways layout program (shape_config c) ≡ option_to_list (option_map shape_config (step layout program c))
    by None none = rw none refl
    by (Some i) here = way_of_step layout program c i here (unmoved-shape (action_of i) c.state (still n (shape_config c) i on here)) (straight c.slot i here)

  way_is_run : (n : ℕ) (d : Config) → OnWay layout program n d → IsRunShape layout program bytes n d
  way_is_run zero d on = record { at = start bytes; reached = refl; same = on ∙ sym (start_shape layout bytes fits) }
  way_is_run (suc n) d (from, on, leads) =
      let run = way_is_run n from on in
      let there : OnWay layout program n (shape_config run.at) = rw (← run.same) on in
      let only : Contains (option_to_list (option_map shape_config (step layout program run.at))) d = rw (← one_at n run.at there) (rw run.same at leads) in
      let next = shape_some (step layout program run.at) d (contains_only (option_map shape_config (step layout program run.at)) d only) in
      record { at = next.0; reached = ap (λ (o : Option Config). o >>= step layout program) run.reached ∙ next.1; same = next.2 }

  one_further : (n : ℕ) (c from : Config) → OnWay layout program n (shape_config from) → step layout program from ≡ Some c → OnWay layout program (suc n) (shape_config c)
  one_further n c from on leads = (shape_config from, on, rw (one_at n from on, leads) (has_first (shape_config c) []))

  run_is_way : (n : ℕ) (c : Config) → Reaches layout program bytes n c → OnWay layout program n (shape_config c)
  run_is_way zero c h = let same : start bytes ≡ c = cc in ap shape_config (sym same) ∙ start_shape layout bytes fits
  run_is_way (suc n) c h = let from = bind_some (steps layout program n (start bytes)) (step layout program) c h in one_further n c from.0 (run_is_way n from.0 from.1) from.2

  -- without conditional jumps the ways are the run's shapes
  pub ways_are_run : (n : ℕ) (d : Config) → (OnWay layout program n d ↔ IsRunShape layout program bytes n d)
  ways_are_run n d = (way_is_run n d, λ run. rw run.same (run_is_way n run.at run.reached))
