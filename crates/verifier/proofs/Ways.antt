-- Where the ways of an instruction lead, and which programs have typings.
use Rattle.std.proofs.Common.{◌≡◌, ℕ, zero, suc, ◌+◌, ◌<◌, ◌≤◌, pos, negsuc, Bool, true, false, List, [], ◌∷◌, Option, Some, None, length, refl, sym, ◌∙◌, arith, inl, inr, ◌-◌, ℤ, ap, subst, get_or, Ok, Err, replicate, ◌++◌, map}
use Rattle.verifier.proofs.Names.{slice_get, nat_lt, cases_lt, cases_eq, option_map, option_or, filter_map, cons_option, length-drop}
use Rattle.verifier.proofs.Names.{Contains-append_cases, Contains-append_left, Contains-append_right, Insn, Layout, effect, fault_at, slots_of, begins_at, places, slot_count, slots_of_bounds}
use Rattle.verifier.proofs.Names.{length-places, nothing_inside, ◌>>=◌, Config, start, State, entry, record_size, Effect, Falls, Jumps, Reaches, lead, step, steps}
use Rattle.verifier.proofs.Names.{look_fault_at, look_verdict, distance_fault, distance_of, jump_fault, look_fault, write_fault, written_by, first_found, StandsAt, begins_along, begins_here}
use Rattle.verifier.proofs.Names.{stands_behind, effects, shape_config, ways, shape_of, OnWay, Uniform, ways_from, WritesNoR10, FlowOf, FlowTo, IsJoined, goes_behind, IsEntry, Known}
use Rattle.verifier.proofs.Names.{Test, Flow, Next, Jump, IsLearnt, KeepsAnswered, IsPushed, IsSettled, IsTestSettled, MayPush, IsRefusedAt, WalkFault, FallsOff}
use Rattle.verifier.proofs.Names.{StateFits, LeavesKnown, AsShape, WhereSet, Reading, is_exact, GoesTyped}
use Rattle.verifier.proofs.Names.{IsTyping, MayCome, HasTyping, IsNeverStuck, IsNoMoreThan, UniformIsTyped, stuck_is_named}
use Rattle.std.specs.Prelude.{if◌then◌else◌}
use Rattle.std.specs.List.{Contains}
use Rattle.insn.specs.declared.verify_fault.LookFault.{LookFault}
use Rattle.insn.specs.declared.verify_fault.LookFault.TheVariants.{JumpIntoWide, JumpOut}
use Rattle.verifier.proofs.Waits.{of_added, first_or_later, has_first, has_later, has_none}
use Rattle.links.proofs.Linked.{bind_some}
use Rattle.verifier.proofs.Rows.{outcome_shown, rows_sound}
use Rattle.verifier.proofs.States.{shows_less}
use Rattle.insn.specs.Program.{joined}
use Rattle.verifier.specs.declared.known.Flow.TheVariants.{Branch, Exit}
use Rattle.insn.specs.declared.state.Cell.TheVariants as cell
use Rattle.reg_kind.specs.declared.reg.Reg.TheVariants as kind

-- something begins at slots of the program alone
pub begins_inside : (program : List Insn) (k : ℕ) (j : Insn) → begins_at program k ≡ Some j → k < slot_count program
begins_inside program k j e = let h = places_inside (places program) k j e in let l = length-places program in omega arith where
  places_inside : (xs : List (Option Insn)) (k : ℕ) (j : Insn) → joined (slice_get xs k) ≡ Some j → k < length xs
  places_inside [] k j e = absurd cc
  places_inside (x ∷ xs) zero j e = omega arith
  places_inside (x ∷ xs) (suc k) j e = let h = places_inside xs k j e in omega arith

pub lead_forward : (program : List Insn) (behind : ℕ) (e : Effect) (c : Config) → lead program behind e ≡ Some c → behind ≤ c.slot
lead_forward program behind e c h = grind arith

step_forward : (layout : Layout) (program : List Insn) (c d : Config) → step layout program c ≡ Some d → c.slot < d.slot
step_forward layout program c d h =
    let i = bind_some (begins_at program c.slot) (λ i. effect layout i c.state >>= lead program (c.slot + slots_of i)) d h in
    let e = bind_some (effect layout i.0 c.state) (lead program (c.slot + slots_of i.0)) d i.2 in
    let f = lead_forward program (c.slot + slots_of i.0) e.0 d e.2 in omega (arith, slots_of_bounds i.0)

module _ (layout : Layout) (program : List Insn) (bytes : List ℕ) where
  pub same_reached : (n : ℕ) (c d : Config) → Reaches layout program bytes n c → Reaches layout program bytes n d → c ≡ d
  same_reached n c d h k = let both : Some c ≡ Some d = sym h ∙ k in cc

  pub later : (n m : ℕ) (c d : Config) → n < m → Reaches layout program bytes n c → Reaches layout program bytes m d → c.slot < d.slot
  later n zero c d lt h k = absurd (omega arith)
  later n (suc m) c d lt h k =
      let mid = bind_some (steps layout program m (start bytes)) (step layout program) d k in
      let f = step_forward layout program mid.0 d mid.2 in
      elim (cases_lt n m) [
        | inl less ↦ let g = later n m c mid.0 less h mid.1 in omega arith
        | inr ge ↦ let e : n ≡ m = omega arith in let is : c ≡ mid.0 = same_reached m c mid.0 (rw e at h) mid.1 in rw is f
      ]

-- ==== the ways of a shape, and the first look

-- ---- places

-- no instruction begins inside another
pub behind_it : (program : List Insn) (slot k : ℕ) (i j : Insn) (after : List Insn) → StandsAt program slot (i ∷ after) → begins_at program k ≡ Some j → slot < k → slot + slots_of i ≤ k
behind_it program slot k i j after at e lt =
    elim (cases_lt k (slot + slots_of i)) [
      | inl inside ↦
          let d : slot + (k - slot) ≡ k = omega arith in
          let none : begins_at (i ∷ after) (k - slot) ≡ None = nothing_inside i after (k - slot) (omega arith) (omega arith) in
          let there : begins_at (i ∷ after) (k - slot) ≡ begins_at program k = begins_along program slot (i ∷ after) (k - slot) at ∙ ap (begins_at program) d in
          let both : None ≡ Some j = sym none ∙ there ∙ e in absurd cc
      | inr behind ↦ behind
    ]

-- ---- the ways of a shape

pub ways_are : (layout : Layout) (program : List Insn) (slot : ℕ) (i : Insn) → begins_at program slot ≡ Some i → (c : Config) (es : List Effect) → c.slot ≡ slot → effects layout i c.state ≡ es → ways layout program c ≡ map shape_config (filter_map (lead program (slot + slots_of i)) es)
ways_are layout program slot i here c es at e = rw (at, here, e) refl

-- where an instruction has no effect on a shape, no way leads on
pub no_effects : (layout : Layout) (i : Insn) (s : State) → effect layout i s ≡ None → effects layout i s ≡ []
no_effects layout i s e = rw e refl

-- ---- where the first look finds nothing

-- where a jump leads: to an instruction further on
pub record Target (program : List Insn) (behind : ℕ) (d : ℤ) : Type 0 where
  pub far : ℕ
  pub is : d ≡ pos far
  pub insn : Insn
  pub begins : begins_at program (behind + far) ≡ Some insn

pub target_in : (program : List Insn) (behind : ℕ) (d : ℤ) → jump_fault program behind d ≡ None → Target program behind d
target_in program behind (negsuc n) e = absurd cc
target_in program behind (pos n) e = go (begins_at program (behind + n)) refl where
  outside : (b : Bool) → (if b then Some JumpIntoWide else Some JumpOut) ≡ None → ⊥
  outside true q = cc
  outside false q = cc

  go : (o : Option Insn) → begins_at program (behind + n) ≡ o → Target program behind (pos n)
  go (Some j) h = record { far = n; is = refl; insn = j; begins = h }
  go None h = absurd (outside (nat_lt (behind + n) (slot_count program)) (rw h at e))

pub jump_fine : (program : List Insn) (behind : ℕ) (o : Option ℤ) (d : ℤ) (later : Option LookFault) → o ≡ Some d → option_or (distance_fault program behind o) later ≡ None → jump_fault program behind d ≡ None
jump_fine program behind o d later e h = grind (arith)

-- a jump leads to a later instruction
pub looks_jump : (program : List Insn) (behind : ℕ) (i : Insn) (d : ℤ) → look_fault program behind i ≡ None → distance_of i ≡ Some d → Target program behind d
looks_jump program behind i d fine e = target_in program behind d (jump_fine program behind (distance_of i) d (write_fault (written_by i)) e fine)

pub none_first : (slot : ℕ) (o : Option LookFault) (later : Option (LookFault × ℕ)) → option_or (option_map (λ x. (x, slot)) o) later ≡ None → (o ≡ None) × (later ≡ None)
none_first slot o later e = grind (arith)

pub none_verdict : (o : Option (LookFault × ℕ)) → option_map (λ f. look_fault_at f.0 f.1) o ≡ None → o ≡ None
none_verdict o h1 = grind (arith)

-- an instruction in which the first look finds nothing doesn't write R10
pub writes_low : (program : List Insn) (behind : ℕ) (i : Insn) → look_fault program behind i ≡ None → WritesNoR10 i
writes_low program behind i e r10 = grind (arith)

-- ==== what is true of all that waits

-- how far a flow jumps
abbrev pub flow_distance : Flow → Option ℤ
flow_distance Next = None
flow_distance (Jump d) = Some d
flow_distance (Branch d test) = Some d
flow_distance Exit = None

pub own_distance : (i : Insn) (flow : Flow) (d : ℤ) → FlowOf i flow → flow_distance flow ≡ Some d → distance_of i ≡ Some d
own_distance i flow d h1 h2 = grind (arith)

-- ---- where ways lead

module _ (P : Known → State → Type 0) (program : List Insn) (behind : ℕ) (next : Known) where
  -- a way leads to a slot, and something is true of what it brings
  pub record LeadsTo (es : List Effect) (slot : ℕ) : Type 0 where
    pub to : Config
    pub has : Contains (map shape_config (filter_map (lead program behind) es)) to
    pub place : to.slot ≡ slot
    pub holds : P next to.state

  falls : (t : State) (es : List Effect) → P next (shape_of t) → LeadsTo (Falls t ∷ es) behind
  falls t es h = record { to = record { slot = behind; state = shape_of t }; has = has_first (record { slot = behind; state = shape_of t }) (map shape_config (filter_map (lead program behind) es)); place = refl; holds = h }

  pub behind_leads : (flow : Flow) (es : List Effect) → goes_behind flow ≡ true → FlowTo P next flow es → LeadsTo es behind
  behind_leads Next (Falls t ∷ []) g h = falls t [] h
  behind_leads (Branch d test) (Falls x ∷ Jumps e y ∷ []) g h = falls x (Jumps e y ∷ []) h.1
  behind_leads (Jump d) es g h = absurd cc
  behind_leads Exit es g h = absurd cc
  behind_leads flow es g h = absurd h

  module _ (k : ℕ) (j : Insn) (there : begins_at program (behind + k) ≡ Some j) where
    pub ahead_leads : (flow : Flow) (es : List Effect) → flow_distance flow ≡ Some (pos k) → FlowTo P next flow es → LeadsTo es (behind + k)
    ahead_leads (Jump d) (Jumps e t ∷ []) q h =
        let same : d ≡ pos k = cc in
        let dist : e ≡ pos k = sym h.0 ∙ same in
        let to : Config = record { slot = behind + k; state = shape_of t } in
        record { to = to; has = rw (dist, there) (has_first to []); place = refl; holds = h.1 }
    ahead_leads (Branch d test) (Falls x ∷ Jumps e y ∷ []) q h =
        let same : d ≡ pos k = cc in
        let dist : e ≡ pos k = sym h.0 ∙ same in
        let to : Config = record { slot = behind + k; state = shape_of y } in
        let on : Config = record { slot = behind; state = shape_of x } in
        let two : map shape_config (filter_map (lead program behind) (Falls x ∷ Jumps e y ∷ [])) ≡ on ∷ to ∷ [] = rw (dist, there) refl in
        record { to = to; has = subst (λ (xs : List Config). Contains xs to) (sym two) (has_later on to (to ∷ []) (has_first to [])); place = refl; holds = h.2 }
    ahead_leads Next es q h = absurd cc
    ahead_leads Exit es q h = absurd cc
    ahead_leads flow es q h = absurd h

-- ---- what is true of all that waits

module _ (Q : ℕ → Known → Type 0) (meets : (k : ℕ) (a b c : Known) → IsJoined a b c → Q k a → Q k b → Q k c) (learns : (k : ℕ) (test : Test) (answer : Bool) (a b : Known) → KeepsAnswered test answer a b → Q k a → Q k b) where
  -- it is true of all that waits from a slot on
  abbrev pub AllWait : ℕ → List (List Known) → Type 0
  AllWait from w = (k : ℕ) (a : Known) → from ≤ k → Contains (get_or w k []) a → Q k a

  pushed : (w w' : List (List Known)) (from to : ℕ) (a : Known) → from ≤ to → IsPushed w to a w' → Q to a → AllWait from w → AllWait from w'
  pushed w w' from to a le p new old k x lek h =
      elim (cases_eq k to) [
        | inl q ↦ let there : Contains (get_or w' to []) x = rw q at h in rw q (of_added (Q to) (meets to) (get_or w to []) (get_or w' to []) a (λ c. old to c le) new p.here x there)
        | inr ne ↦ old k x lek (rw (p.others k ne) at h)
      ]

  learnt : (w w' : List (List Known)) (from to : ℕ) (test : Test) (answer : Bool) (next : Known) (o : Option Known) → from ≤ to → IsLearnt test answer next o → MayPush w to o w' → Q to next → AllWait from w → AllWait from w'
  learnt w w' from to test answer next None le l p new old = rw p old
  learnt w w' from to test answer next (Some a) le l p new old = pushed w w' from to a le p (learns to test answer next a l.0 new) old

  -- and stays so where an instruction goes on
  pub settled_all : (behind : ℕ) (flow : Flow) (next : Known) (v w' : List (List Known)) → IsSettled flow behind next v w' → (goes_behind flow ≡ true → behind < length v → Q behind next)
      → ((k : ℕ) → flow_distance flow ≡ Some (pos k) → Q (behind + k) next) → AllWait behind v → AllWait behind w'
  settled_all behind Next next v w' p here ahead old = pushed v w' behind behind next (omega arith) p.1 (here refl p.0) old
  settled_all behind (Jump d) next v w' p here ahead old = pushed v w' behind (behind + p.0) next (omega arith) p.2 (ahead p.0 (ap Some p.1)) old
  settled_all behind (Branch d test) next v w' p here ahead old = by p.1 where
    by : IsTestSettled d test behind next v w' → AllWait behind w'
    by (inl near) = pushed v w' behind behind next (omega arith) near.1 (here refl p.0) old
    by (inr far) =
        let both = far.3 in
        learnt both.between w' behind behind test false next both.passed.there (omega arith) both.passed.learnt both.passed.pushed (here refl p.0)
        (learnt v both.between behind (behind + far.0) test true next both.taken.there (omega arith) both.taken.learnt both.taken.pushed (ahead far.0 (ap Some far.1)) old)
  settled_all behind Exit next v w' p here ahead old = rw p old

-- ==== programs with a typing

-- ---- what is followed

-- the shapes on the ways of a uniform program, or those of a typing
pub data Followed (layout : Layout) (program : List Insn) : Type 0 where
  OnWays : Uniform layout program → Followed layout program
  Typed : (typing : List Config) → IsTyping layout program typing → Followed layout program

module _ (layout : Layout) (program : List Insn) where
  -- how what is known is read of them
  abbrev pub read_as : Followed layout program → Reading
  read_as (OnWays u) = AsShape
  read_as (Typed typing t) = WhereSet

  abbrev pub IsAmong : Followed layout program → Config → Type 0
  IsAmong (OnWays u) c = (n : ℕ) × OnWay layout program n c
  IsAmong (Typed typing t) c = Contains typing c

  -- what is known at a slot is known of the shape there
  pub record IsShownAt (f : Followed layout program) (k : ℕ) (a : Known) : Type 0 where
    pub shape : Config
    pub among : IsAmong f shape
    pub place : shape.slot ≡ k
    pub fits : StateFits (read_as f) layout a shape.state

  read_exact : (f : Followed layout program) → is_exact (read_as f) ≡ true
  read_exact (OnWays u) = refl
  read_exact (Typed typing t) = refl

  one_each : (f : Followed layout program) (c d : Config) → IsAmong f c → IsAmong f d → c.slot ≡ d.slot → c ≡ d
  one_each (OnWays u) c d x y e = u.one_shape x.0 y.0 c d x.1 y.1 e
  one_each (Typed typing t) c d x y e = t.one c d x y e

  -- what may come to a slot of a typing shows the slot's shape
  brought : (typing : List Config) (t : IsTyping layout program typing) (k : ℕ) (a : Known) (s : State) → MayCome typing k s → StateFits WhereSet layout a s → IsShownAt (Typed typing t) k a
  brought typing t k a s may h = record { shape = record { slot = k; state = may.shape }; among = may.is; place = refl; fits = shows_less layout a may.shape s may.below h }

  pub entry_shown : (f : Followed layout program) (first : Known) → IsEntry first → IsShownAt f 0 first
  entry_shown (OnWays u) first is = record { shape = shape_config (start (replicate (record_size layout) 0)); among = (0, refl); place = refl; fits = is.shape AsShape refl layout }
  entry_shown (Typed typing t) first is = brought typing t 0 first (shape_of (entry (replicate (record_size layout) 0))) t.begins (is.shape WhereSet refl layout)

  -- two ways that meet at a slot, and what is learnt there
  pub meet_shown : (f : Followed layout program) (k : ℕ) (a b c : Known) → IsJoined a b c → IsShownAt f k a → IsShownAt f k b → IsShownAt f k c
  meet_shown f k a b c join x y =
      let same : x.shape ≡ y.shape = one_each f x.shape y.shape x.among y.among (x.place ∙ sym y.place) in
      let other = subst (λ (d : Config). StateFits (read_as f) layout b d.state) (sym same) y.fits in
      record { shape = x.shape; among = x.among; place = x.place; fits = join.same (read_as f) (read_exact f) layout x.shape.state x.fits other }

  pub learn_shown : (f : Followed layout program) (k : ℕ) (test : Test) (answer : Bool) (a b : Known) → KeepsAnswered test answer a b → IsShownAt f k a → IsShownAt f k b
  learn_shown f k test answer a b keeps x = record { shape = x.shape; among = x.among; place = x.place; fits = keeps.shapes (read_as f) (read_exact f) layout x.shape.state x.fits }

  -- ---- one instruction

  -- what follows at a shape is known
  goes_on : (f : Followed layout program) (c : Config) (i : Insn) (known next : Known) (flow : Flow) → IsAmong f c → begins_at program c.slot ≡ Some i → WritesNoR10 i → StateFits (read_as f) layout known c.state → LeavesKnown layout i known next (Ok flow)
      → FlowTo (StateFits (read_as f) layout) next flow (effects layout i c.state)
  goes_on (OnWays u) c i known next flow among here other fits row = (rows_sound layout i known next (Ok flow) other row).shape c.state (u.no_moves among.0 c i among.1 here) fits
  goes_on (Typed typing t) c i known next flow among here other fits row = let goes = t.each c i among here in outcome_shown layout known c.state fits i other goes.still goes.passes next (Ok flow) row

  -- what a way brings to a slot is known of the shape there
  brings : (f : Followed layout program) (c d : Config) (i : Insn) (a : Known) → IsAmong f c → begins_at program c.slot ≡ Some i → Contains (ways layout program c) d → StateFits (read_as f) layout a d.state → IsShownAt f d.slot a
  brings (OnWays u) c d i a among here way h = record { shape = d; among = (suc among.0, (c, among.1, way)); place = refl; fits = h }
  brings (Typed typing t) c d i a among here way h = brought typing t d.slot a d.state ((t.each c i among here).leads d way) h

  module _ (f : Followed layout program) (slot : ℕ) (i : Insn) (here : begins_at program slot ≡ Some i) (other : WritesNoR10 i) (known next : Known) (flow : Flow) (row : LeavesKnown layout i known next (Ok flow)) (mine : IsShownAt f slot known) where
    abbrev Leads : List Effect → ℕ → Type 0
    Leads es to = LeadsTo (StateFits (read_as f) layout) program (slot + slots_of i) next es to

    at_shape : begins_at program mine.shape.slot ≡ Some i
    at_shape = ap (begins_at program) mine.place ∙ here

    follows : FlowTo (StateFits (read_as f) layout) next flow (effects layout i mine.shape.state)
    follows = goes_on f mine.shape i known next flow mine.among at_shape other mine.fits row

    is_way : (to : ℕ) (l : Leads (effects layout i mine.shape.state) to) → Contains (ways layout program mine.shape) l.to
    is_way to l = subst (λ (xs : List Config). Contains xs l.to) (sym (ways_are layout program slot i here mine.shape (effects layout i mine.shape.state) mine.place refl)) l.has

    shown_to : (to : ℕ) → Leads (effects layout i mine.shape.state) to → IsShownAt f to next
    shown_to to l = rw l.place at (brings f mine.shape l.to i next mine.among at_shape (is_way to l) l.holds)

    pub way_behind : goes_behind flow ≡ true → (d : Config) × Contains (ways layout program mine.shape) d × (d.slot ≡ slot + slots_of i)
    way_behind g = let l = behind_leads (StateFits (read_as f) layout) program (slot + slots_of i) next flow (effects layout i mine.shape.state) g follows in (l.to, is_way (slot + slots_of i) l, l.place)

    pub shown_behind : goes_behind flow ≡ true → IsShownAt f (slot + slots_of i) next
    shown_behind g = shown_to (slot + slots_of i) (behind_leads (StateFits (read_as f) layout) program (slot + slots_of i) next flow (effects layout i mine.shape.state) g follows)

    pub shown_ahead : (k : ℕ) (j : Insn) → begins_at program (slot + slots_of i + k) ≡ Some j → flow_distance flow ≡ Some (pos k) → IsShownAt f (slot + slots_of i + k) next
    shown_ahead k j there e = shown_to (slot + slots_of i + k) (ahead_leads (StateFits (read_as f) layout) program (slot + slots_of i) next k j there flow (effects layout i mine.shape.state) e follows)

  -- no instruction of a typed program is refused
  pub never_refused : (typing : List Config) (t : IsTyping layout program typing) (slot : ℕ) (i : Insn) → begins_at program slot ≡ Some i → WritesNoR10 i → (known : Known) → IsShownAt (Typed typing t) slot known → (fault : WalkFault) → IsRefusedAt layout i slot known (slot_count program) fault → ⊥
  never_refused typing t slot i here other known mine fault r = by fault r where
    goes : GoesTyped layout program typing mine.shape i
    goes = t.each mine.shape i mine.among (ap (begins_at program) mine.place ∙ here)

    by : (fault : WalkFault) → IsRefusedAt layout i slot known (slot_count program) fault → ⊥
    by FallsOff r = let w = way_behind (Typed typing t) slot i here other known r.0 r.1 r.2 mine r.3 in let inside = goes.inside w.0 w.1 in let place = w.2 in let past = r.4 in omega arith
    by fault r = outcome_shown layout known mine.shape.state mine.fits i other goes.still goes.passes r.0 (Err fault) r.1

-- ==== uniform programs have one

no_more : (s : State) → IsNoMoreThan s s
no_more s = record { registers_long = refl; registers = λ k. inr refl; bytes = refl; stack_long = refl; stack = λ k. inr refl }

-- ---- where the first look finds nothing

fine_at : (program : List Insn) (rest : List Insn) (slot k : ℕ) (i : Insn) → StandsAt program slot rest → first_found (look_fault program) slot rest ≡ None → slot ≤ k → begins_at program k ≡ Some i → look_fault program (k + slots_of i) i ≡ None
fine_at program [] slot k i at e le here =
    let inside = begins_inside program k i here in
    absurd (omega (arith, ap (length {A = Option Insn}) at.same, length-drop slot (places program), length-places program))
fine_at program (j ∷ after) slot k i at e le here =
    let both = none_first slot (look_fault program (slot + slots_of j) j) (first_found (look_fault program) (slot + slots_of j) after) e in
    elim (cases_eq k slot) [
      | inl q ↦
          let there : begins_at program k ≡ Some j = ap (begins_at program) q ∙ begins_here program slot j after at in
          let twice : Some i ≡ Some j = sym here ∙ there in
          let same : i ≡ j = cc in rw (q, same) both.0
      | inr ne ↦ fine_at program after (slot + slots_of j) k i (stands_behind program slot j after at) both.1 (behind_it program slot k j i after at here (omega arith)) here
    ]

-- ---- ways go forward

ahead : (program : List Insn) (behind : ℕ) (es : List Effect) (d : Config) → Contains (map shape_config (filter_map (lead program behind) es)) d → behind ≤ d.slot
ahead program behind [] d h = absurd (has_none d h)
ahead program behind (e ∷ es) d h = by (λ a. ahead program behind es d a) (lead program behind e) refl h where
  by : (Contains (map shape_config (filter_map (lead program behind) es)) d → behind ≤ d.slot) → (o : Option Config) → lead program behind e ≡ o → Contains (map shape_config (cons_option o (filter_map (lead program behind) es))) d → behind ≤ d.slot
  by later None q h = later h
  by later (Some c) q h =
      elim (first_or_later (shape_config c) d (map shape_config (filter_map (lead program behind) es)) h) [
        | inl same ↦ let le = lead_forward program behind e c q in let slots : c.slot ≡ d.slot = ap (λ (x : Config). x.slot) same in omega arith
        | inr rest ↦ later rest
      ]

way_forward : (layout : Layout) (program : List Insn) (c d : Config) → Contains (ways layout program c) d → c.slot < d.slot
way_forward layout program c d has = by (begins_at program c.slot) has where
  by : (o : Option Insn) → Contains (ways_from layout program c o) d → c.slot < d.slot
  by None h = absurd (has_none d h)
  by (Some i) h = let le = ahead program (c.slot + slots_of i) (effects layout i c.state) d h in omega (arith, slots_of_bounds i)

-- ---- the typing

module _ (layout : Layout) (program : List Insn) where
  abbrev first : Config
  first = shape_config (start (replicate (record_size layout) 0))

  abbrev ways_of : List Config → List Config
  ways_of [] = []
  ways_of (c ∷ cs) = ways layout program c ++ ways_of cs

  -- all shapes to which at most so many ways lead
  abbrev all_by : ℕ → List Config
  all_by zero = first ∷ []
  all_by (suc n) = first ∷ ways_of (all_by n)

  way_in : (cs : List Config) (from c : Config) → Contains cs from → Contains (ways layout program from) c → Contains (ways_of cs) c
  way_in [] from c h w = absurd (has_none from h)
  way_in (x ∷ cs) from c h w =
      elim (first_or_later x from cs h) [
        | inl e ↦ Contains-append_left (ways layout program x) (ways_of cs) c (rw e w)
        | inr later ↦ Contains-append_right (ways layout program x) (ways_of cs) c (way_in cs from c later w)
      ]

  way_out : (cs : List Config) (c : Config) → Contains (ways_of cs) c → (from : Config) × Contains cs from × Contains (ways layout program from) c
  way_out [] c h = absurd (has_none c h)
  way_out (x ∷ cs) c h = elim (Contains-append_cases (ways layout program x) (ways_of cs) c h) [
    | inl w ↦ (x, has_first x cs, w)
    | inr later ↦ (let o = way_out cs c later in (o.0, has_later x o.0 cs o.1, o.2))
  ]

  all_ways : (n m : ℕ) (c : Config) → m ≤ n → OnWay layout program m c → Contains (all_by n) c
  all_ways zero zero c le e = rw e (has_first first [])
  all_ways (suc n) zero c le e = rw e (has_first first (ways_of (all_by n)))
  all_ways zero (suc m) c le on = absurd (omega arith)
  all_ways (suc n) (suc m) c le on = has_later first c (ways_of (all_by n)) (way_in (all_by n) on.0 c (all_ways n m on.0 (omega arith) on.1) on.2)

  on_ways : (n : ℕ) (c : Config) → Contains (all_by n) c → (m : ℕ) × OnWay layout program m c
  on_ways zero c h = elim (first_or_later first c [] h) [ inl e ↦ (0, sym e) | inr none ↦ absurd (has_none c none) ]
  on_ways (suc n) c h = elim (first_or_later first c (ways_of (all_by n)) h) [
    | inl e ↦ (0, sym e)
    | inr later ↦ (let o = way_out (all_by n) c later in let m = on_ways n o.0 o.1 in (suc m.0, (o.0, m.1, o.2)))
  ]

  -- so many ways lead at least so far
  far : (n : ℕ) (c : Config) → OnWay layout program n c → n ≤ c.slot
  far zero c on = omega arith
  far (suc n) c on = let le = far n on.0 on.1 in let lt = way_forward layout program on.0 c on.2 in omega arith

  abbrev typing : List Config
  typing = all_by (slot_count program)

  module _ (looked : look_verdict program ≡ None) (u : Uniform layout program) (free : IsNeverStuck layout program) where
    low : (k : ℕ) (i : Insn) → begins_at program k ≡ Some i → WritesNoR10 i
    low k i here = writes_low program (k + slots_of i) i (fine_at program program 0 k i (record { same = refl }) (none_verdict _ looked) (omega arith) here)

    module _ (n : ℕ) (c : Config) (on : OnWay layout program n c) where
      passes : (i : Insn) → begins_at program c.slot ≡ Some i → fault_at layout i c.state ≡ None
      passes i here = by (fault_at layout i c.state) refl where
        by : (o : Option WalkFault) → fault_at layout i c.state ≡ o → o ≡ None
        by None e = refl
        by (Some wrong) e =
            let none : effect layout i c.state ≡ None = (stuck_is_named layout i c.state (low c.slot i here)).1 (rw e refl) in
            absurd (free n c on (record { no_way = rw (here, no_effects layout i c.state none) refl; no_exit = rw (here, none) refl }))

      -- it is inside the program
      inside : c.slot < slot_count program
      inside = by (begins_at program c.slot) refl where
        by : (o : Option Insn) → begins_at program c.slot ≡ o → c.slot < slot_count program
        by None e = absurd (free n c on (record { no_way = rw e refl; no_exit = rw e refl }))
        by (Some i) e = begins_inside program c.slot i e

    may_come : (n : ℕ) (c : Config) → OnWay layout program n c → MayCome typing c.slot c.state
    may_come n c on = record { shape = c.state; is = all_ways (slot_count program) n c (let le = far n c on in let lt = inside n c on in omega arith) on; below = no_more c.state }

    goes_typed : (n : ℕ) (c : Config) (i : Insn) → OnWay layout program n c → begins_at program c.slot ≡ Some i → GoesTyped layout program typing c i
    goes_typed n c i on here = record {
      passes = passes n c on i here;
      still = u.no_moves n c i on here;
      inside = λ d has. inside (suc n) d (c, on, has);
      leads = λ d has. may_come (suc n) d (c, on, has);
    }

    uniform_typing : HasTyping layout program
    uniform_typing = record {
      typing = typing;
      is = record {
        one = λ c d h k e. let n = on_ways (slot_count program) c h in let m = on_ways (slot_count program) d k in u.one_shape n.0 m.0 c d n.1 m.1 e;
        begins = may_come 0 first refl;
        each = λ c i h here. let m = on_ways (slot_count program) c h in goes_typed m.0 c i m.1 here;
      };
    }

pub uniform_is_typed : (layout : Layout) (program : List Insn) → UniformIsTyped layout program
uniform_is_typed layout program = λ looked u free. uniform_typing layout program looked u free
