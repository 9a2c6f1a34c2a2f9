-- One instruction, passed in the cases that wait at its slot; and what is known at the slot that a walk has come to.
use Rattle.std.proofs.Common.{Fits, w64, Bool, true, false, is_some, FitsSigned, w32, ◌≡◌, ◌≢◌, ℕ, ℤ, pos, suc, ◌+◌, ◌<◌, ◌≤◌, ◌++◌, List, [], ◌∷◌, Option, Some, None, Ok, refl, sym, ap, ◌∙◌, arith, get_or, length, inl, inr, ◌⊎◌, zero, ◌-◌, take, drop, set, subst}
use Rattle.verifier.proofs.Names.{InStates, option_to_list, ints, append-nil, append_assoc, get_or-set_other, get_or-set_same, length-set, cases_lt, All, All-push, SLOT_LIMIT}
use Rattle.verifier.proofs.Names.{slot_count, Insn, Layout, WalkFault, slots_of, walk_fault_at, look_verdict, Known, Test, LeavesKnown, AreBothTold, IsTestTold, IsWayPushed, IsWayTold, onward_of, onward_of_each, onward_from}
use Rattle.verifier.proofs.Names.{IsPassed, IsPushed, IsRefusedAt, IsRefusedHere, IsTaken, IsVisited, PassesEach, either, nowhere, IsBegun, IsCopy, IsFar, IsLastPassage, IsPassage}
use Rattle.verifier.proofs.Names.{IsVisit, IsToldOnward, ahead_alone, behind_alone, slot_unless, slots_of_bounds, unreached_by, exit_ends, Reaches, step, steps, Config, IsRecord, start, StateFits, IsAcceptance, IsExplained, IsKnownAt, NoneComesTo}
use Rattle.std.proofs.Math.Bool.{or_assoc}
use Rattle.verifier.specs.declared.walk.Onward.{Onward}
use Rattle.verifier.specs.declared.walk.Passage.{Passage}
use Rattle.verifier.proofs.Walks.{passes_long, Ended, Standing, Walked, exits_within, passed, refused_right, stays_inside, walk_end, walk_start}
use Rattle.verifier.proofs.Names.{look_fault, first_found, begins_at, places, length-places, length-drop, first_rest, begins_here, stands_inside, distance_of, WritesNoR10, HasWalked, Begun, Visited, ExitsWithin}
use Rattle.std.proofs.lemmas.List.Sums.{sum_by-cons}
use Rattle.insn.specs.declared.verify_fault.VerifyFault.{VerifyFault}
use Rattle.verifier.specs.Verdicts.{GetsTo, IsRefusal}
use Rattle.std.specs.Prelude.{Contains, IfOk, Result, Err}
use Rattle.verifier.specs.declared.known.Flow.TheVariants.{Branch, Exit, Jump, Next}
use Rattle.verifier.specs.declared.explain.Refusal.{Refusal}
use Rattle.verifier.specs.declared.walk.Upshot.TheVariants.{Passed, Refused}
use Rattle.links.proofs.Linked.{bind_some}
use Rattle.verifier.specs.Waits.{passed_by}
use Rattle.verifier.specs.WaitsParts.{all_beside}
use Rattle.verifier.proofs.Waits.{has_first, has_later, has_middle, has_none, middle_or_around}
use Rattle.verifier.proofs.Ways.{Typed, later, never_refused, none_first, none_verdict, same_reached, writes_low}
use Rattle.verifier.specs.declared.walk.Passage.TheVariants as passage

-- ---- one case more

either_assoc : (a b c : Onward) → either (either a b) c ≡ either a (either b c)
either_assoc a b c = rw (or_assoc a.behind b.behind c.behind, or_assoc a.ahead b.ahead c.ahead) refl

either_nowhere : (b : Onward) → either b nowhere ≡ b
either_nowhere b = grind (arith)

-- it is passed in one case more, and it is told where it goes on in each
passes_more : (layout : Layout) (i : Insn) (slot : ℕ) (cases : List Known) (known : Known) (v mid w' : List (List Known)) (onward here : Onward) (p : PassesEach layout i slot cases v mid) → onward ≡ onward_of_each layout i slot cases v mid p
    → (q : IsPassed layout i slot known mid w') × (here ≡ onward_of q) → (r : PassesEach layout i slot (cases ++ known ∷ []) v w') × (either onward here ≡ onward_of_each layout i slot (cases ++ known ∷ []) v w' r)
passes_more layout i slot [] known v mid w' onward here p e q =
    let both : (q : IsPassed layout i slot known v w') × (here ≡ onward_of q) = rw (← p) q in
    ((w', both.0, refl), rw e (both.1 ∙ sym (either_nowhere (onward_of both.0))))
passes_more layout i slot (a ∷ rest) known v mid w' onward here p e q =
    let others = onward_of_each layout i slot rest p.0 mid p.2 in
    let more = passes_more layout i slot rest known p.0 mid w' others here p.2 refl q in
    ((p.0, p.1, more.0), rw e (either_assoc (onward_of p.1) others here ∙ ap (λ (o : Onward). either (onward_of p.1) o) more.1))

-- ---- the loop over the cases that wait

-- what it keeps: the instruction was passed in those before, and copies of these are kept, while others are left
pub record Visiting (layout : Layout) (i : Insn) (slot : ℕ) (old : List (List Known)) (left kept : List Known) (now : List (List Known)) (onward : Onward) : Type 0 where
  pub before : List Known
  pub between : List (List Known)
  pub taken : IsTaken old slot (before ++ left) between
  pub passed : PassesEach layout i slot before between now
  pub goes : onward ≡ onward_of_each layout i slot before between now passed
  pub copied : (left ≡ []) ⊎ (kept ≡ before)
  pub long : length now ≡ length old

pub begins_visit : (layout : Layout) (i : Insn) (slot : ℕ) (old between : List (List Known)) (cases : List Known) → IsTaken old slot cases between → Visiting layout i slot old cases [] between nowhere
begins_visit layout i slot old between cases taken = record { before = []; between = between; taken = taken; passed = refl; goes = refl; copied = inr refl; long = taken.long }

module _ (layout : Layout) (i : Insn) (slot : ℕ) (old : List (List Known)) (left rest kept : List Known) (now : List (List Known)) (onward : Onward) (known : Known) (first : left ≡ known ∷ rest) (v : Visiting layout i slot old left kept now onward) where
  taken_here : IsTaken old slot (v.before ++ known ∷ rest) v.between
  taken_here = rw first at v.taken

  copies : kept ≡ v.before
  copies = by v.copied where
    by : (left ≡ []) ⊎ (kept ≡ v.before) → kept ≡ v.before
    by (inl none) = let both : known ∷ rest ≡ [] = sym first ∙ none in absurd cc
    by (inr e) = e

  -- one more is passed
  pub one_visited : (now' : List (List Known)) (here : Onward) (copy : Option Known) (kept' : List Known) → (p : IsPassed layout i slot known now now') × (here ≡ onward_of p) → IsCopy known rest copy → kept' ≡ kept ++ option_to_list copy
      → Visiting layout i slot old rest kept' now' (either onward here)
  one_visited now' here copy kept' p c k = let more = passes_more layout i slot v.before known v.between now now' onward here v.passed v.goes p in record {
    before = v.before ++ known ∷ [];
    between = v.between;
    taken = rw (append_assoc v.before (known ∷ []) rest) taken_here;
    passed = more.0;
    goes = more.1;
    copied = keeps rest copy c k;
    long = passes_long layout i slot known now now' p.0 ∙ v.long;
  } where
    keeps : (rest : List Known) (copy : Option Known) → IsCopy known rest copy → kept' ≡ kept ++ option_to_list copy → (rest ≡ []) ⊎ (kept' ≡ v.before ++ known ∷ [])
    keeps rest copy h1 h2 = grind (arith)

  -- one is refused
  pub one_refused : (before : Known) (fault : WalkFault) (others : List Known) → IsRefusedAt layout i slot known (length now) fault × (before ≡ known) → others ≡ kept ++ rest
      → (r : IsRefusedHere layout i slot old (walk_fault_at fault slot)) × (r.known ≡ before) × (others ≡ r.before ++ r.after)
  one_refused before fault others p all = (
    record { before = v.before; known = known; after = rest; between = v.between; taken = taken_here; now = now; passed = v.passed; wrong = fault; is = refl; refused = rw v.long at p.0 },
    sym p.1,
    all ∙ ap (λ (l : List Known). l ++ rest) copies,
  )

-- all have been passed
pub all_visited : (layout : Layout) (i : Insn) (slot : ℕ) (old : List (List Known)) (left kept : List Known) (now : List (List Known)) (onward : Onward) → left ≡ [] → Visiting layout i slot old left kept now onward → (v : IsVisited layout i slot old now) × (onward ≡ onward_from v)
all_visited layout i slot old left kept now onward none v =
    let taken : IsTaken old slot v.before v.between = rw (none, append-nil v.before) at v.taken in
    (record { there = v.before; between = v.between; taken = taken; goes = v.passed }, v.goes)

-- ---- a case that waits alone

module _ (layout : Layout) (i : Insn) (slot : ℕ) (old between : List (List Known)) (cases : List Known) (known : Known) (one : cases ≡ known ∷ []) (taken : IsTaken old slot cases between) where
  pub passed_alone : (now : List (List Known)) (here : Onward) → (p : IsPassed layout i slot known between now) × (here ≡ onward_of p) → (v : IsVisited layout i slot old now) × (here ≡ onward_from v)
  passed_alone now here p =
      let all : IsTaken old slot (known ∷ []) between = rw one at taken in
      (record { there = known ∷ []; between = between; taken = all; goes = (now, p.0, refl) }, p.1 ∙ sym (either_nowhere (onward_of p.0)))

  pub refused_alone : (before : Known) (fault : WalkFault) (others : List Known) → others ≡ [] → IsRefusedAt layout i slot known (length between) fault × (before ≡ known)
      → (r : IsRefusedHere layout i slot old (walk_fault_at fault slot)) × (r.known ≡ before) × (others ≡ r.before ++ r.after)
  refused_alone before fault others none p =
      one_refused layout i slot old cases [] [] between nowhere known one (begins_visit layout i slot old between cases taken) before fault others p none

-- ---- one case

-- a passage behind which there is no slot leaves what waits as it is
pub last_passed : (layout : Layout) (i : Insn) (slot slots : ℕ) (known : Known) (old : List (List Known)) (r : Passage) → slots ≡ length old → IsLastPassage layout i slot slots known r → IsPassage layout i slot known old old r
last_passed layout i slot slots known old (passage.Passed onward) all h = (record { after = h.0; flow = Exit; row = h.1; settled = refl }, h.2)
last_passed layout i slot slots known old (passage.Refused fault before) all h = (rw all at h.0, h.1)

-- what is told of each way of a conditional jump is told of both
pub both_told : (old between now : List (List Known)) (behind to : ℕ) (test : Test) (known known' : Known) (passes jumps : Bool) → known' ≡ known → IsWayTold old to test true known between jumps → IsWayTold between behind test false known' now passes → AreBothTold old behind to test known now (record { behind = passes; ahead = jumps })
both_told old between now behind to test known known' passes jumps same jump pass = by jump.0 pass'.0 jump.1 pass'.1 where
  pass' : IsWayTold between behind test false known now passes
  pass' = rw same at pass

  by : (taken : IsWayPushed old to test true known between) (passed : IsWayPushed between behind test false known now) → jumps ≡ is_some taken.there → passes ≡ is_some passed.there → AreBothTold old behind to test known now (record { behind = passes; ahead = jumps })
  by taken passed t p = (record { between = between; taken = taken; passed = passed }, rw (p, t) refl)

-- a conditional jump goes on behind it or further on
pub told_near : (d : ℤ) (test : Test) (behind : ℕ) (known : Known) (old now : List (List Known)) → d ≡ pos 0 → IsPushed old behind known now → IsTestTold d test behind known old now behind_alone
told_near d test behind known old now near p = (inl (near, p), refl)

pub told_far : (d : ℤ) (test : Test) (behind to slots : ℕ) (known : Known) (old now : List (List Known)) (onward : Onward) → (far : IsFar (Some d) behind slots) → d ≢ pos 0 → ((k : ℕ) → d ≡ pos k → to ≡ behind + k) → AreBothTold old behind to test known now onward → IsTestTold d test behind known old now onward
told_far d test behind to slots known old now onward (k, is, less) far at both =
    let there : AreBothTold old behind (behind + k) test known now onward = subst (λ (t : ℕ). AreBothTold old behind t test known now onward) (at k is) both in
    (inr (k, is, λ none. far (is ∙ ap pos none), there.0), there.1)

-- the same, where memory may be refused
pub told_far_if : {E : Type 0} (d : ℤ) (test : Test) (behind to slots : ℕ) (known : Known) (old now : List (List Known)) (r : Result Onward E) → (far : IsFar (Some d) behind slots) → d ≢ pos 0 → ((k : ℕ) → d ≡ pos k → to ≡ behind + k) → IfOk r (AreBothTold old behind to test known now) → IfOk r (IsTestTold d test behind known old now)
told_far_if d test behind to slots known old now (Ok onward) far apart at both = told_far d test behind to slots known old now onward far apart at both
told_far_if d test behind to slots known old now (Err fault) far apart at both = tt

-- where a passage goes on
pub passed_exit : (layout : Layout) (i : Insn) (slot : ℕ) (known after : Known) (old : List (List Known)) → LeavesKnown layout i known after (Ok Exit) → (p : IsPassed layout i slot known old old) × (nowhere ≡ onward_of p)
passed_exit layout i slot known after old row = (record { after = after; flow = Exit; row = row; settled = refl }, refl)

pub passed_next : (layout : Layout) (i : Insn) (slot : ℕ) (known after : Known) (old now : List (List Known)) → LeavesKnown layout i known after (Ok Next) → slot + slots_of i < length old → IsPushed old (slot + slots_of i) after now → (p : IsPassed layout i slot known old now) × (behind_alone ≡ onward_of p)
passed_next layout i slot known after old now row inside pushed = (record { after = after; flow = Next; row = row; settled = (inside, pushed) }, refl)

pub passed_jump : (layout : Layout) (i : Insn) (slot : ℕ) (known after : Known) (d : ℤ) (to slots : ℕ) (old now : List (List Known)) → LeavesKnown layout i known after (Ok (Jump d)) → IsFar (Some d) (slot + slots_of i) slots → ((k : ℕ) → d ≡ pos k → to ≡ slot + slots_of i + k) → IsPushed old to after now
    → (p : IsPassed layout i slot known old now) × (ahead_alone ≡ onward_of p)
passed_jump layout i slot known after d to slots old now row (k, is, less) at pushed =
    (record { after = after; flow = Jump d; row = row; settled = (k, is, subst (λ (t : ℕ). IsPushed old t after now) (at k is) pushed) }, refl)

-- what a test leaves is where a passage goes on
pub passed_test : (layout : Layout) (i : Insn) (slot : ℕ) (known after : Known) (d : ℤ) (test : Test) (onward : Onward) (old now : List (List Known)) → LeavesKnown layout i known after (Ok (Branch d test)) → slot + slots_of i < length old → IsTestTold d test (slot + slots_of i) after old now onward
    → (p : IsPassed layout i slot known old now) × (onward ≡ onward_of p)
passed_test layout i slot known after d test onward old now row inside told = (record { after = after; flow = Branch d test; row = row; settled = (inside, told.0) }, told.1)

-- a jump that stays in a program is not far
pub fits_far : (o : Option ℤ) (d : ℤ) (behind slots : ℕ) → o ≡ Some d → IsFar o behind slots → slots ≤ SLOT_LIMIT → FitsSigned w32 d
fits_far o d behind slots e far short = by (rw e at far) where
  by : IsFar (Some d) behind slots → FitsSigned w32 d
  by (k, is, less) = rw is (small k (omega arith)) where
    small : (k : ℕ) → k ≤ SLOT_LIMIT → FitsSigned w32 (pos k)
    small k le = omega (arith, ints)

-- ==== what is known at the slot that a walk has come to holds of each run that comes there

-- what waits at a slot fits a state
pub record Arrives (layout : Layout) (w : List (List Known)) (c : Config) : Type 0 where
  pub known : Known
  pub waits : Contains (get_or w c.slot []) known
  pub fits : StateFits InStates layout known c.state

module _ (layout : Layout) (program : List Insn) (bytes : List ℕ) where
  -- behind a place without a step there is none
  none_behind : (n m : ℕ) (c d : Config) → Reaches layout program bytes n c → step layout program c ≡ None → n < m → Reaches layout program bytes m d → ⊥
  none_behind n zero c d at ends lt there = absurd (omega arith)
  none_behind n (suc m) c d at ends lt there =
      let mid = bind_some (steps layout program m (start bytes)) (step layout program) d there in
      elim (cases_lt n m) [
        | inl less ↦ none_behind n m c mid.0 at ends less mid.1
        | inr ge ↦
            let e : n ≡ m = omega arith in
            let is : c ≡ mid.0 = same_reached layout program bytes m c mid.0 (rw e at at) mid.1 in
            let both : None ≡ Some d = sym (rw is at ends) ∙ mid.2 in absurd cc
      ]

  pub arrives : (slot : ℕ) (rest : List Insn) (w : List (List Known)) (m : ℕ) (c : Config) → Walked layout program slot rest w → IsRecord layout bytes → Reaches layout program bytes m c → c.slot ≡ slot → Arrives layout w c
  arrives slot rest w m c walked is there at = by (walked.runs bytes is) where
    by : Ended layout program bytes slot ⊎ Standing layout program bytes slot rest w → Arrives layout w c
    by (inl e) =
        let p = e.past in
        let late : ¬ (e.n < m) = λ less. none_behind e.n m e.last c e.leads (exit_ends layout program e.last e.r0 e.exits) less there in
        let early : ¬ (m < e.n) = λ less. (let l = later layout program bytes m e.n c e.last less there e.leads in omega arith) in
        let q : e.n ≡ m = omega (arith, late, early) in
        let one : e.last ≡ c = same_reached layout program bytes m e.last c (let l = e.leads in rw q at l) there in
        let slots : e.last.slot ≡ c.slot = ap (λ (x : Config). x.slot) one in absurd (omega arith)
    by (inr s) =
        let a = s.ahead in
        let late : ¬ (s.n < m) = λ less. (let l = later layout program bytes s.n m s.here c less s.leads there in omega arith) in
        let early : ¬ (m < s.n) = λ less. (let b = s.before m c less there in omega arith) in
        let q : s.n ≡ m = omega (arith, late, early) in
        let one : s.here ≡ c = same_reached layout program bytes m s.here c (let l = s.leads in rw q at l) there in
        record { known = s.known; waits = rw (← one) s.waits; fits = rw (← one) s.fits }

-- ---- the loop that tells what a walk finds

module _ (layout : Layout) (program : List Insn) (slot : ℕ) (rest : List Insn) (w : List (List Known)) (walked : Walked layout program slot rest w) where
  -- one of what waits there is known of all that come
  comes : (cases : List Known) → get_or w slot [] ≡ cases → IsKnownAt layout program slot cases
  comes cases here = λ bytes n c is there at.
      let a = arrives layout program bytes slot rest w n c walked is there at in
      let waits : Contains (get_or w slot []) a.known = subst (λ (k : ℕ). Contains (get_or w k []) a.known) at a.waits in
      (a.known, subst (λ (cases : List Known). Contains cases a.known) here waits, a.fits)

  none_comes : get_or w slot [] ≡ [] → NoneComesTo layout program slot
  none_comes none = λ bytes n c is there at. let k = comes [] none bytes n c is there at in absurd (has_none k.0 k.1)

  -- or of these, whichever of them is named first
  one_comes : (before after : List Known) (known : Known) → get_or w slot [] ≡ before ++ known ∷ after → IsKnownAt layout program slot (known ∷ (before ++ after))
  one_comes before after known here = λ bytes n c is there at.
      let k = comes (before ++ known ∷ after) here bytes n c is there at in (k.0, named k.0 (middle_or_around before after known k.0 k.1), k.2) where
        named : (x : Known) → (known ≡ x) ⊎ Contains (before ++ after) x → Contains (known ∷ (before ++ after)) x
        named x (inl e) = rw (← e) (has_first known (before ++ after))
        named x (inr h) = has_later known x (before ++ after) h

-- a walk has come there, by which these slots are unreached, and it is told where it went on; so often a case may still come to
-- stand beside others
pub record Came (layout : Layout) (program : List Insn) (slot : ℕ) (rest : List Insn) (w : List (List Known)) (noted : List ℕ) (onward : List Onward) (apart : ℕ) : Type 0 where
  pub walked : HasWalked layout program slot rest w
  pub unreached : noted ≡ unreached_by walked
  pub told : IsToldOnward onward walked
  pub counted : passed_by walked + all_beside w + apart ≤ slot + 2048

-- where a walk went on stays told where more is told from the slot on that it has come to
told_more : (layout : Layout) (program : List Insn) (slot : ℕ) (rest : List Insn) (w : List (List Known)) (onward : List Onward) (at : ℕ) (here : Onward) (h : HasWalked layout program slot rest w) → slot ≤ at → IsToldOnward onward h → IsToldOnward (set onward at here) h
told_more layout program slot rest w onward at here (Begun b) low told = tt
told_more layout program slot rest w onward at here (Visited {slot = k} {i = i} before v) low (told, one) =
    let some = slots_of_bounds i in
    (told_more layout program k (i ∷ rest) _ onward at here before (omega arith) told, get_or-set_other onward at k here nowhere (λ e. omega arith) ∙ one)

-- what the loop keeps: a walk that came there, whose unreached slots it notes, to which no run comes
pub record Exploring (layout : Layout) (program : List Insn) (slot : ℕ) (rest : List Insn) (w : List (List Known)) (unreached : List ℕ) (onward : List Onward) (apart : ℕ) : Type 0 where
  pub walked : Walked layout program slot rest w
  pub fine : first_found (look_fault program) slot rest ≡ None
  pub came : Came layout program slot rest w unreached onward apart
  pub none : All (NoneComesTo layout program) unreached
  pub long : length onward ≡ slot_count program

pub begins_exploring : (layout : Layout) (program : List Insn) (w : List (List Known)) (onward : List Onward) (apart : ℕ) → 1 ≤ slot_count program → look_verdict program ≡ None → IsBegun (slot_count program) w → all_beside w + apart ≤ 2048 → length onward ≡ slot_count program
    → Exploring layout program 0 program w [] onward apart
begins_exploring layout program w onward apart some none b few long = record {
  walked = walk_start layout program w some b;
  fine = none_verdict _ none;
  came = record { walked = Begun b; unreached = refl; told = tt; counted = omega (arith, few) };
  none = λ k d lt. absurd (omega arith);
  long = long;
}

module _ (layout : Layout) (program : List Insn) (slot : ℕ) (rest : List Insn) (w : List (List Known)) (d : Insn) (some : 1 ≤ length rest) (unreached : List ℕ) (onward : List Onward) (apart : ℕ) (h : Exploring layout program slot rest w unreached onward apart) where
  abbrev pub now : Insn
  now = get_or rest 0 d

  abbrev pub others : List Insn
  others = take (length rest - 1) (drop 1 rest)

  walked_here : Walked layout program slot (now ∷ others) w
  walked_here = rw (first_rest rest d some) h.walked

  came_here : Came layout program slot (now ∷ others) w unreached onward apart
  came_here = rw (first_rest rest d some) h.came

  fine_here : (look_fault program (slot + slots_of now) now ≡ None) × (first_found (look_fault program) (slot + slots_of now) others ≡ None)
  fine_here = none_first slot (look_fault program (slot + slots_of now) now) (first_found (look_fault program) (slot + slots_of now) others) (ap (first_found (look_fault program) slot) (first_rest rest d some) ∙ h.fine)

  begins_now : begins_at program slot ≡ Some now
  begins_now = begins_here program slot now others walked_here.stands

  slot_inside : slot < slot_count program
  slot_inside = stands_inside program slot now others walked_here.stands

  pub behind_inside : slot + slots_of now ≤ slot_count program
  behind_inside =
      omega (arith, slot_inside, ap (length {A = Option Insn}) walked_here.stands.same, length-drop slot (places program), length-places program, length-places (now ∷ others), sum_by-cons slots_of now others)

  pub behind_fits : slot_count program ≤ SLOT_LIMIT → Fits w64 (slot + slots_of now)
  behind_fits short = record { fits = omega (arith, behind_inside) }

  pub writes : WritesNoR10 now
  writes = writes_low program (slot + slots_of now) now fine_here.0

  pub jumps_inside : IsFar (distance_of now) (slot + slots_of now) (slot_count program)
  jumps_inside = stays_inside program (slot + slots_of now) now fine_here.0

  pub waits_inside : slot < length w
  waits_inside = omega (arith, slot_inside, h.walked.long)

  pub told_inside : slot < length onward
  told_inside = omega (arith, slot_inside, h.long)

  noted : (cases : List Known) → get_or w slot [] ≡ cases → All (NoneComesTo layout program) (unreached ++ slot_unless slot cases)
  noted [] here = All-push (NoneComesTo layout program) unreached slot h.none (none_comes layout program slot rest w h.walked here)
  noted (known ∷ others) here = rw (append-nil unreached) h.none

  pub one_explored : (w' : List (List Known)) (apart' : ℕ) (here : Onward) (after : List ℕ) → IsVisit layout now slot w w' (Passed here) → after ≡ unreached ++ slot_unless slot (get_or w slot []) → all_beside w' + apart' + (length (get_or w slot []) - 1) ≤ all_beside w + apart
      → Exploring layout program (slot + slots_of now) others w' after (set onward slot here) apart'
  one_explored w' apart' here after v n spent = record {
    walked = passed layout program slot now others w v.0.between w' v.0.there fine_here.0 walked_here v.0.taken v.0.goes;
    fine = fine_here.1;
    came = record {
      walked = Visited came_here.walked v.0;
      unreached = n ∙ ap (λ (l : List ℕ). l ++ slot_unless slot (get_or w slot [])) came_here.unreached ∙ ap (λ (cases : List Known). unreached_by came_here.walked ++ slot_unless slot cases) v.0.taken.here;
      told = (told_more layout program slot (now ∷ others) w onward slot here came_here.walked (omega arith) came_here.told, get_or-set_same onward slot here nowhere told_inside ∙ v.1);
      counted = let there = ap (length {A = Known}) v.0.taken.here in let some = slots_of_bounds now in omega (arith, came_here.counted, spent, there);
    };
    none = rw n (noted (get_or w slot []) refl);
    long = length-set onward slot here ∙ h.long;
  }

  refusal_of : (fault : VerifyFault) → IsRefusedHere layout now slot w fault → IsRefusal layout program fault
  refusal_of fault r = record {
    slot = slot;
    wrong = r.wrong;
    is = r.is;
    insn = now;
    begins = begins_now;
    rest = others;
    waiting = w;
    walked = came_here.walked;
    short = omega (arith, came_here.counted);
    refused = r;
    runs = λ bytes is. so_far bytes (walked_here.runs bytes is);
    right = λ u. refused_right layout program slot now others w r.known walked_here waits writes u r.wrong r.refused;
    untyped = λ t. never_refused layout program t.typing t.is slot now begins_now writes r.known ((walked_here.waits slot r.known (omega arith) waits).shown (Typed t.typing t.is)) r.wrong (rw walked_here.long at r.refused);
  } where
    waits : Contains (get_or w slot []) r.known
    waits = rw r.taken.here (has_middle r.before r.after r.known)

    so_far : (bytes : List ℕ) → Ended layout program bytes slot ⊎ Standing layout program bytes slot (now ∷ others) w → ExitsWithin layout program bytes (length program) ⊎ GetsTo layout program bytes slot
    so_far bytes (inl e) = inl (exits_within layout program bytes slot e)
    so_far bytes (inr s) = inr (record { count = s.n; at = s.here; reached = s.leads; ahead = s.ahead })

  pub refused_told : (w' : List (List Known)) (refusal : Refusal) (fault : WalkFault) → IsVisit layout now slot w w' (Refused fault refusal.known refusal.others) → refusal.fault ≡ walk_fault_at fault slot → refusal.slot ≡ slot → refusal.insn ≡ now → refusal.onward.items ≡ onward → IsExplained layout program refusal
  unfolding refusal_of
  refused_told w' refusal fault v faults slots insns onwards = rw faults (record {
    refused = refusal_of (walk_fault_at fault slot) v.0;
    slot = slots;
    insn = insns;
    waits = sym v.1;
    others = v.2;
    known = rw (slots, v.2, ← v.1) (one_comes layout program slot rest w h.walked v.0.before v.0.after v.0.known v.0.taken.here);
    onward = rw onwards came_here.told;
  })

pub ends_exploring : (layout : Layout) (program : List Insn) (slot : ℕ) (rest : List Insn) (w : List (List Known)) (unreached : List ℕ) (onward : List Onward) (apart : ℕ) → length rest < 1 → Exploring layout program slot rest w unreached onward apart → IsAcceptance layout program unreached
ends_exploring layout program slot [] w unreached onward apart none h = record { safe = walk_end layout program slot w h.walked; passed = record { slot = slot; waiting = w; walked = h.came.walked; short = omega (arith, h.came.counted) }; unreached = h.came.unreached; none = h.none }
ends_exploring layout program slot (i ∷ rest) w unreached onward apart none h = absurd (omega arith)
