-- Steps and runs: the page's are those of insn.
use Rattle.std.proofs.Common.{◌≡◌, ℕ, zero, suc, ◌+◌, ◌-◌, List, length, Option, Some, None, refl, sym, ap, ◌∙◌, arith, add-one, zero-add, subst}
use Rattle.std.specs.Prelude.{IfSome, IsTrue, is_some, slice_get, option_map, count_by}
use Rattle.std.specs.List.{flat_map, AllByRecursion}
use Rattle.hook_page.proofs.Names.{Insn, Layout, Record}
use Rattle.insn.specs.Instruction.{Fits, slots_of}
use Rattle.insn.specs.Program.{begins_at}
use Rattle.insn.specs.Values as code
use Rattle.insn.specs.Values.{State, Config}
use Rattle.insn.specs.Effects.{Effect, Falls, Jumps, Exits}
use Rattle.insn.specs.Jumps.{target}
use Rattle.insn.specs.Outcomes.{effect}
use Rattle.insn.specs.Step.{lead, answer_in, step, steps, exit_at, ExitsWithin, IsExit}
use Rattle.encoding.specs.declared.slot.Slot.{Slot}
use Rattle.encoding.specs.Spelling.{slots}
use Rattle.hook_page.specs.Hooks as page
use Rattle.hook_page.specs.Hooks.{◌>>=◌, Next, Goes}
use Rattle.hook_page.specs.Tied.{AreAlike, StepsAreAlike, SafeIsSafe, ExitsAreAlike}
use Rattle.hook_page.proofs.Parts.{size_is}
use Rattle.hook_page.proofs.Bytes.{spelled_back}
use Rattle.hook_page.proofs.Places.{IsFound, found, fits_at, is_first, counted}
use Rattle.hook_page.proofs.Steps.{led, effect_is}

module _ (layout : Layout) (program : List Insn) (fit : AllByRecursion Fits program) where
  -- where the program goes on from here, or exits
  abbrev next : Config → Option Next
  next c = begins_at program c.slot >>= λ i. effect layout i c.state >>= led layout program c (c.slot + slots_of i)

  step_is : (c : Config) → page.step layout (flat_map slots program) c ≡ next c
  step_is c = by (begins_at program c.slot) (slice_get (flat_map slots program) c.slot) (found program c.slot) (fits_at program c.slot fit) where
    by : (o : Option Insn) (here : Option Slot) → IsFound o here (slice_get (flat_map slots program) (suc c.slot)) → IfSome o Fits →
        (here >>= λ i. page.effect layout (flat_map slots program) i c) ≡ (o >>= λ i. effect layout i c.state >>= led layout program c (c.slot + slots_of i))
    by None None is f = refl
    by None (Some x) is f = rw is refl
    by (Some i) here is f = rw (is.0) (effect_is layout program c i f (rw add-one is.1))

  pub alike : (c : Config) → AreAlike (page.step layout (flat_map slots program) c) (step layout program c) (exit_at layout program c)
  alike c = rw (step_is c) (by (begins_at program c.slot)) where
    of_target : (s : State) (o : Option ℕ) → AreAlike (option_map (λ (to : ℕ). Goes (record { slot = to; state = s })) o) (code.◌>>=◌ o (λ (to : ℕ). Some (record { slot = to; state = s }))) None
    of_target s None = (refl, refl)
    of_target s (Some to) = (refl, refl)

    of_effect : (behind : ℕ) (o : Option Effect) → AreAlike (o >>= led layout program c behind) (code.◌>>=◌ o (lead program behind)) (code.◌>>=◌ o answer_in)
    of_effect behind None = (refl, refl)
    of_effect behind (Some (Falls s)) = (refl, refl)
    of_effect behind (Some (Jumps d s)) = of_target s (target program behind d)
    of_effect behind (Some (Exits r0)) = (refl, refl)

    by : (o : Option Insn) → AreAlike (o >>= λ i. effect layout i c.state >>= led layout program c (c.slot + slots_of i))
        (code.◌>>=◌ o (λ i. code.◌>>=◌ (effect layout i c.state) (lead program (c.slot + slots_of i)))) (code.◌>>=◌ o (λ i. code.◌>>=◌ (effect layout i c.state) answer_in))
    by None = (refl, refl)
    by (Some i) = of_effect (c.slot + slots_of i) (effect layout i c.state)

  -- ---- runs

  abbrev within : ℕ → Config → Option (ℕ × State)
  within n c = page.exit_within layout (flat_map slots program) n c

  abbrev ended : ℕ → Config → Option Next → Option (ℕ × State)
  ended n c o = elim o as (λ _. Option (ℕ × State)) [
    | None ↦ None
    | Some next ↦ elim next as (λ _. Option (ℕ × State)) [ Goes later ↦ within n later | page.Exits r0 ↦ Some (r0, c.state) ]
  ]

  goes_as : (o : Option Next) (s : Option Config) (e : Option ℕ) (later : Config) → AreAlike o s e → s ≡ Some later → o ≡ Some (Goes later)
  goes_as None s e later is h = let none = is.0 in absurd cc
  goes_as (Some (Goes d)) s e later is h = let some = is.0 in let same : d ≡ later = cc in ap (λ (x : Config). Some (Goes x)) same
  goes_as (Some (page.Exits r)) s e later is h = let none = is.0 in absurd cc

  exits_as : (o : Option Next) (s : Option Config) (e : Option ℕ) (r0 : ℕ) → AreAlike o s e → e ≡ Some r0 → o ≡ Some (page.Exits r0)
  exits_as None s e r0 is h = let none = is.1 in absurd cc
  exits_as (Some (Goes d)) s e r0 is h = let none = is.1 in absurd cc
  exits_as (Some (page.Exits r)) s e r0 is h = let some = is.1 in let same : r ≡ r0 = cc in ap (λ (x : ℕ). Some (page.Exits x)) same

  one_more : (n : ℕ) (c later : Config) → step layout program c ≡ Some later → within (suc n) c ≡ within n later
  one_more n c later h = ap (ended n c) (goes_as _ _ _ later (alike c) h)

  exits_here : (n : ℕ) (c : Config) (r0 : ℕ) → exit_at layout program c ≡ Some r0 → within (suc n) c ≡ Some (r0, c.state)
  exits_here n c r0 h = ap (ended n c) (exits_as _ _ _ r0 (alike c) h)

  runs : (n m : ℕ) (from c : Config) → steps layout program n from ≡ Some c → within (n + m) from ≡ within m c
  runs zero m from c e = let same : from ≡ c = cc in rw (zero-add, same) refl
  runs (suc n) m from c e = by (steps layout program n from) refl (λ (d : Config) (h : steps layout program n from ≡ Some d). runs n (suc m) from d h) where
    by : (o : Option Config) → steps layout program n from ≡ o → ((d : Config) → steps layout program n from ≡ Some d → within (n + suc m) from ≡ within (suc m) d) → within (suc n + m) from ≡ within m c
    by None g before = let gone = rw g at e in absurd cc
    by (Some d) g before =
        let last : step layout program d ≡ Some c = rw g at e in
        let k : suc n + m ≡ n + suc m = omega arith in
        ap (λ (x : ℕ). within x from) k ∙ before d g ∙ one_more m d c last

  safe_so : (bytes : List ℕ) → ExitsWithin layout program bytes (length program) → IsTrue (is_some (within (length program) (page.start bytes)))
  safe_so bytes it =
      let ends = it.exit in
      let counted = ends.counted in
      let few = it.few in
      let k : length program ≡ ends.before + suc (length program - it.count) = omega arith in
      let run = runs ends.before (suc (length program - it.count)) (code.start bytes) ends.last ends.reached in
      let whole = ap (λ (x : ℕ). within x (code.start bytes)) k ∙ run ∙ exits_here (length program - it.count) ends.last it.r0 ends.exits in
      ap is_some whole

  ends_so : (bytes after : List ℕ) (r0 count : ℕ) → IsExit layout program bytes r0 count after → (s : State) × (within count (page.start bytes) ≡ Some (r0, s)) × (s.bytes ≡ after)
  ends_so bytes after r0 count it =
      let run = runs it.before 1 (code.start bytes) it.last it.reached in
      (it.last.state, ap (λ (x : ℕ). within x (code.start bytes)) it.counted ∙ run ∙ exits_here 0 it.last r0 it.exits, it.left)

pub steps_are_alike : StepsAreAlike
steps_are_alike layout program c fit = alike layout program fit c

safe_slots : (layout : Layout) (program : List Insn) (bytes : List ℕ) → AllByRecursion Fits program → ExitsWithin layout program bytes (length program) →
    IsTrue (is_some (page.exit_within layout (flat_map slots program) (count_by is_first (flat_map slots program)) (page.start bytes)))
safe_slots layout program bytes fit it =
    subst (λ (n : ℕ). IsTrue (is_some (page.exit_within layout (flat_map slots program) n (page.start bytes)))) (sym (counted program)) (safe_so layout program fit bytes it)

pub safe_is_safe : SafeIsSafe
safe_is_safe layout program code_bytes spells is bytes long fits =
    let it = is.exits bytes (record { long = long ∙ size_is layout Record; fits = fits }) in
    subst (λ (slots_there : List Slot). IsTrue (is_some (page.exit_within layout slots_there (count_by is_first slots_there) (page.start bytes))))
    (sym (spelled_back code_bytes program spells)) (safe_slots layout program bytes spells.fit it)

pub exits_are_alike : ExitsAreAlike
exits_are_alike layout program code_bytes bytes after r0 count spells it =
    subst (λ (slots_there : List Slot). (s : State) × (page.exit_within layout slots_there count (page.start bytes) ≡ Some (r0, s)) × (s.bytes ≡ after))
    (sym (spelled_back code_bytes program spells)) (ends_so layout program spells.fit bytes after r0 count it)
