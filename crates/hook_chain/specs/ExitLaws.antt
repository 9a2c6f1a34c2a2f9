-- The exit that the relation of steps gives a run is the one that is found within as many steps as there are instructions.
use Rattle.std.proofs.Common.{◌≡◌, ◌↔◌, ◌+◌, ℕ, zero, suc, ◌<◌, ◌≤◌, List, length, Option, Some, None, refl, sym, ap, ◌∙◌, arith}
use Rattle.insn.specs.declared.instruction.Insn.{Insn}
use Rattle.insn.specs.declared.layout.Layout.{Layout}
use Rattle.insn.specs.Values.{◌>>=◌, Config, IsRecord, start}
use Rattle.insn.specs.Step.{step, steps, exit_at, IsExit, Safe}
use Rattle.insn.specs.RunLaws.{exit_ends, one_exit}
use Rattle.hook_chain.specs.Exits.{exit_or, exit_within, Exit, IsRunTo}

bind_some : {A B : Type 0} (o : Option A) (f : A → Option B) (b : B) → (o >>= f) ≡ Some b → (a : A) × (o ≡ Some a) × (f a ≡ Some b)
bind_some None f b e = absurd cc
bind_some (Some a) f b e = (a, refl, e)

bind_itself : {A : Type 0} (o : Option A) → (o >>= λ a. Some a) ≡ o
bind_itself None = refl
bind_itself (Some a) = refl

bind_twice : {A B C : Type 0} (o : Option A) (f : A → Option B) (g : B → Option C) → ((o >>= f) >>= g) ≡ (o >>= λ a. f a >>= g)
bind_twice None f g = refl
bind_twice (Some a) f g = refl

module _ (layout : Layout) (program : List Insn) where
  -- the first of some steps comes before the others
  first_step : (n : ℕ) (c : Config) → steps layout program (suc n) c ≡ (step layout program c >>= steps layout program n)
  first_step zero c = sym (bind_itself (step layout program c))
  first_step (suc n) c = ap (λ (o : Option Config). o >>= step layout program) (first_step n c) ∙ bind_twice (step layout program c) (steps layout program n) (step layout program)

  -- what goes on does not exit
  no_exit : (c next : Config) → step layout program c ≡ Some next → exit_at layout program c ≡ None
  no_exit c next there = by (exit_at layout program c) refl where
    by : (o : Option ℕ) → exit_at layout program c ≡ o → o ≡ None
    by None e = refl
    by (Some r) e = let none = exit_ends layout program c r e in absurd cc

  exit_found : (k n : ℕ) (c last : Config) (r0 : ℕ) → steps layout program k c ≡ Some last → exit_at layout program last ≡ Some r0 → k < n → exit_within layout program n c ≡ Some (record { r0 = r0; bytes = last.state.bytes })
  exit_found k zero c last r0 there exits few = absurd (omega arith)
  exit_found zero (suc n) c last r0 there exits few = let same : c ≡ last = cc in rw (same, exits) refl
  exit_found (suc k) (suc n) c last r0 there exits few =
      let d = bind_some (step layout program c) (steps layout program k) last (sym (first_step k c) ∙ there) in
      rw (no_exit c d.0 d.1, d.1) (exit_found k n d.0 last r0 d.2 exits (omega arith))

  -- a run exits as the relation of steps says, and no later than it may
  pub run_exit : (bytes after : List ℕ) (r0 count : ℕ) → IsExit layout program bytes r0 count after → count ≤ length program → exit_within layout program (length program) (start bytes) ≡ Some (record { r0 = r0; bytes = after })
  run_exit bytes after r0 count exit few =
      let counted = exit.counted in
      exit_found exit.before (length program) (start bytes) exit.last r0 exit.reached exit.exits (omega arith) ∙ ap (λ (l : List ℕ). Some (record { r0 = r0; bytes = l })) exit.left

  -- an exit that is found lies at the end of some steps
  record Found (c : Config) (exit : Exit) : Type 0 where
    before : ℕ
    last : Config
    reached : steps layout program before c ≡ Some last
    exits : exit_at layout program last ≡ Some exit.r0
    left : last.state.bytes ≡ exit.bytes

  found : (n : ℕ) (c : Config) (exit : Exit) → exit_within layout program n c ≡ Some exit → Found c exit
  found zero c exit is = absurd cc
  found (suc n) c exit is = go (exit_at layout program c) refl is (found n) where
    go : (o : Option ℕ) → exit_at layout program c ≡ o → exit_or o c.state.bytes (step layout program c >>= exit_within layout program n) ≡ Some exit
        → ((d : Config) (exit : Exit) → exit_within layout program n d ≡ Some exit → Found d exit) → Found c exit
    go (Some r0) here is ahead =
        let same : record { r0 = r0; bytes = c.state.bytes } ≡ exit = cc in
        record { before = 0; last = c; reached = refl; exits = rw (← same) here; left = rw (← same) refl }
    go None here is ahead =
        let d = bind_some (step layout program c) (exit_within layout program n) exit is in
        let later = ahead d.0 exit d.2 in
        record {
          before = suc later.before;
          last = later.last;
          reached = first_step later.before c ∙ ap (λ (o : Option Config). o >>= steps layout program later.before) d.1 ∙ later.reached;
          exits = later.exits;
          left = later.left;
        }

  run_of_exit : (bytes : List ℕ) (exit : Exit) → exit_within layout program (length program) (start bytes) ≡ Some exit → IsRunTo layout program bytes exit
  run_of_exit bytes exit is =
      let it = found (length program) (start bytes) exit is in
      record { count = it.before + 1; run = record { before = it.before; last = it.last; counted = refl; reached = it.reached; exits = it.exits; left = it.left } }

  exit_of_run : (bytes : List ℕ) (exit : Exit) → IsRecord layout bytes → Safe layout program → IsRunTo layout program bytes exit → exit_within layout program (length program) (start bytes) ≡ Some exit
  exit_of_run bytes exit fits safe is =
      let other = safe.exits bytes fits in
      let same = (one_exit layout program bytes is.run other.exit).1 in
      run_exit bytes exit.bytes exit.r0 is.count is.run (let few = other.few in omega (arith, same))

-- of a safe program, the exit that is found is the one that the relation of steps gives
pub exits_are_runs : (layout : Layout) (program : List Insn) (bytes : List ℕ) (exit : Exit) → IsRecord layout bytes → Safe layout program
    → exit_within layout program (length program) (start bytes) ≡ Some exit ↔ IsRunTo layout program bytes exit
exits_are_runs layout program bytes exit fits safe = (run_of_exit layout program bytes exit, exit_of_run layout program bytes exit fits safe)
