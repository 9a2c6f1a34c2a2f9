-- A run whose steps are told, up to the one that comes next.
use Rattle.std.proofs.Common.{◌≡◌, ℕ, zero, suc, ◌+◌, ◌-◌, ◌<◌, ◌≤◌, ℤ, List, [], ◌∷◌, ◌++◌, length, take, drop, get_or, Some, None, refl, sym, ap, ◌∙◌, arith, inl, inr, length-append}
use Rattle.machine.proofs.Names.{Insn, Layout, slots_of, places, ◌>>=◌, State, Config, start, Falls, Jumps, Exits, target, effect, steps, Reaches, IsExit}
use Rattle.std.proofs.lemmas.Bool.{cases_lt}
use Rattle.std.specs.Prelude.{slice_get}
use Rattle.machine.specs.declared.trace.Traced.{Traced}
use Rattle.machine.specs.Trace.{AreSteps, traced_at, written_value}
use Rattle.machine.proofs.Runs.{IsAt, at_entry, begins, exits, falls, jumps}

-- n steps lead here, and each was told
pub record IsToldAt (layout : Layout) (program : List Insn) (bytes : List ℕ) (slot : ℕ) (rest : List Insn) (s : State) (told : List Traced) : Type 0 where
  pub at : IsAt layout program bytes slot (length told) rest s
  pub so_far : AreSteps layout program bytes told

pub told_at_entry : (layout : Layout) (program : List Insn) (bytes : List ℕ) → IsToldAt layout program bytes 0 program (start bytes).state []
told_at_entry layout program bytes = record { at = at_entry layout program bytes; so_far = λ k less. absurd (omega arith) }

slice_get-before : {A : Type 0} (xs : List A) (x : A) (k : ℕ) → k < length xs → slice_get (xs ++ x ∷ []) k ≡ slice_get xs k
slice_get-before [] x k less = absurd (omega arith)
slice_get-before (y ∷ xs) x zero less = refl
slice_get-before (y ∷ xs) x (suc k) less = slice_get-before xs x k (omega arith)

slice_get-last : {A : Type 0} (xs : List A) (x : A) → slice_get (xs ++ x ∷ []) (length xs) ≡ Some x
slice_get-last [] x = refl
slice_get-last (y ∷ xs) x = slice_get-last xs x

-- one more step is told
pub one_told : (layout : Layout) (program : List Insn) (bytes : List ℕ) (told : List Traced) (t : Traced) (c : Config)
    → AreSteps layout program bytes told → Reaches layout program bytes (length told) c → traced_at layout program c ≡ Some t → AreSteps layout program bytes (told ++ t ∷ [])
one_told layout program bytes told t c so_far reached is = λ k less. elim (cases_lt k (length told)) [
  | inl before ↦ slice_get-before told t k before ∙ so_far k before
  | inr after ↦
      let last : k ≡ length told = omega (arith, length-append told (t ∷ [])) in
      let here : (steps layout program (length told) (start bytes) >>= traced_at layout program) ≡ Some t = rw reached is in
      ap (λ (j : ℕ). slice_get (told ++ t ∷ []) j) last ∙ slice_get-last told t ∙ sym here
      ∙ ap (λ (j : ℕ). steps layout program j (start bytes) >>= traced_at layout program) (sym last)
]

module _ (layout : Layout) (program : List Insn) (bytes : List ℕ) (slot : ℕ) (rest : List Insn) (s : State) (told : List Traced) (d : Insn) (some : 1 ≤ length rest) (h : IsToldAt layout program bytes slot rest s told) where
  abbrev pub now : Insn
  now = get_or rest 0 d

  abbrev pub later : List Insn
  later = take (length rest - 1) (drop 1 rest)

  longer : (t : Traced) (after : List Traced) → after ≡ told ++ t ∷ [] → length told + 1 ≡ length after
  longer t after e = rw e (omega (arith, length-append told (t ∷ [])))

  more : (t : Traced) (after : List Traced) → after ≡ told ++ t ∷ [] → traced_at layout program (record { slot = slot; state = s }) ≡ Some t → AreSteps layout program bytes after
  more t after e is = rw e (one_told layout program bytes told t (record { slot = slot; state = s }) h.so_far h.at.reached is)

  -- goes on behind the instruction
  pub told_falls : (s' : State) (after : List Traced) → effect layout now s ≡ Some (Falls s') → after ≡ told ++ record { slot = slot; insn = now; written = written_value now s'.registers } ∷ [] → IsToldAt layout program bytes (slot + slots_of now) later s' after
  told_falls s' after e is = record {
    at = rw (← longer _ after is) (falls d some h.at s' e);
    so_far = more _ after is (rw (begins d some h.at, e) refl);
  }

  -- goes on where a jump leads
  pub told_jumps : (k : ℤ) (s' : State) (passed : ℕ) (there : List Insn) (after : List Traced) → effect layout now s ≡ Some (Jumps k s') → Some passed ≡ target later 0 k → places there ≡ drop passed (places later)
      → after ≡ told ++ record { slot = slot; insn = now; written = None } ∷ [] → IsToldAt layout program bytes (slot + slots_of now + passed) there s' after
  told_jumps k s' passed there after e t p is = record {
    at = rw (← longer _ after is) (jumps d some h.at k s' passed there e t p);
    so_far = more _ after is (rw (begins d some h.at, e) refl);
  }

  -- the exit is told, and is the last
  pub told_exits : (r0 : ℕ) (left : State) (after : List Traced) → effect layout now s ≡ Some (Exits r0) → left ≡ s → after ≡ told ++ record { slot = slot; insn = now; written = None } ∷ []
      → IsExit layout program bytes r0 (length after) left.bytes × AreSteps layout program bytes after
  told_exits r0 left after e same is =
      (rw (← longer _ after is) (exits d some h.at r0 left e same), more _ after is (rw (begins d some h.at, e) refl))
