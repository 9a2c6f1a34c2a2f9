-- What is left of a write is what stood there before, or all of it.
use Rattle.std.proofs.Common.{◌≡◌, inl, inr, ◌≤◌, ◌+◌, ◌++◌, ◌∙◌, ℕ, List, [], length, length-append, drop, take, append_assoc, append-nil, refl, sym, ap, subst, arith}
use Rattle.std.proofs.lemmas.List.{drop_all, drop_at, length-drop, length-take-le, take_all, take_at}
use Rattle.std.proofs.Math.Seq.{drop-append-add}
use Rattle.batch_file.specs.Crashes.{IsWrittenAt}
use Rattle.batch_file.specs.Frames.{recovered}
use Rattle.batch_file.specs.Tears.{Torn}

-- nothing was written
pub torn_none : (at : ℕ) (bytes old : List ℕ) → Torn at bytes old old
torn_none at bytes old = record {
  before = refl;
  after = refl;
  no_shorter = omega arith;
  no_longer = omega arith;
  no_chance = λ behind. record { made = inl ([], sym (append-nil (recovered old))); hidden = λ h. inl h };
}

-- all of it was
written_all : (at : ℕ) (bytes old : List ℕ) → at ≤ length old → Torn at bytes old (take at old ++ bytes ++ drop (at + length bytes) old)
written_all at bytes old within =
    let front = length-take-le at old within in
    let rest : List ℕ = drop (at + length bytes) old in
    let behind = length-drop (at + length bytes) old in
    let both = length-append (take at old) (bytes ++ rest) in
    let late = length-append bytes rest in
    let whole : take at old ++ bytes ++ rest ≡ take at old ++ (bytes ++ rest) = append_assoc (take at old) bytes rest in
    let sizes = ap (λ (l : List ℕ). length l) whole in
    record {
      before = ap (λ (l : List ℕ). take at l) whole ∙ take_at (take at old) (bytes ++ rest) at front;
      after = (let far : length (take at old) + length bytes ≡ at + length bytes = omega (arith, front) in
          ap (λ (l : List ℕ). drop (at + length bytes) l) whole
          ∙ ap (λ (n : ℕ). drop n (take at old ++ (bytes ++ rest))) (sym far)
          ∙ drop-append-add (take at old) (bytes ++ rest) (length bytes) ∙ drop_at bytes rest (length bytes) refl);
      no_shorter = omega (arith, both, late, behind, front, sizes, within);
      no_longer = omega (arith, both, late, behind, front, sizes, within);
      no_chance = λ after. record { made = inr ([], sym (append-nil (recovered (take at old ++ bytes ++ rest)))); hidden = λ h. inr h };
    }

pub torn_whole : (at : ℕ) (bytes old new : List ℕ) → at ≤ length old → IsWrittenAt old at bytes new → Torn at bytes old new
torn_whole at bytes old new within is = subst (λ (l : List ℕ). Torn at bytes old l) (sym is) (written_all at bytes old within)

-- behind all that stood there
pub torn_behind : (old bytes new : List ℕ) → new ≡ old ++ bytes → Torn (length old) bytes old new
torn_behind old bytes new is =
    torn_whole (length old) bytes old new (omega arith) (
    is
    ∙ ap (λ (l : List ℕ). l ++ bytes) (sym (take_all (length old) old (omega arith)))
    ∙ ap (λ (l : List ℕ). take (length old) old ++ l) (sym (append-nil bytes))
    ∙ ap (λ (l : List ℕ). take (length old) old ++ (bytes ++ l)) (sym (drop_all (length old + length bytes) old (omega arith)))
    ∙ sym (append_assoc (take (length old) old) bytes (drop (length old + length bytes) old))
    )
