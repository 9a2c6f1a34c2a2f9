-- The changes at a place and behind it.
use Rattle.std.proofs.Common.{◌≡◌, ◌≤◌, ◌<◌, ℕ, ◌+◌, ◌-◌, List, [], ◌∷◌, ap, sym, ◌∙◌, arith, take, drop, length}
use Rattle.std.specs.Prelude.{get_or}
use Rattle.std.specs.List.{slice_range}
use Rattle.std.proofs.lemmas.List.{drop_more}
use Rattle.change_codec.specs.declared.dated.DatedChange.{DatedChange}

-- the changes from one place before on
pub drop_before : (i : ℕ) (ds : List DatedChange) (d : DatedChange) → 0 < i → i ≤ length ds → d ≡ get_or ds (i - 1) d → drop (i - 1) ds ≡ d ∷ drop i ds
drop_before i ds d pos le is =
    let same : i - 1 + 1 ≡ i = omega (arith, pos) in
    drop_more ds (i - 1) d (omega (arith, pos, le)) ∙ ap (λ x. x ∷ drop (i - 1 + 1) ds) (sym is) ∙ ap (λ n. d ∷ drop n ds) same

-- the change there, and the others behind it
pub record IsAt (i : ℕ) (ds : List DatedChange) (d : DatedChange) : Type 0 where
  pub front : drop i ds ≡ d ∷ drop (i + 1) ds
  pub alone : slice_range ds i (i + 1) ≡ d ∷ []

pub one_at : (i : ℕ) (ds : List DatedChange) → i < length ds → (d : DatedChange) × IsAt i ds d
one_at i [] lt = absurd (omega (arith, lt))
one_at i (x ∷ xs) lt =
    let one : i + 1 - i ≡ 1 = omega arith in
    let front = drop_more (x ∷ xs) i x lt in
    (get_or (x ∷ xs) i x, record { front = front; alone = ap (λ n. take n (drop i (x ∷ xs))) one ∙ ap (take 1) front })
