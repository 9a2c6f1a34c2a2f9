-- The changes at a place and behind it.
use Rattle.std.proofs.Common.{◌≡◌, ◌≤◌, ◌<◌, ◌+◌, ◌-◌, ◌∙◌, ℕ, List, [], ◌∷◌, ◌++◌, length, take, drop, get_or, map, sym, ap, append_assoc, arith}
use Rattle.std.specs.List.{slice_range}
use Rattle.state_keeper.proofs.Names.{DatedChange, Event, dated_fact, dated_facts, map-append}
use Rattle.std.proofs.lemmas.List.{drop_more, take_more}

-- one more stands behind
pub mapped_behind : {A B : Type 0} (f : A → B) (front : List B) (i : ℕ) (xs : List A) (x : A) → i < length xs → x ≡ get_or xs i x →
    front ++ map f (take (i + 1) xs) ≡ (front ++ map f (take i xs)) ++ f x ∷ []
mapped_behind {A} {B} f front i xs x less is =
    ap (λ (some : List A). front ++ map f some) (take_more xs i x less ∙ ap (λ (y : A). take i xs ++ y ∷ []) (sym is))
    ∙ ap (λ (some : List B). front ++ some) (map-append f (take i xs) (x ∷ [])) ∙ sym (append_assoc front (map f (take i xs)) (f x ∷ []))

-- a change more
pub facts_behind : (events : List Event) (i : ℕ) (ds : List DatedChange) (d : DatedChange) → i < length ds → d ≡ get_or ds i d →
    events ++ dated_facts (take (i + 1) ds) ≡ (events ++ dated_facts (take i ds)) ++ dated_fact d ∷ []
facts_behind events i ds d less is = mapped_behind dated_fact events i ds d less is

-- the changes from one place before on
pub drop_before : (i : ℕ) (ds : List DatedChange) (d : DatedChange) → 0 < i → i ≤ length ds → d ≡ get_or ds (i - 1) d → drop (i - 1) ds ≡ d ∷ drop i ds
drop_before i ds d pos le is =
    let same : i - 1 + 1 ≡ i = omega (arith, pos) in
    drop_more ds (i - 1) d (omega (arith, pos, le)) ∙ ap (λ (x : DatedChange). x ∷ drop (i - 1 + 1) ds) (sym is) ∙ ap (λ (n : ℕ). d ∷ drop n ds) same

-- the change there, and the others behind it
pub record IsAt (i : ℕ) (ds : List DatedChange) (d : DatedChange) : Type 0 where
  pub front : drop i ds ≡ d ∷ drop (i + 1) ds
  pub alone : slice_range ds i (i + 1) ≡ d ∷ []

pub one_at : (i : ℕ) (ds : List DatedChange) → i < length ds → (d : DatedChange) × IsAt i ds d
one_at i [] less = absurd (omega (arith, less))
one_at i (x ∷ xs) less =
    let one : i + 1 - i ≡ 1 = omega arith in
    let front = drop_more (x ∷ xs) i x less in
    (get_or (x ∷ xs) i x, record { front = front; alone = ap (λ (n : ℕ). take n (drop i (x ∷ xs))) one ∙ ap (take 1) front })
