-- What is found and counted in what is left of a list.
use Rattle.std.proofs.Common.{◌≡◌, ◌≤◌, ℕ, ◌+◌, List, [], ◌∷◌, Option, Some, None, Bool, true, false, cond, refl, ap, ◌∙◌, sym, arith}
use Rattle.std.specs.Prelude.{find, count_by, option_map, ◌&&◌}
use Rattle.std.specs.List.{filter_map, cons_option, list_all}
use Rattle.std.specs.Str.{bytes_eq}
use Rattle.std.proofs.lemmas.Slice.Eq.{bytes_eq-Decides}
use Rattle.consent.specs.ListLaws.{find-passes, count_by-cons, find-uncounted, count_by-narrower}

-- there is one, and it passes the test
abbrev pub passes : {Y : Type 0} → (Y → Bool) → Option Y → Bool
passes q None = false
passes q (Some y) = q y

-- it, if it passes the test
abbrev pub if_passes : {Y : Type 0} → (Y → Bool) → Option Y → Option Y
if_passes q None = None
if_passes q (Some y) = cond (q y) (Some y) None

-- what is left of what was found, if that passes the test
abbrev pub left_found : {X Y : Type 0} → (X → Option Y) → (Y → Bool) → Option X → Option Y
left_found left q None = None
left_found left q (Some x) = if_passes q (left x)

module _ {X Y : Type 0} (left : X → Option Y) where
  count_option : (q : Y → Bool) (o : Option Y) (ys : List Y) → count_by q (cons_option o ys) ≡ cond {A = ℕ} (passes q o) 1 0 + count_by q ys
  count_option q None ys = omega arith
  count_option q (Some y) ys = count_by-cons q y ys

  -- a count of what is left is one of what was there
  pub count_by-left : (q : Y → Bool) (xs : List X) → count_by q (filter_map left xs) ≡ count_by (λ x. passes q (left x)) xs
  count_by-left q [] = refl
  count_by-left q (x ∷ xs) =
      let here = count_option q (left x) (filter_map left xs) in
      let all = count_by-cons (λ y. passes q (left y)) x xs in
      let more = count_by-left q xs in omega (arith, here, all, more)

  -- all that is left pass a test
  pub list_all-left : (p : X → Bool) (q : Y → Bool) (xs : List X) → ((x : X) (y : Y) → p x ≡ true → left x ≡ Some y → q y ≡ true) →
      list_all p xs ≡ true → list_all q (filter_map left xs) ≡ true
  list_all-left p q [] pass all = refl
  list_all-left p q (x ∷ xs) pass all =
      let here = pass x in let more = list_all-left p q xs pass in grind (arith, here, more, all)

  -- where at most one passes a wider test, what is found is what is left of it
  pub find-left : (p : X → Bool) (q : Y → Bool) (xs : List X) → ((x : X) → passes q (left x) ≡ true → p x ≡ true) → count_by p xs ≤ 1 →
      find q (filter_map left xs) ≡ left_found left q (find p xs)
  find-left p q [] wide le = refl
  find-left p q (x ∷ xs) wide le =
      let c = count_by-cons p x xs in
      let same = count_by-left q xs in
      let fewer = count_by-narrower p (λ y. passes q (left y)) xs wide in
      let none = find-uncounted q (filter_map left xs) in
      let here = wide x in
      let more = find-left p q xs wide in grind (arith, c, same, fewer, none, here, more, le)

  -- where nothing passes the wider test nothing is found
  pub find_left-none : (p : X → Bool) (q : Y → Bool) → ((x : X) → passes q (left x) ≡ true → p x ≡ true) → (xs : List X) → find p xs ≡ None →
      find q (filter_map left xs) ≡ None
  find_left-none p q wide [] none = refl
  find_left-none p q wide (x ∷ xs) none = let here = wide x in let more = find_left-none p q wide xs in grind (arith, here, more, none)

-- The same, where all that passes the test is left.
module _ {X : Type 0} (left : X → Option X) (kept : X → X) (p : X → Bool) (stays : (x : X) → p x ≡ true → left x ≡ Some (kept x))
    (same : (x y : X) → left x ≡ Some y → p y ≡ p x) where
  pub find-kept : (xs : List X) → find p (filter_map left xs) ≡ option_map kept (find p xs)
  find-kept [] = refl
  find-kept (x ∷ xs) =
      let here = stays x in let alike = same x in let more = find-kept xs in grind (arith, here, alike, more)

-- LISTS THAT TELL THE SAME

-- the list without the first that passes
abbrev pub without_first : {X : Type 0} → (X → Bool) → List X → List X
without_first p [] = []
without_first p (x ∷ xs) = cond (p x) xs (x ∷ without_first p xs)

module _ {X : Type 0} where
  count-without : (r p : X → Bool) (xs : List X) (x : X) → find p xs ≡ Some x →
      count_by r xs ≡ cond {A = ℕ} (r x) 1 0 + count_by r (without_first p xs)
  count-without r p [] x at = cc
  count-without r p (y ∷ ys) x at =
      let a = count_by-cons r y ys in let b = count_by-cons r y (without_first p ys) in
      let more = count-without r p ys x in grind (arith, a, b, more, at)

  -- one that the other test rules out is not missed
  find-without_other : (r p : X → Bool) (xs : List X) → ((x : X) → p x ≡ true → r x ≡ false) → find r (without_first p xs) ≡ find r xs
  find-without_other r p [] out = refl
  find-without_other r p (y ∷ ys) out =
      let here = out y in let more = find-without_other r p ys out in grind (arith, here, more)

-- Two lists tell the same of each key, and nothing twice: then what can be told of it is counted alike.
module _ {X Y : Type 0} (key_x : X → List ℕ) (live_x : X → Bool) (key_y : Y → List ℕ) (live_y : Y → Bool) (told : List ℕ → Y → X)
    (count_x : X → Bool) (count_y : Y → Bool) where
  abbrev pub here_x : List ℕ → X → Bool
  here_x key x = bytes_eq key (key_x x) && live_x x

  abbrev pub here_y : List ℕ → Y → Bool
  here_y key y = bytes_eq key (key_y y) && live_y y

  -- what is counted of them
  pub record Counts : Type 0 where
    pub live_only_x : (x : X) → count_x x ≡ true → live_x x ≡ true
    pub live_only_y : (y : Y) → count_y y ≡ true → live_y y ≡ true

  -- so the lists tell, and what is found of the one is counted as in the other
  pub record TellAlike (xs : List X) (ys : List Y) : Type 0 where
    pub finds : (key : List ℕ) → find (here_x key) xs ≡ option_map (told key) (find (here_y key) ys)
    pub once_x : (key : List ℕ) → count_by (here_x key) xs ≤ 1
    pub once_y : (key : List ℕ) → count_by (here_y key) ys ≤ 1
    pub counted : (key : List ℕ) (y : Y) → find (here_y key) ys ≡ Some y → count_x (told key y) ≡ count_y y

  self : (key : List ℕ) → bytes_eq key key ≡ true
  self key = (bytes_eq-Decides key key).1 refl

  none_live : Counts → (xs : List X) → ((key : List ℕ) → find (here_x key) xs ≡ None) → count_by count_x xs ≡ 0
  none_live only [] none = refl
  none_live only (x ∷ xs) none =
      let c = count_by-cons count_x x xs in
      let live = only.live_only_x x in
      let own = self (key_x x) in
      let here = none (key_x x) in
      let more = none_live only xs (λ key. let there = none key in grind (arith, there)) in grind (arith, c, live, own, here, more)

  -- what the first of the one list is told by in the other
  first_told : (xs : List X) (y : Y) (ys : List Y) → live_y y ≡ true → TellAlike xs (y ∷ ys) → find (here_x (key_y y)) xs ≡ Some (told (key_y y) y)
  first_told xs y ys live alike =
      let own = self (key_y y) in let first = alike.finds (key_y y) in grind (arith, own, first, live)

  -- the first of the key is let go of in the one list, and stands first in the other
  rest_alike : (xs : List X) (y : Y) (ys : List Y) → live_y y ≡ true → TellAlike xs (y ∷ ys) → TellAlike (without_first (here_x (key_y y)) xs) ys
  rest_alike xs y ys live alike = record {
    finds = λ key. finds key (bytes_eq key (key_y y)) refl;
    once_x = λ key. (let c = fewer key in let o = alike.once_x key in omega (arith, c, o));
    once_y = λ key. (let c = count_by-cons (here_y key) y ys in let o = alike.once_y key in omega (arith, c, o));
    counted = λ key z at. (let gone = gone_y key in alike.counted key z (grind (arith, gone, at)));
  }
    where
      fewer : (key : List ℕ) → count_by (here_x key) xs
          ≡ cond {A = ℕ} (here_x key (told (key_y y) y)) 1 0 + count_by (here_x key) (without_first (here_x (key_y y)) xs)
      fewer key = count-without (here_x key) (here_x (key_y y)) xs _ (first_told xs y ys live alike)

      -- nothing else has its key
      gone_y : (key : List ℕ) → bytes_eq key (key_y y) ≡ true → find (here_y key) ys ≡ None
      gone_y key is =
          let c = count_by-cons (here_y key) y ys in let o = alike.once_y key in
          let none = find-uncounted (here_y key) ys in grind (arith, c, o, none, is, live)

      gone_x : (key : List ℕ) → bytes_eq key (key_y y) ≡ true → find (here_x key) (without_first (here_x (key_y y)) xs) ≡ None
      gone_x key is =
          let c = fewer key in let o = alike.once_x key in
          let passes_it = find-passes (here_x (key_y y)) xs _ (first_told xs y ys live alike) in
          let same = (bytes_eq-Decides key (key_y y)).0 is in
          let none = find-uncounted (here_x key) (without_first (here_x (key_y y)) xs) in grind (arith, c, o, passes_it, same, none)

      finds : (key : List ℕ) (b : Bool) → bytes_eq key (key_y y) ≡ b →
          find (here_x key) (without_first (here_x (key_y y)) xs) ≡ option_map (told key) (find (here_y key) ys)
      finds key true is = gone_x key is ∙ sym (ap (option_map (told key)) (gone_y key is))
      finds key false is =
          let without = find-without_other (here_x key) (here_x (key_y y)) xs
          (λ x here. let same = (bytes_eq-Decides (key_y y) (key_x x)).0 in grind (arith, same, here, is)) in
          let all = alike.finds key in grind (arith, without, all, is)

  pub counts-alike : Counts → (xs : List X) (ys : List Y) → TellAlike xs ys → count_by count_x xs ≡ count_by count_y ys
  counts-alike only xs [] alike = none_live only xs alike.finds
  counts-alike only xs (y ∷ ys) alike = step (λ xs. counts-alike only xs ys) (live_y y) refl
    where
      step : ((xs : List X) → TellAlike xs ys → count_by count_x xs ≡ count_by count_y ys) → (b : Bool) → live_y y ≡ b →
          count_by count_x xs ≡ count_by count_y (y ∷ ys)
      step rest true live =
          let key = key_y y in
          let a = count-without count_x (here_x key) xs _ (first_told xs y ys live alike) in
          let b = count_by-cons count_y y ys in
          let own = self key in
          let c = alike.counted key y (grind (arith, own, live)) in
          let more = rest (without_first (here_x key) xs) (rest_alike xs y ys live alike) in grind (arith, a, b, c, more)
      step rest false dead =
          let more = rest xs (record {
            finds = λ key. (let all = alike.finds key in grind (arith, all, dead));
            once_x = alike.once_x;
            once_y = λ key. (let c = count_by-cons (here_y key) y ys in let o = alike.once_y key in omega (arith, c, o));
            counted = λ key z at. alike.counted key z (grind (arith, at, dead));
          }) in
          let b = count_by-cons count_y y ys in
          let live = only.live_only_y y in grind (arith, b, more, live, dead)
