-- How many families of an owner live.
use Rattle.std.proofs.Common.{◌≡◌, ◌≤◌, ℕ, List, [], ◌∷◌, Option, Some, None, Bool, true, false, refl, ap, ◌∙◌, sym, arith}
use Rattle.std.specs.Prelude.{filter, map, nat_lt, option_map, not, ◌&&◌}
use Rattle.std.specs.List.{IsDistinct}
use Rattle.std.specs.Set.{is_member}
use Rattle.std.specs.Cmp.{nat_eq_equiv}
use Rattle.std.proofs.lemmas.List.{length-map}
use Rattle.std.proofs.lemmas.List.Sums.{length-filter}
use Rattle.std.proofs.lemmas.Map.Made.{length-from_same_keys, IsDistinct-keys_filter}
use Rattle.consent.specs.History.{families_of, is_code_for}
use Rattle.consent.specs.ListLaws.{any-none}
use Rattle.token_store.proofs.Names.{code_scope, ◌==◌, count_by, find, find-passes, find-uncounted, is_some, lookup, lookup-none, none_past_head, keys_of, list_any, nat_eq, nat_tests, count_by-cons, stand_entries}
use Rattle.token_store.proofs.Names.{AllByRecursion, IsDistinct-cons, IsDistinct-tail}
use Rattle.token_store.proofs.Names.{Event, Grant, grants, has_ended, is_code_of, is_live_in, lives, terms_of, terms_by}
use Rattle.token_store.proofs.Names.{FitsHistory, IsTied, Shared, Tables, family_numbered, kept_lives, kept_of}
use Rattle.token_store.specs.RecordsParts.{is_open_for, is_open_of}
use Rattle.token_store.proofs.Counting.{kept_alike}
use Rattle.token_store.proofs.Issuing.{IsShared}
use Rattle.token_store.proofs.Living.{named_of}
use Rattle.token_store.proofs.Telling.{lives_there}

-- WHAT PASSES

-- there is one, and it passes
abbrev passes : {X : Type 0} → (X → Bool) → Option X → Bool
passes q None = false
passes q (Some x) = q x

-- where at most one passes, a narrower test is passed by what is found, or by nothing
any-one : {X : Type 0} (p q : X → Bool) (xs : List X) → ((x : X) → q x ≡ true → p x ≡ true) → count_by p xs ≤ 1 → list_any q xs ≡ passes q (find p xs)
any-one p q [] narrow one = refl
any-one p q (x ∷ xs) narrow one =
    let sums = count_by-cons p x xs in
    let here = narrow x in
    let more = any-one p q xs narrow in
    let none = find-uncounted p xs in
    let never = any-none q p xs narrow in
    grind (arith, sums, one, here, more, none, never)

-- a number is a key of those that pass where what it names passes
member_filtered : (p : ℕ × Shared → Bool) (es : List (ℕ × Shared)) (n : ℕ) → IsDistinct nat_eq (keys_of es) →
    is_member nat_eq (keys_of (filter p es)) n ≡ passes (λ s. p (n, s)) (lookup (nat_eq n) es)
member_filtered p [] n once = refl
member_filtered p (e ∷ es) n once = by (n == e.0) refl (member_filtered p es n (IsDistinct-tail nat_eq e.0 (keys_of es) once))
  where
    by : (b : Bool) → (n == e.0) ≡ b → is_member nat_eq (keys_of (filter p es)) n ≡ passes (λ s. p (n, s)) (lookup (nat_eq n) es) →
        is_member nat_eq (keys_of (filter p (e ∷ es))) n ≡ passes (λ s. p (n, s)) (lookup (nat_eq n) (e ∷ es))
    by true same rest =
        let none : lookup (nat_eq n) es ≡ None = lookup-none (nat_eq n) es (none_past_head nat_eq_equiv n e es once same) in
        let at : n ≡ e.0 = grind (arith, nat_tests, same) in
        let pair : p (n, e.1) ≡ p e = ap (λ k. p (k, e.1)) at in
        grind (arith, same, none, rest, pair)
    by false other rest = grind (arith, other, rest)

member_mapped : (f : Grant → ℕ) (q : Grant → Bool) (gs : List Grant) (n : ℕ) → is_member nat_eq (map f (filter q gs)) n ≡ list_any (λ g. q g && (n == f g)) gs
member_mapped f q [] n = refl
member_mapped f q (g ∷ gs) n = let more = member_mapped f q gs n in grind (arith, more)

-- A FAMILY OF THE OWNER

lives_alike : (t : Tables) (history : List Event) (m n : ℕ) → FitsHistory (kept_of t) history m → kept_lives (kept_of t) m n ≡ lives history m n
lives_alike t history m n fits =
    any_counted (λ k. is_live_in n m k.grant) (kept_of t)
    ∙ ap (λ c. nat_lt 0 c) (kept_alike (kept_of t) history m (is_live_in n m) (λ g is. grind (arith, is)) (λ g. refl) fits)
    ∙ sym (any_counted (is_live_in n m) (grants history))
  where
    any_counted : {X : Type 0} (p : X → Bool) (xs : List X) → list_any p xs ≡ nat_lt 0 (count_by p xs)
    any_counted p [] = refl
    any_counted p (x ∷ xs) = let sums = count_by-cons p x xs in let more = any_counted p xs in grind (arith, nat_tests, sums, more)

-- no code of the family is among these
unlike : (q : Grant → Bool) (family : ℕ) (gs : List Grant) → ((g : Grant) → q g ≡ true → is_code_of g.family g ≡ true) → count_by (is_code_of family) gs ≡ 0 →
    AllByRecursion (λ y. nat_eq family y ≡ false) (map (λ (g : Grant). g.family) (filter q gs))
unlike q family [] codes none = tt
unlike q family (g ∷ gs) codes none =
    let sums = count_by-cons (is_code_of family) g gs in
    by (q g) refl (unlike q family gs codes (omega (arith, sums, none)))
  where
    by : (b : Bool) → q g ≡ b → AllByRecursion (λ y. nat_eq family y ≡ false) (map (λ (h : Grant). h.family) (filter q gs)) →
        AllByRecursion (λ y. nat_eq family y ≡ false) (map (λ (h : Grant). h.family) (filter q (g ∷ gs)))
    by false out more = rw out more
    by true in_it more =
        let sums = count_by-cons (is_code_of family) g gs in
        let code = codes g in
        rw in_it (grind (arith, nat_tests, sums, none, in_it, code), more)

-- no two codes are of one family
apart : (q : Grant → Bool) (gs : List Grant) → ((g : Grant) → q g ≡ true → is_code_of g.family g ≡ true) → ((n : ℕ) → count_by (is_code_of n) gs ≤ 1) →
    IsDistinct nat_eq (map (λ (g : Grant). g.family) (filter q gs))
unfolding IsDistinct
apart q [] codes one = tt
apart q (g ∷ gs) codes one = by (q g) refl (apart q gs codes (λ n. (let sums = count_by-cons (is_code_of n) g gs in let all = one n in omega (arith, sums, all))))
  where
    by : (b : Bool) → q g ≡ b → IsDistinct nat_eq (map (λ (h : Grant). h.family) (filter q gs)) → IsDistinct nat_eq (map (λ (h : Grant). h.family) (filter q (g ∷ gs)))
    by false out more = rw out more
    by true in_it more =
        let sums = count_by-cons (is_code_of g.family) g gs in
        let all = one g.family in
        let code = codes g in
        let none : count_by (is_code_of g.family) gs ≡ 0 = grind (arith, nat_tests, sums, all, in_it, code) in
        rw in_it (IsDistinct-cons nat_eq g.family (map (λ (h : Grant). h.family) (filter q gs)) (unlike q g.family gs codes none) more)

module _ (t : Tables) (history : List Event) (m owner : ℕ) (tied : IsTied t) (fits : FitsHistory (kept_of t) history m) where
  alike : (n : ℕ) → passes (λ s. is_open_for owner s && kept_lives (kept_of t) m n) (family_numbered t.families.entries n) ≡
      passes (λ g. is_code_for history owner m g && (n == g.family)) (find (is_code_of n) (grants history))
  alike n = by_life (kept_lives (kept_of t) m n) refl (family_numbered t.families.entries n) refl (find (is_code_of n) (grants history)) refl
    where
      by_life : (b : Bool) → kept_lives (kept_of t) m n ≡ b → (o : Option Shared) → family_numbered t.families.entries n ≡ o → (f : Option Grant) → find (is_code_of n) (grants history) ≡ f →
          passes (λ s. is_open_for owner s && kept_lives (kept_of t) m n) o ≡ passes (λ g. is_code_for history owner m g && (n == g.family)) f
      by_life false dead o at None found = never o
        where
          never : (o : Option Shared) → passes (λ s. is_open_for owner s && kept_lives (kept_of t) m n) o ≡ false
          never None = refl
          never (Some s) = grind (arith, dead)
      by_life false dead o at (Some g) found =
          let code = find-passes (is_code_of n) (grants history) g found in
          let same : g.family ≡ n = grind (arith, nat_tests, code) in
          let gone : lives history m g.family ≡ false = ap (lives history m) same ∙ sym (lives_alike t history m n fits) ∙ dead in
          never o ∙ sym (grind (arith, gone))
        where
          never : (o : Option Shared) → passes (λ s. is_open_for owner s && kept_lives (kept_of t) m n) o ≡ false
          never None = refl
          never (Some s) = grind (arith, dead)
      by_life true alive None at f found = absurd (let there = lives_there t m n tied alive in grind (arith, there, at))
      by_life true alive (Some s) at f found =
          let named = named_of t.families.entries (stand_entries t.records) history m n tied.ties.once fits alive in
          let is : IsShared history n (record { owner = named.grant.owner; client = named.grant.client }) s = rw at at named.shared in
          let terms : option_map terms_of f ≡ option_map (terms_by s.client s.owner) (code_scope s) = sym (ap (option_map terms_of) found) ∙ is.terms in
          by_code f found (code_scope s) terms is.ended
        where
          by_code : (f : Option Grant) → find (is_code_of n) (grants history) ≡ f → (scope : Option ℕ) → option_map terms_of f ≡ option_map (terms_by s.client s.owner) scope → has_ended history n ≡ s.ended →
              ((not s.ended && is_some scope && (s.owner == owner)) && kept_lives (kept_of t) m n) ≡ passes (λ g. is_code_for history owner m g && (n == g.family)) f
          by_code None found None terms ended = grind arith
          by_code None found (Some c) terms ended = cc
          by_code (Some g) found None terms ended = cc
          by_code (Some g) found (Some c) terms ended =
              let code = find-passes (is_code_of n) (grants history) g found in
              let same : g.family ≡ n = grind (arith, nat_tests, code) in
              let lived : lives history m g.family ≡ true = ap (lives history m) same ∙ sym (lives_alike t history m n fits) ∙ alive in
              let over : has_ended history g.family ≡ s.ended = ap (has_ended history) same ∙ ended in
              let whose : g.owner ≡ s.owner = grind (arith, terms) in
              grind (arith, nat_tests, code, lived, over, whose, alive)

  pub families_counted : IsDistinct nat_eq (keys_of t.families.entries) → count_by (is_open_of owner (kept_lives (kept_of t) m)) t.families.entries ≡ families_of history owner m
  families_counted unique =
      let es = t.families.entries in
      let p = is_open_of owner (kept_lives (kept_of t) m) in
      let q = is_code_for history owner m in
      let xs = keys_of (filter p es) in
      let ys = map (λ (g : Grant). g.family) (filter q (grants history)) in
      let same : (n : ℕ) → is_member nat_eq xs n ≡ is_member nat_eq ys n = λ n.
      member_filtered p es n unique ∙ alike n
      ∙ sym (member_mapped (λ (g : Grant). g.family) q (grants history) n
      ∙ any-one (is_code_of n) (λ g. q g && (n == g.family)) (grants history) (λ g is. grind (arith, nat_tests, is)) (fits.is_history.one_code n)) in
      sym (length-filter p es) ∙ sym (length-map (filter p es) (λ (e : ℕ × Shared). e.0))
      ∙ length-from_same_keys nat_eq_equiv xs ys (IsDistinct-keys_filter nat_eq p es unique) (apart q (grants history) (λ g is. grind (arith, nat_tests, is)) fits.is_history.one_code) same
      ∙ length-map (filter q (grants history)) (λ (g : Grant). g.family) ∙ length-filter q (grants history)
