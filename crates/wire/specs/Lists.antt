-- Lists, options, and values of one of several kinds.
use Rattle.std.proofs.Common.{◌≡◌, ℕ, zero, suc, ◌+◌, ◌-◌, ◌^◌, ◌<◌, ◌≤◌, ◌⊎◌, inl, inr, Bool, true, false, cond, eqb, List, [], ◌∷◌, ◌++◌, length, Option, None, Some, Result, Ok, Err, refl, sym, ap, subst, ◌∙◌, append_assoc, arith}
use Rattle.std.specs.Int.{w32, to_be_bytes}
use Rattle.std.specs.List.{flat_map, AllByRecursion}
use Rattle.std.proofs.lemmas.Bool.{eqb-true, eq-eqb, ne_eqb}
use Rattle.std.proofs.lemmas.List.{append-nil}
use Rattle.std.proofs.lemmas.List.Concat.{flat_map-cons}
use Rattle.wire.specs.declared.fault.Fault.{Fault}
use Rattle.wire.specs.declared.fault.Fault.TheVariants as faults
use Rattle.wire.specs.Reading.{◌>>=◌, IsBytes, TakesFront}
use Rattle.wire.specs.Format.{Format, IsBytes-rest, bind_ok, ok_is, Takes-then, big_endian_at, number32, number_takes, number_again, u32_format, ◌then◌, seen, Same}

-- ---- lists

-- so many of them
unfoldable pub each_at : {A : Type 0} → Format A → ℕ → List ℕ → Result (List A × List ℕ) Fault
each_at f zero bytes = Ok ([], bytes)
each_at f (suc n) bytes = f.read bytes >>= λ first. each_at f n first.1 >>= λ later. Ok (first.0 ∷ later.0, later.1)

abbrev pub listed_at : {A : Type 0} → Format A → List ℕ → Result (List A × List ℕ) Fault
listed_at f bytes = big_endian_at w32 bytes >>= λ count. each_at f count.0 count.1

unfoldable pub each_onto : {A : Type 0} → Format A → List ℕ → List A → List ℕ
each_onto f out [] = out
each_onto f out (x ∷ xs) = each_onto f (f.onto out x) xs

each_takes : {A : Type 0} (f : Format A) (n : ℕ) (bytes : List ℕ) (x : List A × List ℕ) → IsBytes bytes → each_at f n bytes ≡ Ok x
    → TakesFront bytes (flat_map f.spell x.0) x.1 × (length x.0 ≡ n) × AllByRecursion f.Fits x.0
unfolding each_at
each_takes {A = A} f zero bytes x fits e =
    subst (λ (y : List A × List ℕ). TakesFront bytes (flat_map f.spell y.0) y.1 × (length y.0 ≡ 0) × AllByRecursion f.Fits y.0) (ok_is ([], bytes) x e) (record { parts = refl; rest_fits = fits }, refl, tt)
each_takes {A = A} f (suc n) bytes x fits e =
    let a = bind_ok (f.read bytes) (λ first. each_at f n first.1 >>= λ later. Ok (first.0 ∷ later.0, later.1)) x e in
    let b = bind_ok (each_at f n a.0.1) (λ later. Ok (a.0.0 ∷ later.0, later.1)) x a.2 in
    let first = f.takes bytes a.0 fits a.1 in
    let later = each_takes f n a.0.1 b.0 first.0.rest_fits b.1 in
    let both = Takes-then bytes (f.spell a.0.0) a.0.1 (flat_map f.spell b.0.0) b.0.1 first.0 later.0 in
    let made : List A × List ℕ = (a.0.0 ∷ b.0.0, b.0.1) in
    subst (λ (y : List A × List ℕ). TakesFront bytes (flat_map f.spell y.0) y.1 × (length y.0 ≡ suc n) × AllByRecursion f.Fits y.0) {x = made} (ok_is made x b.2) (rw flat_map-cons both, ap suc later.1, (first.1, later.2))

pub listed_takes : {A : Type 0} (f : Format A) (bytes : List ℕ) (x : List A × List ℕ) → IsBytes bytes → listed_at f bytes ≡ Ok x
    → TakesFront bytes (to_be_bytes w32 (length x.0) ++ flat_map f.spell x.0) x.1 × ((length x.0 < 2 ^ 32) × AllByRecursion f.Fits x.0)
listed_takes f bytes x fits e =
    let a = bind_ok (big_endian_at w32 bytes) (λ count. each_at f count.0 count.1) x e in
    let ta = number_takes w32 (2 ^ 32) number32 bytes a.0 fits a.1 in
    let tb = each_takes f a.0.0 a.0.1 x ta.0.rest_fits a.2 in
    let both = Takes-then bytes (to_be_bytes w32 a.0.0) a.0.1 (flat_map f.spell x.0) x.1 ta.0 tb.0 in
    (subst (λ (k : ℕ). TakesFront bytes (to_be_bytes w32 k ++ flat_map f.spell x.0) x.1) (sym tb.1) both, (omega (arith, tb.1, ta.1), tb.2))

each_again : {A : Type 0} (f : Format A) (xs : List A) (rest : List ℕ) → AllByRecursion f.Fits xs → each_at f (length xs) (flat_map f.spell xs ++ rest) ≡ Ok (xs, rest)
unfolding each_at
each_again f [] rest fits = refl
each_again f (x ∷ xs) rest fits =
    let regrouped : flat_map f.spell (x ∷ xs) ++ rest ≡ f.spell x ++ (flat_map f.spell xs ++ rest) = ap (λ (t : List ℕ). t ++ rest) (flat_map-cons f.spell x xs) ∙ append_assoc (f.spell x) (flat_map f.spell xs) rest in
    ap (each_at f (suc (length xs))) regrouped ∙ rw (f.again x (flat_map f.spell xs ++ rest) fits.0, each_again f xs rest fits.1) refl

pub listed_again : {A : Type 0} (f : Format A) (xs : List A) (rest : List ℕ) → (length xs < 2 ^ 32) × AllByRecursion f.Fits xs
    → listed_at f ((to_be_bytes w32 (length xs) ++ flat_map f.spell xs) ++ rest) ≡ Ok (xs, rest)
listed_again f xs rest fits =
    ap (listed_at f) (append_assoc (to_be_bytes w32 (length xs)) (flat_map f.spell xs) rest)
    ∙ rw (number_again w32 (2 ^ 32) number32 (length xs) (flat_map f.spell xs ++ rest) fits.0) (each_again f xs rest fits.1)

pub each_onto_is : {A : Type 0} (f : Format A) (out : List ℕ) (xs : List A) → each_onto f out xs ≡ out ++ flat_map f.spell xs
unfolding each_onto
each_onto_is f out [] = sym (append-nil out)
each_onto_is f out (x ∷ xs) =
    each_onto_is f (f.onto out x) xs ∙ ap (λ (t : List ℕ). t ++ flat_map f.spell xs) (f.onto_is out x)
    ∙ append_assoc out (f.spell x) (flat_map f.spell xs) ∙ ap (λ (t : List ℕ). out ++ t) (sym (flat_map-cons f.spell x xs))

pub listed_onto_is : {A : Type 0} (f : Format A) (out : List ℕ) (xs : List A) → each_onto f (out ++ to_be_bytes w32 (length xs)) xs ≡ out ++ (to_be_bytes w32 (length xs) ++ flat_map f.spell xs)
listed_onto_is f out xs = each_onto_is f (out ++ to_be_bytes w32 (length xs)) xs ∙ append_assoc out (to_be_bytes w32 (length xs)) (flat_map f.spell xs)

pub each_counts : {A : Type 0} (f : Format A) (xs : List A) → AllByRecursion f.Fits xs → AllByRecursion f.Counts xs
each_counts f [] fits = tt
each_counts f (x ∷ xs) fits = (f.counts x fits.0, each_counts f xs fits.1)

-- how many there are, and each of them
abbrev pub list_of : {A : Type 0} → Format A → Format (List A)
list_of f = record {
  spell = λ xs. to_be_bytes w32 (length xs) ++ flat_map f.spell xs;
  Fits = λ xs. (length xs < 2 ^ 32) × AllByRecursion f.Fits xs;
  Counts = λ xs. (length xs < 2 ^ 32) × AllByRecursion f.Counts xs;
  counts = λ xs fits. (fits.0, each_counts f xs fits.1);
  onto = λ out xs. each_onto f (out ++ to_be_bytes w32 (length xs)) xs;
  read = listed_at f;
  onto_is = listed_onto_is f;
  takes = listed_takes f;
  again = listed_again f;
}

-- ---- one of several kinds, behind a byte that tells which

-- nothing at all
abbrev pub nothing : Format (Unit {0})
nothing = record {
  spell = λ _. [];
  Fits = λ _. Unit {0};
  Counts = λ _. Unit {0};
  counts = λ _ _. tt;
  onto = λ out _. out;
  read = λ bytes. Ok (tt, bytes);
  onto_is = λ out _. sym (append-nil out);
  takes = λ bytes x fits e. (subst (λ (t : List ℕ). TakesFront bytes [] t) (ap (λ (y : Unit {0} × List ℕ). y.1) (ok_is (tt, bytes) x e)) (record { parts = refl; rest_fits = fits }), tt);
  again = λ a rest fits. refl;
}

-- the kinds with the bytes from n on
pub record Kinds (n : ℕ) (A : Type 0) : Type 1 where
  pub byte : A → ℕ
  pub spell : A → List ℕ
  pub Fits : A → Type 0
  pub Counts : A → Type 0
  pub onto : List ℕ → A → List ℕ
  pub read : ℕ → List ℕ → Result (A × List ℕ) Fault
  pub from : (a : A) → n ≤ byte a
  pub counts : (a : A) → Fits a → Counts a
  pub onto_is : (out : List ℕ) (a : A) → onto out a ≡ out ++ (byte a ∷ spell a)
  pub takes : (b : ℕ) (bytes : List ℕ) (x : A × List ℕ) → IsBytes bytes → read b bytes ≡ Ok x → (b ≡ byte x.0) × (TakesFront bytes (spell x.0) x.1 × Fits x.0)
  pub again : (a : A) (rest : List ℕ) → Fits a → read (byte a) (spell a ++ rest) ≡ Ok (a, rest)

-- no kind has a byte from n on: it is this fault
abbrev pub no_more : (n : ℕ) → Fault → Kinds n ⊥
no_more n fault = record {
  byte = λ a. 0;
  spell = λ a. [];
  Fits = λ a. ⊥;
  Counts = λ a. ⊥;
  counts = λ a fits. fits;
  onto = λ out a. out;
  read = λ b bytes. Err fault;
  from = λ a. absurd a;
  onto_is = λ out a. absurd a;
  takes = λ b bytes x fits e. absurd x.0;
  again = λ a rest fits. absurd a;
}

abbrev pub kind_byte : {n : ℕ} {A B : Type 0} → Kinds (suc n) B → A ⊎ B → ℕ
kind_byte {n} g (inl a) = n
kind_byte g (inr b) = g.byte b

abbrev pub kind_spell : {n : ℕ} {A B : Type 0} → Format A → Kinds (suc n) B → A ⊎ B → List ℕ
kind_spell f g (inl a) = f.spell a
kind_spell f g (inr b) = g.spell b

abbrev pub KindFits : {n : ℕ} {A B : Type 0} → Format A → Kinds (suc n) B → A ⊎ B → Type 0
KindFits f g (inl a) = f.Fits a
KindFits f g (inr b) = g.Fits b

abbrev pub KindCounts : {n : ℕ} {A B : Type 0} → Format A → Kinds (suc n) B → A ⊎ B → Type 0
KindCounts f g (inl a) = f.Counts a
KindCounts f g (inr b) = g.Counts b

pub kind_counts : {n : ℕ} {A B : Type 0} (f : Format A) (g : Kinds (suc n) B) (x : A ⊎ B) → KindFits f g x → KindCounts f g x
kind_counts f g (inl a) fits = f.counts a fits
kind_counts f g (inr b) fits = g.counts b fits

abbrev pub kind_onto : {n : ℕ} {A B : Type 0} → Format A → Kinds (suc n) B → List ℕ → A ⊎ B → List ℕ
kind_onto {n} f g out (inl a) = f.onto (out ++ n ∷ []) a
kind_onto f g out (inr b) = g.onto out b

abbrev pub kind_read : {n : ℕ} {A B : Type 0} → Format A → Kinds (suc n) B → ℕ → List ℕ → Result ((A ⊎ B) × List ℕ) Fault
kind_read {n} f g b bytes = cond (eqb b n) (f.read bytes >>= λ a. Ok (inl a.0, a.1)) (g.read b bytes >>= λ a. Ok (inr a.0, a.1))

pub kind_from : {n : ℕ} {A B : Type 0} (g : Kinds (suc n) B) (x : A ⊎ B) → n ≤ kind_byte g x
kind_from g (inl a) = omega arith
kind_from g (inr b) = omega (arith, g.from b)

pub kind_onto_is : {n : ℕ} {A B : Type 0} (f : Format A) (g : Kinds (suc n) B) (out : List ℕ) (x : A ⊎ B) → kind_onto f g out x ≡ out ++ (kind_byte g x ∷ kind_spell f g x)
kind_onto_is {n} f g out (inl a) = f.onto_is (out ++ n ∷ []) a ∙ append_assoc out (n ∷ []) (f.spell a)
kind_onto_is f g out (inr b) = g.onto_is out b

pub kind_takes : {n : ℕ} {A B : Type 0} (f : Format A) (g : Kinds (suc n) B) (b : ℕ) (bytes : List ℕ) (x : (A ⊎ B) × List ℕ) → IsBytes bytes → kind_read f g b bytes ≡ Ok x
    → (b ≡ kind_byte g x.0) × (TakesFront bytes (kind_spell f g x.0) x.1 × KindFits f g x.0)
kind_takes {n} {A} {B} f g b bytes x fits e = by (eqb b n) refl e
  where
    by : (t : Bool) → eqb b n ≡ t → cond t (f.read bytes >>= λ a. Ok (inl a.0, a.1)) (g.read b bytes >>= λ a. Ok (inr a.0, a.1)) ≡ Ok x
        → (b ≡ kind_byte g x.0) × (TakesFront bytes (kind_spell f g x.0) x.1 × KindFits f g x.0)
    by true is e =
        let a = bind_ok (f.read bytes) (λ a. Ok (inl a.0, a.1)) x e in
        let made : (A ⊎ B) × List ℕ = (inl a.0.0, a.0.1) in
        subst (λ (y : (A ⊎ B) × List ℕ). (b ≡ kind_byte g y.0) × (TakesFront bytes (kind_spell f g y.0) y.1 × KindFits f g y.0)) {x = made} (ok_is made x a.2) (eqb-true _ _ is, f.takes bytes a.0 fits a.1)
    by false is e =
        let a = bind_ok (g.read b bytes) (λ a. Ok (inr a.0, a.1)) x e in
        let made : (A ⊎ B) × List ℕ = (inr a.0.0, a.0.1) in
        subst (λ (y : (A ⊎ B) × List ℕ). (b ≡ kind_byte g y.0) × (TakesFront bytes (kind_spell f g y.0) y.1 × KindFits f g y.0)) {x = made} (ok_is made x a.2) (g.takes b bytes a.0 fits a.1)

same_byte : (n : ℕ) → eqb n n ≡ true
same_byte n = eq-eqb n n refl

later_byte : (b n : ℕ) → suc n ≤ b → eqb b n ≡ false
later_byte b n le = ne_eqb b n (λ e. omega arith)

pub kind_again : {n : ℕ} {A B : Type 0} (f : Format A) (g : Kinds (suc n) B) (x : A ⊎ B) (rest : List ℕ) → KindFits f g x → kind_read f g (kind_byte g x) (kind_spell f g x ++ rest) ≡ Ok (x, rest)
kind_again {n} f g (inl a) rest fits = rw (same_byte n, f.again a rest fits) refl
kind_again {n} f g (inr b) rest fits = rw (later_byte (g.byte b) n (g.from b), g.again b rest fits) refl

-- behind the byte n, or else one of the later kinds
infixr 3 ◌or◌
abbrev pub ◌or◌ : {n : ℕ} {A B : Type 0} → Format A → Kinds (suc n) B → Kinds n (A ⊎ B)
f or g = record {
  byte = kind_byte g;
  spell = kind_spell f g;
  Fits = KindFits f g;
  Counts = KindCounts f g;
  counts = kind_counts f g;
  onto = kind_onto f g;
  read = kind_read f g;
  from = kind_from g;
  onto_is = kind_onto_is f g;
  takes = kind_takes f g;
  again = kind_again f g;
}

abbrev pub told_read : {n : ℕ} {A : Type 0} → Kinds n A → List ℕ → Result (A × List ℕ) Fault
told_read k [] = Err faults.Short
told_read k (b ∷ bytes) = k.read b bytes

pub told_takes : {n : ℕ} {A : Type 0} (k : Kinds n A) (bytes : List ℕ) (x : A × List ℕ) → IsBytes bytes → told_read k bytes ≡ Ok x → TakesFront bytes (k.byte x.0 ∷ k.spell x.0) x.1 × k.Fits x.0
told_takes k [] x fits e = absurd cc
told_takes k (b ∷ bytes) x fits e =
    let t = k.takes b bytes x (IsBytes-rest b bytes fits) e in
    (subst (λ (c : ℕ). TakesFront (b ∷ bytes) (c ∷ k.spell x.0) x.1) t.0 (record { parts = ap (λ (w : List ℕ). b ∷ w) t.1.0.parts; rest_fits = t.1.0.rest_fits }), t.1.1)

abbrev pub told : (n : ℕ) {A : Type 0} → Kinds n A → Format A
told n k = record {
  spell = λ a. k.byte a ∷ k.spell a;
  Fits = k.Fits;
  Counts = k.Counts;
  counts = k.counts;
  onto = k.onto;
  read = told_read k;
  onto_is = k.onto_is;
  takes = told_takes k;
  again = λ a rest fits. k.again a rest fits;
}

abbrev pub one_alone : {A : Type 0} → A ⊎ ⊥ → A
one_alone (inl a) = a
one_alone (inr none) = absurd none

abbrev pub alone : (A : Type 0) → Same (A ⊎ ⊥) A
alone A = record { to = one_alone; from = inl; from_to = elim [ inl a ↦ refl | inr none ↦ absurd none ]; to_from = λ a. refl }

-- behind the byte n; another byte is this fault
abbrev pub behind : {A : Type 0} → ℕ → Fault → Format A → Format A
behind {A} n fault f = seen (alone A) (told n (f or no_more (suc n) fault))

-- ---- options and tests

abbrev pub some_or_none : {A : Type 0} → Unit {0} ⊎ (A ⊎ ⊥) → Option A
some_or_none (inl _) = None
some_or_none (inr (inl a)) = Some a
some_or_none (inr (inr a)) = absurd a

abbrev pub none_or_some : {A : Type 0} → Option A → Unit {0} ⊎ (A ⊎ ⊥)
none_or_some None = inl tt
none_or_some (Some a) = inr (inl a)

abbrev pub as_option : (A : Type 0) → Same (Unit {0} ⊎ (A ⊎ ⊥)) (Option A)
as_option A = record {
  to = some_or_none;
  from = none_or_some;
  from_to = elim [ inl _ ↦ refl | inr (inl a) ↦ refl | inr (inr a) ↦ absurd a ];
  to_from = elim [ None ↦ refl | Some a ↦ refl ];
}

abbrev pub option_of : {A : Type 0} → Format A → Format (Option A)
option_of {A} f = seen (as_option A) (told 0 (nothing or f or no_more 2 faults.Variant))

abbrev pub yes_or_no : Unit {0} ⊎ (Unit {0} ⊎ ⊥) → Bool
yes_or_no (inl _) = false
yes_or_no (inr (inl _)) = true
yes_or_no (inr (inr a)) = absurd a

abbrev pub no_or_yes : Bool → Unit {0} ⊎ (Unit {0} ⊎ ⊥)
no_or_yes false = inl tt
no_or_yes true = inr (inl tt)

abbrev pub as_bool : Same (Unit {0} ⊎ (Unit {0} ⊎ ⊥)) Bool
as_bool = record {
  to = yes_or_no;
  from = no_or_yes;
  from_to = elim [ inl _ ↦ refl | inr (inl a) ↦ refl | inr (inr a) ↦ absurd a ];
  to_from = elim [ false ↦ refl | true ↦ refl ];
}

abbrev pub bool_format : Format Bool
bool_format = seen as_bool (told 0 (nothing or nothing or no_more 2 faults.Variant))
