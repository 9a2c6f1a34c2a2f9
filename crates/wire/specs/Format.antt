-- A format: one spelling of each value that fits, and a reader that finds the value or the first fault. Its laws come
-- with it, so that a format that is made of formats has them too.
use Rattle.std.proofs.Common.{◌≡◌, ℕ, zero, suc, ◌+◌, ◌-◌, ◌^◌, ◌<◌, ◌≤◌, ◌⊎◌, inl, inr, Bool, true, false, cond, eqb, ltb, List, [], ◌∷◌, ◌++◌, length, get_or, take, drop, Option, None, Some, Result, Ok, Err, refl, sym, ap, subst, ◌∙◌, append_assoc, arith}
use Rattle.std.specs.Int.{Width, w32, w64, byte_len, from_be_bytes, to_be_bytes}
use Rattle.std.specs.List.{flat_map, AllByRecursion}
use Rattle.std.specs.Str.{IsUtf8, is_utf8}
use Rattle.std.proofs.lemmas.Bool.{cases_lt, ltb-false, ltb-true, le-ltb, lt-ltb}
use Rattle.std.proofs.lemmas.List.{append-nil, take_at, drop_at, take-append-drop, length-append, length-take, get_or-drop, get_or-take, get_or_past, nil_from_length}
use Rattle.std.proofs.lemmas.List.Concat.{flat_map-cons}
use Rattle.std.proofs.lemmas.Nat.{be_bytes_4, be_bytes_8, from_be_bytes-to_be_bytes_4, from_be_bytes-to_be_bytes_8}
use Rattle.std.proofs.lemmas.Str.{IsUtf8-from_is_utf8, is_utf8-from_IsUtf8}
use Rattle.wire.specs.declared.fault.Fault.{Fault}
use Rattle.wire.specs.declared.fault.Fault.TheVariants as faults
use Rattle.wire.specs.Reading.{◌>>=◌, IsBytes, TakesFront}

pub record Format (A : Type 0) : Type 1 where
  pub spell : A → List ℕ
  -- which values have a spelling
  pub Fits : A → Type 0
  -- how many there are of each list, and the bytes of each text, can be written in four bytes
  pub Counts : A → Type 0
  -- the spelling behind what stands there
  pub onto : List ℕ → A → List ℕ
  -- the value that the bytes begin with and the bytes behind it, or the first fault
  pub read : List ℕ → Result (A × List ℕ) Fault
  pub counts : (a : A) → Fits a → Counts a
  pub onto_is : (out : List ℕ) (a : A) → onto out a ≡ out ++ spell a
  pub takes : (bytes : List ℕ) (x : A × List ℕ) → IsBytes bytes → read bytes ≡ Ok x → TakesFront bytes (spell x.0) x.1 × Fits x.0
  pub again : (a : A) (rest : List ℕ) → Fits a → read (spell a ++ rest) ≡ Ok (a, rest)

-- ---- tools

IsBytes-drop : (n : ℕ) (bytes : List ℕ) → IsBytes bytes → IsBytes (drop n bytes)
IsBytes-drop n bytes h i = rw get_or-drop (h (n + i))

IsBytes-take : (n : ℕ) (bytes : List ℕ) → IsBytes bytes → IsBytes (take n bytes)
IsBytes-take n bytes h i =
    elim (cases_lt i n) [
      | inl lt ↦ rw (get_or-take n bytes i 0 lt) (h i)
      | inr le ↦ rw (get_or_past (take n bytes) i 0 (omega (arith, length-take n bytes))) (omega arith)
    ]

pub IsBytes-rest : (b : ℕ) (bytes : List ℕ) → IsBytes (b ∷ bytes) → IsBytes bytes
IsBytes-rest b bytes h i = h (suc i)

pub bind_ok : {A B : Type 0} (r : Result A Fault) (f : A → Result B Fault) (y : B) → (r >>= f) ≡ Ok y → (x : A) × (r ≡ Ok x) × (f x ≡ Ok y)
bind_ok (Ok x) f y e = (x, refl, e)
bind_ok (Err d) f y e = absurd cc

guard_ok : {A : Type 0} (b : Bool) (d : Fault) (x y : A) → cond b (Err d) (Ok x) ≡ Ok y → (b ≡ false) × (x ≡ y)
guard_ok true d x y e = absurd cc
guard_ok false d x y e = (refl, cc)

pub checked_passed : {A : Type 0} (b : Bool) (d : Fault) (r : Result A Fault) (y : A) → cond b r (Err d) ≡ Ok y → (b ≡ true) × (r ≡ Ok y)
checked_passed true d r y e = (refl, e)
checked_passed false d r y e = absurd cc

abbrev pub done : {A : Type 0} → A → Result A Fault
done x = Ok x

pub ok_is : {A : Type 0} (x y : A) → done x ≡ done y → x ≡ y
ok_is x y e = cc

pub Takes-then : (a x b y c : List ℕ) → TakesFront a x b → TakesFront b y c → TakesFront a (x ++ y) c
Takes-then a x b y c p q = record { parts = p.parts ∙ ap (λ (t : List ℕ). x ++ t) q.parts ∙ sym (append_assoc x y c); rest_fits = q.rest_fits }

-- ---- bytes of a known number

abbrev pub part_at : ℕ → List ℕ → Result (List ℕ × List ℕ) Fault
part_at n bytes = cond (ltb (length bytes) n) (Err faults.Short) (Ok (take n bytes, drop n bytes))

pub part_takes : (n : ℕ) (bytes : List ℕ) (x : List ℕ × List ℕ) → IsBytes bytes → part_at n bytes ≡ Ok x → TakesFront bytes x.0 x.1 × (length x.0 ≡ n)
part_takes n bytes x fits e =
    let g = guard_ok (ltb (length bytes) n) faults.Short (take n bytes, drop n bytes) x e in
    let long : n ≤ length bytes = ltb-false _ _ g.0 in
    let len : length (take n bytes) ≡ n = omega (arith, length-take n bytes) in
    subst (λ (y : List ℕ × List ℕ). TakesFront bytes y.0 y.1 × (length y.0 ≡ n)) g.1 (record { parts = sym (take-append-drop n bytes); rest_fits = IsBytes-drop n bytes fits }, len)

pub part_again : (n : ℕ) (part rest : List ℕ) → length part ≡ n → part_at n (part ++ rest) ≡ Ok (part, rest)
part_again n part rest len =
    let long : ltb (length (part ++ rest)) n ≡ false = le-ltb _ _ (omega (arith, length-append part rest)) in
    rw (long, take_at part rest n len, drop_at part rest n len) refl

abbrev pub fixed : ℕ → Format (List ℕ)
fixed n = record {
  spell = λ part. part;
  Fits = λ part. length part ≡ n;
  Counts = λ _. Unit {0};
  counts = λ _ _. tt;
  onto = λ out part. out ++ part;
  read = part_at n;
  onto_is = λ out part. refl;
  takes = part_takes n;
  again = part_again n;
}

-- ---- numbers

pub record IsNumber (w : Width) (limit : ℕ) : Type 0 where
  pub len : (n : ℕ) → length (to_be_bytes w n) ≡ byte_len w
  pub back : (bytes : List ℕ) → length bytes ≡ byte_len w → IsBytes bytes → to_be_bytes w (from_be_bytes w bytes) ≡ bytes
  pub again : (n : ℕ) → n < limit → from_be_bytes w (to_be_bytes w n) ≡ n
  pub below : (bytes : List ℕ) → IsBytes bytes → from_be_bytes w bytes < limit

pub number32 : IsNumber w32 (2 ^ 32)
number32 = record {
  len = λ n. refl;
  back = λ bytes len fits. be_bytes_4 bytes _ len fits refl;
  again = λ n lt. from_be_bytes-to_be_bytes_4 n lt;
  below = λ bytes fits. omega (arith, fits 0, fits 1, fits 2, fits 3);
}

pub number64 : IsNumber w64 (2 ^ 64)
number64 = record {
  len = λ n. refl;
  back = λ bytes len fits. be_bytes_8 bytes _ len fits refl;
  again = λ n lt. from_be_bytes-to_be_bytes_8 n lt;
  below = λ bytes fits. omega (arith, fits 0, fits 1, fits 2, fits 3, fits 4, fits 5, fits 6, fits 7);
}

-- so many bytes, the high one first
abbrev pub big_endian_at : Width → List ℕ → Result (ℕ × List ℕ) Fault
big_endian_at w bytes =
    cond (ltb (length bytes) (byte_len w)) (Err faults.Short) (Ok (from_be_bytes w (take (byte_len w) bytes), drop (byte_len w) bytes))

pub number_takes : (w : Width) (limit : ℕ) (law : IsNumber w limit) (bytes : List ℕ) (x : ℕ × List ℕ) → IsBytes bytes → big_endian_at w bytes ≡ Ok x → TakesFront bytes (to_be_bytes w x.0) x.1 × (x.0 < limit)
number_takes w limit law bytes x fits e =
    let g = guard_ok (ltb (length bytes) (byte_len w)) faults.Short (from_be_bytes w (take (byte_len w) bytes), drop (byte_len w) bytes) x e in
    let long : byte_len w ≤ length bytes = ltb-false _ _ g.0 in
    let front : to_be_bytes w (from_be_bytes w (take (byte_len w) bytes)) ≡ take (byte_len w) bytes = law.back (take (byte_len w) bytes) (omega (arith, length-take (byte_len w) bytes)) (IsBytes-take (byte_len w) bytes fits) in
    subst (λ (y : ℕ × List ℕ). TakesFront bytes (to_be_bytes w y.0) y.1 × (y.0 < limit)) g.1
    (record { parts = rw front (sym (take-append-drop (byte_len w) bytes)); rest_fits = IsBytes-drop (byte_len w) bytes fits }, law.below (take (byte_len w) bytes) (IsBytes-take (byte_len w) bytes fits))

pub number_again : (w : Width) (limit : ℕ) (law : IsNumber w limit) (n : ℕ) (rest : List ℕ) → n < limit → big_endian_at w (to_be_bytes w n ++ rest) ≡ Ok (n, rest)
number_again w limit law n rest lt =
    let len = law.len n in
    let long : ltb (length (to_be_bytes w n ++ rest)) (byte_len w) ≡ false = le-ltb _ _ (omega (arith, length-append (to_be_bytes w n) rest)) in
    rw (long, take_at (to_be_bytes w n) rest (byte_len w) len, drop_at (to_be_bytes w n) rest (byte_len w) len, law.again n lt) refl

abbrev pub number : (w : Width) (limit : ℕ) → IsNumber w limit → Format ℕ
number w limit law = record {
  spell = to_be_bytes w;
  Fits = λ n. n < limit;
  Counts = λ _. Unit {0};
  counts = λ _ _. tt;
  onto = λ out n. out ++ to_be_bytes w n;
  read = big_endian_at w;
  onto_is = λ out n. refl;
  takes = number_takes w limit law;
  again = number_again w limit law;
}

abbrev pub u32_format : Format ℕ
u32_format = number w32 (2 ^ 32) number32

abbrev pub u64_format : Format ℕ
u64_format = number w64 (2 ^ 64) number64

abbrev pub byte_at : List ℕ → Result (ℕ × List ℕ) Fault
byte_at [] = Err faults.Short
byte_at (b ∷ rest) = Ok (b, rest)

pub byte_takes : (bytes : List ℕ) (x : ℕ × List ℕ) → IsBytes bytes → byte_at bytes ≡ Ok x → TakesFront bytes (x.0 ∷ []) x.1 × (x.0 < 2 ^ 8)
byte_takes [] x fits e = absurd cc
byte_takes (b ∷ bytes) x fits e =
    subst (λ (y : ℕ × List ℕ). TakesFront (b ∷ bytes) (y.0 ∷ []) y.1 × (y.0 < 2 ^ 8)) (ok_is (b, bytes) x e) (record { parts = refl; rest_fits = IsBytes-rest b bytes fits }, omega (arith, fits 0))

abbrev pub u8_format : Format ℕ
u8_format = record {
  spell = λ n. n ∷ [];
  Fits = λ n. n < 2 ^ 8;
  Counts = λ _. Unit {0};
  counts = λ _ _. tt;
  onto = λ out n. out ++ n ∷ [];
  read = byte_at;
  onto_is = λ out n. refl;
  takes = byte_takes;
  again = λ n rest lt. refl;
}

-- ---- one behind the other

abbrev pub pair_read : {A B : Type 0} → Format A → Format B → List ℕ → Result ((A × B) × List ℕ) Fault
pair_read f g bytes = f.read bytes >>= λ a. g.read a.1 >>= λ b. Ok ((a.0, b.0), b.1)

pub pair_takes : {A B : Type 0} (f : Format A) (g : Format B) (bytes : List ℕ) (x : (A × B) × List ℕ) → IsBytes bytes
    → pair_read f g bytes ≡ Ok x → TakesFront bytes (f.spell x.0.0 ++ g.spell x.0.1) x.1 × (f.Fits x.0.0 × g.Fits x.0.1)
pair_takes {A = A} {B = B} f g bytes x fits e =
    let a = bind_ok (f.read bytes) (λ a. g.read a.1 >>= λ b. Ok ((a.0, b.0), b.1)) x e in
    let b = bind_ok (g.read a.0.1) (λ b. Ok ((a.0.0, b.0), b.1)) x a.2 in
    let ta = f.takes bytes a.0 fits a.1 in
    let tb = g.takes a.0.1 b.0 ta.0.rest_fits b.1 in
    let made : (A × B) × List ℕ = ((a.0.0, b.0.0), b.0.1) in
    subst (λ (y : (A × B) × List ℕ). TakesFront bytes (f.spell y.0.0 ++ g.spell y.0.1) y.1 × (f.Fits y.0.0 × g.Fits y.0.1)) {x = made} (ok_is made x b.2)
    (Takes-then bytes (f.spell a.0.0) a.0.1 (g.spell b.0.0) b.0.1 ta.0 tb.0, (ta.1, tb.1))

pub pair_again : {A B : Type 0} (f : Format A) (g : Format B) (x : A × B) (rest : List ℕ) → f.Fits x.0 × g.Fits x.1
    → pair_read f g ((f.spell x.0 ++ g.spell x.1) ++ rest) ≡ Ok (x, rest)
pair_again f g x rest fits =
    ap (pair_read f g) (append_assoc (f.spell x.0) (g.spell x.1) rest) ∙ rw (f.again x.0 (g.spell x.1 ++ rest) fits.0, g.again x.1 rest fits.1) refl

pub pair_onto : {A B : Type 0} (f : Format A) (g : Format B) (out : List ℕ) (x : A × B) → g.onto (f.onto out x.0) x.1 ≡ out ++ (f.spell x.0 ++ g.spell x.1)
pair_onto f g out x = g.onto_is (f.onto out x.0) x.1 ∙ ap (λ (t : List ℕ). t ++ g.spell x.1) (f.onto_is out x.0) ∙ append_assoc out (f.spell x.0) (g.spell x.1)

infixr 4 ◌then◌
abbrev pub ◌then◌ : {A B : Type 0} → Format A → Format B → Format (A × B)
f then g = record {
  spell = λ x. f.spell x.0 ++ g.spell x.1;
  Fits = λ x. f.Fits x.0 × g.Fits x.1;
  Counts = λ x. f.Counts x.0 × g.Counts x.1;
  counts = λ x fits. (f.counts x.0 fits.0, g.counts x.1 fits.1);
  onto = λ out x. g.onto (f.onto out x.0) x.1;
  read = pair_read f g;
  onto_is = pair_onto f g;
  takes = pair_takes f g;
  again = pair_again f g;
}

-- ---- seen as another type

pub record Same (A B : Type 0) : Type 0 where
  pub to : A → B
  pub from : B → A
  pub from_to : (a : A) → from (to a) ≡ a
  pub to_from : (b : B) → to (from b) ≡ b

abbrev pub seen_read : {A B : Type 0} → Format A → Same A B → List ℕ → Result (B × List ℕ) Fault
seen_read f s bytes = f.read bytes >>= λ a. Ok (s.to a.0, a.1)

pub seen_takes : {A B : Type 0} (f : Format A) (s : Same A B) (bytes : List ℕ) (x : B × List ℕ) → IsBytes bytes → seen_read f s bytes ≡ Ok x
    → TakesFront bytes (f.spell (s.from x.0)) x.1 × f.Fits (s.from x.0)
seen_takes {A = A} {B = B} f s bytes x fits e =
    let a = bind_ok (f.read bytes) (λ a. Ok (s.to a.0, a.1)) x e in
    let t = f.takes bytes a.0 fits a.1 in
    let made : B × List ℕ = (s.to a.0.0, a.0.1) in
    subst (λ (y : B × List ℕ). TakesFront bytes (f.spell (s.from y.0)) y.1 × f.Fits (s.from y.0)) {x = made} (ok_is made x a.2)
    (subst (λ (v : A). TakesFront bytes (f.spell v) a.0.1 × f.Fits v) (sym (s.from_to a.0.0)) t)

pub seen_again : {A B : Type 0} (f : Format A) (s : Same A B) (b : B) (rest : List ℕ) → f.Fits (s.from b) → seen_read f s (f.spell (s.from b) ++ rest) ≡ Ok (b, rest)
seen_again f s b rest fits = rw (f.again (s.from b) rest fits) (ap (λ (v : _). Ok (v, rest)) (s.to_from b))

abbrev pub seen : {A B : Type 0} → Same A B → Format A → Format B
seen s f = record {
  spell = λ b. f.spell (s.from b);
  Fits = λ b. f.Fits (s.from b);
  Counts = λ b. f.Counts (s.from b);
  counts = λ b. f.counts (s.from b);
  onto = λ out b. f.onto out (s.from b);
  read = seen_read f s;
  onto_is = λ out b. f.onto_is out (s.from b);
  takes = seen_takes f s;
  again = seen_again f s;
}

-- ---- only some of the values

pub record Decides {A : Type 0} (test : A → Bool) (P : A → Type 0) : Type 0 where
  pub holds : (a : A) → test a ≡ true → P a
  pub passes : (a : A) → P a → test a ≡ true

pub only_takes : {A : Type 0} (f : Format A) (test : A → Bool) (P : A → Type 0) (d : Decides test P) (fault : Fault) (bytes : List ℕ) (x : A × List ℕ) → IsBytes bytes
    → (f.read bytes >>= λ a. cond (test a.0) (Ok a) (Err fault)) ≡ Ok x → TakesFront bytes (f.spell x.0) x.1 × (P x.0 × f.Fits x.0)
only_takes {A = A} f test P d fault bytes x fits e =
    let a = bind_ok (f.read bytes) (λ a. cond (test a.0) (Ok a) (Err fault)) x e in
    let g = checked_passed (test a.0.0) fault (Ok a.0) x a.2 in
    let t = f.takes bytes a.0 fits a.1 in
    subst (λ (y : A × List ℕ). TakesFront bytes (f.spell y.0) y.1 × (P y.0 × f.Fits y.0)) (ok_is a.0 x g.1) (t.0, (d.holds a.0.0 g.0, t.1))

pub only_again : {A : Type 0} (f : Format A) (test : A → Bool) (P : A → Type 0) (d : Decides test P) (fault : Fault) (a : A) (rest : List ℕ) → P a × f.Fits a
    → (f.read (f.spell a ++ rest) >>= λ a. cond (test a.0) (Ok a) (Err fault)) ≡ Ok (a, rest)
only_again f test P d fault a rest fits = rw (f.again a rest fits.1, d.passes a fits.0) refl

abbrev pub only : {A : Type 0} (test : A → Bool) (P : A → Type 0) → Decides test P → Fault → Format A → Format A
only test P d fault f = record {
  spell = f.spell;
  Fits = λ a. P a × f.Fits a;
  Counts = f.Counts;
  counts = λ a fits. f.counts a fits.1;
  onto = f.onto;
  read = λ bytes. f.read bytes >>= λ a. cond (test a.0) (Ok a) (Err fault);
  onto_is = f.onto_is;
  takes = only_takes f test P d fault;
  again = only_again f test P d fault;
}

-- ---- only some of the values, seen as another type

pub record Picks {A B : Type 0} (pick : A → Option B) (back : B → A) : Type 0 where
  pub holds : (a : A) (b : B) → pick a ≡ Some b → back b ≡ a
  pub passes : (b : B) → pick (back b) ≡ Some b

abbrev pub where_picked : {B : Type 0} → Fault → Option B → List ℕ → Result (B × List ℕ) Fault
where_picked fault None rest = Err fault
where_picked fault (Some b) rest = Ok (b, rest)

abbrev pub picked_read : {A B : Type 0} → Format A → (A → Option B) → Fault → List ℕ → Result (B × List ℕ) Fault
picked_read f pick fault bytes = f.read bytes >>= λ a. where_picked fault (pick a.0) a.1

was_picked : {B : Type 0} (fault : Fault) (o : Option B) (rest : List ℕ) (x : B × List ℕ) → where_picked fault o rest ≡ Ok x → (o ≡ Some x.0) × (rest ≡ x.1)
was_picked fault None rest x e = absurd cc
was_picked {B} fault (Some b) rest x e =
    let same = ok_is (b, rest) x e in
    (ap (λ (y : B × List ℕ). Some y.0) same, ap (λ (y : B × List ℕ). y.1) same)

pub picked_takes : {A B : Type 0} (f : Format A) (pick : A → Option B) (back : B → A) (p : Picks pick back) (fault : Fault) (bytes : List ℕ) (x : B × List ℕ) → IsBytes bytes
    → picked_read f pick fault bytes ≡ Ok x → TakesFront bytes (f.spell (back x.0)) x.1 × f.Fits (back x.0)
picked_takes {A = A} f pick back p fault bytes x fits e =
    let a = bind_ok (f.read bytes) (λ a. where_picked fault (pick a.0) a.1) x e in
    let t = f.takes bytes a.0 fits a.1 in
    let w = was_picked fault (pick a.0.0) a.0.1 x a.2 in
    let same : back x.0 ≡ a.0.0 = p.holds a.0.0 x.0 w.0 in
    subst (λ (v : A). TakesFront bytes (f.spell v) x.1 × f.Fits v) (sym same) (subst (λ (r : List ℕ). TakesFront bytes (f.spell a.0.0) r) w.1 t.0, t.1)

pub picked_again : {A B : Type 0} (f : Format A) (pick : A → Option B) (back : B → A) (p : Picks pick back) (fault : Fault) (b : B) (rest : List ℕ) → f.Fits (back b)
    → picked_read f pick fault (f.spell (back b) ++ rest) ≡ Ok (b, rest)
picked_again f pick back p fault b rest fits = rw (f.again (back b) rest fits, p.passes b) refl

abbrev pub picked : {A B : Type 0} (pick : A → Option B) (back : B → A) → Picks pick back → Fault → Format A → Format B
picked pick back p fault f = record {
  spell = λ b. f.spell (back b);
  Fits = λ b. f.Fits (back b);
  Counts = λ b. f.Counts (back b);
  counts = λ b. f.counts (back b);
  onto = λ out b. f.onto out (back b);
  read = picked_read f pick fault;
  onto_is = λ out b. f.onto_is out (back b);
  takes = picked_takes f pick back p fault;
  again = picked_again f pick back p fault;
}

-- ---- bytes behind their number

abbrev pub counted_at : List ℕ → Result (List ℕ × List ℕ) Fault
counted_at bytes = big_endian_at w32 bytes >>= λ n. part_at n.0 n.1

pub counted_takes : (bytes : List ℕ) (x : List ℕ × List ℕ) → IsBytes bytes → counted_at bytes ≡ Ok x → TakesFront bytes (to_be_bytes w32 (length x.0) ++ x.0) x.1 × (length x.0 < 2 ^ 32)
counted_takes bytes x fits e =
    let a = bind_ok (big_endian_at w32 bytes) (λ n. part_at n.0 n.1) x e in
    let t0 = number_takes w32 (2 ^ 32) number32 bytes a.0 fits a.1 in
    let t1 = part_takes a.0.0 a.0.1 x t0.0.rest_fits a.2 in
    let both = Takes-then bytes (to_be_bytes w32 a.0.0) a.0.1 x.0 x.1 t0.0 t1.0 in
    (subst (λ (k : ℕ). TakesFront bytes (to_be_bytes w32 k ++ x.0) x.1) (sym t1.1) both, omega (arith, t0.1, t1.1))

pub counted_again : (part rest : List ℕ) → length part < 2 ^ 32 → counted_at ((to_be_bytes w32 (length part) ++ part) ++ rest) ≡ Ok (part, rest)
counted_again part rest lt =
    ap counted_at (append_assoc (to_be_bytes w32 (length part)) part rest)
    ∙ rw (number_again w32 (2 ^ 32) number32 (length part) (part ++ rest) lt) (part_again (length part) part rest refl)

abbrev pub bytes_format : Format (List ℕ)
bytes_format = record {
  spell = λ part. to_be_bytes w32 (length part) ++ part;
  Fits = λ part. length part < 2 ^ 32;
  Counts = λ part. length part < 2 ^ 32;
  counts = λ part fits. fits;
  onto = λ out part. (out ++ to_be_bytes w32 (length part)) ++ part;
  read = counted_at;
  onto_is = λ out part. append_assoc out (to_be_bytes w32 (length part)) part;
  takes = counted_takes;
  again = counted_again;
}

pub is_text : Decides is_utf8 IsUtf8
is_text = record { holds = IsUtf8-from_is_utf8; passes = is_utf8-from_IsUtf8 }

abbrev pub text_format : Format (List ℕ)
text_format = only is_utf8 IsUtf8 is_text faults.NotText bytes_format
