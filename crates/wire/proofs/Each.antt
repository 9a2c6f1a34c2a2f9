-- Writing and reading one after the other, as loops do.
use Rattle.std.proofs.Common.{◌≡◌, ℕ, zero, suc, ◌-◌, ◌+◌, ◌≤◌, ◌<◌, List, [], ◌∷◌, ◌++◌, length, map, take, get_or, Result, Ok, Err, refl, sym, ap, subst, ◌∙◌, append_assoc, arith}
use Rattle.std.specs.List.{AllByRecursion}
use Rattle.std.proofs.lemmas.List.{append-nil, map_push, take_all, take_more}
use Rattle.wire.specs.declared.fault.Fault.{Fault}
use Rattle.wire.specs.declared.fault.DecodeFault.{DecodeFault}
use Rattle.wire.specs.declared.fault.DecodeFault.TheVariants as errors
use Rattle.wire.specs.Format.{Format}
use Rattle.wire.specs.Reading.{◌>>=◌, FailsReading}
use Rattle.wire.specs.Lists.{each_at, each_onto}

-- ---- writing

onto_push : {A : Type 0} (f : Format A) (out : List ℕ) (xs : List A) (x : A) → each_onto f out (xs ++ x ∷ []) ≡ f.onto (each_onto f out xs) x
unfolding each_onto
onto_push f out [] x = refl
onto_push f out (y ∷ xs) x = onto_push f (f.onto out y) xs x

all_push : {A : Type 0} (P : A → Type 0) (xs : List A) (x : A) → AllByRecursion P xs → P x → AllByRecursion P (xs ++ x ∷ [])
all_push P [] x all here = (here, tt)
all_push P (y ∷ xs) x all here = (all.0, all_push P xs x all.1 here)

more : {X A : Type 0} (v : X → A) (xs : List X) (i : ℕ) (x : X) → i < length xs → x ≡ get_or xs i x → map v (take (i + 1) xs) ≡ map v (take i xs) ++ v x ∷ []
more {X = X} v xs i x lt is = ap (map v) (take_more xs i x lt ∙ ap (λ (y : X). take i xs ++ y ∷ []) (sym is)) ∙ map_push v (take i xs) x

pub onto_more : {X A : Type 0} (f : Format A) (v : X → A) (start now new : List ℕ) (xs : List X) (i : ℕ) (x : X) → i < length xs → x ≡ get_or xs i x
    → now ≡ each_onto f start (map v (take i xs)) → new ≡ f.onto now (v x) → new ≡ each_onto f start (map v (take (i + 1) xs))
onto_more f v start now new xs i x lt is so_far here =
    here ∙ ap (λ (t : List ℕ). f.onto t (v x)) so_far ∙ sym (onto_push f start (map v (take i xs)) (v x)) ∙ ap (each_onto f start) (sym (more v xs i x lt is))

pub all_more : {X A : Type 0} (P : A → Type 0) (v : X → A) (xs : List X) (i : ℕ) (x : X) → i < length xs → x ≡ get_or xs i x
    → AllByRecursion P (map v (take i xs)) → P (v x) → AllByRecursion P (map v (take (i + 1) xs))
all_more P v xs i x lt is so_far here = subst (AllByRecursion P) (sym (more v xs i x lt is)) (all_push P (map v (take i xs)) (v x) so_far here)

pub one_of_all : {X A : Type 0} (P : A → Type 0) (v : X → A) (xs : List X) (i : ℕ) (d : X) → i < length xs → AllByRecursion P (map v xs) → P (v (get_or xs i d))
one_of_all P v [] i d lt all = absurd (omega arith)
one_of_all P v (x ∷ xs) zero d lt all = all.0
one_of_all P v (x ∷ xs) (suc i) d lt all = one_of_all P v xs i d (omega arith) all.1

pub at_end : {X A : Type 0} (Q : List A → Type 0) (v : X → A) (xs : List X) (n : ℕ) → length xs ≤ n → Q (map v (take n xs)) → Q (map v xs)
at_end {X = X} Q v xs n le q = subst (λ (ys : List X). Q (map v ys)) (take_all n xs le) q

-- ---- reading: what was read before, and what is still read

abbrev pub with_front : {A : Type 0} → List A → Result (List A × List ℕ) Fault → Result (List A × List ℕ) Fault
with_front front read = read >>= λ x. Ok (front ++ x.0, x.1)

regroup : {A : Type 0} (front : List A) (n : A) (read : Result (List A × List ℕ) Fault) → with_front front (read >>= λ x. Ok (n ∷ x.0, x.1)) ≡ with_front (front ++ n ∷ []) read
regroup front n (Ok x) = ap (λ (ns : List _). Ok (ns, x.1)) (simp append_assoc)
regroup front n (Err f) = refl

pub goes_on : {A : Type 0} (f : Format A) (front : List A) (count i : ℕ) (bytes : List ℕ) (n : A) (after : List ℕ) (total : Result (List A × List ℕ) Fault)
    → i < count → f.read bytes ≡ Ok (n, after) → with_front front (each_at f (count - i) bytes) ≡ total → with_front (front ++ n ∷ []) (each_at f (count - (i + 1)) after) ≡ total
unfolding each_at
goes_on f front count i bytes n after total lt h so_far =
    let k : count - i ≡ suc (count - (i + 1)) = omega arith in
    let one : with_front front (each_at f (count - i) bytes) ≡ with_front (front ++ n ∷ []) (each_at f (count - (i + 1)) after) = rw (k, h) (regroup front n (each_at f (count - (i + 1)) after)) in
    sym one ∙ so_far

pub ends : {A : Type 0} (f : Format A) (e : DecodeFault) (front : List A) (count i : ℕ) (bytes : List ℕ) (total : Result (List A × List ℕ) Fault)
    → i < count → FailsReading e (f.read bytes) → with_front front (each_at f (count - i) bytes) ≡ total → FailsReading e total
unfolding each_at
ends f errors.Memory front count i bytes total lt h so_far = tt
ends f (errors.Bytes d) front count i bytes total lt h so_far =
    let k : count - i ≡ suc (count - (i + 1)) = omega arith in
    let one : with_front front (each_at f (count - i) bytes) ≡ Err d = rw (k, h) refl in
    sym so_far ∙ one

pub is_done : {A : Type 0} (f : Format A) (front : List A) (count i : ℕ) (bytes : List ℕ) (total : Result (List A × List ℕ) Fault)
    → count ≤ i → with_front front (each_at f (count - i) bytes) ≡ total → total ≡ Ok (front, bytes)
unfolding each_at
is_done f front count i bytes total le so_far =
    let k : count - i ≡ 0 = omega arith in
    let one : with_front front (each_at f (count - i) bytes) ≡ Ok (front, bytes) = rw k (ap (λ (ns : List _). Ok (ns, bytes)) (append-nil front)) in
    sym so_far ∙ one
