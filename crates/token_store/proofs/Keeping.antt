-- Families in slots: what is put among them, and which are left.
use Rattle.std.proofs.Common.{◌≡◌, ◌≢◌, ◌<◌, ◌+◌, ◌∙◌, ℕ, List, [], ◌∷◌, Option, Some, None, Bool, true, false, cond, drop, length, refl, ap, sym, arith}
use Rattle.std.specs.Prelude.{count_by, filter, nat_eq, nat_lt, option_map, IfNone, IfSome, if◌then◌else◌}
use Rattle.std.specs.Cmp.{nat_eq_equiv}
use Rattle.std.specs.Int.{from_bool}
use Rattle.std.specs.List.{IsDistinct}
use Rattle.std.specs.Map.{keys_of, lookup}
use Rattle.std.specs.Option.{option_and_then}
use Rattle.std.proofs.lemmas.List.{at_drop_more}
use Rattle.std.proofs.lemmas.Map.Entries.{lookup-filter-values}
use Rattle.shelf.specs.declared.rack.Rack.{Rack}
use Rattle.shelf.specs.Racked.{FindsIn, HasTakenOut, set_in}
use Rattle.shelf.specs.Shelved.{entries_in, slot_at}
use Rattle.shelf.specs.declared.shelf.Slot.{Slot}
use Rattle.token_store.specs.RecordsParts.{HasClosed, OthersStay, is_open_of, open_in, where_peopled}
use Rattle.token_store.specs.Kin.{IsRackedIfAny, kin_of}
use Rattle.token_store.proofs.Closing.{peopled_is}
use Rattle.token_store.proofs.Names.{Shared, count_by-cons, family_numbered, lookup-remove_entry, nat_tests}

-- ANOTHER IN ITS PLACE

pub set_here : (es : List (ℕ × Shared)) (n : ℕ) (s : Shared) (o : Option Shared) → lookup (nat_eq n) es ≡ o → lookup (nat_eq n) (set_in es n s o) ≡ option_map (λ was. s) o
set_here es n s None is = is
set_here es n s (Some was) is = over es is
  where
    over : (es : List (ℕ × Shared)) → lookup (nat_eq n) es ≡ Some was → lookup (nat_eq n) (set_in es n s (Some was)) ≡ Some s
    over [] is = cc
    over (e ∷ es) is = let more = over es in grind (arith, more, is)

pub set_others : (es : List (ℕ × Shared)) (n k : ℕ) (s : Shared) (o : Option Shared) → k ≢ n → lookup (nat_eq k) (set_in es n s o) ≡ lookup (nat_eq k) es
set_others es n k s None ne = refl
set_others es n k s (Some was) ne = over es
  where
    over : (es : List (ℕ × Shared)) → lookup (nat_eq k) (set_in es n s (Some was)) ≡ lookup (nat_eq k) es
    over [] = refl
    over (e ∷ es) = let more = over es in grind (arith, nat_tests, more, ne)

pub set_found : (old new : List (ℕ × Shared)) (n : ℕ) (s : Shared) → new ≡ set_in old n s (lookup (nat_eq n) old) →
    (family_numbered new n ≡ option_map (λ was. s) (family_numbered old n)) × OthersStay old new n
set_found old new n s is = (ap (lookup (nat_eq n)) is ∙ set_here old n s (lookup (nat_eq n) old) refl, λ k ne. ap (lookup (nat_eq k)) is ∙ set_others old n k s (lookup (nat_eq n) old) ne)

pub put_found : (old new : List (ℕ × Shared)) (n : ℕ) (s : Shared) → FindsIn old new n s → (family_numbered new n ≡ Some s) × OthersStay old new n
put_found old new n s finds = ((let here = finds n in grind (arith, nat_tests, here)), λ k ne. (let there = finds k in grind (arith, nat_tests, there, ne)))

-- OPEN ONES

pub open_counted : (owner : ℕ) (lives : ℕ → Bool) (slots : List (Option (Slot ℕ Shared))) → count_by (open_in owner lives) slots ≡ count_by (is_open_of owner lives) (entries_in slots)
open_counted owner lives [] = refl
open_counted owner lives (None ∷ ss) = let more = open_counted owner lives ss in let first = count_by-cons (open_in owner lives) None ss in grind (arith, more, first)
open_counted owner lives (Some s ∷ ss) =
    let more = open_counted owner lives ss in
    let first = count_by-cons (open_in owner lives) (Some s) ss in
    let second = count_by-cons (is_open_of owner lives) (s.key, s.kept) (entries_in ss) in
    grind (arith, more, first, second)

-- where what is in the slot counts or does not, and those behind it do
pub counted_on : (p : Option (Slot ℕ Shared) → Bool) (slots : List (Option (Slot ℕ Shared))) (i : ℕ) (b : Bool) → i < length slots → b ≡ p (slot_at slots i) →
    count_by p (drop i slots) ≡ from_bool b + count_by p (drop (i + 1) slots)
counted_on p slots i b inside is =
    at_drop_more (count_by p) slots i None inside ∙ count_by-cons p (slot_at slots i) (drop (i + 1) slots)
    ∙ ap (λ n. n + count_by p (drop (i + 1) slots)) (ap (λ a. cond {A = ℕ} a 1 0) (sym is) ∙ one b)
  where
    one : (b : Bool) → cond {A = ℕ} b 1 0 ≡ from_bool b
    one true = refl
    one false = refl

-- OUT

-- what is taken is found no more
pub taken_closed : (old new : List (ℕ × Shared)) (n : ℕ) (o : Option Shared) → IsDistinct nat_eq (keys_of old) → IfSome o (λ v. HasTakenOut old new n v) → IfNone o ((new ≡ old) × (lookup (nat_eq n) old ≡ None)) →
    (o ≡ lookup (nat_eq n) old) × HasClosed old new n
taken_closed old new n None once some none = (sym none.1, record { here = ap (lookup (nat_eq n)) none.0 ∙ none.1; others = λ k ne. ap (lookup (nat_eq k)) none.0 })
taken_closed old new n (Some v) once some none = (
  sym some.found,
  record {
    here = ap (lookup (nat_eq n)) some.taken ∙ (let left = lookup-remove_entry nat_eq_equiv (nat_eq n) (nat_eq_equiv.congr n) n old once in grind (arith, nat_tests, left));
    others = λ k ne. ap (lookup (nat_eq k)) some.taken ∙ (let left = lookup-remove_entry nat_eq_equiv (nat_eq n) (nat_eq_equiv.congr n) k old once in grind (arith, nat_tests, left, ne));
  },
)

-- EACH ONCE

pub kin_once : (o : Option (Rack Shared)) → IsRackedIfAny o → IsDistinct nat_eq (keys_of (kin_of o).entries)
unfolding IsDistinct
kin_once None racked = tt
kin_once (Some rack) racked = racked.once

-- THOSE WITH RECORDS

pub kept_peopled : (old new : List (ℕ × Shared)) → IsDistinct nat_eq (keys_of old) → new ≡ filter (λ (e : ℕ × Shared). nat_lt 0 e.1.count) old →
    (n : ℕ) → family_numbered new n ≡ option_and_then where_peopled (family_numbered old n)
kept_peopled old new once is n =
    ap (λ es. family_numbered es n) is ∙ lookup-filter-values nat_eq_equiv (λ (s : Shared). nat_lt 0 s.count) n old once ∙ peopled_is (family_numbered old n)
