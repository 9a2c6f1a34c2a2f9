-- What is read from a record is written so, and what is written in version 2 is read again.
use Rattle.std.proofs.Common.{◌≡◌, ℕ, zero, suc, ◌+◌, ◌<◌, ◌≤◌, ◌==◌, ◌&&◌, List, [], ◌∷◌, ◌++◌, length, take, drop, get_or, if◌then◌else◌, Option, Some, None, IfSome, refl, sym, ◌∙◌, ap, arith}
use Rattle.std.specs.Int.{w32, w64, to_le_bytes}
use Rattle.std.specs.List.{AllByRecursion}
use Rattle.std.specs.Option.{option_map}
use Rattle.std.proofs.lemmas.Nat.{le_bytes_4, le_bytes_8}
use Rattle.std.proofs.lemmas.Bool.Decides.{nat_tests}
use Rattle.std.proofs.lemmas.List.{get_or-drop, length-take, length-drop, drop-drop, drop_all, take-append-drop}
use Rattle.hook_record.specs.declared.Kind.{Kind}
use Rattle.hook_record.specs.declared.Kind.TheVariants.{Code, Refresh, ClientCredentials}
use Rattle.hook_record.specs.declared.Ask.{Ask}
use Rattle.hook_record.specs.Record.{Field, StandsIn, kind_number, kind_of, fields_before, further_fields, fields_v2, record_v1, record_v2, bytes_of, u32_at, u64_at, ask_of, with_further, ask_at_version, ask_in_v2}

-- ---- parts of bytes

bytes-take : (n : ℕ) (xs : List ℕ) → ((i : ℕ) → get_or xs i 0 < 256) → (i : ℕ) → get_or (take n xs) i 0 < 256
bytes-take (suc n) (x ∷ xs) small zero = small 0
bytes-take (suc n) (x ∷ xs) small (suc i) = bytes-take n xs (λ j. small (suc j)) i
bytes-take n xs small i = omega arith

bytes-drop : (n : ℕ) (xs : List ℕ) → ((i : ℕ) → get_or xs i 0 < 256) → (i : ℕ) → get_or (drop n xs) i 0 < 256
bytes-drop n xs small i = rw (get_or-drop n xs i 0) (small (n + i))

-- a part of some bytes, before what follows it
in_front : (xs rest part : List ℕ) (at k : ℕ) → part ≡ take k (drop at xs) → rest ≡ drop (at + k) xs → part ++ rest ≡ drop at xs
in_front xs rest part at k is follows =
    ap (λ (l : List ℕ). l ++ rest) is ∙ ap (λ (l : List ℕ). take k (drop at xs) ++ l) (follows ∙ sym (drop-drop k at xs)) ∙ take-append-drop k (drop at xs)

-- a number of four bytes, and one of eight, written before what follows it
written_4 : (xs rest : List ℕ) (at n : ℕ) → ((i : ℕ) → get_or xs i 0 < 256) → at + 4 ≤ length xs
    → u32_at xs at ≡ n → rest ≡ drop (at + 4) xs → to_le_bytes w32 n ++ rest ≡ drop at xs
written_4 xs rest at n small long is follows =
    in_front xs rest _ at 4 (le_bytes_4 _ n (omega (arith, length-take 4 (drop at xs), length-drop at xs)) (bytes-take 4 _ (bytes-drop at xs small)) (sym is)) follows

written_8 : (xs rest : List ℕ) (at n : ℕ) → ((i : ℕ) → get_or xs i 0 < 256) → at + 8 ≤ length xs
    → u64_at xs at ≡ n → rest ≡ drop (at + 8) xs → to_le_bytes w64 n ++ rest ≡ drop at xs
written_8 xs rest at n small long is follows =
    in_front xs rest _ at 8 (le_bytes_8 _ n (omega (arith, length-take 8 (drop at xs), length-drop at xs)) (bytes-take 8 _ (bytes-drop at xs small)) (sym is)) follows

-- bytes in which all fields stand are those fields' bytes
fields_written : (xs : List ℕ) (further : List Field) (version : ℕ) (ask : Ask) → ((i : ℕ) → get_or xs i 0 < 256) → 64 ≤ length xs
    → AllByRecursion (StandsIn xs) (fields_before further version ask) → bytes_of further ≡ drop 64 xs → bytes_of (fields_before further version ask) ≡ xs
fields_written xs further version ask small long (found, (kind, (now, (client, (owner, (asked, (scope, (life, (unused, (allowed, _)))))))))) follows =
    written_4 xs _ 0 _ small (omega arith) found
    (written_4 xs _ 4 _ small (omega arith) kind
    (written_8 xs _ 8 _ small (omega arith) now
    (written_8 xs _ 16 _ small (omega arith) client
    (written_8 xs _ 24 _ small (omega arith) owner
    (written_8 xs _ 32 _ small (omega arith) asked
    (written_8 xs _ 40 _ small (omega arith) scope
    (written_4 xs _ 48 _ small (omega arith) life
    (written_4 xs _ 52 _ small (omega arith) unused
    (written_8 xs _ 56 _ small (omega arith) allowed follows)))))))))

further_written : (xs : List ℕ) (ask : Ask) → ((i : ℕ) → get_or xs i 0 < 256) → length xs ≡ 96
    → AllByRecursion (StandsIn xs) (further_fields ask) → bytes_of (further_fields ask) ≡ drop 64 xs
further_written xs ask small long (consented, (access, (refresh, (unused, (more, _))))) =
    written_8 xs _ 64 _ small (omega arith) consented
    (written_4 xs _ 72 _ small (omega arith) access
    (written_4 xs _ 76 _ small (omega arith) refresh
    (written_8 xs _ 80 _ small (omega arith) unused
    (written_8 xs _ 88 _ small (omega arith) more (sym (drop_all 96 xs (omega arith)))))))

-- ---- from the ask to its fields

both_tested : (found version unused : ℕ) (o : Option Ask) (ask : Ask) → (if (found == version) && (unused == 0) then o else None) ≡ Some ask
    → (found ≡ version) × (unused ≡ 0) × (o ≡ Some ask)
both_tested found version unused o ask e = (grind (arith, nat_tests, e), grind (arith, nat_tests, e), grind (arith, nat_tests, e))

kind_named : (n : ℕ) (with_kind : Kind → Ask) (ask : Ask) → option_map with_kind (kind_of n) ≡ Some ask
    → (kind : Kind) × (n ≡ kind_number kind) × (with_kind kind ≡ ask)
kind_named (suc zero) with_kind ask e = (Code, refl, cc)
kind_named (suc (suc zero)) with_kind ask e = (Refresh, refl, cc)
kind_named (suc (suc (suc zero))) with_kind ask e = (ClientCredentials, refl, cc)
kind_named n with_kind ask e = absurd (grind (arith, nat_tests, e))

-- the numbers of the ask that was read stand in its fields
fields_read : (xs : List ℕ) (further : List Field) (version : ℕ) (ask : Ask) → ask_at_version version xs ≡ Some ask
    → AllByRecursion (StandsIn xs) further → AllByRecursion (StandsIn xs) (fields_before further version ask)
fields_read xs further version ask e more =
    let told = both_tested (u32_at xs 0) version (u32_at xs 52) (option_map (ask_of xs) (kind_of (u32_at xs 4))) ask e in
    let named = kind_named (u32_at xs 4) (ask_of xs) ask told.2 in
    rw (← named.2) (told.0, (named.1, (refl, (refl, (refl, (refl, (refl, (refl, (told.1, (refl, more))))))))))

pub record_v1_read : (xs : List ℕ) (found : Option Ask) → ((i : ℕ) → get_or xs i 0 < 256) → length xs ≡ 64
    → found ≡ ask_at_version 1 xs → IfSome found (λ ask. record_v1 ask ≡ xs)
record_v1_read xs None small long e = tt
record_v1_read xs (Some ask) small long e =
    fields_written xs [] 1 ask small (omega arith) (fields_read xs [] 1 ask (sym e) tt) (sym (drop_all 64 xs (omega arith)))

-- the ask of version 2, where its zeros stand
pub record_v2_read : (xs : List ℕ) (ask : Ask) → ((i : ℕ) → get_or xs i 0 < 256) → length xs ≡ 96
    → u64_at xs 80 ≡ 0 → u64_at xs 88 ≡ 0 → Some ask ≡ ask_at_version 2 xs → record_v2 (with_further xs ask) ≡ xs
record_v2_read xs ask small long unused more e =
    let further : AllByRecursion (StandsIn xs) (further_fields (with_further xs ask)) = (refl, (refl, (refl, (unused, (more, tt))))) in
    fields_written xs (further_fields (with_further xs ask)) 2 ask small (omega arith) (fields_read xs (further_fields (with_further xs ask)) 2 ask (sym e) further) (further_written xs (with_further xs ask) small long further)

-- ---- from the fields to the ask

kind_of-kind_number : (kind : Kind) → kind_of (kind_number kind) ≡ Some kind
kind_of-kind_number Code = refl
kind_of-kind_number Refresh = refl
kind_of-kind_number ClientCredentials = refl

pub ask_v2_from_fields : (xs : List ℕ) (ask : Ask) → AllByRecursion (StandsIn xs) (fields_v2 ask) → ask_in_v2 xs ≡ Some ask
ask_v2_from_fields xs ask (found, (kind, (now, (client, (owner, (asked, (scope, (life, (unused, (allowed, (consented, (access, (refresh, (x, (y, _))))))))))))))) =
    rw (x, y, found, unused, kind, kind_of-kind_number ask.kind, now, client, owner, asked, scope, life, allowed, consented, access, refresh) refl
