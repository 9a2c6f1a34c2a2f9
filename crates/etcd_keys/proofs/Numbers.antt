-- The number that 16 digits tell.
use Rattle.std.proofs.Common.{◌≡◌, List, ℕ, refl, ap}
use Rattle.std.specs.Prelude.{None, Some, Result, Ok, Err, MatchResult}
use Rattle.std.specs.Int.{from_be_bytes, w64}
use Rattle.hex.specs.declared.error.FromHexError.{FromHexError}
use Rattle.etcd_keys.specs.Keys.{number_of}

abbrev Decodes : Result (List ℕ) FromHexError → Result (Unit {0}) FromHexError → List ℕ → Type 0
Decodes decoded result bytes = MatchResult decoded (λ is. (result ≡ Ok tt) × (bytes ≡ is)) (λ fault. result ≡ Err fault)

pub number_ok : (decoded : Result (List ℕ) FromHexError) (result : Result (Unit {0}) FromHexError) (bytes : List ℕ) → Decodes decoded result bytes → result ≡ Ok tt
    → Some (from_be_bytes w64 bytes) ≡ number_of decoded
number_ok (Ok is) result bytes decodes ok = ap (λ (b : List ℕ). Some (from_be_bytes w64 b)) decodes.1
number_ok (Err fault) result bytes decodes ok = absurd cc

pub number_err : (decoded : Result (List ℕ) FromHexError) (result : Result (Unit {0}) FromHexError) (bytes : List ℕ) (fault : FromHexError) → Decodes decoded result bytes
    → result ≡ Err fault → None ≡ number_of decoded
number_err (Ok is) result bytes fault decodes err = let ok = decodes.0 in absurd cc
number_err (Err other) result bytes fault decodes err = refl
