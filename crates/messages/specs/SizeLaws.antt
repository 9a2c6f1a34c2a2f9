-- How long texts become.
use Rattle.std.proofs.Common.{◌≤◌, ℕ, ◌+◌, ◌*◌, List, [], ◌∷◌, length, length-append, arith}
use Rattle.std.proofs.Math.Nat.{mul-suc}
use Rattle.std.specs.List.{flat_map}
use Rattle.json.specs.Print.{escape_byte, escape}
use Rattle.percent_encoding.specs.Percent.{percent_encode_byte}
use Rattle.form_urlencoded.specs.Form.{serialize_byte, byte_serialize, append_pair, extend_pairs}
use Rattle.messages.specs.Small.{pairs_size}

-- each element becomes at most k
pub length-flat_map : (f : ℕ → List ℕ) (k : ℕ) (xs : List ℕ) → ((x : ℕ) → length (f x) ≤ k) → length (flat_map f xs) ≤ k * length xs
length-flat_map f k [] each = omega arith
length-flat_map f k (x ∷ xs) each =
    let more = length-flat_map f k xs each in
    let times = mul-suc k (length xs) in
    grind (arith, length-append, each, more, times)

pub length-escape_byte : (x : ℕ) → length (escape_byte x) ≤ 6
unfolding escape_byte
length-escape_byte x = grind arith

pub length-escape : (s : List ℕ) → length (escape s) ≤ 6 * length s
length-escape s = length-flat_map escape_byte 6 s length-escape_byte

serialized_byte : (x : ℕ) → length (serialize_byte x) ≤ 3
unfolding percent_encode_byte
serialized_byte x = grind arith

length-byte_serialize : (bytes : List ℕ) → length (byte_serialize bytes) ≤ 3 * length bytes
unfolding byte_serialize
length-byte_serialize bytes = length-flat_map serialize_byte 3 bytes serialized_byte

length-append_pair : (form name value : List ℕ) → length (append_pair form name value) ≤ length form + 3 * (length name + length value) + 2
length-append_pair form name value = grind (arith, length-append, length-byte_serialize)

-- a form is at most three times as long as its pairs
pub length-extend_pairs : (form : List ℕ) (pairs : List (List ℕ × List ℕ)) →
    length (extend_pairs form pairs) ≤ length form + 3 * pairs_size pairs + 2 * length pairs
length-extend_pairs form [] = omega arith
length-extend_pairs form ((name, value) ∷ pairs) =
    let here = length-append_pair form name value in
    let more = length-extend_pairs (append_pair form name value) pairs in
    omega (arith, here, more)
