-- Owners whom a gateway names: its key, one space, and the owner's number.
use Rattle.std.specs.Prelude.{ℕ, ◌+◌, ◌-◌, ◌*◌, ◌==◌, ◌&&◌, nat_le, List, [], ◌∷◌, Bool, false, bytes_eq, if◌then◌else◌, Option, Some, None, option_and_then}
use Rattle.std.specs.List.{before_first, after_first}
use Rattle.std.specs.Char.{is_ascii_digit}
use Rattle.clients.specs.Names.{option_map_or}
use Rattle.consent.specs.Owners.{owner_numbered}
use Rattle.clients.specs.Limits.{owner_number_limit}
use Rattle.clients.specs.Keys.{sent_digest}
use Rattle.clients.specs.RegistryRecord.{RegistryRecord}

-- a number with a further decimal digit
abbrev pub with_digit : ℕ → ℕ → ℕ
with_digit number digit = number * 10 + (digit - 48)

-- a number with these further decimal digits, where it is at most 4,294,967,295
abbrev pub with_digits : ℕ → List ℕ → Option ℕ
with_digits number [] = Some number
with_digits number (b ∷ bs) = if is_ascii_digit b && nat_le (with_digit number b) owner_number_limit then with_digits (with_digit number b) bs else None

-- an owner's number in decimal: 1 to 4,294,967,295 without a leading zero
abbrev pub number_in : List ℕ → Option ℕ
number_in [] = None
number_in (b ∷ bs) = if b == 48 then None else option_and_then owner_numbered (with_digits 0 (b ∷ bs))

abbrev pub is_space : ℕ → Bool
is_space b = b == 32

-- this is the gateway's key: it has the form of a key, and the gateway's digest
abbrev pub is_gateway_key : List ℕ → RegistryRecord → Bool
is_gateway_key key rules = option_map_or (λ digest. option_map_or (bytes_eq digest) rules.gateway false) (sent_digest key) false

-- the owner whom the gateway names: behind its key and the first space
abbrev pub gateway_owner : List ℕ → RegistryRecord → Option ℕ
gateway_owner sent rules =
    if is_gateway_key (before_first is_space sent) rules then number_in (after_first is_space sent) else None
