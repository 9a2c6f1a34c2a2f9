-- Texts that are listed.
use Rattle.std.proofs.Common.{◌≡◌, ℕ, List, [], ◌∷◌, ◌||◌, map, ap, refl, String, Global, string_bytes}
use Rattle.clients.proofs.Names.{list_any, bytes_eq}

-- a text is among the texts of strings where one of the strings has it
pub any_text : (text : List ℕ) (strings : List (String Global))
    → list_any (bytes_eq text) (map string_bytes strings) ≡ list_any (λ s. bytes_eq text (string_bytes s)) strings
any_text text [] = refl
any_text text (s ∷ ss) = ap (λ b. bytes_eq text (string_bytes s) || b) (any_text text ss)
