-- Texts as strings of JSON.
use Rattle.std.proofs.Common.{◌≡◌, ℕ, List, [], ◌∷◌, Bor, map, refl, ap}
use Rattle.json.specs.Token.{string}

pub strings_of : (texts : List (Bor (List ℕ))) → map (λ s. string s.now) texts ≡ map string (map (λ s. s.now) texts)
strings_of [] = refl
strings_of (s ∷ texts) = ap (λ l. string s.now ∷ l) (strings_of texts)
