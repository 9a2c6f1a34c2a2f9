-- Names that have their places, and what clients may be allowed.
use Rattle.std.specs.Prelude.{ℕ, List, [], ◌∷◌, map, Option, None, Some, if◌then◌else◌, bytes_eq}
use Rattle.consent.specs.History.{is_within}
use Rattle.change_codec.specs.Rules.{ClientFact}

-- the first of the names told that does not have its place now
abbrev pub first_moved : List (List ℕ) → List (List ℕ) → Option (List ℕ)
first_moved [] now = None
first_moved (name ∷ names) [] = Some name
first_moved (name ∷ names) (other ∷ others) = if bytes_eq name other then first_moved names others else Some name

-- the first of the clients told that may not be allowed now all that it was
abbrev pub first_narrowed : List ClientFact → List ClientFact → Option (List ℕ)
first_narrowed [] now = None
first_narrowed (c ∷ cs) [] = None
first_narrowed (c ∷ cs) (d ∷ ds) = if is_within c.allowed d.allowed then first_narrowed cs ds else Some c.name

abbrev pub client_names : List ClientFact → List (List ℕ)
client_names clients = map (λ c. c.name) clients
