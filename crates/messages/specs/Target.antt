-- The two parts of a target (RFC 9112, section 3.2.1).
use Rattle.std.specs.Prelude.{◌==◌, ℕ, List}
use Rattle.std.specs.List.{before_first, after_first}

-- the path: the target before the first `?`
abbrev pub path_of : List ℕ → List ℕ
path_of target = before_first (λ b. b == 63) target

-- the query: what follows the first `?`, empty where there is none
abbrev pub query_of : List ℕ → List ℕ
query_of target = after_first (λ b. b == 63) target
