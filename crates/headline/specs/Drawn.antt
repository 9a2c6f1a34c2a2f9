-- Which random bytes codes and tokens come from.
use Rattle.std.specs.Prelude.{◌≡◌, ◌⊎◌, ℕ, List, [], ◌∷◌, ◌++◌, if◌then◌else◌, map}
use Rattle.std.proofs.Common.{inl, inr}
use Rattle.headline.specs.Names.{flat_map, sha256, grants, Hosting, Outset, AnsweredRequest, Happening, Came, Resumed, Happens, Run, World, first_world}
use Rattle.http_edge.specs.Sources.{wants_draws}

-- the digests of the two draws of a request that wants draws; of any other request there are none
abbrev pub digests_for : AnsweredRequest → List (List ℕ)
digests_for request = if wants_draws request.asked then sha256 request.draws.first ∷ sha256 request.draws.second ∷ [] else []

module _ {H : Type 0} (hosting : Hosting H) (outset : Outset H) where
  -- those for the requests that a piece completed; and those of the codes and tokens that were there already, where the server
  -- goes on from what was kept
  abbrev pub digests_by : (old : World) (e : Happening) (new : World) → Happens hosting outset old e new → List (List ℕ)
  digests_by old (Came came) new (fits, inl comes) = flat_map digests_for comes.requests
  digests_by old (Came came) new (fits, inr passes) = []
  digests_by old (Resumed history greatest kept) new resumes = map (λ g. g.digest) (grants history)
  digests_by old e new happens = []

  -- all of a run
  abbrev pub digests_in : (old : World) (schedule : List Happening) (new : World) → Run hosting outset old schedule new → List (List ℕ)
  digests_in old [] new run = []
  digests_in old (e ∷ later) new run = digests_by old e run.0 run.1 ++ digests_in run.0 later new run.2

-- the ones stand among the others in their order, each at a place of its own
abbrev pub AreAmong : List (List ℕ) → List (List ℕ) → Type 0
AreAmong [] others = Unit {0}
AreAmong (x ∷ xs) [] = ⊥
AreAmong (x ∷ xs) (y ∷ others) = ((x ≡ y) × AreAmong xs others) ⊎ AreAmong (x ∷ xs) others

-- each code and token that a run led to has the digest of a draw of its own, which a request had that wants draws
abbrev pub AreDrawn : {H : Type 0} → Hosting H → Type 0
AreDrawn {H = H} hosting =
    (outset : Outset H) (schedule : List Happening) (last : World) (run : Run hosting outset first_world schedule last) →
    AreAmong (map (λ g. g.digest) (grants last.history)) (digests_in hosting outset first_world schedule last run)
