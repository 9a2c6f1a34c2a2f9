-- The draws of requests, one after another.
use Rattle.std.proofs.Common.{◌≡◌, ℕ, ◌+◌, ◌-◌, ◌≤◌, List, [], ◌∷◌, ◌++◌, refl, ap, arith}
use Rattle.http_edge.proofs.Names.{Draws, Message, asked_of_message, Suffices, one_fewer, demand_of, draws_for, draws_behind, Sources}
use Rattle.std.specs.Prelude.{Option}

module _ {S : Type 0} (sources : Sources S) where
  pub draws_push : (source : S) (messages : List Message) (message : Message) →
      draws_for sources source (messages ++ message ∷ []) ≡ draws_for sources source messages ++ sources.draws (draws_behind sources source messages) (demand_of (asked_of_message message)) ∷ []
  draws_push source [] message = refl
  draws_push source (x ∷ messages) message =
      ap (λ (ds : List Draws). sources.draws source (demand_of (asked_of_message x)) ∷ ds) (draws_push (sources.behind source (demand_of (asked_of_message x))) messages message)

  pub behind_push : (source : S) (messages : List Message) (message : Message) →
      draws_behind sources source (messages ++ message ∷ []) ≡ sources.behind (draws_behind sources source messages) (demand_of (asked_of_message message))
  behind_push source [] message = refl
  behind_push source (x ∷ messages) message = behind_push (sources.behind source (demand_of (asked_of_message x))) messages message

-- what suffices for some suffices for fewer
pub fewer_suffice : (supply : Option ℕ) (count n : ℕ) → n ≤ count → Suffices supply count → Suffices supply n
fewer_suffice supply count n few enough = grind (arith, few, enough)

pub suffices_none : (supply : Option ℕ) → Suffices supply 0
suffices_none supply = grind arith

-- behind one more request
pub suffices_behind : (supply left : Option ℕ) (count i : ℕ) → left ≡ one_fewer supply → Suffices supply (count - i) → Suffices left (count - (i + 1))
suffices_behind supply left count i same enough = grind (arith, same, enough)
