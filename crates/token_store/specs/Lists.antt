-- When a store's answers are those of a list of changes, and why a change cannot stand next in it.
use Rattle.std.specs.Prelude.{◌≡◌, ◌==◌, ◌&&◌, not, ℕ, List, [], ◌∷◌, Bool, true, Option, Some, None, is_some, option_map, if◌then◌else◌}
use Rattle.consent.specs.History.{Event, opener, has_ended, is_new, is_taken}
use Rattle.consent.specs.Changes.{parties_of}
use Rattle.consent.specs.declared.change.Change.{Change}
use Rattle.consent.specs.declared.change.Change.TheVariants.{CodeGiven, Issued, FamilyEnded}
use Rattle.consent.specs.declared.parties.Parties.{Parties}
use Rattle.token_store.specs.declared.fault.AgainFault.{AgainFault}
use Rattle.token_store.specs.declared.fault.AgainFault.TheVariants.{Unknown, DrawTaken, Memory}
use Rattle.token_store.specs.Kept.{Held}
use Rattle.token_store.specs.Fits.{FitsStore}
use Rattle.token_store.specs.Found.{SeenFamily, family_of_grant}
use Rattle.token_store.specs.Records.{family_numbered, shared_seen}

-- what a list tells of the family: whose it is, the scope of its code, if it has one, and whether it has ended
abbrev pub family_told : List Event → ℕ → Option SeenFamily
family_told list family = option_map (family_of_grant list) (opener list family)

-- Made of the list, a store answers as that says, and knows each family that it names, whether something of it is unexpired or not.
pub record FitsList (held : Held) (list : List Event) (moment : ℕ) : Type 0 where
  pub store : FitsStore held list moment
  pub families : (n : ℕ) → option_map shared_seen (family_numbered held.room.families n) ≡ family_told list n
  -- what has ended is known
  pub ended : (n : ℕ) → has_ended list n ≡ true → is_some (family_told list n) ≡ true
  -- nothing is expected
  pub none_coming : held.room.coming ≡ None

-- so it is of each list that the store fits at the moment
abbrev pub ForEachList : Held → ℕ → (List Event → Type 0) → Type 0
ForEachList store moment P = (list : List Event) → FitsList store list moment → P list

-- it is of the client and the owner, and has not ended; a family that is unknown may be anyone's
abbrev pub is_open_to : Parties → Option SeenFamily → Bool
is_open_to parties None = true
is_open_to parties (Some f) = (f.client == parties.client) && (f.owner == parties.owner) && not f.ended

-- the family is unknown, or of the client and the owner and not ended
abbrev pub can_be_of : List Event → ℕ → Parties → Bool
can_be_of list family parties = is_open_to parties (family_told list family)

-- it is of a family that it cannot be of, or its digest is taken
abbrev pub refused_by : (can_be is_taken : Bool) → Option AgainFault
refused_by can_be is_taken = if not can_be then Some Unknown else if is_taken then Some DrawTaken else None

-- why the change cannot stand next in the list: it names a family that it cannot be of, or its code's or token's digest is taken. What a
-- list has was given once, so it is not refused for room, which may be less now.
abbrev pub standing_refusal : List Event → ℕ → Change → Option AgainFault
standing_refusal list moment (CodeGiven family facts digest) = refused_by (is_new list family) (is_taken list moment (digest ∷ []))
standing_refusal list moment (Issued home token) =
    refused_by (can_be_of list home.family (parties_of home)) (is_taken list moment (token.digest ∷ []))
standing_refusal list moment (FamilyEnded family) = if is_some (family_told list family) then None else Some Unknown
standing_refusal list moment _ = None

-- memory was refused, or the change cannot stand next, and this is why
abbrev pub RefusesAgain : Held → ℕ → Change → AgainFault → Type 0
RefusesAgain store moment change Memory = Unit {0}
RefusesAgain store moment change fault = ForEachList store moment (λ list. standing_refusal list moment change ≡ Some fault)
