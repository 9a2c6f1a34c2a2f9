-- What is left of a history when changes are left out.
use Rattle.std.specs.Prelude.{◌≡◌, ◌==◌, ℕ, List, [], ◌∷◌, ◌++◌, Bool, true, false, ◌&&◌, ◌||◌, not, Some, if◌then◌else◌}
use Rattle.std.specs.List.{list_any}
use Rattle.consent.specs.History.{Event, Change, Terms, code_terms, has_ended, lowers}
use Rattle.consent.specs.History.Change.{Consented, CodeGiven, FamilyEnded}
use Rattle.consent.specs.Facts.{GivenCode}

-- what is left of the events where some go: whether one goes is asked with all that comes after it, `rest` after all of them
abbrev pub left_of : (Event → List Event → Bool) → List Event → List Event → List Event
left_of goes [] rest = []
left_of goes (e ∷ es) rest = if goes e (es ++ rest) then left_of goes es rest else e ∷ left_of goes es rest

-- the change is the code or the end of a family that stays
abbrev pub matters : (ℕ → Bool) → Change → Bool
matters family_stays (CodeGiven family code digest) = family_stays family
matters family_stays (FamilyEnded family) = family_stays family
matters family_stays _ = false

-- with the change, the next of the two's consents and of the codes of their families that stay is a consent
abbrev pub superseded_by : (ℕ → Bool) → ℕ → ℕ → Change → Bool → Bool
superseded_by family_stays owner client (Consented o c mask) later = (o == owner) && (c == client) || later
superseded_by family_stays owner client (CodeGiven family code digest) later =
    not (family_stays family && (code.owner == owner) && (code.client == client)) && later
superseded_by family_stays owner client _ later = later

-- so it is after a consent of the two: no code that stays was given by it
abbrev pub is_superseded : (ℕ → Bool) → ℕ → ℕ → List Event → Bool
is_superseded family_stays owner client [] = false
is_superseded family_stays owner client (e ∷ later) = superseded_by family_stays owner client e.change (is_superseded family_stays owner client later)

-- one of the events is a consent to less than the terms' scope
abbrev pub any_lowers : Terms → List Event → Bool
any_lowers terms events = list_any (λ e. lowers terms e.change) events

-- the terms of the code
abbrev pub code_terms_of : GivenCode → Terms
code_terms_of code = record { client = code.client; owner = code.owner; scope = code.scope }

-- a consent may go if it is superseded, and lowers no family that stays unless a later one does
pub record MayGoConsent (history : List Event) (family_stays : ℕ → Bool) (owner client mask : ℕ) (later : List Event) : Type 0 where
  pub superseded : is_superseded family_stays owner client later ≡ true
  pub lowered : (family : ℕ) (terms : Terms) → family_stays family ≡ true → code_terms history family ≡ Some terms →
      lowers terms (Consented owner client mask) ≡ true → any_lowers terms later ≡ true

-- the change may go where these families stay
abbrev pub MayGo : List Event → (ℕ → Bool) → Change → List Event → Type 0
MayGo history family_stays (Consented owner client mask) later = MayGoConsent history family_stays owner client mask later
MayGo history family_stays (CodeGiven family code digest) later = family_stays family ≡ false
MayGo history family_stays (FamilyEnded family) later = family_stays family ≡ false
MayGo history family_stays _ later = Unit {0}

-- nothing else goes
abbrev pub Keeps : (Event → List Event → Bool) → List Event → (ℕ → Bool) → Type 0
Keeps goes history family_stays = (e : Event) (later : List Event) → goes e later ≡ true → MayGo history family_stays e.change later

-- the family has its terms, and has ended where it had
pub record KeepsFamily (history left : List Event) (family : ℕ) : Type 0 where
  pub terms : code_terms left family ≡ code_terms history family
  pub ended : has_ended left family ≡ has_ended history family
