-- Changes that are right when they happen, by whatever is right.
use Rattle.std.specs.Prelude.{◌≡◌, ℕ, List, [], ◌∷◌, ◌++◌, false, None}
use Rattle.consent.specs.History.{Event, Change, grant_by, code_terms, has_ended, consented_scope}
use Rattle.consent.specs.History.Change.{CodeGiven, Issued}
use Rattle.consent.specs.Facts.{GivenCode}
use Rattle.consent.specs.declared.parties.Parties.{Parties}
use Rattle.consent.specs.declared.change.NewToken.{NewToken}
use Rattle.shortening.specs.Lists.{is_opened_by_code}

-- a token of the family comes of what it came of before
pub record KeepsHome (before left : List Event) (family : ℕ) : Type 0 where
  pub terms : code_terms left family ≡ code_terms before family
  pub no_code : is_opened_by_code before family ≡ false → is_opened_by_code left family ≡ false
  pub unended : has_ended before family ≡ false → has_ended left family ≡ false

-- Whether a code is right is asked of what its owner consents to alone, and of a token of its family alone; of another change
-- nothing is asked.
pub record AsksLittle (Right : List Event → Change → Type 0) : Type 0 where
  pub code : (before left : List Event) (family : ℕ) (code : GivenCode) (digest : List ℕ) →
      consented_scope left code.owner code.client ≡ consented_scope before code.owner code.client →
      Right before (CodeGiven family code digest) → Right left (CodeGiven family code digest)
  pub token : (before left : List Event) (family : ℕ) (parties : Parties) (token : NewToken) → KeepsHome before left family →
      Right before (Issued family parties token) → Right left (Issued family parties token)
  pub other : (before : List Event) (moment : ℕ) (change : Change) → grant_by moment change ≡ None → Right before change

-- each of the events is right after those before it
abbrev pub AreRight : (List Event → Change → Type 0) → List Event → List Event → Type 0
AreRight Right before [] = Unit {0}
AreRight Right before (e ∷ later) = Right before e.change × AreRight Right (before ++ e ∷ []) later
