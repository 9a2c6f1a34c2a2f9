-- What is told of a program that is looked at.
use Rattle.std.specs.Prelude.{◌≡◌, ◌≢◌, ◌++◌, ◌∷◌, ℕ, List, Some, None, All, Contains, map}
use Rattle.verifier.specs.Names.{box_value, Insn, Layout, look_verdict, Reaches, Safe, Config, IsRecord}
use Rattle.verifier.specs.declared.known.Known.{Known}
use Rattle.verifier.specs.declared.explain.Refusal.{Refusal}
use Rattle.verifier.specs.declared.explain.Finding.{Finding}
use Rattle.verifier.specs.declared.explain.Finding.TheVariants.{Accepted, Looked, Refused}
use Rattle.verifier.specs.Fits.{InStates, StateFits}
use Rattle.verifier.specs.Verdicts.{IsRefusal}
use Rattle.verifier.specs.Waits.{HasPassed, IsToldOnward, unreached_by}

-- whatever the record is, a run that comes to a slot does so in a state of which one of these is known
abbrev pub IsKnownAt : Layout → List Insn → ℕ → List Known → Type 0
IsKnownAt layout program slot cases =
    (bytes : List ℕ) (n : ℕ) (c : Config) → IsRecord layout bytes → Reaches layout program bytes n c → c.slot ≡ slot
    → (known : Known) × Contains cases known × StateFits InStates layout known c.state

-- no run comes to a slot
abbrev pub NoneComesTo : Layout → List Insn → ℕ → Type 0
NoneComesTo layout program slot =
    (bytes : List ℕ) (n : ℕ) (c : Config) → IsRecord layout bytes → Reaches layout program bytes n c → c.slot ≢ slot

-- A program is refused with this fault, at this instruction. What is told to be known is what is refused of what waits there,
-- and the others that wait there; one of these is known of each run that comes there. It is told where this walk went on before.
pub record IsExplained (layout : Layout) (program : List Insn) (refusal : Refusal) : Type 0 where
  pub refused : IsRefusal layout program refusal.fault
  pub slot : refusal.slot ≡ refused.slot
  pub insn : refusal.insn ≡ refused.insn
  pub waits : refusal.known.value ≡ refused.refused.known
  pub others : map box_value refusal.others.items ≡ refused.refused.before ++ refused.refused.after
  pub known : IsKnownAt layout program refusal.slot (refusal.known.value ∷ map box_value refusal.others.items)
  pub onward : IsToldOnward refusal.onward.items refused.walked

-- a program is accepted: the walk has come to its end. At these slots, and no others at which an instruction begins, nothing
-- waited when it came there, and no run comes to them
pub record IsAcceptance (layout : Layout) (program : List Insn) (slots : List ℕ) : Type 0 where
  pub safe : Safe layout program
  pub passed : HasPassed layout program
  pub unreached : slots ≡ unreached_by passed.walked
  pub none : All (NoneComesTo layout program) slots

-- what the walk finds
abbrev pub IsWalkFinding : Layout → List Insn → Finding → Type 0
IsWalkFinding layout program (Accepted unreached) = IsAcceptance layout program unreached.items
IsWalkFinding layout program (Looked fault) = ⊥
IsWalkFinding layout program (Refused refusal) = IsExplained layout program refusal

-- what both looks find, the first look's fault before the walk's
abbrev pub IsFinding : Layout → List Insn → Finding → Type 0
IsFinding layout program (Looked fault) = look_verdict program ≡ Some fault
IsFinding layout program finding = (look_verdict program ≡ None) × IsWalkFinding layout program finding
