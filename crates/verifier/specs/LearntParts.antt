-- Beside Learnt and Kinds: only the contracts of this crate's own parts and their proofs cite this, no public clause.
use Rattle.std.specs.Prelude.{◌≡◌, Bool, true, false, None, Result, Ok, Err}
use Rattle.verifier.specs.Names.{Action, Flow, Insn, Layout, State, WalkFault, action_of}
use Rattle.verifier.specs.declared.known.Known.{Known}
use Rattle.links.specs.Links.{AreHomeless, AreMade, link_made}
use Rattle.verifier.specs.Kinds.{LeavesRow, home_made}
use Rattle.verifier.specs.Fits.{InStates, StateFits}
use Rattle.verifier.specs.Learnt.{IsLearnt, IsNarrowed, KeepsAnswered}
use Rattle.verifier.specs.declared.known.Test.{Test}

-- all states that are known and of which a test has an answer stay known; none where it never has it
abbrev pub IsKept : Test → Bool → Known → Known → Bool → Type 0
IsKept test answer known new true = KeepsAnswered test answer known new
IsKept test answer known new false = IsLearnt test answer known None

-- it is narrowed, or it is known of no state
abbrev pub MayNarrow : Known → Known → Bool → Type 0
MayNarrow known new true = IsNarrowed known new
MayNarrow known new false = (layout : Layout) (s : State) → StateFits InStates layout known s → ⊥

-- what links and homes leave of what is known, or that it is known of no state; where there are no homes, of the stack all
pub record IsNarrowedOrNone (known new : Known) (may : Bool) : Type 0 where
  pub kept : MayNarrow known new may
  pub stack : AreHomeless known.links → new.stack ≡ known.stack
  pub links : new.links ≡ known.links

-- the link and the home that an instruction makes are there, and all else stays
pub record IsStillLinked (layout : Layout) (action : Action) (old between new : Known) : Type 0 where
  pub registers : new.registers ≡ between.registers
  pub stack : new.stack ≡ between.stack
  pub links : AreMade (link_made old.registers old.links action) (home_made layout old action) (λ k. None) between.links new.links

-- what an instruction leaves, but for the links that it moves
abbrev pub LeavesStill : Layout → Insn → Known → Known → Result Flow WalkFault → Type 0
LeavesStill layout i old new (Ok flow) = (between : Known) × LeavesRow layout (action_of i) old between (Ok flow) × IsStillLinked layout (action_of i) old between new
LeavesStill layout i old new (Err fault) = LeavesRow layout (action_of i) old new (Err fault)
