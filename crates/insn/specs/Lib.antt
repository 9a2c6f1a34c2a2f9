-- What instructions and programs mean, by the chapters of RFC 9669.
--
-- For Safe alone read these, in their order, and no laws:
--   Instruction (section 3), Program, Values: fields, slots, and what the machine holds
--   Word: numbers (4.1 arithmetic, 4.2 byte swaps, 4.3 conditions)
--   Effects, Arithmetic (4.1), Memory (5), Jumps (4.3): what can be done with what the machine holds
--   Meaning: what each instruction says, one of eight things
--   Outcomes: what comes of each of these, its effect or the first test that fails
--   Step: steps, runs, Safe
pub mod Instruction
pub mod Program
pub mod Word
pub mod Values
pub mod Effects
pub mod Arithmetic
pub mod Memory
pub mod Jumps
pub mod Meaning
pub mod Outcomes
pub mod Step
-- For why a program is refused, and what its states can be, these too.
pub mod FirstLook
pub mod Refusals
pub mod FaultTexts
pub mod PossibleStates
-- What the code of the first look keeps; a reader may skip it.
pub mod Starts
-- Laws, each proved: a reader may skip them.
pub mod WordLaws
pub mod SlotLaws
pub mod MemoryLaws
pub mod PointerLaws
pub mod StateLaws
pub mod OutcomeLaws
pub mod RunLaws
-- What these files import, passed on.
pub mod Names
