-- Reading from left to right, with the first fault that is met.
use Rattle.std.specs.Prelude.{◌≡◌, ◌<◌, ℕ, List, ◌++◌, get_or, Result, Ok, Err}
use Rattle.wire.specs.declared.fault.Fault.{Fault}
use Rattle.wire.specs.declared.fault.DecodeFault.{DecodeFault}
use Rattle.wire.specs.declared.fault.DecodeFault.TheVariants as errors

infixl 10 ◌>>=◌
abbrev pub ◌>>=◌ : {A B : Type 0} → Result A Fault → (A → Result B Fault) → Result B Fault
(Ok x) >>= f = f x
(Err e) >>= f = Err e

-- unless memory ran out, reading fails so
abbrev pub FailsReading : {Y : Type 0} → DecodeFault → Result Y Fault → Type 0
FailsReading errors.Memory read = Unit {0}
FailsReading (errors.Bytes fault) read = read ≡ Err fault

-- what a reader returned, seen by view, and what it left are what reading gives, unless memory ran out
abbrev pub Reads : {X Y : Type 0} → (X → Y) → Result X DecodeFault → List ℕ → Result (Y × List ℕ) Fault → Type 0
Reads view (Ok x) rest read = read ≡ Ok (view x, rest)
Reads view (Err e) rest read = FailsReading e read

-- the same, of what leaves nothing
abbrev pub GivesReading : {X Y : Type 0} → (X → Y) → Result X DecodeFault → Result Y Fault → Type 0
GivesReading view (Ok x) read = read ≡ Ok (view x)
GivesReading view (Err e) read = FailsReading e read

abbrev pub IsBytes : List ℕ → Type 0
IsBytes bytes = (i : ℕ) → get_or bytes i 0 < 256

-- what a reader took from the front
pub record TakesFront (bytes text rest : List ℕ) : Type 0 where
  pub parts : bytes ≡ text ++ rest
  pub rest_fits : IsBytes rest
