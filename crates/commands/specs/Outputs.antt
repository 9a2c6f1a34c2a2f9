-- What a program writes to.
use Rattle.std.specs.Prelude.{◌≡◌, ℕ, List, Option}
use Rattle.std.specs.Io.KnownBytes.{Appends}

-- that a value is printed to what is written to, whole, and that the last write to it failed
pub record Writes (W : Type 0) : Type 1 where
  pub prints : (D : Type 0) → W → D → W → Type 0
  pub cut_off : W → Type 0

-- what is written to, as it was and as it is, each seen as the bytes so far
pub record Output (W : Type 0) : Type 1 where
  pub seen : W → Option (List ℕ)
  pub writes : Writes W
  pub old : W
  pub new : W

abbrev pub output : {W : Type 0} → (W → Option (List ℕ)) → Writes W → W → W → Output W
output seen writes old new = record { seen = seen; writes = writes; old = old; new = new }

-- standard output, where answers go, and standard error, where faults go
pub record Outputs (W E : Type 0) : Type 1 where
  pub out : Output W
  pub err : Output E

abbrev pub outputs : {W E : Type 0} → Output W → Output E → Outputs W E
outputs out err = record { out = out; err = err }

-- nothing is written to it
abbrev pub IsUntouched : {W : Type 0} → Output W → Type 0
IsUntouched to = to.new ≡ to.old

-- the value is printed to it, behind all that was
abbrev pub Prints : {W D : Type 0} → Output W → D → Type 0
Prints to value = to.writes.prints _ to.old value to.new

-- the last write to it failed
abbrev pub IsCutOff : {W : Type 0} → Output W → Type 0
IsCutOff to = to.writes.cut_off to.new

-- the text is written to it, behind all that was
abbrev pub GetsText : {W : Type 0} → Output W → List ℕ → Type 0
GetsText to text = Appends (to.seen to.old) (to.seen to.new) text
