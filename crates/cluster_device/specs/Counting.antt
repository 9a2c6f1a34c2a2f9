-- How often a call on a file has failed.
use Rattle.std.specs.Prelude.{◌≡◌, ◌⊎◌, ◌<◌, ℕ, Result, Ok, Err, IfErr, IfOk, Option, Some}
use Rattle.batch_file.specs.Crashes.{HasCause}
use Rattle.batch_file.specs.Faults.{of_replacing}
use Rattle.batch_file.specs.declared.device.Beginning.{Beginning}
use Rattle.batch_file.specs.declared.device.Beginning.TheVariants.{Settled}
use Rattle.batch_file.specs.declared.device.DeviceFault.{DeviceFault}
use Rattle.batch_file.specs.declared.device.ReplaceFault.{ReplaceFault}

-- it failed, in this sense
abbrev pub HasFailed : {T F : Type 0} → (F → Type 0) → Result T F → Type 0
HasFailed is_failure (Ok given) = ⊥
HasFailed is_failure (Err fault) = is_failure fault

-- What is told of a call that was counted is what it told; but where no more failures can be counted, that memory was refused.
pub record IsCounted {T F : Type 0} (is_failure : F → Type 0) (memory : F) (before now : ℕ) (told result : Result T F) : Type 0 where
  pub ok : IfOk result (λ given. told ≡ Ok given)
  pub err : IfErr result (λ fault. (told ≡ Err fault) ⊎ ((fault ≡ memory) × (0 < before)))
  pub refused : IfErr result (λ fault. (is_failure fault → ⊥) → now ≡ before)
  pub counts : (now ≡ before) ⊎ HasFailed is_failure told
  pub cause : HasCause is_failure before now result

-- what a call that puts all at once tells of a beginning
abbrev pub settled_of : Result (Unit {0}) DeviceFault → Result Beginning ReplaceFault
settled_of (Ok done) = Ok Settled
settled_of (Err fault) = Err (of_replacing fault)

-- and of a replacement
abbrev pub replaced_of : Result (Unit {0}) DeviceFault → Result (Unit {0}) ReplaceFault
replaced_of (Ok done) = Ok done
replaced_of (Err fault) = Err (of_replacing fault)

-- by when it wants to be called again
abbrev pub due_of : Result ℕ DeviceFault → Result (Option ℕ) DeviceFault
due_of (Ok due) = Ok (Some due)
due_of (Err fault) = Err fault
