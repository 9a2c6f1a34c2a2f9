-- What the machine's random source gives.
use Rattle.std.specs.Prelude.{◌≡◌, ℕ, List, [], ◌∷◌, Option, Some, length}
use Rattle.rand_chacha.specs.ChaCha.{ChaCha, of_seed}
use Rattle.daemon.specs.Calls.{Gave}
use Rattle.daemon.specs.declared.machine_random.MachineRandom.{MachineRandom}

-- the bytes that the random source gave, if it did
abbrev pub NotesSeed : {R : Type 0} → MachineRandom R → Option (List ℕ) → MachineRandom R → Type 0
NotesSeed old seed new = new.log.calls ≡ Gave seed ∷ old.log.calls

-- the generator's seed is 32 bytes that the random source gave, which gave nothing else
pub record IsSeeded {R : Type 0} (random : MachineRandom R) (generator : ChaCha) : Type 0 where
  pub seed : List ℕ
  pub size : length seed ≡ 32
  pub given : random.log.calls ≡ Gave (Some seed) ∷ []
  pub generator_is : generator ≡ of_seed seed
