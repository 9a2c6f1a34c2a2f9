-- What comes of the registry's file. A candidate is a registry with the text that says it, by its type.
use Rattle.std.specs.Prelude.{◌≡◌, ◌≢◌, ⊤, ℕ, List, Option, None, Some, IsSomeAnd, Ok, Err}
use Rattle.std.specs.Global.{Vec}
use Rattle.clients.specs.Registry.{registry_in, spot_in}
use Rattle.registry_json.specs.declared.fault.ConfigFault.TheVariants as config
use Rattle.desk.specs.declared.candidate.Candidate.{Candidate}
use Rattle.desk.specs.declared.candidate.ReloadFault.{ReloadFault}
use Rattle.desk.specs.declared.candidate.ReloadFault.TheVariants as faults

-- it is what the text of a file says
abbrev pub IsCandidate : Option (List ℕ) → Candidate → Type 0
IsCandidate file candidate = file ≡ Some candidate.text.items

-- why there is none: the file cannot be read; what stands there has this fault, there; or memory was refused
abbrev pub IsRefused : Option (List ℕ) → ReloadFault → Type 0
IsRefused file faults.CannotRead = file ≡ None
IsRefused file (faults.Config fault spot) = (fault ≢ config.Memory) × IsSomeAnd file (λ json. (registry_in json ≡ Err fault) × (spot ≡ spot_in json))
IsRefused file faults.Memory = ⊤

-- the bytes of a text
abbrev pub text_of : Vec ℕ → List ℕ
text_of text = text.items
