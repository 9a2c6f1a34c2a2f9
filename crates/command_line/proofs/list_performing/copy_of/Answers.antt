use Rattle.std.proofs.Common.{◌≡◌, ◌⊎◌, List, inr, refl, subst, ℕ}
use Rattle.batch_file.specs.Frames.{RefusesFile}
use Rattle.batch_file.specs.declared.framing.ReadFault.TheVariants as reads
use Rattle.command_line.proofs.Listing.{no_batches}
use Rattle.commands.specs.Faults.{IsOfState}
use Rattle.state_file.specs.Faults.{of_reading}
use Rattle.state_file.specs.declared.fault.StateFault.{StateFault}
use Rattle.command_line.proofs.list_performing.copy_of.Goals as goal

pub returns-clause-refused : goal.returns-clause-refused
returns-clause-refused c =
    let bytes = c.in-Some.file.bytes.items in
    let of : IsOfState c.args.path.now (of_reading c.in-Err.fault) c.of_state.result = subst (λ (f : StateFault). IsOfState c.args.path.now f c.of_state.result) c.from.ensures c.of_state.ensures in
    let why : (c.in-Err.fault ≡ reads.Memory) ⊎ RefusesFile bytes c.in-Err.fault =
    subst (λ (b : List ℕ). (c.in-Err.fault ≡ reads.Memory) ⊎ RefusesFile b c.in-Err.fault) c.deref-2.ensures.value c.in-Err.ensures.refused in
    rw c.in-Some.is (inr (bytes, refl, no_batches c.args.path.now bytes c.in-Err.fault c.of_state.result of why))
