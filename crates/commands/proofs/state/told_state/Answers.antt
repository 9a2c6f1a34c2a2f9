use Rattle.std.proofs.Common.{◌≡◌, Some, inr, rules}
use Rattle.std.specs.Option.{option_copied}
use Rattle.batch_file.specs.Frames.{RefusesFile}
use Rattle.commands.proofs.Refusing.{no_account}
use Rattle.commands.proofs.state.told_state.Goals as goal

pub returns-in-Err : goal.returns-in-Err
returns-in-Err c =
    let bytes = c.in-Some.bytes.now in
    let there : option_copied c.args.file ≡ Some bytes = search rules in
    inr (rw there (no_account c.args.path.now bytes (RefusesFile bytes) c.in-Err.fault c.fault_of.result c.fault_of.ensures c.in-Err.ensures.refused (λ cause refuses. refuses)))
