use Rattle.std.specs.List.{AllByRecursion}
use Rattle.std.proofs.Common.{rules}
use Rattle.hook_record.specs.Record.{StandsIn, fields_v2}
use Rattle.hook_record.proofs.Fields.{ask_v2_from_fields}
use Rattle.hook_record.proofs.encoding.write_v2.Goals as goal

pub returns-clause-read_again : goal.returns-clause-read_again
returns-clause-read_again c =
    let fields : AllByRecursion (StandsIn c.put_u32-2.new.bytes) (fields_v2 c.args.ask.now) = search rules in
    ask_v2_from_fields c.put_u32-2.new.bytes c.args.ask.now fields
