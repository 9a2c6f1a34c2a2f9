use Rattle.hook_record.proofs.Fields.{record_v1_read}
use Rattle.hook_record.proofs.encoding.read.Goals as goal

pub returns-clause-written_so : goal.returns-clause-written_so
returns-clause-written_so c = record_v1_read _ _ c.fits-bytes c.told-bytes c.read_fields.ensures
