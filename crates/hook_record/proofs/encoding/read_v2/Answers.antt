use Rattle.std.proofs.Common.{◌∙◌, sym}
use Rattle.hook_record.proofs.Fields.{record_v2_read}
use Rattle.hook_record.proofs.encoding.read_v2.Goals as goal

pub returns-clause-written_so : goal.returns-clause-written_so
returns-clause-written_so c =
    let unused = sym c.u64_at.ensures ∙ c.if-u64_at-ne0.false in
    let more = sym c.u64_at-else-u64_at-ne0.ensures ∙ c.if-u64_at-ne0-2.false in
    let written = record_v2_read c.args.bytes.now c.in_ok-ask.ask c.fits-bytes c.told-bytes unused more c.in_ok-ask.ensures in
    rw (c.u64_at-2.ensures, c.u32_at.ensures, c.u32_at-2.ensures) written
