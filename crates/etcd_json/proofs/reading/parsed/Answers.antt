use Rattle.json.specs.Value.{value_view}
use Rattle.etcd_json.proofs.Texts.{err_is, json_none, json_some}
use Rattle.etcd_json.proofs.reading.parsed.Goals as goal

pub returns-in-Ok : goal.returns-in-Ok
returns-in-Ok c = json_some c.args.bytes.now (value_view c.in-Ok.value) c.in-Ok.ensures.ok.0 c.in-Ok.ensures.ok.1

pub returns-in-Err-Invalid : goal.returns-in-Err-Invalid
returns-in-Err-Invalid c = json_none c.args.bytes.now (c.in-Err-Invalid.ensures.invalid (err_is _ _ c.in-Err-Invalid.field-0-is))

pub returns-in-Err-TooLong : goal.returns-in-Err-TooLong
returns-in-Err-TooLong c = absurd (c.in-Err-TooLong.ensures.never_too_long (err_is _ _ c.in-Err-TooLong.field-0-is))

pub returns-in-Err-DuplicateKey : goal.returns-in-Err-DuplicateKey
returns-in-Err-DuplicateKey c = absurd (c.in-Err-DuplicateKey.ensures.never_duplicate (err_is _ _ c.in-Err-DuplicateKey.field-0-is))
