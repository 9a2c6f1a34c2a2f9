use Rattle.std.proofs.Common.{subst}
use Rattle.base64.specs.Engines.{standard}
use Rattle.base64.specs.GeneralPurpose.{IsDecodeFailure}
use Rattle.base64.specs.declared.decode.DecodeAllocError.{DecodeAllocError}
use Rattle.etcd_json.proofs.Texts.{decoded_none, decoded_some}
use Rattle.etcd_json.proofs.reading.decoded.Goals as goal

pub returns-in-Ok : goal.returns-in-Ok
returns-in-Ok c = decoded_some c.args.text.now c.in-Ok.bytes.items (rw c.as_bytes.ensures.value at c.in-Ok.ensures.ok)

pub returns-in-Err-DecodeError : goal.returns-in-Err-DecodeError
returns-in-Err-DecodeError c =
    decoded_none c.args.text.now c.in-Err-DecodeError.field-0-0
    (subst (λ (e : DecodeAllocError). IsDecodeFailure standard c.args.text.now e) c.in-Err-DecodeError.field-0-is
    (rw c.as_bytes.ensures.value at c.in-Err-DecodeError.ensures.err))
