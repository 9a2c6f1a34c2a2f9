use Rattle.std.proofs.Common.{◌∙◌, ap}
use Rattle.std.specs.Prelude.{Some}
use Rattle.hex.specs.Hex.{decode_sized}
use Rattle.etcd_keys.proofs.Numbers.{number_err, number_ok}
use Rattle.etcd_keys.proofs.names.worth.Goals as goal

pub returns-in-Ok : goal.returns-in-Ok
returns-in-Ok c =
    ap (λ n. Some n) c.from_be_bytes.ensures
    ∙ number_ok (decode_sized c.args.text.now 8) c.decode_to_slice.result c.decode_to_slice.new.out c.decode_to_slice.ensures.value c.in-Ok.is

pub returns-in-Err : goal.returns-in-Err
returns-in-Err c = number_err (decode_sized c.args.text.now 8) c.decode_to_slice.result c.decode_to_slice.new.out c.in-Err.field-0 c.decode_to_slice.ensures.value c.in-Err.is
