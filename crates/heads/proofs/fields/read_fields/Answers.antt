use Rattle.std.proofs.Common.{sym, ◌≡◌, Option, Some, ℕ, arith}
use Rattle.heads.specs.Fields.{content_length}
use Rattle.heads.specs.PlacesParts.{fields_at}
use Rattle.heads.proofs.fields.read_fields.Goals as goal

pub returns-in_err-authorization : goal.returns-in_err-authorization
returns-in_err-authorization c = rw c.from_residual.ensures (λ good.
    let all = c.look_up-found.ensures in
    let twice = c.in_err-authorization.ensures _ _ _ all.authorization.found all.authorization.within in
    let once = good.authorization in
    absurd (omega (arith, once, twice)))

pub returns-in_err-content_type : goal.returns-in_err-content_type
returns-in_err-content_type c = rw c.from_residual-in_err-content_type.ensures (λ good.
    let all = c.look_up-found.ensures in
    let twice = c.in_err-content_type.ensures _ _ _ all.content_type.found all.content_type.within in
    let once = good.content_type in
    absurd (omega (arith, once, twice)))

pub returns-in_err-owner_key : goal.returns-in_err-owner_key
returns-in_err-owner_key c = rw c.from_residual-in_err-owner_key.ensures (λ good.
    let all = c.look_up-found.ensures in
    let twice = c.in_err-owner_key.ensures _ _ _ all.owner_key.found all.owner_key.within in
    let once = good.owner_key in
    absurd (omega (arith, once, twice)))

pub returns-in_err-operator_key : goal.returns-in_err-operator_key
returns-in_err-operator_key c = rw c.from_residual-in_err-operator_key.ensures (λ good.
    let all = c.look_up-found.ensures in
    let twice = c.in_err-operator_key.ensures _ _ _ all.operator_key.found all.operator_key.within in
    let once = good.operator_key in
    absurd (omega (arith, once, twice)))

pub returns : goal.returns
returns c =
    let all = c.look_up-found.ensures in
    let len : ◌≡◌ {A = Option ℕ} (Some c.in_ok-body_length.body_length) (content_length (fields_at c.args.bytes.now c.args.headers.now)) =
    c.in_ok-body_length.ensures.value _ all.content_length.found in
    record {
      transfer = rw c.in-Absent.is at all.transfer.found;
      authorization = c.in_ok-authorization.ensures _ _ _ all.authorization.found all.authorization.within;
      content_type = c.in_ok-content_type.ensures _ _ _ all.content_type.found all.content_type.within;
      owner_key = c.in_ok-owner_key.ensures _ _ _ all.owner_key.found all.owner_key.within;
      operator_key = c.in_ok-operator_key.ensures _ _ _ all.operator_key.found all.operator_key.within;
      body = sym len;
      small = c.in_ok-body_length.ensures.small;
    }
