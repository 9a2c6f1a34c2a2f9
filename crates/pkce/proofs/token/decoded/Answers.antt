use Rattle.std.proofs.Common.{rules, refl}
use Rattle.pkce.proofs.Texts.{unread, length-43, decoded, read_32, only_32, never_err}
use Rattle.pkce.proofs.token.decoded.Goals as goal

pub returns-then-text-ne43 : goal.returns-then-text-ne43
returns-then-text-ne43 c = unread c.args.text.now (λ bytes read. c.if-text-ne43.true (length-43 c.args.text.now bytes (search rules) read))

pub returns-in-Ok-eq32 : goal.returns-in-Ok-eq32
returns-in-Ok-eq32 c =
    let ok = decoded c.args.text.now _ c.decode_slice.new.output c.decode_slice.result c.in-Ok-eq32.field-0 (search rules) refl c.decode_slice.ensures.value c.in-Ok-eq32.is c.decode_slice.ensures.written in
    rw c.front.ensures (read_32 c.args.text.now c.decode_slice.new.output (search rules) (rw c.in-Ok-eq32.field-0-test at ok))

pub returns-in-Ok : goal.returns-in-Ok
returns-in-Ok c = unread c.args.text.now (λ bytes read.
    let ok = decoded c.args.text.now _ c.decode_slice.new.output c.decode_slice.result c.in-Ok.field-0 (search rules) refl c.decode_slice.ensures.value c.in-Ok.is c.decode_slice.ensures.written in
    c.in-Ok.field-0-test.1 (only_32 c.args.text.now c.decode_slice.new.output c.in-Ok.field-0 (search rules) ok bytes read))

pub returns-in-Err : goal.returns-in-Err
returns-in-Err c = unread c.args.text.now
    (never_err c.args.text.now c.decode_slice.result c.in-Err.field-0 (search rules) c.decode_slice.ensures.value c.in-Err.is)
