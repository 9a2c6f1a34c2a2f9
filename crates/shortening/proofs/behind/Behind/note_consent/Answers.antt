use Rattle.std.proofs.Common.{refl}
use Rattle.shortening.proofs.Backwards.{behind_consent}
use Rattle.shortening.proofs.behind.Behind.note_consent.Goals as goal

pub returns : goal.returns
returns c = λ stays moment later behind.
    let a = c.args in
    behind_consent stays a.self.now (record { superseded = c.insert.new.self; kept = c.insert-2.new.self; gone = a.self.now.gone }) later moment a.two a.mask
    c.kept_with-kept.result c.in_ok-insert.ensures.updates.0 c.in_ok-insert-2.ensures.updates.0 c.kept_with-kept.ensures refl behind
