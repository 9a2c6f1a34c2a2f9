use Rattle.std.proofs.Common.{◌≡◌, refl, arith}
use Rattle.std.specs.Prelude.{Bool, true, false, not}
use Rattle.batch_file.proofs.framing.is_end.Goals as goal

pub returns-then-bytes-gt-MOST_ROOM-clause-yes : goal.returns-then-bytes-gt-MOST_ROOM-clause-yes
returns-then-bytes-gt-MOST_ROOM-clause-yes c = λ so none. absurd (cc)

pub returns-then-bytes-gt-MOST_ROOM-clause-no : goal.returns-then-bytes-gt-MOST_ROOM-clause-no
returns-then-bytes-gt-MOST_ROOM-clause-no c = λ fails ends. let brief = ends.brief in absurd (omega (arith, brief, c.if-bytes-gt-MOST_ROOM.true))

pub returns-then-not-is_closed-clause-yes : goal.returns-then-not-is_closed-clause-yes
returns-then-not-is_closed-clause-yes c = λ so none. absurd (cc)

pub returns-then-not-is_closed-clause-no : goal.returns-then-not-is_closed-clause-no
returns-then-not-is_closed-clause-no c = λ fails ends.
    let so = c.is_closed.ensures.1 ends.closed in
    let unlike = c.if-not-is_closed.true in
    absurd (cc)

pub returns-clause-yes : goal.returns-clause-yes
returns-clause-yes c = λ so none. record {
  closed = c.is_closed.ensures.0 c.if-not-is_closed.false;
  brief = omega (arith, c.if-bytes-gt-MOST_ROOM.false);
  no_frame = none;
  plain = λ h. let hides = c.hides_frame.ensures.1 h in absurd (cc);
}

-- what is not false is true
not_false : (b : Bool) → not b ≡ false → b ≡ true
not_false true is = refl
not_false false is = absurd (cc)

pub returns-clause-no : goal.returns-clause-no
returns-clause-no c = λ fails ends. ends.plain (c.hides_frame.ensures.0 (not_false c.hides_frame.result fails))
