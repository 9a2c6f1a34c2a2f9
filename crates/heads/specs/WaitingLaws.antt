-- What is known while a rest waits.
use Rattle.std.proofs.Common.{◌≡◌, ℕ, ◌+◌, ◌<◌, List, [], ◌++◌, length, false, refl, sym, subst, arith, append_assoc, append-nil, length-append}
use Rattle.std.specs.Prelude.{◌==◌, IsTrue}
use Rattle.std.proofs.lemmas.Bool.{ltb-true}
use Rattle.std.proofs.lemmas.Bool.Decides.{nat_tests}
use Rattle.std.proofs.lemmas.List.Folds.{list_any-append}
use Rattle.httparse.specs.Ascii.{line_feed}
use Rattle.heads.specs.Limits.{head_size_limit}
use Rattle.heads.specs.Message.{HasNone}
use Rattle.heads.specs.Waiting.{ends_line, still_waits, IsUnfinished, IsWaiting, Wants}
use Rattle.heads.specs.Front.{IsFront}
use Rattle.heads.specs.ReadingLaws.{hopeless_has_none}
use Rattle.heads.specs.declared.waits.Waits.{Waits}
use Rattle.heads.specs.declared.waits.Waits.TheVariants.{ForLine, ForBytes}
use Rattle.heads.specs.declared.front.Found.{Found}
use Rattle.heads.specs.declared.front.Front.{Front}
use Rattle.heads.specs.declared.front.Front.TheVariants.{Whole, More, Faulty}

-- for the end of a line bytes wait that are fewer than a head may have, while none has come
pub line_waits : (count : ℕ) (more : List ℕ) → IsTrue (still_waits ForLine count more) → (count + length more < head_size_limit) × (ends_line more ≡ false)
line_waits count more is = (grind (arith, nat_tests, is), grind (arith, nat_tests, is))

-- nothing waits for no bytes
pub waits_for_nothing : (rest : List ℕ) → IsWaiting rest (ForBytes 0)
waits_for_nothing rest more is = (let fewer = ltb-true _ _ is in absurd (omega (arith, fewer)))

-- a rest that waits is unfinished
pub wants_unfinished : (rest : List ℕ) (waits : Waits) → Wants rest waits → IsUnfinished rest waits
wants_unfinished rest waits wants = rw append-nil at (wants.waiting [] wants.now)

-- what was waited out by one piece and then by another, was by both
still_waits-append : (waits : Waits) (rest piece more : List ℕ) → IsTrue (still_waits waits (length rest) piece) → IsTrue (still_waits waits (length (rest ++ piece)) more)
    → IsTrue (still_waits waits (length rest) (piece ++ more))
still_waits-append waits rest piece more one two =
    let any = list_any-append (λ byte. byte == line_feed) piece more in
    grind (arith, nat_tests, length-append, any, one, two)

-- a piece that is waited out leaves the rest waiting as before
pub waiting-append : (rest piece : List ℕ) (waits : Waits) → IsWaiting rest waits → IsTrue (still_waits waits (length rest) piece) → IsWaiting (rest ++ piece) waits
waiting-append rest piece waits waiting one more two =
    subst (λ bytes. IsUnfinished bytes waits) (sym (append_assoc rest piece more)) (waiting (piece ++ more) (still_waits-append waits rest piece more one two))

-- where there is a message, the front is whole
pub front_whole : (bytes : List ℕ) (front : Front) → IsFront bytes front → ¬ (HasNone bytes) → (found : Found) × (front ≡ Whole found)
front_whole bytes (Whole found) is some = (found, refl)
front_whole bytes (More waits) is some = absurd (some (wants_unfinished bytes waits is).none)
front_whole bytes Faulty is some = absurd (some (hopeless_has_none bytes is.0))
