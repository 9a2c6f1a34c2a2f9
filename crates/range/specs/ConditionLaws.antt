-- A law of answers that say that two words are equal.
use Rattle.std.specs.Prelude.{◌≡◌, ◌==◌, not, ℕ, Bool, true, false, IsTrue}
use Rattle.range.specs.Names.{Width, Cond, Eq, Ne, seen}
use Rattle.std.proofs.Common.{arith}
use Rattle.std.proofs.lemmas.Bool.Decides.{Decides-eqb, nat_tests}
use Rattle.range.specs.Conditions.{HasAnswer, says}

unlike : (x y : ℕ) → not (x == y) ≡ false → x ≡ y
unlike x y e = grind (arith, nat_tests)

pub equal_seen : (c : Cond) (taken : Bool) (w : Width) (x y : ℕ) → IsTrue (says c taken).equal → HasAnswer w c taken x y → seen w x ≡ seen w y
equal_seen Eq true w x y h e = (Decides-eqb (seen w x) (seen w y)).0 e
equal_seen Ne false w x y h e = unlike (seen w x) (seen w y) e
equal_seen c taken w x y h e = absurd cc
