use Rattle.std.proofs.Common.{◌≡◌, ◌<◌, ◌≤◌, List, [], ◌∷◌, length, Err, refl, rules, arith}
use Rattle.clients.proofs.Names.{items_view, Value, one_or_two, OutOfRange}
use Rattle.clients.proofs.secret.one_or_two.Goals as goal
use Rattle.clients.proofs.secret.one_or_two.Goals.{in_default-via-then-list-lt1, in_default-via-else-list-lt1+else-list-lt2+else-list-lt3}

none : (list : List Value) → length list < 1 → Err OutOfRange ≡ one_or_two (items_view list)
none [] few = refl
none (v ∷ list) few = absurd (omega (arith, few))

many : (list : List Value) → 3 ≤ length list → Err OutOfRange ≡ one_or_two (items_view list)
many [] more = absurd (omega (arith, more))
many (v ∷ []) more = absurd (omega (arith, more))
many (v ∷ w ∷ []) more = absurd (omega (arith, more))
many (v ∷ w ∷ x ∷ list) more = refl

pub returns-in_default : goal.returns-in_default
returns-in_default c = elim c.in_default.branch [
  | in_default-via-then-list-lt1 w ↦ none c.args.list.now (search rules)
  | in_default-via-else-list-lt1+else-list-lt2+else-list-lt3 w ↦ many c.args.list.now (search rules)
]
