-- A file whose rules are not read is not narrowed.
use Rattle.std.proofs.Common.{◌≡◌, ◌↔◌, List, ℕ, true, false, Some}
use Rattle.narrowing.proofs.Names.{IfOk, IsTrue, RulesFact, IsUnread, last_rules, tell_in, tells_none, StateFault, AreNarrower, less_by}
use Rattle.state_file.specs.declared.fault.StateFault.TheVariants as state

no : {P : Type 0} → (P → ⊥) → (false ≡ true) ↔ P
no not = (λ e. absurd cc, λ p. absurd (not p))

pub unread : (batches : List (List ℕ)) (batch : List ℕ) (now : RulesFact) (fault : StateFault) → last_rules batches ≡ Some batch → IsUnread batch fault →
    IfOk (less_by fault) (λ narrower. IsTrue narrower ↔ AreNarrower batches now)
unread batches batch now state.Memory at is = tt
unread batches batch now (state.Spelling fault) at is =
    no (λ narrower. tells_none batch fault narrower.told is (tell_in batches batch narrower.told at narrower.tells))
unread batches batch now _ at is = absurd is
