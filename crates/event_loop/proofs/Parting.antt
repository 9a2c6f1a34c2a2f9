-- Who is between two requests, and who is not.
use Rattle.std.proofs.Common.{◌≡◌, ℕ, Option, None, Some, length, refl, sym, ◌∙◌, ap}
use Rattle.event_loop.specs.Names.{Connection, IsHeld}
use Rattle.heads.specs.ReadingLaws.{reads_same}
use Rattle.http_edge.specs.declared.lane.Phase.{Phase}
use Rattle.http_edge.specs.declared.lane.Phase.TheVariants.{Open, Closing, Ended, Closed}

held_in : (k : Connection) (n m : ℕ) (phase : Phase) → k.phase ≡ phase → IsHeld (Some k) n → IsHeld (Some k) m → n ≡ m
held_in k n m Open is one other =
    let a = one.0 is in
    let b = other.0 is in
    a.2 ∙ ap length (reads_same k.stream k.messages k.messages a.0 b.0 refl a.1.reads b.1.reads).1 ∙ sym b.2
held_in k n m Closing is one other = one.1 (λ o. absurd (let not = sym is ∙ o in cc)) ∙ sym (other.1 (λ o. absurd (let not = sym is ∙ o in cc)))
held_in k n m Ended is one other = one.1 (λ o. absurd (let not = sym is ∙ o in cc)) ∙ sym (other.1 (λ o. absurd (let not = sym is ∙ o in cc)))
held_in k n m Closed is one other = one.1 (λ o. absurd (let not = sym is ∙ o in cc)) ∙ sym (other.1 (λ o. absurd (let not = sym is ∙ o in cc)))

-- so many bytes are held of a connection, and no other number
pub held_same : (connection : Option Connection) (n m : ℕ) → IsHeld connection n → IsHeld connection m → n ≡ m
held_same None n m one other = one ∙ sym other
held_same (Some k) n m one other = held_in k n m k.phase refl one other
