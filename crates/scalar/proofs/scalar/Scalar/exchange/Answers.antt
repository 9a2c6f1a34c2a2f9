use Rattle.scalar.proofs.Same.{same_then, same_on}
use Rattle.scalar.proofs.scalar.Scalar.exchange.Goals as goal

pub returns-in_ok-with_halves_exchanged-in-None : goal.returns-in_ok-with_halves_exchanged-in-None
returns-in_ok-with_halves_exchanged-in-None c =
    same_on _ _ _ (same_then _ _ _ c.in_ok-with_words_exchanged-in-None.ensures c.in_ok-with_halves_exchanged-in-None.ensures) c.with_words_exchanged-in-None.ensures
