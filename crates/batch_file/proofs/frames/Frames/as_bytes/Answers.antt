use Rattle.std.proofs.Common.{List, ℕ, sym, subst}
use Rattle.batch_file.specs.Frames.{IsReadable}
use Rattle.batch_file.proofs.Tearing.{at_rest_file}
use Rattle.batch_file.proofs.frames.Frames.as_bytes.Goals as goal

pub returns-clause-readable : goal.returns-clause-readable
returns-clause-readable c =
    let w = c.self.invariant in
    subst (λ (l : List ℕ). IsReadable l) (sym c.deref.ensures.value) (at_rest_file w.0 1 c.self.inside.last c.self.inside.bytes.items w.1)
