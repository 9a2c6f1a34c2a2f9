use Rattle.std.proofs.Common.{◌+◌, ◌≤◌, ◌++◌, ◌∙◌, List, ℕ, refl, subst, arith}
use Rattle.batch_file.specs.Readers.{HasWalked}
use Rattle.file_copy.proofs.Copying.{aside_on, seen_more}
use Rattle.file_copy.proofs.placing.read_on.Goals as goal

pub pieces-preserved : goal.pieces-preserved
pieces-preserved g c =
    let D = g.D.Device in
    let was = c.pieces.invariant in
    let told = c.read_at.ensures in
    let piece = c.in_ok-piece.piece.items in
    let size = c.min-size.result in
    let within : c.pieces.at + size ≤ c.args.end = omega (arith, c.min-size.ensures, c.pieces-test.true) in
    record {
      read = λ batches h.
          let walked = λ (b : List (List ℕ)) (t : List ℕ) (w : HasWalked b t c.pieces.walk).
          subst (λ (l : List ℕ). HasWalked b (t ++ l) c.add.new.self) c.deref.ensures.value (c.in_ok-add.ensures.walked b t w) in
          seen_more D (D.seen c.args.device.now) batches c.pieces.walk c.add.new.self c.pieces.at (c.pieces.at + size) c.args.end size c.pieces.device c.read_at.new.self piece (was.read batches h)
          (told.beside.bytes ∙ was.seen) told.truth c.in_ok-piece.ensures.read c.in_ok-piece.ensures.size refl within walked;
      end = c.in_ok-add.ensures.end ∙ was.end;
      last = c.in_ok-add.ensures.last ∙ was.last;
      seen = told.beside.bytes ∙ was.seen;
      next = told.next ∙ was.next;
      aside = λ old a. aside_on D old c.pieces.device c.read_at.new.self (was.aside old a) told.beside told.time told.truth;
    }
