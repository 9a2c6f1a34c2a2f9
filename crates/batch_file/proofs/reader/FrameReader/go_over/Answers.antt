use Rattle.std.proofs.Common.{◌∷◌, [], ◌++◌, List, ℕ, refl, sym, subst, append_assoc}
use Rattle.std.proofs.lemmas.List.{append-nil}
use Rattle.batch_file.specs.Readers.{HasRead}
use Rattle.batch_file.proofs.Going.{no_both, none_told, some_told}
use Rattle.batch_file.proofs.reader.FrameReader.go_over.Goals as goal

pub returns-then-self-clause-read : goal.returns-then-self-clause-read
returns-then-self-clause-read g c = λ batches h.
    let S = g.S.ByteSource in
    ([], (λ yes. refl), subst (λ (l : List (List ℕ)). HasRead S.told S.is_over l c.args.self.now) (sym (append-nil batches)) h)

pub frames-init : goal.frames-init
frames-init g c =
    let S = g.S.ByteSource in
    record {
      read = λ batches h. ([], subst (λ (l : List (List ℕ)). HasRead S.told S.is_over l c.args.self.now) (sym (append-nil batches)) h);
      whole = λ all w. w;
    }

pub frames-preserved-in-Some : goal.frames-preserved-in-Some
frames-preserved-in-Some g c =
    let S = g.S.ByteSource in
    let was = c.frames.invariant in
    let step = some_told _ c.in_ok-found.found c.in-Some.field-0 c.in-Some.is c.in_ok-found.ensures.read in
    let batch = c.in-Some.field-0.items in
    record {
      read = λ batches h.
          let so_far = was.read batches h in
          (so_far.0 ++ batch ∷ [], subst (λ (l : List (List ℕ)). HasRead S.told S.is_over l c.next_batch.new.self) (append_assoc batches so_far.0 (batch ∷ [])) (step (batches ++ so_far.0) so_far.1));
      whole = λ all w. c.in_ok-found.ensures.whole all (was.whole all w);
    }

pub returns-in_default-clause-read : goal.returns-in_default-clause-read
returns-in_default-clause-read g c = λ batches h.
    let so_far = c.frames.invariant.read batches h in
    (so_far.0, (λ yes. absurd (no_both _ yes c.if-self.false)), none_told c.in_ok-found.found c.in_default.is c.in_ok-found.ensures.none (batches ++ so_far.0) so_far.1)
