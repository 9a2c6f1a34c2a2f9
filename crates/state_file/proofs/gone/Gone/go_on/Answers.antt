use Rattle.std.proofs.Common.{rules, ◌≡◌, ◌++◌, ◌∷◌, [], ℕ, List, None, sym, subst, Vec}
use Rattle.std.specs.declared.alloc.Global.{Global}
use Rattle.batch_file.specs.Readers.{HasRead}
use Rattle.state_file.proofs.Resumed.{if_none, if_some}
use Rattle.state_file.proofs.gone.Gone.go_on.Goals as goal

pub loop-batch-preserved : goal.loop-batch-preserved
loop-batch-preserved g c =
    let T = g.S.ByteSource.told in
    let O = g.S.ByteSource.is_over in
    let front = c.loop-batch.self.front.batches in record {
      gone = λ outset has. c.in_ok-go_over.ensures.gone outset (c.loop-batch.invariant.gone outset has);
      read = λ was.
          subst (λ (bs : List (List ℕ)). HasRead T O bs c.next_batch.new.self) (sym c.in_ok-go_over.ensures.front)
          (if_some c.in_ok-batch.field-0
          (λ (batch : Vec ℕ Global). (batches : List (List ℕ)) → HasRead T O batches c.loop-batch.reader → HasRead T O (batches ++ batch.items ∷ []) c.next_batch.new.self)
          c.in-Some.batch c.in-Some.is c.in_ok-batch.ensures.read front (c.loop-batch.invariant.read was));
      whole = λ all known. c.next_batch.ensures.whole all (c.loop-batch.invariant.whole all known);
    }

pub returns-clause-read : goal.returns-clause-read
returns-clause-read g c = λ was.
    let T = g.S.ByteSource.told in
    let O = g.S.ByteSource.is_over in
    let none : c.in_ok-batch.field-0 ≡ None = search rules in
    if_none c.in_ok-batch.field-0 ((batches : List (List ℕ)) → HasRead T O batches c.loop-batch.reader → HasRead T O batches c.next_batch.new.self) none c.in_ok-batch.ensures.none
    c.loop-batch.self.front.batches (c.loop-batch.invariant.read was)
