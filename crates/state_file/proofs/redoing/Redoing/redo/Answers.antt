use Rattle.std.proofs.Common.{◌∙◌, Some, refl, sym}
use Rattle.state_file.proofs.Going.{made_step, refused_step, still_refused}
use Rattle.state_file.specs.declared.redoing.Redoing.{Redoing}
use Rattle.state_file.proofs.redoing.Redoing.redo.Goals as goal

pub returns-then-is_some-clause-made : goal.returns-then-is_some-clause-made
returns-then-is_some-clause-made g c = λ outset batches made.
    still_refused g.H.HookHost outset batches c.args.batch.now c.args.self.now (sym c.is_some.ensures ∙ c.if-is_some.true) made

pub returns-in-Ok-clause-made : goal.returns-in-Ok-clause-made
returns-in-Ok-clause-made g c = λ outset batches made.
    let old = c.args.self.now in
    let new : Redoing g.row.H.Denot = record { remade = c.redo_batch.new.self; held = old.held } in
    made_step g.H.HookHost outset batches c.args.batch.now old new (sym c.is_some.ensures ∙ c.if-is_some.false) refl c.in-Ok.ensures.redone made

pub returns-in-Err-clause-made : goal.returns-in-Err-clause-made
returns-in-Err-clause-made g c = λ outset batches made.
    let old = c.args.self.now in
    let new : Redoing g.row.H.Denot = record { remade = c.redo_batch.new.self; held = Some c.in-Err.fault } in
    refused_step g.H.HookHost outset batches c.args.batch.now old new c.in-Err.fault (sym c.is_some.ensures ∙ c.if-is_some.false) refl c.in-Err.ensures.refused made
