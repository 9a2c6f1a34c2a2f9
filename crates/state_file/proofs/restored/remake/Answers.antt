use Rattle.std.proofs.Common.{rules, ◌≡◌, ◌≤◌, ◌∙◌, List, [], Err, refl, sym, ap, subst, arith}
use Rattle.state_file.proofs.Names.{IfErr, lists, outset_of, RefusesList, StateFault, last_moment}
use Rattle.state_file.proofs.Refused.{refused_next}
use Rattle.state_file.proofs.Remaking.{answers_all, lists_itself, moment_is_told, stands_for_itself}
use Rattle.state_file.proofs.restored.remake.Goals as goal

pub returns-in_err-redo_all-clause-refused : goal.returns-in_err-redo_all-clause-refused
returns-in_err-redo_all-clause-refused g c =
    let hosting = g.H.HookHost in
    let outset = outset_of c.args.registry c.args.host in
    let fault = c.in_err-redo_all.field-0.0 in
    let is : c.from_residual.result ≡ Err fault = search rules in
    subst (λ r. IfErr r (λ f. RefusesList hosting outset (lists c.args.batches.now) f.1)) (sym is)
    (refused_next hosting outset (lists c.args.batches.now) c.new-remade.result fault.1 c.new-remade.ensures c.in_err-redo_all.ensures.refused)

pub returns-clause-answers : goal.returns-clause-answers
returns-clause-answers g c =
    let hosting = g.H.HookHost in
    let outset = outset_of c.args.registry c.args.host in
    let told = c.in_ok-redo_all.ensures.redone in
    answers_all hosting outset (lists c.args.batches.now) told.0 c.until_of.result c.redo_all.new.self c.finish.result told.1 (told.2 outset [] 0 c.new-remade.ensures) c.finish.ensures.fits

pub returns-clause-listed : goal.returns-clause-listed
returns-clause-listed g c =
    let outset = outset_of c.args.registry c.args.host in
    let told = c.in_ok-redo_all.ensures.redone in
    lists_itself g.H.HookHost outset (lists c.args.batches.now) told.0 c.redo_all.new.self told.1 (told.2 outset [] 0 c.new-remade.ensures)

pub returns-clause-moment : goal.returns-clause-moment
returns-clause-moment g c =
    let hosting = g.H.HookHost in
    let outset = outset_of c.args.registry c.args.host in
    let told = c.in_ok-redo_all.ensures.redone in
    let fits = told.2 outset [] 0 c.new-remade.ensures in
    let batches = lists c.args.batches.now in
    moment_is_told hosting outset batches told.0 c.until_of.result c.redo_all.new.self c.finish.result told.1 fits c.finish.ensures.fits c.until_of.ensures
    (stands_for_itself hosting outset batches told.0 c.redo_all.new.self told.1 fits)

pub returns-clause-later : goal.returns-clause-later
returns-clause-later g c =
    let hosting = g.H.HookHost in
    let outset = outset_of c.args.registry c.args.host in
    let told = c.in_ok-redo_all.ensures.redone in
    let fits = told.2 outset [] 0 c.new-remade.ensures in
    let batches = lists c.args.batches.now in
    let is = moment_is_told hosting outset batches told.0 c.until_of.result c.redo_all.new.self c.finish.result told.1 fits c.finish.ensures.fits c.until_of.ensures
    (stands_for_itself hosting outset batches told.0 c.redo_all.new.self told.1 fits) told.0 told.1 in
    omega (arith, is)
