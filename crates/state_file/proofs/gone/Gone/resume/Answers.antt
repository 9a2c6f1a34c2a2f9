use Rattle.std.proofs.Common.{rules, ◌≡◌, ◌<◌, ◌^◌, ◌↔◌, ℕ, List, Err, None, Some, refl, sym, subst, arith, Vec}
use Rattle.std.specs.declared.alloc.Global.{Global}
use Rattle.state_file.proofs.Names.{IfErr, IsTrue, frames_size, lists, Outset, RegistryRecord, RulesFit, RefuseServer, TakesRules, Tell, rules_of, rules_spelling}
use Rattle.state_file.specs.Comparing.{RefuseRules}
use Rattle.state_file.specs.Going.{HasGone}
use Rattle.state_file.specs.Making.{GivesBack}
use Rattle.state_file.specs.declared.resuming.Unprepared.{Unprepared}
use Rattle.state_file.proofs.Resumed.{changes_keep, changes_refused, memory_keeps, memory_refused, resumed_is, rules_refused}
use Rattle.state_file.proofs.gone.Gone.resume.Goals as goal

pub returns-in-Err-clause-refused : goal.returns-in-Err-clause-refused
returns-in-Err-clause-refused g c = λ outset has.
    rules_refused g.H.HookHost outset c.args.self has c.in-Err.fault
    (subst (λ (r : RegistryRecord). RefuseRules (lists c.args.self.telling.items) (rules_of r) c.in-Err.fault) c.rules.ensures
    (subst (λ (l : List (Vec ℕ Global)). RefuseRules (lists l) (rules_of c.rules.result.now) c.in-Err.fault) c.as_slice.ensures.value c.in-Err.ensures.refused))

pub returns-in_err-restored-clause-refused : goal.returns-in_err-restored-clause-refused
returns-in_err-restored-clause-refused g c =
    let gone = c.args.self in
    let fault = c.in_err-restored.field-0.0 in
    let is : c.from_residual.result ≡ Err (record { fault = fault; registry = None }) = search rules in
    let takes : TakesRules (lists gone.telling.items) (rules_of gone.redoing.remade.server.rules) =
    subst (λ (r : RegistryRecord). TakesRules (lists gone.telling.items) (rules_of r)) c.rules.ensures
    (subst (λ (l : List (Vec ℕ Global)). TakesRules (lists l) (rules_of c.rules.result.now)) c.as_slice.ensures.value c.in-Ok.ensures.taken) in
    subst (λ r. IfErr r (λ (not : Unprepared). (outset : Outset g.row.H.Denot) → HasGone g.H.HookHost outset gone → RefuseServer g.H.HookHost outset gone.front.batches not.fault)) (sym is)
    (λ outset has. changes_refused g.H.HookHost outset gone has fault takes (c.in_err-restored.ensures.refused outset gone.front.batches has.made))

pub returns-in_err-restored-clause-back : goal.returns-in_err-restored-clause-back
returns-in_err-restored-clause-back g c =
    let gone = c.args.self in
    let fault = c.in_err-restored.field-0.0 in
    let is : c.from_residual.result ≡ Err (record { fault = fault; registry = None }) = search rules in
    subst (λ r. IfErr r (λ (not : Unprepared). (outset : Outset g.row.H.Denot) → HasGone g.H.HookHost outset gone → GivesBack not.fault → not.registry ≡ Some gone.redoing.remade.server.rules)) (sym is)
    (λ outset has gives. absurd (changes_keep g.H.HookHost outset gone.front.batches fault (c.in_err-restored.ensures.refused outset gone.front.batches has.made) gives))

pub returns-in_err-behind-clause-refused : goal.returns-in_err-behind-clause-refused
returns-in_err-behind-clause-refused g c =
    let gone = c.args.self in
    let fault = c.in_err-behind.field-0.0 in
    let is : c.from_residual-in_err-behind.result ≡ Err (record { fault = fault; registry = None }) = search rules in
    subst (λ r. IfErr r (λ (not : Unprepared). (outset : Outset g.row.H.Denot) → HasGone g.H.HookHost outset gone → RefuseServer g.H.HookHost outset gone.front.batches not.fault)) (sym is)
    (λ outset has. memory_refused g.H.HookHost outset gone has fault c.in_err-behind.ensures.refused)

pub returns-in_err-behind-clause-back : goal.returns-in_err-behind-clause-back
returns-in_err-behind-clause-back g c =
    let gone = c.args.self in
    let fault = c.in_err-behind.field-0.0 in
    let is : c.from_residual-in_err-behind.result ≡ Err (record { fault = fault; registry = None }) = search rules in
    subst (λ r. IfErr r (λ (not : Unprepared). (outset : Outset g.row.H.Denot) → HasGone g.H.HookHost outset gone → GivesBack not.fault → not.registry ≡ Some gone.redoing.remade.server.rules)) (sym is)
    (λ outset has gives. absurd (memory_keeps fault c.in_err-behind.ensures.refused gives))

pub returns-clause-resumed : goal.returns-clause-resumed
returns-clause-resumed g c = λ outset has bytes are torn.
    let gone = c.args.self in
    let registry = gone.redoing.remade.server.rules in
    let telling = gone.telling.items in
    let spelled = c.in-Ok.rules in
    let same : c.rules.result.now ≡ registry = c.rules.ensures in
    let told : c.as_slice.result.now ≡ telling = c.as_slice.ensures.value in
    let takes : TakesRules (lists telling) (rules_of registry) =
    subst (λ (r : RegistryRecord). TakesRules (lists telling) (rules_of r)) same (subst (λ (l : List (Vec ℕ Global)). TakesRules (lists l) (rules_of c.rules.result.now)) told c.in-Ok.ensures.taken) in
    let tells : IsTrue spelled.told ↔ Tell (lists telling) (rules_of registry) =
    subst (λ (r : RegistryRecord). IsTrue spelled.told ↔ Tell (lists telling) (rules_of r)) same (subst (λ (l : List (Vec ℕ Global)). IsTrue spelled.told ↔ Tell (lists l) (rules_of c.rules.result.now)) told c.in-Ok.ensures.told) in
    let small : frames_size gone.front.batches < 2 ^ 64 = (let end = c.requires.end in omega (arith, end)) in
    resumed_is g.H.HookHost outset gone has bytes _ spelled.told are (c.in_ok-restored.ensures.redone outset gone.front.batches has.made has.measured.until_is) c.in_ok-restored.ensures.unnoted refl c.requires.end
    c.requires.last small torn (subst (λ (r : RegistryRecord). spelled.bytes.items ≡ rules_spelling (rules_of r)) same c.in-Ok.ensures.spelled) (subst (λ (r : RegistryRecord). RulesFit (rules_of r)) same c.in-Ok.ensures.fit) c.in-Ok.ensures.few
    takes tells c.in_ok-behind.ensures.told c.in_ok-behind.ensures.untold refl refl
