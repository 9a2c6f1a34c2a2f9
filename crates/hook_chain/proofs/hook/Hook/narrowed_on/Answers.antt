use Rattle.std.proofs.Common.{◌≡◌, ℕ, List, length, sym, ap, ◌∙◌}
use Rattle.insn.specs.Values.{start}
use Rattle.hook_record.specs.Narrowing.{narrowed}
use Rattle.hook_chain.specs.Chains.{Named}
use Rattle.hook_chain.specs.Exits.{narrowed_by_exit, record_of, exit_of, exit_within}
use Rattle.hook_chain.specs.ExitLaws.{run_exit}
use Rattle.hook_chain.proofs.hook.Hook.narrowed_on.Goals as goal

pub returns : goal.returns
returns c =
    let layout = c.self.inside.verified.layout in
    let program = c.self.inside.verified.program in
    let exit = run_exit layout program c.args.bytes.now c.run-r0.new.bytes c.run-r0.result.0 c.run-r0.result.1 c.run-r0.ensures.exit c.run-r0.ensures.few in
    let asked : c.args.bytes.now ≡ record_of layout c.args.ask.now = c.requires.record_of_ask ∙ ap (λ (h : Named). record_of h.hook.layout c.args.ask.now) (sym c.self.view_is) in
    let there = ap (λ (b : List ℕ). exit_within layout program (length program) (start b)) (sym asked) ∙ exit in
    let found = ap (λ (h : Named). exit_of h.hook c.args.ask.now) (sym c.self.view_is) ∙ there in
    let chunk = rw c.unwrap.ensures at c.first_chunk.ensures.cases in
    c.narrow.ensures ∙ ap (narrowed c.args.ask.now c.run-r0.result.0) chunk.same ∙ ap (narrowed_by_exit c.args.ask.now) (sym found)
