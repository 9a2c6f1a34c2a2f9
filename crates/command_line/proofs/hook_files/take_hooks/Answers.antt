use Rattle.std.proofs.Common.{◌≡◌, ◌∷◌, ◌+◌, ◌∙◌, [], List, add-one, append-nil, ap, drop, drop-cons, map, subst, suc, sym}
use Rattle.command_line.proofs.Names.{drop_all, HookRead, AreFactsOf, hook_fact_of, in_file}
use Rattle.command_line.proofs.Hooking.{LeadsHooks, leads_all, leads_on}
use Rattle.command_line.proofs.hook_files.take_hooks.Goals as goal

pub loop-read-init : goal.loop-read-init
loop-read-init c = rw (c.new-chain.ensures, c.new-codes.ensures.items) (leads_all c.args.hooks.now)

pub loop-read-preserved : goal.loop-read-preserved
loop-read-preserved c =
    let i = c.loop-read.read-index in
    let all = c.args.hooks.now in
    let read = c.read-item.result in
    let next : drop i all ≡ read ∷ drop (i + 1) all = rw add-one (drop-cons all i read c.loop-read-test.true ∙ ap (λ r. r ∷ drop (suc i) all) (sym c.read-item.is)) in
    let led = subst (λ (rest : List HookRead). LeadsHooks all c.loop-read.chain c.loop-read.codes.items rest) next c.loop-read.invariant in
    rw c.in-Ok.ensures.items (leads_on all _ _ _ read c.in_ok-code.code _ c.in_ok-code.ensures.done c.in_ok-code.ensures.coded led)

pub returns-clause-coded : goal.returns-clause-coded
returns-clause-coded c =
    let all = c.args.hooks.now in
    let codes = c.loop-read.codes.items in
    let led = subst (λ (rest : List HookRead). LeadsHooks all c.loop-read.chain codes rest) (drop_all c.loop-read.read-index all c.loop-read-test.false) c.loop-read.invariant in
    subst (λ facts. AreFactsOf (map in_file all) facts) (append-nil (map hook_fact_of codes)) (led.coded [] tt)
