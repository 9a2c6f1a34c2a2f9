use Rattle.std.proofs.Common.{rules, ◌≡◌, ◌+◌, ◌++◌, ◌∙◌, List, [], ◌∷◌, Err, map, take, drop, get_or, sym, ap, subst}
use Rattle.state_file.proofs.Names.{IfErr, map_push, take_all, HookFact, hook_fact, First, KeptHook, RefusesSettings, Sets}
use Rattle.std.proofs.lemmas.List.{take_more}
use Rattle.state_file.proofs.Refused.{parted}
use Rattle.state_file.proofs.Setting.{sets_then}
use Rattle.state_file.proofs.restored.Restored.set_hooks.Goals as goal

abbrev no_hook : KeptHook
no_hook = record { name = record { ref_ptr = (0, 0); now = [] }; version = First; code = record { ref_ptr = (0, 0); now = [] } }

pub returns-in_err-set_hook-clause-refused : goal.returns-in_err-set_hook-clause-refused
returns-in_err-set_hook-clause-refused g c =
    let hooks = c.args.hooks.now in
    let i = c.loop-hook.hook-index in
    let is : c.from_residual.result ≡ Err c.in_err-set_hook.field-0.0 = search rules in
    subst (λ r. IfErr r (RefusesSettings g.H.HookHost c.args.self.now (map hook_fact hooks))) (sym is) (
      map hook_fact (take i hooks),
      map hook_fact (drop (i + 1) hooks),
      hook_fact (get_or hooks i no_hook),
      c.loop-hook.self,
      parted hooks i no_hook c.loop-hook-test.true,
      c.loop-hook.invariant.set,
      c.in_err-set_hook.ensures.refused,
    )

pub loop-hook-preserved : goal.loop-hook-preserved
loop-hook-preserved g c =
    let hooks = c.args.hooks.now in
    let i = c.loop-hook.hook-index in
    let hook = hook_fact (get_or hooks i no_hook) in
    let more : map hook_fact (take (i + 1) hooks) ≡ map hook_fact (take i hooks) ++ hook ∷ [] =
    ap (map hook_fact) (take_more hooks i no_hook c.loop-hook-test.true) ∙ map_push hook_fact (take i hooks) (get_or hooks i no_hook) in
    record {
      set = subst (λ (hs : List HookFact). Sets g.H.HookHost c.args.self.now hs c.set_hook.new.self) (sym more)
          (sets_then g.H.HookHost c.args.self.now c.loop-hook.self c.set_hook.new.self (map hook_fact (take i hooks)) hook c.loop-hook.invariant.moment c.loop-hook.invariant.set c.in_ok-set_hook.ensures.set);
      moment = c.in_ok-set_hook.ensures.moment ∙ c.loop-hook.invariant.moment;
    }

pub returns-clause-set : goal.returns-clause-set
returns-clause-set g c =
    subst (λ (hooks : List KeptHook). Sets g.H.HookHost c.args.self.now (map hook_fact hooks) c.loop-hook.self) (take_all c.loop-hook.hook-index c.args.hooks.now c.loop-hook-test.false) c.loop-hook.invariant.set
