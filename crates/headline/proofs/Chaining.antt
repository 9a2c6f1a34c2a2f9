-- The hooks of a chain are safe.
use Rattle.std.proofs.Common.{List, [], ◌∷◌, All, sym, subst}
use Rattle.headline.proofs.Names.{not, All-append, All-cons, All-filter, All-nil, Change, HookSet, HookGone, HostStep, HostRun}
use Rattle.std.specs.Str.{bytes_eq}
use Rattle.hook_chain.specs.Chains.{Named}
use Rattle.hook_chain.specs.contracts.chain.ChainHookHost.TheImpl as chains
use Rattle.hook_chain.specs.ExitLaws.{exits_are_runs}
use Rattle.consent.specs.History.{Event}
use Rattle.headline.specs.SafeHooks.{IsSafeHook}

-- a hook of a chain is safe
abbrev pub SafeNamed : Named → Type 0
SafeNamed named = IsSafeHook named.hook

step_safe : (old new : List Named) (change : Change) → HostStep chains.ghosts old change new → All SafeNamed old → All SafeNamed new
step_safe old new (HookSet name version code) step safe =
    let hook = step.hook in
    let accepted = step.accepted in
    subst (λ hooks. All SafeNamed hooks) (sym step.last)
    (All-append SafeNamed old (record { name = name; hook = hook } ∷ []) safe
    (All-cons SafeNamed (record { name = name; hook = hook }) [] (record { safe = accepted.safe; exit = λ bytes exit fits. exits_are_runs hook.layout hook.program bytes exit fits accepted.safe }) (All-nil SafeNamed)))
step_safe old new (HookGone name) step safe =
    subst (λ hooks. All SafeNamed hooks) (sym step.left) (All-filter (λ (h : Named). not (bytes_eq name h.name)) SafeNamed old safe)
step_safe old new _ step safe = subst (λ hooks. All SafeNamed hooks) (sym step) safe

-- all hooks of the chain are safe
pub run_safe : (first now : List Named) (history : List Event) → HostRun chains.ghosts first history now → All SafeNamed first → All SafeNamed now
run_safe first now [] run safe = subst (λ hooks. All SafeNamed hooks) (sym run) safe
run_safe first now (e ∷ later) run safe = run_safe run.0 now later run.2 (step_safe first run.0 e.change run.1 safe)
