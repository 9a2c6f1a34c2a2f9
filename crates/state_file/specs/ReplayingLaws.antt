-- A chain of hooks that is made again by the list that a file tells.
use Rattle.std.proofs.Common.{◌≡◌, ℕ, List, [], ◌∷◌, ◌++◌, Bool, true, false, refl, sym, ap, ◌∙◌, subst}
use Rattle.state_file.specs.Names.{recovered, bytes_eq, Event, Change, HostStep, HostRun, Named, IsAcceptedCode, IsInstalled, without_name, layout_of, HookFact}
use Rattle.consent.specs.declared.record_version.RecordVersion.{RecordVersion}
use Rattle.consent.specs.History.Change.{HookSet, HookGone}
use Rattle.encoding.proofs.Reading.{one_program}
use Rattle.hook_chain.specs.contracts.chain.ChainHookHost.TheImpl as chain
use Rattle.state_file.specs.Hooks.{hooks_after, hooks_set_in, hooks_with, without_hook}
use Rattle.state_file.specs.HookLaws.{same_hooks}
use Rattle.state_file.specs.Resuming.{Replays}
use Rattle.state_file.specs.Standing.{StandsFor}
use Rattle.state_file.specs.StandingLaws.{one_told}

-- the chain has just these hooks
abbrev Has : List Named → List HookFact → Type 0
Has [] [] = Unit {0}
Has [] (h ∷ hs) = ⊥
Has (n ∷ ns) [] = ⊥
Has (n ∷ ns) (h ∷ hs) = (n.name ≡ h.name) × IsAcceptedCode (layout_of h.version) h.code n.hook × Has ns hs

has_push : (ns : List Named) (hs : List HookFact) (n : Named) (h : HookFact) → Has ns hs → n.name ≡ h.name → IsAcceptedCode (layout_of h.version) h.code n.hook → Has (ns ++ n ∷ []) (hs ++ h ∷ [])
has_push [] [] n h has name accepted = (name, accepted, tt)
has_push (m ∷ ns) (g ∷ hs) n h has name accepted = (has.0, has.1, has_push ns hs n h has.2 name accepted)
has_push _ _ n h has name accepted = absurd has

has_passed : (name : List ℕ) (n : Named) (ns : List Named) (h : HookFact) (hs : List HookFact) (b : Bool) → bytes_eq name n.name ≡ b → bytes_eq name h.name ≡ b →
    Has (n ∷ ns) (h ∷ hs) → Has (without_name name ns) (without_hook name hs) → Has (without_name name (n ∷ ns)) (without_hook name (h ∷ hs))
has_passed name n ns h hs true e f has rest = rw (e, f) rest
has_passed name n ns h hs false e f has rest = rw (e, f) (has.0, has.1, rest)

has_without : (name : List ℕ) (ns : List Named) (hs : List HookFact) → Has ns hs → Has (without_name name ns) (without_hook name hs)
has_without name [] [] has = tt
has_without name (n ∷ ns) (h ∷ hs) has =
    has_passed name n ns h hs (bytes_eq name n.name) refl (ap (bytes_eq name) (sym has.0)) has (has_without name ns hs has.2)
has_without name _ _ has = absurd has

-- what is installed is behind them
installed_has : (old new : List Named) (hooks : List HookFact) (name : List ℕ) (version : RecordVersion) (code : List ℕ) → IsInstalled old name (layout_of version) code new → Has old hooks →
    Has new (hooks ++ record { name = name; version = version; code = code } ∷ [])
installed_has old new hooks name version code step has =
    subst (λ (ns : List Named). Has ns (hooks ++ record { name = name; version = version; code = code } ∷ [])) (sym step.last)
    (has_push old hooks (record { name = name; hook = step.hook }) (record { name = name; version = version; code = code }) has refl step.accepted)

step_has : (old new : List Named) (change : Change) (hooks : List HookFact) → HostStep chain.ghosts old change new → Has old hooks → Has new (hooks_with hooks change)
step_has old new (HookSet name version code) hooks step has = installed_has old new hooks name version code step has
step_has old new (HookGone name) hooks step has = subst (λ (ns : List Named). Has ns (without_hook name hooks)) (sym step.left) (has_without name old hooks has)
step_has old new _ hooks step has = subst (λ (ns : List Named). Has ns hooks) (sym step) has

-- a chain that came through a history has what is left of its hooks
run_has : (first now : List Named) (hooks : List HookFact) (history : List Event) → HostRun chain.ghosts first history now → Has first hooks → Has now (hooks_after hooks history)
run_has first now hooks [] run has = subst (λ (ns : List Named). Has ns hooks) (sym run) has
run_has first now hooks (e ∷ later) run has = run_has run.0 now (hooks_with hooks e.change) later run.2 (step_has first run.0 e.change hooks run.1 has)

-- no two chains have just these hooks
has_one : (a b : List Named) (hooks : List HookFact) → Has a hooks → Has b hooks → a ≡ b
has_one [] [] [] has other = refl
has_one [] (n ∷ b) [] has other = absurd other
has_one (m ∷ a) b [] has other = absurd has
has_one [] b (h ∷ hooks) has other = absurd has
has_one (m ∷ a) [] (h ∷ hooks) has other = absurd other
has_one (m ∷ a) (n ∷ b) (h ∷ hooks) has other =
    let program = one_program h.code m.hook.program n.hook.program has.1.spelled other.1.spelled in
    let name : m.name ≡ n.name = has.0 ∙ sym other.0 in
    let layout : m.hook.layout ≡ n.hook.layout = has.1.layout_is ∙ sym other.1.layout_is in
    let rest : a ≡ b = has_one a b hooks has.2 other.2 in
    λ i. record { name = name i; hook = record { program = program i; layout = layout i } } ∷ rest i

pub front_run : (first now : List Named) (front more : List Event) → HostRun chain.ghosts first (front ++ more) now → (mid : List Named) × HostRun chain.ghosts first front mid
front_run first now [] more run = (first, refl)
front_run first now (e ∷ front) more run = let rest = front_run run.0 now front more run.2 in (rest.0, (run.0, run.1, rest.1))

-- a chain that came through a history comes by it to what it comes to by the list that a file tells
pub replays : (left : List ℕ) (history : List Event) → StandsFor left history → (host : List Named) → HostRun chain.ghosts [] history host → Replays chain.ghosts [] left history
replays left history stands host run facts other told again =
    let listed : stands.facts ≡ facts = one_told (recovered left) stands.facts facts stands.told told in
    let hooks : hooks_set_in facts ≡ hooks_set_in history = ap hooks_set_in (sym listed) ∙ same_hooks stands.facts history stands.left.alike.hooks in
    let has : Has other (hooks_set_in history) = subst (λ (hs : List HookFact). Has other hs) hooks (run_has [] other [] facts again tt) in
    let same : host ≡ other = has_one host other (hooks_set_in history) (run_has [] host [] history run tt) has in
    subst (λ (h : List Named). HostRun chain.ghosts [] history h) same run
