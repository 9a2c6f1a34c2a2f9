-- What leaves the hooks that a history sets.
use Rattle.std.proofs.Common.{◌≡◌, ℕ, List, [], ◌∷◌, ◌++◌, Bool, true, false, refl, ap, sym, ◌∙◌, append_assoc, arith}
use Rattle.std.specs.Prelude.{not, filter}
use Rattle.std.specs.List.{list_any}
use Rattle.std.proofs.lemmas.List.{append-nil}
use Rattle.std.specs.Str.{bytes_eq}
use Rattle.std.proofs.lemmas.List.Elements.{filter-append}
use Rattle.std.proofs.lemmas.List.Folds.{list_any-append}
use Rattle.consent.specs.History.{Event, Change, event_at}
use Rattle.consent.specs.History.Change.{HookSet, HookGone}
use Rattle.shortening.specs.FilterLaws.{bytes_eq_sym}
use Rattle.shortening.specs.Hooks.{SetHook, takes, hook_by, hooks_set, hooks_with, hooks_after}

-- the change leaves the hook
abbrev pub is_left : Change → SetHook → Bool
is_left change hook = not (takes hook.name change)

pub hooks-push : (history : List Event) (e : Event) →
    hooks_set (history ++ e ∷ []) ≡ filter (is_left e.change) (hooks_set history) ++ hook_by e.change []
hooks-push [] e = append-nil (hook_by e.change [])
hooks-push (x ∷ later) e =
    hook_step x.change later e ∙ ap (λ hooks. filter (is_left e.change) (hook_by x.change later) ++ hooks) (hooks-push later e)
    ∙ sym (append_assoc (filter (is_left e.change) (hook_by x.change later)) (filter (is_left e.change) (hooks_set later)) (hook_by e.change []))
    ∙ ap (λ hooks. hooks ++ hook_by e.change []) (sym (filter-append (is_left e.change) (hook_by x.change later) (hooks_set later)))
  where
    hook_step : (change : Change) (later : List Event) (e : Event) →
        hook_by change (later ++ e ∷ []) ++ hooks_set (later ++ e ∷ [])
        ≡ filter (is_left e.change) (hook_by change later) ++ hooks_set (later ++ e ∷ [])
    hook_step (HookSet name version code) later e = let any = list_any-append (λ x. takes name x.change) later (e ∷ []) in grind (arith, any)
    hook_step _ later e = refl

-- the change is one of hooks
abbrev pub is_of_hooks : Change → Bool
is_of_hooks (HookSet name version code) = true
is_of_hooks (HookGone name) = true
is_of_hooks _ = false

still_set : (xs ys : List Event) → hooks_set (xs ++ ys) ≡ filter (λ hook. not (list_any (λ e. takes hook.name e.change) ys)) (hooks_set xs) ++ hooks_set ys
still_set [] ys = refl
still_set (x ∷ xs) ys = step x.change xs ys (still_set xs ys)
  where
    step : (change : Change) (xs ys : List Event) →
        hooks_set (xs ++ ys) ≡ filter (λ hook. not (list_any (λ e. takes hook.name e.change) ys)) (hooks_set xs) ++ hooks_set ys →
        hook_by change (xs ++ ys) ++ hooks_set (xs ++ ys)
        ≡ filter (λ hook. not (list_any (λ e. takes hook.name e.change) ys)) (hook_by change xs ++ hooks_set xs) ++ hooks_set ys
    step (HookSet name version code) xs ys more = let any = list_any-append (λ e. takes name e.change) xs ys in grind (arith, any, more)
    step _ xs ys more = more

-- what is not of hooks leaves them
pub other_goes : (before later : List Event) (moment : ℕ) (change : Change) → is_of_hooks change ≡ false →
    hooks_set (before ++ event_at moment change ∷ later) ≡ hooks_set (before ++ later)
other_goes before later moment (HookSet name version code) other = cc
other_goes before later moment (HookGone name) other = cc
other_goes before later moment change other = still_set before (event_at moment change ∷ later) ∙ sym (still_set before later)

-- ONE CHANGE AFTER THE OTHER

filter_all : (hooks : List SetHook) → filter (λ hook. not false) hooks ≡ hooks
filter_all [] = refl
filter_all (x ∷ hooks) = ap (λ xs. x ∷ xs) (filter_all hooks)

filter_named : (name : List ℕ) (hooks : List SetHook) → filter (λ hook. not (bytes_eq hook.name name)) hooks ≡ filter (λ hook. not (bytes_eq name hook.name)) hooks
filter_named name [] = refl
filter_named name (x ∷ hooks) = let more = filter_named name hooks in let here = bytes_eq_sym x.name name in grind (arith, more, here)

hooks_one : (change : Change) (hooks : List SetHook) → filter (is_left change) hooks ++ hook_by change [] ≡ hooks_with hooks change
hooks_one (HookSet name version code) hooks = ap (λ xs. xs ++ hook_by (HookSet name version code) []) (filter_all hooks)
hooks_one (HookGone name) hooks = append-nil (filter (is_left (HookGone name)) hooks) ∙ filter_named name hooks
hooks_one change hooks = append-nil (filter (is_left change) hooks) ∙ filter_all hooks

hooks_from : (before es : List Event) → hooks_set (before ++ es) ≡ hooks_after (hooks_set before) es
hooks_from before [] = ap hooks_set (append-nil before)
hooks_from before (e ∷ es) =
    ap hooks_set (sym (append_assoc before (e ∷ []) es)) ∙ hooks_from (before ++ e ∷ []) es
    ∙ ap (λ hooks. hooks_after hooks es) (hooks-push before e ∙ hooks_one e.change (hooks_set before))

-- a hook is added at the end when it is set, and taken out when it is taken away
pub hooks-after : (history : List Event) → hooks_set history ≡ hooks_after [] history
hooks-after history = hooks_from [] history
