-- The hooks that a history sets are told one by one. For proofs alone.
use Rattle.std.proofs.Common.{◌≡◌, ℕ, List, [], ◌∷◌, ◌++◌, true, refl, sym, ap, ◌∙◌, append_assoc, append-nil, arith}
use Rattle.std.specs.Prelude.{not, filter, map}
use Rattle.std.proofs.lemmas.Slice.Eq.{bytes_eq-Decides}
use Rattle.consent.specs.History.Change.{HookSet, HookGone}
use Rattle.shortening.specs.Hooks.{SetHook, hook_by, hooks_set}
use Rattle.shortening.specs.HooksLaws.{hooks-push, is_left}
use Rattle.state_file.specs.Names.{Event, Change, HookFact, bytes_eq}
use Rattle.state_file.specs.Hooks.{hooks_after, hooks_set_in, hooks_with, without_hook}

abbrev as_fact : SetHook → HookFact
as_fact hook = record { name = hook.name; version = hook.version; code = hook.code }

bytes_eq_sym : (a b : List ℕ) → bytes_eq a b ≡ bytes_eq b a
bytes_eq_sym a b = grind (arith, bytes_eq-Decides)

all_left : (hooks : List SetHook) → filter (λ hook. true) hooks ≡ hooks
all_left [] = refl
all_left (h ∷ hooks) = ap (λ (hs : List SetHook). h ∷ hs) (all_left hooks)

set_behind : (hooks : List SetHook) (h : SetHook) → map as_fact (hooks ++ h ∷ []) ≡ map as_fact hooks ++ as_fact h ∷ []
set_behind [] h = refl
set_behind (x ∷ hooks) h = ap (λ (hs : List HookFact). as_fact x ∷ hs) (set_behind hooks h)

gone_from : (name : List ℕ) (hooks : List SetHook) → map as_fact (filter (λ hook. not (bytes_eq hook.name name)) hooks) ≡ without_hook name (map as_fact hooks)
gone_from name [] = refl
gone_from name (h ∷ hooks) = let rest = gone_from name hooks in let same = bytes_eq_sym h.name name in grind (arith, rest, same)

hooks_step : (hooks : List SetHook) (change : Change) → map as_fact (filter (is_left change) hooks ++ hook_by change []) ≡ hooks_with (map as_fact hooks) change
hooks_step hooks (HookSet name version code) =
    ap (λ (hs : List SetHook). map as_fact (hs ++ record { name = name; version = version; code = code } ∷ [])) (all_left hooks)
    ∙ set_behind hooks (record { name = name; version = version; code = code })
hooks_step hooks (HookGone name) =
    ap (map as_fact) (append-nil (filter (λ hook. not (bytes_eq hook.name name)) hooks)) ∙ gone_from name hooks
hooks_step hooks _ = ap (map as_fact) (append-nil (filter (λ hook. true) hooks) ∙ all_left hooks)

told_by : (xs ys : List Event) → map as_fact (hooks_set (xs ++ ys)) ≡ hooks_after (map as_fact (hooks_set xs)) ys
told_by xs [] = ap (λ (es : List Event). map as_fact (hooks_set es)) (append-nil xs)
told_by xs (y ∷ ys) =
    ap (λ (es : List Event). map as_fact (hooks_set es)) (sym (append_assoc xs (y ∷ []) ys)) ∙ told_by (xs ++ y ∷ []) ys
    ∙ ap (λ (hooks : List HookFact). hooks_after hooks ys) (ap (map as_fact) (hooks-push xs y) ∙ hooks_step (hooks_set xs) y.change)

-- where the same hooks are set, the same are told
pub same_hooks : (some others : List Event) → hooks_set some ≡ hooks_set others → hooks_set_in some ≡ hooks_set_in others
same_hooks some others same = sym (told_by [] some) ∙ ap (map as_fact) same ∙ told_by [] others
