-- What the hooks leave in turn: the last of it is what the chain leaves.
use Rattle.std.proofs.Common.{◌≡◌, ◌<◌, ◌≤◌, ◌+◌, ℕ, List, [], ◌∷◌, ◌++◌, append_assoc, ap, arith, drop, get_or, length, refl, subst, sym, ◌∙◌}
use Rattle.std.specs.List.{fold}
use Rattle.hook_record.specs.declared.Ask.{Ask}
use Rattle.hook_record.specs.declared.Narrowed.{Narrowed}
use Rattle.hook_record.specs.declared.Narrowed.TheVariants.{Denied, EmptyScope, Allowed}
use Rattle.hook_host.specs.Verdicts.{Verdict, last_left}
use Rattle.hook_host.specs.Names.{IsHookName, name_limit}
use Rattle.std.proofs.lemmas.List.{drop_more, get_or-map, length-map}
use Rattle.std.proofs.lemmas.List.Elements.{All-get_or}
use Rattle.verifier.specs.Verdicts.{Checked}
use Rattle.hook_chain.specs.Chains.{HoldsAll, Named, hook_names, hooks_of}
use Rattle.hook_chain.specs.Exits.{narrowed_further, narrowed_by}
use Rattle.hook_chain.specs.Turns.{left_in_turn, verdicts_of}

-- behind a hook that does not allow nothing changes
denied_on : (ask : Ask) (hooks : List Checked) → fold (narrowed_further ask) Denied hooks ≡ Denied
denied_on ask [] = refl
denied_on ask (hook ∷ hooks) = denied_on ask hooks

empty_on : (ask : Ask) (hooks : List Checked) → fold (narrowed_further ask) EmptyScope hooks ≡ EmptyScope
empty_on ask [] = refl
empty_on ask (hook ∷ hooks) = empty_on ask hooks

last_in_turn : (ask : Ask) (left : Narrowed) (hooks : List Named) → last_left left (left_in_turn ask left hooks) ≡ fold (narrowed_further ask) left (hooks_of hooks)
last_in_turn ask left [] = refl
last_in_turn ask (Allowed scope life) (named ∷ hooks) = last_in_turn ask (narrowed_further ask (Allowed scope life) named.hook) hooks
last_in_turn ask Denied (named ∷ hooks) = sym (denied_on ask (hooks_of hooks))
last_in_turn ask EmptyScope (named ∷ hooks) = sym (empty_on ask (hooks_of hooks))

-- what the last hook leaves is what all leave
pub last_is_answer : (hooks : List Named) (ask : Ask) → last_left (Allowed ask.scope ask.life) (verdicts_of hooks ask) ≡ narrowed_by (hooks_of hooks) ask
last_is_answer hooks ask = last_in_turn ask (Allowed ask.scope ask.life) hooks

none_on : (ask : Ask) (hooks : List Named) → [] ≡ left_in_turn ask Denied hooks
none_on ask [] = refl
none_on ask (named ∷ hooks) = refl

none_empty : (ask : Ask) (hooks : List Named) → [] ≡ left_in_turn ask EmptyScope hooks
none_empty ask [] = refl
none_empty ask (named ∷ hooks) = refl

-- those of the first hook, and then those of the others
pub left_by_first : (ask : Ask) (left : Narrowed) (named : Named) (hooks : List Named) →
    left_in_turn ask left (named ∷ []) ++ left_in_turn ask (narrowed_further ask left named.hook) hooks ≡ left_in_turn ask left (named ∷ hooks)
left_by_first ask (Allowed scope life) named hooks = refl
left_by_first ask Denied named hooks = sym (none_on ask hooks)
left_by_first ask EmptyScope named hooks = sym (none_empty ask hooks)

-- one hook more was asked
pub turn_on : (ask : Ask) (left : Narrowed) (named : Named) (hooks : List Named) (told : List Verdict) (i : ℕ) → i < length hooks → named ≡ get_or hooks i named →
    (told ++ left_in_turn ask left (named ∷ [])) ++ left_in_turn ask (narrowed_further ask left named.hook) (drop (i + 1) hooks) ≡ told ++ left_in_turn ask left (drop i hooks)
turn_on ask left named hooks told i below is =
    append_assoc told (left_in_turn ask left (named ∷ [])) (left_in_turn ask (narrowed_further ask left named.hook) (drop (i + 1) hooks))
    ∙ ap (λ (more : List Verdict). told ++ more) (left_by_first ask left named (drop (i + 1) hooks))
    ∙ ap (λ (rest : List Named). told ++ left_in_turn ask left rest) (sym (drop_more hooks i named below ∙ ap (λ (x : Named). x ∷ drop (i + 1) hooks) (sym is)))

-- a hook's name is short
pub name_short : (hooks : List Named) (capacity i : ℕ) (named : Named) → HoldsAll hooks capacity → i < length hooks → named ≡ get_or hooks i named →
    length named.name ≤ name_limit
name_short hooks capacity i named holds below is =
    let there : i < length (hook_names hooks) = omega (arith, below, length-map hooks (λ (h : Named). h.name)) in
    let name = All-get_or IsHookName (hook_names hooks) i named.name there holds.names.each in
    let same : get_or (hook_names hooks) i named.name ≡ named.name = get_or-map (λ (h : Named). h.name) hooks i named named.name below ∙ ap (λ (h : Named). h.name) (sym is) in
    subst (λ (text : List ℕ). length text ≤ name_limit) same name.short
