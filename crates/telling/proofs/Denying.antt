-- What the last hook left tells whether it is a denial.
use Rattle.std.proofs.Common.{◌≡◌, List, [], ◌∷◌, Bool, false, length, map, ◌-◌, Some, None, refl, ap, sym, ◌∙◌}
use native.Mathlib.Numerals.{unary_clauses}
use Rattle.std.proofs.lemmas.Option.{same_Some}
use Rattle.std.specs.Prelude.{slice_get}
use Rattle.hook_host.specs.Verdicts.{Verdict, last_left, verdict_in}
use Rattle.hook_host.specs.declared.entry.Entry.{Entry}
use Rattle.hook_record.specs.declared.Narrowed.{Narrowed}
use Rattle.hook_record.specs.declared.Narrowed.TheVariants.{EmptyScope}
use Rattle.telling.specs.Interests.{denies, is_denial}

left_last : (before : Narrowed) (entries : List Entry) (entry : Entry) → Some entry ≡ slice_get entries (length entries - 1) →
    last_left before (map verdict_in entries) ≡ (verdict_in entry).left
left_last before [] entry last = absurd (cc last)
left_last before (x ∷ []) entry last = ap (λ (e : Entry). (verdict_in e).left) (same_Some x entry (sym last))
left_last before (x ∷ (y ∷ later)) entry last = left_last (verdict_in x).left (y ∷ later) entry (last ∙ simp unary_clauses)

-- there is a last one
pub last_denies : (entries : List Entry) (verdicts : List Verdict) (entry : Entry) (denied : Bool) → map verdict_in entries ≡ verdicts →
    Some entry ≡ slice_get entries (length entries - 1) → denied ≡ denies (verdict_in entry).left → denied ≡ is_denial verdicts
last_denies entries verdicts entry denied are last is =
    is ∙ ap denies (sym (left_last EmptyScope entries entry last)) ∙ ap is_denial are

no_last : (entries : List Entry) → None ≡ slice_get entries (length entries - 1) → entries ≡ []
no_last [] none = refl
no_last (x ∷ []) none = absurd (cc none)
no_last (x ∷ (y ∷ later)) none = absurd (some (no_last (y ∷ later) (none ∙ simp unary_clauses)))
  where
    some : y ∷ later ≡ [] → ⊥
    some e = absurd (cc e)

-- or none
pub none_denies : (entries : List Entry) (verdicts : List Verdict) → map verdict_in entries ≡ verdicts →
    None ≡ slice_get entries (length entries - 1) → false ≡ is_denial verdicts
none_denies entries verdicts are none = sym (ap (λ (some : List Entry). is_denial (map verdict_in some)) (no_last entries none)) ∙ ap is_denial are
