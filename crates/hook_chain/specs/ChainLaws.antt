-- Laws of chains: their names are those of their hooks.
use Rattle.std.proofs.Common.{◌≤◌, ◌⊎◌, inl, inr, length, ◌++◌, length-append, ◌≡◌, ℕ, Bool, true, false, not, List, [], ◌∷◌, Contains, refl, ap, sym, ◌∙◌, arith, All, subst}
use Rattle.std.specs.List.{list_any}
use Rattle.std.specs.Str.{bytes_eq}
use Rattle.std.proofs.lemmas.List.{length-map, map-append}
use Rattle.std.proofs.lemmas.List.Sums.{length-filter, count_by-le-length}
use Rattle.std.proofs.lemmas.List.Elements.{All-filter, All-push}
use Rattle.std.proofs.lemmas.List.Folds.{list_any-from_Any}
use Rattle.std.proofs.lemmas.Map.Views.{Contains-from_any}
use Rattle.std.proofs.lemmas.Slice.Eq.{bytes_eq-Decides}
use Rattle.insn.specs.declared.layout.Layout.{Layout}
use Rattle.hook_host.specs.Names.{without, hook_limit, IsHookName, AreHookNames}
use Rattle.hook_chain.specs.Chains.{Named, Accepts, HoldsAll, hook_names, has_name, without_name}

named_among : (name : List ℕ) (hooks : List Named) → has_name hooks name ≡ list_any (bytes_eq name) (hook_names hooks)
named_among name [] = refl
named_among name (h ∷ hooks) = rw (named_among name hooks) refl

pub contains_name : (name : List ℕ) (hooks : List Named) → has_name hooks name ≡ true → Contains (hook_names hooks) name
contains_name name hooks e = Contains-from_any {eq = bytes_eq} (λ x y f. (bytes_eq-Decides x y).0 f) name (hook_names hooks) (sym (named_among name hooks) ∙ e)

passed_over : (name : List ℕ) (h : Named) (hooks : List Named) (b : Bool) → bytes_eq name h.name ≡ b → hook_names (without_name name hooks) ≡ without name (hook_names hooks) → hook_names (without_name name (h ∷ hooks)) ≡ without name (hook_names (h ∷ hooks))
passed_over name h hooks true e rest = rw e rest
passed_over name h hooks false e rest = rw e (ap (λ (names : List (List ℕ)). h.name ∷ names) rest)

pub names_without : (name : List ℕ) (hooks : List Named) → hook_names (without_name name hooks) ≡ without name (hook_names hooks)
names_without name [] = refl
names_without name (h ∷ hooks) = passed_over name h hooks (bytes_eq name h.name) refl (names_without name hooks)

-- the names that are left are hook names
pub hook_names_without : (name : List ℕ) (hooks : List Named) → AreHookNames (hook_names hooks) → AreHookNames (hook_names (without_name name hooks))
hook_names_without name hooks are = record {
  few = omega (arith, are.few, length-map (without_name name hooks) (λ (h : Named). h.name), length-map hooks (λ (h : Named). h.name), length-filter (λ (h : Named). not (bytes_eq name h.name)) hooks, count_by-le-length (λ (h : Named). not (bytes_eq name h.name)) hooks);
  each = subst (λ (names : List (List ℕ)). All IsHookName names) (sym (names_without name hooks)) (All-filter (λ other. not (bytes_eq name other)) IsHookName (hook_names hooks) are.each);
}

-- a hook has a name that is among theirs
pub named_of_contains : (name : List ℕ) (hooks : List Named) → Contains (hook_names hooks) name → has_name hooks name ≡ true
named_of_contains name hooks there =
    named_among name hooks ∙ list_any-from_Any (bytes_eq name) (hook_names hooks) (there.0, name, there.1, there.2, (bytes_eq-Decides name name).1 refl)

-- the others have names and room
pub holds_without : (name : List ℕ) (hooks : List Named) (capacity : ℕ) → HoldsAll hooks capacity → HoldsAll (without_name name hooks) capacity
holds_without name hooks capacity holds = record {
  names = hook_names_without name hooks holds.names;
  room = by_room holds.room;
} where
  by_room : (hooks ≡ []) ⊎ (hook_limit ≤ capacity) → (without_name name hooks ≡ []) ⊎ (hook_limit ≤ capacity)
  by_room (inl none) = inl (rw none refl)
  by_room (inr room) = inr room

-- and so have the hooks with one more that is accepted
pub holds_with : (name code : List ℕ) (layout : Layout) (hooks new : List Named) (before capacity : ℕ) → HoldsAll hooks before →
    Accepts hooks name layout code new → before ≤ capacity → (length hooks ≡ 0 → ⊥) → HoldsAll (hooks ++ new) capacity
holds_with name code layout hooks new before capacity holds accepts more some = record {
  names = record {
    few = rw accepts.alone (omega (arith, accepts.place.room, length-map (hooks ++ record { name = name; hook = accepts.hook } ∷ []) (λ (h : Named). h.name), length-append hooks (record { name = name; hook = accepts.hook } ∷ [])));
    each = rw accepts.alone (rw (map-append (λ (h : Named). h.name) hooks (record { name = name; hook = accepts.hook } ∷ []))
        (All-push IsHookName (hook_names hooks) name holds.names.each accepts.place.named));
  };
  room = by_room holds.room;
} where
  by_room : (hooks ≡ []) ⊎ (hook_limit ≤ before) → (hooks ++ new ≡ []) ⊎ (hook_limit ≤ capacity)
  by_room (inl none) = absurd (some (ap length none))
  by_room (inr room) = inr (omega (arith, room, more))
