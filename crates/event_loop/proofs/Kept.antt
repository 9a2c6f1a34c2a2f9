-- What is kept of what happens.
use Rattle.std.proofs.Common.{append_assoc, ◌++◌, ◌≡◌, ◌≢◌, ◌⊎◌, inl, inr, ◌+◌, ℕ, List, [], ◌∷◌, Some, None, Option, length, refl, sym, ap, subst, ◌∙◌, arith, ◌↔◌, Bool, false, IsTrue, length-append}
use Rattle.event_loop.proofs.Names.{Event, IsFrontOf, same_Some, World, KeepsHistory, TakesOutput, TakesNothing, false≢true, AreUnkept, IsAllKept, IsUnkept}
use Rattle.consent.specs.History.{Happened}
use Rattle.consent.specs.HistoryLaws.{Happened-nothing}

-- WHAT IS UNKEPT

-- what was kept is a front of what happened
pub front_noted : (unkept : Option (List Event)) (o : Option (List Event)) (history : List Event) → AreUnkept unkept o history → (kept : List Event) → o ≡ Some kept → IsFrontOf kept history
front_noted (Some facts) (Some before) history noted kept is =
    subst (λ front. IsFrontOf front history) (same_Some before kept is) (facts, noted.leads)
front_noted unkept o history noted kept is = absurd (grind (arith, noted, is))

-- where something happened, the history is longer
happened_more : (before after : List Event) (facts : List Event) → facts ≢ [] → Happened before facts after → before ≢ after
happened_more before after [] some happened same = some refl
happened_more before after (d ∷ ds) some happened same =
    let size : length after ≡ length before + 1 + length ds =
    ap length (happened.leads ∙ sym (append_assoc before (d ∷ []) ds)) ∙ length-append (before ++ d ∷ []) ds ∙ ap (λ n. n + length ds) (length-append before (d ∷ [])) in
    let equal : length before ≡ length after = ap length same in
    absurd (omega (arith, size, equal))

-- nothing is noted at all, or nothing more
pub none_unkept : (o : Option (List Event)) (history : List Event) → AreUnkept None o history → (kept : List Event) → o ≡ Some kept → kept ≡ history
none_unkept o history noted kept is = grind (arith, noted, is)

pub nothing_unkept : (facts : List Event) (o : Option (List Event)) (history : List Event) → facts ≡ [] → AreUnkept (Some facts) o history → (kept : List Event) → o ≡ Some kept → kept ≡ history
nothing_unkept facts None history none noted kept is = absurd noted
nothing_unkept facts (Some before) history none noted kept is =
    sym (same_Some before kept is) ∙ sym (Happened-nothing before history (subst (λ (fs : List Event). Happened before fs history) none noted))

-- or something is, which leads on from what was kept last
noted_from : (facts : List Event) (o : Option (List Event)) (history : List Event) → AreUnkept (Some facts) o history → (kept : List Event) × (o ≡ Some kept) × Happened kept facts history
noted_from facts None history noted = absurd noted
noted_from facts (Some before) history noted = (before, refl, noted)

pub something_unkept : (world : World) (facts : List Event) → facts ≢ [] → AreUnkept (Some facts) world.kept world.history → (unkept : IsUnkept world) × Happened unkept.kept facts world.history
something_unkept world facts some noted =
    let from = noted_from facts world.kept world.history noted in
    (record { kept = from.0; here = from.1; more = happened_more from.0 world.history facts some from.2 }, from.2)

-- where it is tested that something is, something is
pub not_empty : (result : Bool) (facts : List Event) → (IsTrue result ↔ facts ≡ []) → result ≡ false → facts ≢ []
not_empty result facts both is none = false≢true (sym is ∙ both.1 none)

-- KEEPING

module _ (old new : World) (keeps : KeepsHistory old new) where
  pub kept_connections : new.connections ≡ old.connections
  kept_connections = ap (λ (w : World). w.connections) keeps.kept

  pub kept_history : new.history ≡ old.history
  kept_history = ap (λ (w : World). w.history) keeps.kept

  pub kept_last : new.kept ≡ Some old.history
  kept_last = ap (λ (w : World). w.kept) keeps.kept

  -- so nothing is unkept
  pub all_kept_now : IsAllKept new
  all_kept_now last is = same_Some last old.history (sym is ∙ kept_last) ∙ sym kept_history

-- where nothing more happened, nothing is unkept
pub all_kept_still : (old new : World) → new.kept ≡ old.kept → new.history ≡ old.history → IsAllKept old → IsAllKept new
all_kept_still old new kept history all last is = all last (sym kept ∙ is) ∙ sym history

-- taking output leaves it so
pub takes_kept : (old new : World) (c n : ℕ) → TakesOutput old new c n ⊎ TakesNothing old new c n → IsAllKept old → IsAllKept new
takes_kept old new c n (inl takes) all = all_kept_still old new takes.still.kept takes.still.history all
takes_kept old new c n (inr absent) all = all_kept_still old new (ap (λ (w : World). w.kept) absent.same) (ap (λ (w : World). w.history) absent.same) all
