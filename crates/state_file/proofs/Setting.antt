-- Hooks that are set, and keeping that they are.
use Rattle.std.proofs.Common.{◌≡◌, ℕ, List, [], ◌∷◌, ◌++◌, true, Option, None, Some, refl, sym, ap, ◌∙◌, subst, arith}
use Rattle.state_file.proofs.Names.{bytes_eq, bytes_eq-Decides, Event, event_at, with_change, happens, Happened, all_dated, Happened-joined, with_notes, SeenServer, FitsServer, Notes, NowNotes}
use Rattle.state_file.proofs.Names.{AreUnkept, AreNoted, Outset, Hosting, HookFact, AreSet, hooks_set_in, hook_named, with_hook, with_hooks, FitsRestored, Sets, Restored}
use Rattle.std.proofs.lemmas.Bool.Decides.{nat_tests}
use Rattle.std.proofs.lemmas.List.Elements.{All-append, All-cons, All-nil, All-weaker}
use Rattle.consent.specs.History.{all_past}
use Rattle.consent.specs.HistoryLaws.{in_order-now}
use Rattle.consent.specs.declared.change.Changes.{Changes}
use Rattle.endpoints.specs.Making.{GoesOnWith}
use Rattle.state_file.proofs.Hooked.{hooks_of-with}

-- LOOKING UP

same_name : (name : List ℕ) → bytes_eq name name ≡ true
same_name name = (bytes_eq-Decides name name).1 refl

-- what has a name keeps it, where another is set behind it
pub named_stays : (name : List ℕ) (hooks : List HookFact) (hook found : HookFact) → hook_named name hooks ≡ Some found → hook_named name (hooks ++ hook ∷ []) ≡ Some found
named_stays name [] hook found is = absurd cc
named_stays name (h ∷ hooks) hook found is =
    let later = named_stays name hooks hook found in grind (arith, nat_tests, later)

-- what is set under a new name has it
pub named_new : (hooks : List HookFact) (hook : HookFact) → hook_named hook.name hooks ≡ None → hook_named hook.name (hooks ++ hook ∷ []) ≡ Some hook
named_new [] hook is = rw (same_name hook.name) refl
named_new (h ∷ hooks) hook is =
    let later = named_new hooks hook in grind (arith, nat_tests, later)

-- HISTORIES WITH HOOKS

with_hook-old : (moment : ℕ) (history : List Event) (hook found : HookFact) → hook_named hook.name (hooks_set_in history) ≡ Some found → with_hook moment history hook ≡ history
with_hook-old moment history hook found is = rw is refl

with_hook-new : (moment : ℕ) (history : List Event) (hook : HookFact) → hook_named hook.name (hooks_set_in history) ≡ None →
    with_hook moment history hook ≡ with_change history moment (happens.HookSet hook.name hook.version hook.code)
with_hook-new moment history hook is = rw is refl

with_hooks-then : (moment : ℕ) (history : List Event) (hooks : List HookFact) (hook : HookFact) →
    with_hooks moment history (hooks ++ hook ∷ []) ≡ with_hook moment (with_hooks moment history hooks) hook
with_hooks-then moment history [] hook = refl
with_hooks-then moment history (h ∷ hooks) hook = with_hooks-then moment (with_hook moment history h) hooks hook

hooks_of-set : (moment : ℕ) (history : List Event) (hook : HookFact) → hook_named hook.name (hooks_set_in history) ≡ None →
    hooks_set_in (with_hook moment history hook) ≡ hooks_set_in history ++ hook ∷ []
hooks_of-set moment history hook is =
    ap hooks_set_in (with_hook-new moment history hook is) ∙ hooks_of-with history moment (happens.HookSet hook.name hook.version hook.code)

-- what is set stays set
stays_set : (moment : ℕ) (history : List Event) (hook other : HookFact) → hook_named other.name (hooks_set_in history) ≡ Some other →
    hook_named other.name (hooks_set_in (with_hook moment history hook)) ≡ Some other
stays_set moment history hook other is = by (hook_named hook.name (hooks_set_in history)) refl
  where
    by : (found : Option HookFact) → hook_named hook.name (hooks_set_in history) ≡ found → hook_named other.name (hooks_set_in (with_hook moment history hook)) ≡ Some other
    by None none = ap (hook_named other.name) (hooks_of-set moment history hook none) ∙ named_stays other.name (hooks_set_in history) hook other is
    by (Some found) there = ap (λ (h : List Event). hook_named other.name (hooks_set_in h)) (with_hook-old moment history hook found there) ∙ is

-- WHAT IS NOTED

noted_more : (unkept : Option (List Event)) (kept : Option (List Event)) (before after : List Event) (moment : ℕ) (changes : Changes) →
    AreUnkept unkept kept before → Happened before (all_dated moment changes) after → AreUnkept (with_notes unkept moment changes) kept after
noted_more None None before after moment changes unkept happened = tt
noted_more (Some facts) (Some kept) before after moment changes unkept happened =
    Happened-joined kept before after facts (all_dated moment changes) unkept happened
noted_more _ _ before after moment changes unkept happened = absurd unkept

module _ {H : Type 0} (hosting : Hosting H) where
  -- a hook of a new name
  pub sets_new : (old new : Restored H) (hook : HookFact) (changes : Changes) →
      all_dated old.server.greatest changes ≡ event_at old.server.greatest (happens.HookSet hook.name hook.version hook.code) ∷ [] →
      GoesOnWith hosting old.server (happens.HookSet hook.name hook.version hook.code) new.server → new.server.unkept ≡ with_notes old.server.unkept old.server.greatest changes →
      new.hooks ≡ old.hooks ++ hook ∷ [] → new.moment ≡ old.moment → hook_named hook.name old.hooks ≡ None → Sets hosting old (hook ∷ []) new
  sets_new old new hook changes are on noted pushed moment none outset history fits =
      let change = happens.HookSet hook.name hook.version hook.code in
      let free : hook_named hook.name (hooks_set_in history) ≡ None = ap (hook_named hook.name) (sym fits.1) ∙ none in
      let at : old.server.greatest ≡ old.moment = fits.0.greatest_is in
      let goes_on : with_hook old.moment history hook ≡ with_change history old.moment change = with_hook-new old.moment history hook free in
      let after : List Event = with_hook old.moment history hook in
      let now : after ≡ with_change history old.server.greatest change = goes_on ∙ ap (λ (m : ℕ). with_change history m change) (sym at) in
      let made = on outset history (subst (λ (m : ℕ). FitsServer hosting old.server outset history m) (sym at) fits.0) in
      let fits_now : FitsServer hosting new.server outset after new.moment =
      subst (λ (m : ℕ). FitsServer hosting new.server outset after m) (at ∙ sym moment)
      (subst (λ (h : List Event). FitsServer hosting new.server outset h old.server.greatest) (sym now) made) in
      let past : all_past history old.server.greatest ≡ true = rw at fits.0.store.kept.is_history.past in
      let happened : Happened history (all_dated old.server.greatest changes) after =
      subst (λ (ds : List Event). Happened history ds after) (sym are)
      (record { follow = (tt, tt); in_order = in_order-now history old.server.greatest (change ∷ []) past; leads = now }) in
      let hooks : hooks_set_in after ≡ hooks_set_in history ++ hook ∷ [] = hooks_of-set old.moment history hook free in
      let set : hook_named hook.name (hooks_set_in after) ≡ Some hook = ap (hook_named hook.name) hooks ∙ named_new (hooks_set_in history) hook free in (
        (fits_now, pushed ∙ ap (λ (hs : List HookFact). hs ++ hook ∷ []) fits.1 ∙ sym hooks),
        All-cons (λ (h : HookFact). hook_named h.name (hooks_set_in after) ≡ Some h) hook [] set (All-nil (λ (h : HookFact). hook_named h.name (hooks_set_in after) ≡ Some h)),
        λ kept notes. subst (λ (unkept : Option (List Event)). AreUnkept unkept kept after) (sym noted)
            (noted_more old.server.unkept kept history after old.server.greatest changes notes happened),
      )

  -- some hooks, and then one
  pub sets_then : (old mid new : Restored H) (hooks : List HookFact) (hook : HookFact) → mid.moment ≡ old.moment → Sets hosting old hooks mid →
      Sets hosting mid (hook ∷ []) new → Sets hosting old (hooks ++ hook ∷ []) new
  sets_then old mid new hooks hook same one next outset history fits =
      let some = one outset history fits in
      let between : List Event = with_hooks old.moment history hooks in
      let more = next outset between some.0 in
      let after : List Event = with_hook old.moment between hook in
      let at : with_hook mid.moment between hook ≡ after = ap (λ (m : ℕ). with_hook m between hook) same in
      let whole : with_hooks old.moment history (hooks ++ hook ∷ []) ≡ after = with_hooks-then old.moment history hooks hook in
      let each : AreSet hooks after =
      All-weaker (λ (h : HookFact). hook_named h.name (hooks_set_in between) ≡ Some h) (λ (h : HookFact). hook_named h.name (hooks_set_in after) ≡ Some h)
      (λ h is. stays_set old.moment between hook h is) hooks some.1 in
      let last : AreSet (hook ∷ []) after = subst (λ (h : List Event). AreSet (hook ∷ []) h) at more.1 in
      subst (λ (h : List Event). FitsRestored hosting new outset h × AreSet (hooks ++ hook ∷ []) h × AreNoted old.server new.server history h) (sym whole) (
        subst (λ (h : List Event). FitsRestored hosting new outset h) at more.0,
        All-append (λ (h : HookFact). hook_named h.name (hooks_set_in after) ≡ Some h) hooks (hook ∷ []) each last,
        λ kept notes. subst (λ (h : List Event). Notes new.server kept h) at (more.2 kept (some.2 kept notes)),
      )

  -- a server that only notes otherwise fits what it fitted
  pub fits_noting : (old new : SeenServer H) (unkept : Option (List Event)) (outset : Outset H) (history : List Event) (m : ℕ) → NowNotes old new unkept →
      FitsServer hosting old outset history m → FitsServer hosting new outset history m
  fits_noting old new unkept outset history m now fits =
      subst (λ (s : SeenServer H). FitsServer hosting s outset history m) (sym now)
      (record {
        rules_are = fits.rules_are;
        greatest_is = fits.greatest_is;
        store = fits.store;
        consents = fits.consents;
        hosts = fits.hosts;
        right = fits.right;
      })

-- LOOKING UP, for what is found

-- what is found by a name has it
pub named_has : (name : List ℕ) (hooks : List HookFact) (found : HookFact) → hook_named name hooks ≡ Some found → name ≡ found.name
named_has name [] found is = absurd cc
named_has name (h ∷ hooks) found is =
    let here = (bytes_eq-Decides name h.name).0 in let later = named_has name hooks found in grind (arith, nat_tests, here, later)

-- where it has the version and the code, it is the hook
pub named_is : (hook : HookFact) (hooks : List HookFact) (found : HookFact) → hook_named hook.name hooks ≡ Some found → found.version ≡ hook.version → found.code ≡ hook.code → found ≡ hook
named_is hook hooks found is version code =
    let name : found.name ≡ hook.name = sym (named_has hook.name hooks found is) in
    hook_same found hook name version code
  where
    hook_same : (a b : HookFact) → a.name ≡ b.name → a.version ≡ b.version → a.code ≡ b.code → a ≡ b
    hook_same a b n v c =
        let one : a ≡ record { name = b.name; version = b.version; code = b.code } = rw (n, v, c) refl in one
