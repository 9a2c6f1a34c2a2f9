-- Whatever is found after any number of lives comes of what was there at first.
use Rattle.std.proofs.Common.{◌≡◌, ◌⊎◌, ◌↔◌, ⊎_elim, inl, inr, ℕ, List, [], ◌∷◌, Bool, true, false, Option, Some, None, refl, sym, ap, subst, ◌∙◌}
use Rattle.lifetime.proofs.Names.{IsReadable, Contains, is_some, recovered, IsFrontOf, RegistryRecord, Event, Onward, LoopState, Served, begins, Tools, Named, Journey, HookFact, SeenKeeper, history_under}
use Rattle.lifetime.proofs.Names.{Narrowed, ComesOf, IsHeir, IsLeftBeside, IsTold, MayBeFound, StartsFrom, at_first, ever, grows, is_it, once_settled, settled_at, starts, Given, LifePromises, in_loop, HasLived, HasNotLived, IsLife}
use Rattle.lifetime.proofs.Names.{IsWhole, LosesNothing, is_ahead, is_refused, is_unopened, is_unsettled, IsPlanOf, begun_from, Begun, Settles, Life, Plan, Ending, front_then, same_front}
use Rattle.lifetime.proofs.Names.{RulesFact, TellsRules, rules_of, served_onward, under_in}
use Rattle.lifetime.specs.Plans.{AreUnder}
use Rattle.narrowing.specs.Left.{left_under, under_told}
use Rattle.state_file.specs.TellingLaws.{tell_one, told_are}
use Rattle.state_file.specs.Hooks.{hook_named, hooks_set_in, with_hook, with_hooks}
use Rattle.lifetime.specs.Lives.{has_stopped}
use Rattle.lifetime.proofs.Living.{bears_of}
use Rattle.lifetime.proofs.Losing.{whole_batches}

-- WHAT A START GOES ON FROM

hook_front : (moment : ℕ) (history : List Event) (hook : HookFact) (b : Bool) → is_some (hook_named hook.name (hooks_set_in history)) ≡ b → IsFrontOf history (with_hook moment history hook)
hook_front moment history hook true is = rw is (same_front history history refl)
hook_front moment history hook false is = rw is (_, refl)

hooks_front : (moment : ℕ) (history : List Event) (hooks : List HookFact) → IsFrontOf history (with_hooks moment history hooks)
hooks_front moment history [] = same_front history history refl
hooks_front moment history (hook ∷ hooks) =
    front_then history (with_hook moment history hook) (with_hooks moment (with_hook moment history hook) hooks) (hook_front moment history hook _ refl)
    (hooks_front moment (with_hook moment history hook) hooks)

-- what a start goes on from comes of what stood there
module _ (registries : List RegistryRecord) (start : List ℕ ⊎ RegistryRecord) (first : List Event) (rules : RegistryRecord) (hooks : List HookFact) (bytes : List ℕ) (plan : Plan)
    (is : IsPlanOf rules hooks bytes plan) where
  left_by : (by : List ℕ ⊎ RegistryRecord) → ((told : RulesFact) → IsTold by told ↔ TellsRules bytes told) → (narrowed : Option Narrowed) → AreUnder rules bytes narrowed →
      (history : List Event) → (history_under (under_in bytes rules) narrowed history ≡ history) ⊎ IsLeftBeside by rules history (history_under (under_in bytes rules) narrowed history)
  left_by by told None under history = inl refl
  left_by by told (Some left) under history =
      let narrower = under.narrower.0 refl in
      inr (narrower.told, (told narrower.told).1 narrower.tells, ap (λ (t : Option RulesFact). left_under (under_told t rules) history) (told_are (recovered bytes) narrower.told narrower.tells))

  starts_from : (heir : IsHeir registries start first bytes) → StartsFrom heir.by rules heir.history (history_under (under_in bytes rules) is.narrowed heir.history)
  starts_from heir = record {
    left = left_by heir.by heir.told is.narrowed is.under heir.history;
    owners = λ told tells. is.owners told ((heir.told told).0 tells) heir.history heir.lived;
  }

  comes_begun : (heir : IsHeir registries start first bytes) → Contains registries rules → ComesOf registries start first (inr rules) (begun_from is heir.history)
  comes_begun heir among =
      grows (inr rules) (history_under (under_in bytes rules) is.narrowed heir.history) (begun_from is heir.history)
      (starts heir.by heir.history (history_under (under_in bytes rules) is.narrowed heir.history) rules heir.comes among (starts_from heir))
      (hooks_front plan.prepared.moment (history_under (under_in bytes rules) is.narrowed heir.history) hooks)

-- HEIRS

-- what is whole is an heir of what it has
whole_heir : (registries : List RegistryRecord) (start : List ℕ ⊎ RegistryRecord) (first before all : List Event) (rules : RegistryRecord) (c : List ℕ) →
    ComesOf registries start first (inr rules) before → IsWhole rules before all c → IsHeir registries start first c
whole_heir registries start first before all rules c comes whole = record {
  by = inr rules;
  history = whole.history;
  comes = grows (inr rules) before whole.history comes whole.from;
  told = λ told. (λ is. subst (λ (r : RulesFact). TellsRules c r) (sym is) whole.told, λ tells. tell_one (recovered c) told (rules_of rules) tells whole.told);
  lived = record { stands = whole.stands; right = inr (rules, whole.told, whole.right); ran = inr (whole.host, whole.ran) };
}

module _ {D N C J : Type 0} (p : LifePromises D N C J) (only_now : (d : D) (c : List ℕ) → p.device.left_since d (p.device.moment d) c → p.device.may_leave d c)
    (only_true : (d : D) (c : List ℕ) → p.device.may_leave d c → p.device.reads_true d) (registries : List RegistryRecord) (start : List ℕ ⊎ RegistryRecord) (first : List Event) where
  -- what was left before, or is whole
  loses_heir : (given : Given D N C J) (device : D) (before all : List Event) (c : List ℕ) → ComesOf registries start first (inr given.registry) before → LosesNothing p given device before all →
      p.device.left_since device (p.device.moment given.device) c → (p.device.may_leave given.device c → IsHeir registries start first c) → IsHeir registries start first c
  loses_heir given device before all c comes loses since earlier = ⊎_elim earlier (whole_heir registries start first before all given.registry c comes) (loses.each c since)

  module _ (given : Given D N C J) (among : Contains registries given.registry) (heir : IsHeir registries start first given.bytes) where
    -- ONCE IT WAS SETTLED

    settled_heir : (begun : Begun D N C J) (settles : Settles p given begun) (c : List ℕ) →
        p.device.left_since begun.keeper.file.device (p.device.moment begun.keeper.file.device) c → IsHeir registries start first c
    settled_heir begun settles c since =
        let plan = begun.outlook.plan in
        let before = begun_from settles.looks.plan_is heir.history in
        let may = only_now begun.keeper.file.device c since in
        let same : c ≡ p.device.seen begun.keeper.file.device = settles.put.durable c may in
        let is : (recovered c ≡ plan.prepared.batches) × IsReadable c =
        (ap recovered same ∙ settles.put.seen (only_true begun.keeper.file.device c may), subst (λ (b : List ℕ). IsReadable b) (sym same) settles.put.readable) in
        whole_heir registries start first before before given.registry c (comes_begun registries start first given.registry given.hooks given.bytes plan settles.looks.plan_is heir among)
        (whole_batches given.registry plan.prepared.batches before c (bears_of given.registry given.hooks given.bytes plan settles.looks.plan_is heir.history heir.lived) is)

    lived_heir : (begun : Begun D N C J) (settles : Settles p given begun) (ending : Ending N C J (SeenKeeper D)) (c : List ℕ) →
        HasLived p given begun (begun_from settles.looks.plan_is heir.history) ending →
        p.device.left_since ending.tools.keeper.file.device (p.device.moment begun.keeper.file.device) c → IsHeir registries start first c
    lived_heir begun settles ending c lived since =
        let before = begun_from settles.looks.plan_is heir.history in
        let served = lived.served in
        let keeps = lived.keeps_then served.first (begins served.is_first) (served_onward (in_loop p) served.first served.last served.served) in
        let first_kept : served.first.progress.journey.world.kept ≡ Some before = ap (λ (j : Journey (List Named)). j.world.kept) served.journey_is in
        let kept : Some before ≡ Some keeps.0 = sym first_kept ∙ keeps.1 in
        let is : before ≡ keeps.0 = cc in
        let keeper : begun.keeper ≡ served.first.keeper = sym (ap (λ (t : Tools N C J (SeenKeeper D) (List Named)). t.keeper) served.tools_are) in
        let then : p.device.left_since ending.tools.keeper.file.device (p.device.moment served.first.keeper.file.device) c =
        subst (λ (k : SeenKeeper D). p.device.left_since ending.tools.keeper.file.device (p.device.moment k.file.device) c) keeper since in
        let comes : ComesOf registries start first (inr given.registry) before =
        comes_begun registries start first given.registry given.hooks given.bytes begun.outlook.plan settles.looks.plan_is heir among in
        whole_heir registries start first keeps.0 served.last.progress.journey.world.history given.registry c (subst (λ (h : List Event). ComesOf registries start first (inr given.registry) h) is comes) (keeps.2.each c then)

    not_lived_heir : (begun : Begun D N C J) (settles : Settles p given begun) (ending : Ending N C J (SeenKeeper D)) (c : List ℕ) →
        HasNotLived p given begun (begun_from settles.looks.plan_is heir.history) ending →
        p.device.left_since ending.tools.keeper.file.device (p.device.moment begun.keeper.file.device) c → IsHeir registries start first c
    not_lived_heir begun settles ending c not since =
        settled_heir begun settles c (subst (λ (k : SeenKeeper D). p.device.left_since k.file.device (p.device.moment begun.keeper.file.device) c)
        (ap (λ (t : Tools N C J (SeenKeeper D) (List Named)). t.keeper) not.served.same) since)

    once_heir : (life : Life D N C J) (lived : IsLife p given life) (t : ℕ) (c : List ℕ) → settled_at lived ≡ Some t → p.device.left_since life.device t c → IsHeir registries start first c
    once_heir life (is_unopened begun settles keeps) t c at since =
        let is : t ≡ p.device.moment begun.keeper.file.device = cc in
        settled_heir begun settles c (subst (λ (m : ℕ). p.device.left_since begun.keeper.file.device m c) is since)
    once_heir life (has_stopped begun settles ending lives) t c at since =
        let is : t ≡ p.device.moment begun.keeper.file.device = cc in
        let then = subst (λ (m : ℕ). p.device.left_since ending.tools.keeper.file.device m c) is since in
        ⊎_elim (λ lived. lived_heir begun settles ending c lived then) (λ not. not_lived_heir begun settles ending c not then) (lives heir.history heir.lived)
    once_heir life _ t c at since = absurd (cc)

    -- AT ANY MOMENT

    ever_heir : (life : Life D N C J) → IsLife p given life → (c : List ℕ) → p.device.left_since life.device (p.device.moment given.device) c →
        (p.device.may_leave given.device c → IsHeir registries start first c) → IsHeir registries start first c
    ever_heir life (is_refused fault refuses) c since earlier = earlier (only_now given.device c since)
    ever_heir life (is_ahead outlook seconds looks far) c since earlier = earlier (only_now given.device c since)
    ever_heir life (is_unsettled outlook fault device journal cannot told) c since earlier =
        loses_heir given device _ _ c (comes_begun registries start first given.registry given.hooks given.bytes outlook.plan cannot.looks.plan_is heir among)
        (cannot.stays_whole heir.history heir.lived).0 since earlier
    ever_heir life (is_unopened begun settles keeps) c since earlier =
        loses_heir given begun.keeper.file.device _ _ c (comes_begun registries start first given.registry given.hooks given.bytes begun.outlook.plan settles.looks.plan_is heir among)
        (keeps heir.history heir.lived).0 since earlier
    ever_heir life (has_stopped begun settles ending lives) c since earlier =
        let comes = comes_begun registries start first given.registry given.hooks given.bytes begun.outlook.plan settles.looks.plan_is heir among in
        ⊎_elim (λ lived. loses_heir given ending.tools.keeper.file.device _ _ c comes lived.loses_nothing since earlier)
        (λ not. loses_heir given ending.tools.keeper.file.device _ _ c comes not.stays_whole.0 since earlier) (lives heir.history heir.lived)

  -- after any number of lives
  pub found_heir : (First : List ℕ → Type 0) → ((c : List ℕ) → First c → IsHeir registries start first c) → (c : List ℕ) → MayBeFound p registries First c → IsHeir registries start first c
  found_heir First base c (at_first left is) = base c is
  found_heir First base c (once_settled given life t left found among lived at since) = once_heir given among (found_heir First base given.bytes found) life lived t c at since
  found_heir First base c (ever given life left found among lived since earlier) =
      ever_heir given among (found_heir First base given.bytes found) life lived c since (λ may. found_heir First base c (earlier may))

-- what was kept at a state is not lost from then on
module _ {D N C J : Type 0} (p : LifePromises D N C J) (registries : List RegistryRecord) (first : List Event) where
  pub kept_heir : (given : Given D N C J) (begun : Begun D N C J) (before : List Event) (ending : Ending N C J (SeenKeeper D)) (lived : HasLived p given begun before ending)
      (s : LoopState N C J (SeenKeeper D) (List Named)) → Served (in_loop p) lived.served.first s → Onward (in_loop p) s lived.served.last →
      s.progress.journey.world.kept ≡ Some first → (c : List ℕ) →
      p.device.left_since ending.tools.keeper.file.device (p.device.moment s.keeper.file.device) c → IsHeir registries (inr given.registry) first c
  kept_heir given begun before ending lived s here on is c since =
      let keeps = lived.keeps_then s here on in
      let kept : Some first ≡ Some keeps.0 = sym is ∙ keeps.1 in
      let same : first ≡ keeps.0 = cc in
      whole_heir registries (inr given.registry) first keeps.0 lived.served.last.progress.journey.world.history given.registry c
      (subst (λ (h : List Event). ComesOf registries (inr given.registry) first (inr given.registry) h) same is_it) (keeps.2.each c since)
