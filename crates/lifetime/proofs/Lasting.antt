-- What a crash leaves of a life whose loop served.
use Rattle.std.proofs.Common.{◌≡◌, ◌≤◌, ◌⊎◌, ⊎_elim, inl, inr, ℕ, List, [], Option, Some, refl, sym, ap, subst, ◌∙◌, arith}
use Rattle.std.specs.Prelude.{max}
use Rattle.std.proofs.Math.Nat.{le-max_left, le-max_right}
use Rattle.lifetime.proofs.Names.{Basis, IsWithin, NoLater, Readable, IsReadable, LeftTells, TellsNoLater, until_with, until_of, horizon_bound, latest, told_then}
use Rattle.lifetime.proofs.Names.{recovered, HoldsBasis, IsFrontOf, Rules, TellsBasis, Event, AllRight, IsBounded, HostRun, Outset, outset_of, Carries, KeeperHolds, Onward, StandsBetween}
use Rattle.lifetime.proofs.Names.{front_then, same_front, served_on, served_onward, HasServed, LoopState, Served, begins, Tools, Named, SeenEdge, Journey, Reached, SeenKeeper, StandFor, StandsFor}
use Rattle.lifetime.proofs.Names.{IsPutOn, Tell, TellsRules, rules_of, Given, LifePromises, in_loop, HasLived, IsWhole, Leaves, LeavesKept, LosesNothing, loop_of, Begun, Ending}
use Rattle.change_codec.specs.Keeping as keeping
use Rattle.state_keeper.specs.Seen.{AreDrafted, MayBe}
use Rattle.hook_chain.specs.contracts.chain.ChainHookHost.TheImpl as chain
use Rattle.lifetime.proofs.Losing.{Bears, leaves_then, more_loses, old_or_loses, old_or_tells, whole_by}
use Rattle.event_loop.proofs.Fronts.{served_front}
use Rattle.event_loop.specs.EndsLaws.{blamed_failed}
use Rattle.state_keeper.proofs.Put.{leaves_weaker}

module _ {D N C J : Type 0} (p : LifePromises D N C J) (only_now : (d : D) (c : List ℕ) → p.device.left_since d (p.device.moment d) c → p.device.may_leave d c)
    (only_true : (d : D) (c : List ℕ) → p.device.may_leave d c → p.device.reads_true d)
    (given : Given D N C J) (begun : Begun D N C J) (before : List Event) (put : IsPutOn p.device begun.outlook.plan.prepared.batches given.device begun.keeper)
    (bears : Bears given.registry begun.outlook.plan.prepared.batches before) (no_later : until_of begun.outlook.plan.prepared.batches ≤ until_of (recovered given.bytes)) where
  abbrev StateHere : Type 0
  StateHere = LoopState N C J (SeenKeeper D) (List Named)

  -- what a crash leaves of the keeper is what its file has, which has the batches
  put_left : (c : List ℕ) → p.device.reads_true begun.keeper.file.device → c ≡ p.device.seen begun.keeper.file.device → (recovered c ≡ begun.outlook.plan.prepared.batches) × IsReadable c
  put_left c true same = (ap recovered same ∙ put.seen true, subst (λ (b : List ℕ). IsReadable b) (sym same) put.readable)

  -- no shortening is on the way
  undrafted : (c : List ℕ) → AreDrafted begun.keeper.front (recovered (p.device.seen begun.keeper.file.device)) (recovered c) → ⊥
  undrafted c draft =
      subst (λ (front : Option (List (List ℕ))). AreDrafted front (recovered (p.device.seen begun.keeper.file.device)) (recovered c)) put.unbegun draft

  module _ (edge : SeenEdge (List Named)) (ending : Ending N C J (SeenKeeper D))
      (served : HasServed (in_loop p) (loop_of given begun edge before) ending.fault ending.tools) where
    first_keeper : served.first.keeper ≡ begun.keeper
    first_keeper = ap (λ (t : Tools N C J (SeenKeeper D) (List Named)). t.keeper) served.tools_are

    first_kept : served.first.progress.journey.world.kept ≡ Some before
    first_kept = ap (λ (j : Journey (List Named)). j.world.kept) served.journey_is

    first_left : (c : List ℕ) → MayBe p.device served.first.keeper c → (recovered c ≡ begun.outlook.plan.prepared.batches) × IsReadable c
    first_left c left =
        ⊎_elim (λ may. put_left c (only_true begun.keeper.file.device c may) (put.durable c may))
        (λ read. put_left c read.0 (⊎_elim (λ same. same) (λ draft. absurd (undrafted c draft.1)) read.1)) (subst (λ (k : SeenKeeper D). MayBe p.device k c) first_keeper left)

    first_holds : KeeperHolds (in_loop p) served.first
    first_holds kept is c left =
        let same : Some before ≡ Some kept = sym first_kept ∙ is in
        let e : before ≡ kept = cc in
        subst (λ (h : List Event). StandsFor c h) e (subst (λ (bs : List (List ℕ)). StandFor bs before) (sym (first_left c left).0) bears.stand)

    first_tells : HoldsBasis (in_loop p).keeping.crashes served.first.keeper (Rules (rules_of given.registry))
    first_tells c left = subst (λ (bs : List (List ℕ)). Tell bs (rules_of given.registry)) (sym (first_left c left).0) bears.tell

    first_reads : HoldsBasis (in_loop p).keeping.crashes served.first.keeper Readable
    first_reads c left = (first_left c left).1

    -- and no later moment than the batches
    first_no_later : (until : ℕ) → until_of begun.outlook.plan.prepared.batches ≤ until → HoldsBasis (in_loop p).keeping.crashes served.first.keeper (NoLater until)
    first_no_later until le c left = subst (λ (bs : List (List ℕ)). until_of bs ≤ until) (sym (first_left c left).0) le

    carried : (s : StateHere) → Served (in_loop p) served.first s → Carries served.first.progress.journey s.progress.journey
    carried s here = served.carries served.first s (begins served.is_first) (served_onward (in_loop p) served.first s here)

    outset_at : (s : StateHere) → Served (in_loop p) served.first s → s.progress.journey.outset ≡ outset_of given.registry []
    outset_at s here = (carried s here).outset ∙ ap (λ (j : Journey (List Named)). j.outset) served.journey_is

    reached_at : (s : StateHere) → Served (in_loop p) served.first s → Reached chain.ghosts s.progress.edge s.progress.journey
    reached_at s here = (served.answered s here).reached

    right_at : (s : StateHere) → Served (in_loop p) served.first s → AllRight given.registry [] s.progress.journey.world.history
    right_at s here =
        subst (λ (o : Outset (List Named)). AllRight o.rules [] s.progress.journey.world.history) (outset_at s here) (reached_at s here).server.right

    ran_at : (s : StateHere) → Served (in_loop p) served.first s → HostRun chain.ghosts [] s.progress.journey.world.history s.progress.edge.server.host
    ran_at s here =
        subst (λ (o : Outset (List Named)). HostRun chain.ghosts o.first s.progress.journey.world.history s.progress.edge.server.host) (outset_at s here)
        (reached_at s here).server.hosts

    bounded_at : (s : StateHere) → Served (in_loop p) served.first s → IsBounded given.registry s.progress.journey.world.history
    bounded_at s here =
        subst (λ (o : Outset (List Named)). IsBounded o.rules s.progress.journey.world.history) (outset_at s here) (reached_at s here).bounded

    kept_at : (s : StateHere) → Served (in_loop p) served.first s → (kept : List Event) × (s.progress.journey.world.kept ≡ Some kept)
    kept_at s here = let now = (carried s here).kept before first_kept in (now.0, now.1)

    -- each state's keeper tells the rules, and what a crash leaves of it is read
    tells_at : (s : StateHere) → Served (in_loop p) served.first s → HoldsBasis (in_loop p).keeping.crashes s.keeper (Rules (rules_of given.registry))
    tells_at s here = (served.basis served.first s (begins served.is_first) (served_onward (in_loop p) served.first s here)).holds (Rules (rules_of given.registry)) tt first_tells

    reads_at : (s : StateHere) → Served (in_loop p) served.first s → HoldsBasis (in_loop p).keeping.crashes s.keeper Readable
    reads_at s here = (served.basis served.first s (begins served.is_first) (served_onward (in_loop p) served.first s here)).holds Readable tt first_reads

    -- what is left tells the rules, and is read
    abbrev IsSound : List ℕ → Type 0
    IsSound c = TellsRules c (rules_of given.registry) × IsReadable c

    whole_at : (s : StateHere) → Served (in_loop p) served.first s → (kept history : List Event) (c : List ℕ) → IsFrontOf kept history →
        IsFrontOf history s.progress.journey.world.history → StandsFor c history → IsSound c → IsWhole given.registry kept s.progress.journey.world.history c
    whole_at s here kept history c from to stands sound =
        whole_by given.registry kept history s.progress.journey.world.history s.progress.edge.server.host c from to stands sound.0 sound.1 (right_at s here) (ran_at s here)

    whole_between : (s s' : StateHere) → Served (in_loop p) served.first s' → (kept : List Event) (c : List ℕ) → StandsBetween (in_loop p) s kept s' c →
        IsSound c → IsWhole given.registry kept s'.progress.journey.world.history c
    whole_between s s' here kept c between sound = whole_at s' here kept between.kept c between.from between.to between.stands sound

    -- what crashes left since told what each basis within the limit told
    leaves_told : (old new : SeenKeeper D) (limit : ℕ) (basis : Basis) → IsWithin limit basis → TellsBasis (in_loop p).keeping.crashes limit old new →
        HoldsBasis (in_loop p).keeping.crashes old basis → Leaves p old.file.device new.file.device (λ c. LeftTells c basis)
    leaves_told old new limit basis within tells held =
        let same : p.device.moment old.file.device ≤ p.device.moment old.file.device = omega arith in
        record {
          later = tells.later;
          each = λ c left.
              ⊎_elim (λ was. held c (inl (only_now old.file.device c was))) (λ told. told) (tells.earlier basis (p.device.moment old.file.device) c within held same left);
          before = λ t c le left. tells.earlier basis t c within held le left;
        }

    -- a crash up to a later device left what stands for a history that is kept, and tells the rules: it is whole
    leaves_whole : (s s' : StateHere) (keeper : SeenKeeper D) (limit : ℕ) (kept : List Event) (P : List ℕ → Type 0) → Served (in_loop p) served.first s →
        keeping.Leaves (in_loop p).keeping.crashes s.keeper keeper P → TellsBasis (in_loop p).keeping.crashes limit s.keeper keeper →
        ((c : List ℕ) → P c → IsSound c → IsWhole given.registry kept s'.progress.journey.world.history c) →
        Leaves p s.keeper.file.device keeper.file.device (IsWhole given.registry kept s'.progress.journey.world.history)
    leaves_whole s s' keeper limit kept P here leaves tells whole =
        let told = leaves_told s.keeper keeper limit (Rules (rules_of given.registry)) tt tells (tells_at s here) in
        let read = leaves_told s.keeper keeper limit Readable tt tells (reads_at s here) in
        record {
          later = leaves.later;
          each = λ c left. whole c (leaves.each c left) (told.each c left, read.each c left);
          before = λ t c le left.
              ⊎_elim inl (λ is. ⊎_elim inl (λ rules. ⊎_elim inl (λ reads. inr (whole c is (rules, reads))) (read.before t c le left)) (told.before t c le left)) (leaves.earlier t c le left);
        }

    keeps_at : (s s' : StateHere) → Served (in_loop p) served.first s → Onward (in_loop p) s s' → LeavesKept p given.registry s s'.keeper.file.device s'.progress.journey.world.history
    keeps_at s s' here on =
        let kept = kept_at s here in
        let there : Served (in_loop p) served.first s' = served_on (in_loop p) served.first s s' here on in (
          kept.0,
          kept.1,
          leaves_whole s s' s'.keeper (horizon_bound (latest on)) kept.0 (StandsBetween (in_loop p) s kept.0 s') here (served.durable first_holds s s' here on kept.0 kept.1)
              (served.basis s s' here on).meanwhile (whole_between s s' there kept.0),
        )

    end_keeper : ending.tools.keeper ≡ served.end.keeper
    end_keeper = ap (λ (t : Tools N C J (SeenKeeper D) (List Named)). t.keeper) served.tools_are_then

    leaves_then_at : (s : StateHere) (here : Served (in_loop p) served.first s) (on : Onward (in_loop p) s served.last) (kept : List Event) → s.progress.journey.world.kept ≡ Some kept →
        Leaves p s.keeper.file.device served.end.keeper.file.device (IsWhole given.registry kept served.last.progress.journey.world.history)
    leaves_then_at s here on kept is =
        let all = front_then kept s.progress.journey.world.history served.last.progress.journey.world.history (served_front (in_loop p) served.first s here kept is) (served.carries s served.last here on).front in
        leaves_whole s served.last served.end.keeper (horizon_bound (max (latest on) (told_then served.fails))) kept _ here (served.durable_then first_holds s here on kept is) (served.basis_then s here on)
        (λ c. ⊎_elim (whole_between s served.last served.served kept c)
        (λ stands sound. whole_at served.last served.served kept served.last.progress.journey.world.history c all (same_front _ _ refl) stands sound))

    keeps_then_at : (s : StateHere) → Served (in_loop p) served.first s → Onward (in_loop p) s served.last →
        LeavesKept p given.registry s ending.tools.keeper.file.device served.last.progress.journey.world.history
    keeps_then_at s here on =
        let kept = kept_at s here in (
          kept.0,
          kept.1,
          subst (λ (k : SeenKeeper D). Leaves p s.keeper.file.device k.file.device (IsWhole given.registry kept.0 served.last.progress.journey.world.history)) (sym end_keeper)
              (leaves_then_at s here on kept.0 kept.1),
        )

    -- since the call began
    loses_nothing : LosesNothing p given ending.tools.keeper.file.device before served.last.progress.journey.world.history
    loses_nothing =
        let first = begins served.is_first in
        let on = served_onward (in_loop p) served.first served.last served.served in
        let all = front_then before served.first.progress.journey.world.history served.last.progress.journey.world.history (served_front (in_loop p) served.first served.first first before first_kept)
        (carried served.last served.served).front in
        let start : LosesNothing p given begun.keeper.file.device before served.last.progress.journey.world.history =
        more_loses p given before begun.keeper.file.device served.last.progress.journey.world.history all
        (old_or_loses p given before begun.keeper.file.device begun.outlook.plan.prepared.batches bears put.meanwhile) in
        let then : Leaves p begun.keeper.file.device ending.tools.keeper.file.device (IsWhole given.registry before served.last.progress.journey.world.history) =
        subst (λ (k : SeenKeeper D). Leaves p k.file.device ending.tools.keeper.file.device (IsWhole given.registry before served.last.progress.journey.world.history)) first_keeper
        (subst (λ (k : SeenKeeper D). Leaves p served.first.keeper.file.device k.file.device (IsWhole given.registry before served.last.progress.journey.world.history)) (sym end_keeper)
        (leaves_then_at served.first first on before first_kept)) in
        leaves_then p given.device begun.keeper.file.device ending.tools.keeper.file.device _ start
        (leaves_weaker p.device begun.keeper.file.device ending.tools.keeper.file.device _ _ (λ c whole. inr whole) then)

    -- WHICH MOMENT IS TOLD

    -- up to a keeper that told no moment beyond the clock's
    no_later_by : (keeper : SeenKeeper D) (clock : ℕ) → TellsBasis (in_loop p).keeping.crashes (horizon_bound clock) served.first.keeper keeper →
        TellsNoLater p given keeper.file.device (until_with given clock)
    no_later_by keeper clock tells =
        let until = until_with given clock in
        let least : until_of begun.outlook.plan.prepared.batches ≤ until = omega (arith, no_later, le-max_left (until_of (recovered given.bytes)) (horizon_bound clock)) in
        let told = leaves_told served.first.keeper keeper (horizon_bound clock) (NoLater until) (le-max_right (until_of (recovered given.bytes)) (horizon_bound clock)) tells (first_no_later until least) in
        let then : Leaves p begun.keeper.file.device keeper.file.device (λ c. until_of (recovered c) ≤ until) =
        subst (λ (k : SeenKeeper D). Leaves p k.file.device keeper.file.device (λ c. until_of (recovered c) ≤ until)) first_keeper told in
        leaves_then p given.device begun.keeper.file.device keeper.file.device _
        (old_or_tells p given before begun.keeper.file.device begun.outlook.plan.prepared.batches until least put.meanwhile)
        (leaves_weaker p.device begun.keeper.file.device keeper.file.device _ _ (λ c told. inr told) then)

    no_later_at : (s : StateHere) (on : Onward (in_loop p) served.first s) → TellsNoLater p given s.keeper.file.device (until_with given (latest on))
    no_later_at s on = no_later_by s.keeper (latest on) (served.basis served.first s (begins served.is_first) on).meanwhile

    no_later_then : (on : Onward (in_loop p) served.first served.last) →
        TellsNoLater p given ending.tools.keeper.file.device (until_with given (max (latest on) (told_then served.fails)))
    no_later_then on =
        let clock = max (latest on) (told_then served.fails) in
        subst (λ (k : SeenKeeper D). TellsNoLater p given k.file.device (until_with given clock)) (sym end_keeper)
        (no_later_by served.end.keeper clock (served.basis_then served.first (begins served.is_first) on))

    pub has_lived : Reached chain.ghosts edge (loop_of given begun edge before).journey → HasLived p given begun before ending
    has_lived reached = record {
      edge = edge;
      reached = reached;
      served = served;
      sole_writes = served.sole;
      blamed = blamed_failed (in_loop p) _ ending.fault ending.tools served;
      bounded = bounded_at;
      keeps = keeps_at;
      keeps_then = keeps_then_at;
      loses_nothing = loses_nothing;
      no_later = no_later_at;
      no_later_then = no_later_then;
    }
