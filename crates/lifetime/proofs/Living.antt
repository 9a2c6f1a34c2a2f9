-- What comes of a start, by what its parts say.
use Rattle.std.proofs.Common.{◌≡◌, ⊎_elim, inl, inr, ℕ, List, [], None, Some, refl, sym, ap, subst}
use Rattle.lifetime.proofs.Names.{recovered, until_of, RegistryRecord, Event, SeenServer, outset_of, Tools, Named, SeenEdge, HookFact, SeenKeeper, WasLived, IsOfDisk, IsOldOr, IsPutOn, IsUntouched, StateFault, Given}
use Rattle.lifetime.proofs.Names.{LifePromises, in_loop, IsLife, StaysWhole, is_unopened, is_unsettled, IsPlanOf, begun_from, Begun, LooksAt, Outlook, Settles, too_far_at, Plan, Ending}
use Rattle.batch_file.specs.Crashes.{IsBeside, LeavesOnly}
use Rattle.event_loop.specs.Ends.{RunEnds}
use Rattle.hook_chain.specs.contracts.chain.ChainHookHost.TheImpl as chain
use Rattle.http_edge.specs.Reached.{ResumesOver}
use Rattle.lifetime.specs.Given.{life_of}
use Rattle.lifetime.specs.Lives.{has_stopped, means_left}
use Rattle.lifetime.specs.Names.{Refused, Stopped, Unopened}
use Rattle.lifetime.specs.Serving.{tools_of}
use Rattle.lifetime.specs.Starts.{MayReport, ReportsAll, start_notices, torn_notices}
use Rattle.lifetime.proofs.Lasting.{has_lived}
use Rattle.lifetime.proofs.Losing.{Bears, old_or_loses, old_or_tells}

-- the batches of a plan bear each history from which it goes on
pub bears_of : (rules : RegistryRecord) (hooks : List HookFact) (bytes : List ℕ) (plan : Plan) (is : IsPlanOf rules hooks bytes plan) (history : List Event) → WasLived bytes history →
    Bears rules plan.prepared.batches (begun_from is history)
bears_of rules hooks bytes plan is history lived =
    let made = is.makes history lived in
    record { stand = made.stands; tell = is.tell; right = made.serves.fits.right; host = plan.prepared.server.host; ran = made.serves.fits.hosts }

module _ {D N C J : Type 0} (p : LifePromises D N C J) (only_now : (d : D) (c : List ℕ) → p.device.left_since d (p.device.moment d) c → p.device.may_leave d c)
    (only_true : (d : D) (c : List ℕ) → p.device.may_leave d c → p.device.reads_true d) (given : Given D N C J) (outlook : Outlook C) (looks : LooksAt p given outlook) (near : too_far_at given outlook ≡ None) (journal : J) where
  bears : (history : List Event) → WasLived given.bytes history → Bears given.registry outlook.plan.prepared.batches (begun_from looks.plan_is history)
  bears history lived = bears_of given.registry given.hooks given.bytes outlook.plan looks.plan_is history lived

  -- what was put there, or not, stays whole
  stays_whole : (device : D) → LeavesOnly p.device.moment p.device.left_since given.device device (IsOldOr p.device given.device outlook.plan.prepared.batches) →
      (history : List Event) → WasLived given.bytes history → StaysWhole p given device (begun_from looks.plan_is history)
  stays_whole device leaves history lived =
      let before = begun_from looks.plan_is history in (
        old_or_loses p given before device outlook.plan.prepared.batches (bears history lived) leaves,
        old_or_tells p given before device outlook.plan.prepared.batches (until_of (recovered given.bytes)) looks.plan_is.no_later leaves,
      )

  -- where the new file is not put there
  pub unsettled : (fault : StateFault) (device : D) → IsOfDisk fault → (IsUntouched fault → IsBeside p.device.seen p.device.may_leave p.device.faults given.device device) →
      LeavesOnly p.device.moment p.device.left_since given.device device (IsOldOr p.device given.device outlook.plan.prepared.batches) →
      MayReport p.journal given.means.journal (torn_notices outlook.plan.torn.items) journal → IsLife p given (life_of (Refused fault) device (record given.means { clocks = outlook.clocks; journal = journal }))
  unsettled fault device of_disk untouched lost told = is_unsettled outlook fault device journal (record {
    looks = looks;
    near = near;
    of_disk = of_disk;
    untouched = untouched;
    stays_whole = stays_whole device lost;
  }) told

  -- where it is
  module _ (keeper : SeenKeeper D) (put : IsPutOn p.device outlook.plan.prepared.batches given.device keeper) (told : ReportsAll p.journal given.means.journal (start_notices outlook.plan outlook.now) journal) where
    abbrev begun : Begun D N C J
    begun = record { outlook = outlook; keeper = keeper; means = record given.means { clocks = outlook.clocks; journal = journal } }

    abbrev settles : Settles p given begun
    settles = record { looks = looks; near = near; put = put; told = told; means_are = refl }

    pub unopened : IsLife p given (life_of Unopened keeper.file.device begun.means)
    unopened = is_unopened begun settles (stays_whole keeper.file.device put.meanwhile)

    -- a server that was made by the plan served, over an edge
    pub stopped : (server : SeenServer (List Named)) (edge : SeenEdge (List Named)) (ending : Ending N C J (SeenKeeper D)) → server ≡ outlook.plan.prepared.server →
        ResumesOver chain.ghosts server edge → RunEnds (in_loop p) given.means.limits (tools_of begun.means keeper edge) ending.fault ending.tools →
        IsLife p given (life_of (Stopped ending.fault ending.tools.keeper.fault) ending.tools.keeper.file.device (means_left begun.means ending))
    stopped server edge ending is resumes runs = has_stopped begun settles ending (λ history lived.
        let before = begun_from looks.plan_is history in
        let on = (looks.plan_is.makes history lived).serves in
        let reached = subst (λ s. ResumesOver chain.ghosts s edge) is resumes (outset_of given.registry []) before outlook.plan.prepared.moment (Some before) on.fits on.notes in
        ⊎_elim (λ has. inl (has_lived p only_now only_true given begun before put (bears history lived) looks.plan_is.no_later edge ending has reached))
        (λ nothing. inr (record {
          edge = edge;
          reached = reached;
          served = nothing;
          stays_whole = subst (λ (k : SeenKeeper D). StaysWhole p given k.file.device before) (sym (ap (λ (t : Tools N C J (SeenKeeper D) (List Named)). t.keeper) nothing.same))
              (stays_whole keeper.file.device put.meanwhile history lived);
        })) (runs _ reached))
