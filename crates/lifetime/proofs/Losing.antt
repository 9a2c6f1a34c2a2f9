-- What a crash leaves of a life that was begun, and of its loop.
use Rattle.std.proofs.Common.{◌≡◌, ◌≤◌, ◌⊎◌, ⊎_elim, inl, inr, ℕ, List, [], refl, sym, subst, arith}
use Rattle.lifetime.proofs.Names.{recovered, IsFrontOf, RegistryRecord, Event, AllRight, HostRun, Named, StandFor, StandsFor, IsOldOr, Tell, TellsRules, rules_of, Given, LifePromises}
use Rattle.lifetime.proofs.Names.{IsReadable, IsWhole, Leaves, LosesNothing, TellsNoLater, until_of, front_then, same_front}
use Rattle.state_file.specs.ReplayingLaws.{front_run}
use Rattle.state_keeper.proofs.Put.{leaves_weaker}
use Rattle.state_file.specs.ResumingLaws.{right_before}
use Rattle.hook_chain.specs.contracts.chain.ChainHookHost.TheImpl as chain

-- FRONTS

front_right : (rules : RegistryRecord) (front all : List Event) → IsFrontOf front all → AllRight rules [] all → AllRight rules [] front
front_right rules front all is right = right_before rules [] front is.0 (subst (λ (h : List Event). AllRight rules [] h) is.1 right)

front_ran : (front all : List Event) (host : List Named) → IsFrontOf front all → HostRun chain.ghosts [] all host → (mid : List Named) × HostRun chain.ghosts [] front mid
front_ran front all host is ran = front_run [] host front is.0 (subst (λ (h : List Event). HostRun chain.ghosts [] h host) is.1 ran)

-- WHAT IS WHOLE

-- what is left is whole where it stands for a front of what was right and was run
pub whole_by : (rules : RegistryRecord) (before history all : List Event) (host : List Named) (c : List ℕ) → IsFrontOf before history → IsFrontOf history all → StandsFor c history →
    TellsRules c (rules_of rules) → IsReadable c → AllRight rules [] all → HostRun chain.ghosts [] all host → IsWhole rules before all c
whole_by rules before history all host c from to stands told readable right ran =
    let mid = front_ran history all host to ran in record {
      history = history;
      from = from;
      to = to;
      stands = stands;
      told = told;
      right = front_right rules history all to right;
      host = mid.0;
      ran = mid.1;
      readable = readable;
    }

-- where more happens, it is whole still
whole_more : (rules : RegistryRecord) (before all more : List Event) (c : List ℕ) → IsFrontOf all more → IsWhole rules before all c → IsWhole rules before more c
whole_more rules before all more c front whole = record {
  history = whole.history;
  from = whole.from;
  to = front_then whole.history all more whole.to front;
  stands = whole.stands;
  told = whole.told;
  right = whole.right;
  host = whole.host;
  ran = whole.ran;
  readable = whole.readable;
}

-- batches that stand for a history and tell the rules under which it is right
pub record Bears (rules : RegistryRecord) (batches : List (List ℕ)) (history : List Event) : Type 0 where
  pub stand : StandFor batches history
  pub tell : Tell batches (rules_of rules)
  pub right : AllRight rules [] history
  pub host : List Named
  pub ran : HostRun chain.ghosts [] history host

pub whole_batches : (rules : RegistryRecord) (batches : List (List ℕ)) (history : List Event) (c : List ℕ) → Bears rules batches history → (recovered c ≡ batches) × IsReadable c →
    IsWhole rules history history c
whole_batches rules batches history c bears is =
    whole_by rules history history history bears.host c (same_front history history refl) (same_front history history refl)
    (subst (λ (bs : List (List ℕ)). StandFor bs history) (sym is.0) bears.stand) (subst (λ (bs : List (List ℕ)). Tell bs (rules_of rules)) (sym is.0) bears.tell)
    is.1 bears.right bears.ran

module _ {D N C J : Type 0} (p : LifePromises D N C J) where
  -- CRASHES, ONE RUN AFTER THE OTHER

  pub leaves_then : (a b c : D) (P : List ℕ → Type 0) → Leaves p a b P → Leaves p b c P → Leaves p a c P
  leaves_then a b c P one two = record {
    later = omega (arith, one.later, two.later);
    each = λ x left. ⊎_elim (one.each x) (λ is. is) (two.before (p.device.moment a) x one.later left);
    before = λ t x le left. ⊎_elim (one.before t x le) inr (two.before t x (omega (arith, le, one.later)) left);
  }

  module _ (given : Given D N C J) (before : List Event) where
    -- what was left before the life stays; what has the batches is whole
    pub old_or_loses : (device : D) (batches : List (List ℕ)) → Bears given.registry batches before → Leaves p given.device device (IsOldOr p.device given.device batches) →
        LosesNothing p given device before before
    old_or_loses device batches bears = leaves_weaker p.device given.device device _ _ (λ c. ⊎_elim inl (λ is. inr (whole_batches given.registry batches before c bears is)))

    -- and tells no later moment than these
    pub old_or_tells : (device : D) (batches : List (List ℕ)) (until : ℕ) → until_of batches ≤ until → Leaves p given.device device (IsOldOr p.device given.device batches) →
        TellsNoLater p given device until
    old_or_tells device batches until le = leaves_weaker p.device given.device device _ _ (λ c. ⊎_elim inl (λ is. inr (subst (λ (bs : List (List ℕ)). until_of bs ≤ until) (sym is.0) le)))

    pub more_loses : (device : D) (all : List Event) → IsFrontOf before all → LosesNothing p given device before before → LosesNothing p given device before all
    more_loses device all front = leaves_weaker p.device given.device device _ _ (λ c. ⊎_elim inl (λ whole. inr (whole_more given.registry before before all c front whole)))
