-- What a start makes of the bytes of a state file, by what the calls say.
use Rattle.std.proofs.Common.{◌≡◌, ◌≤◌, ◌⊎◌, ◌↔◌, ◌∙◌, inl, inr, ℕ, List, [], Option, None, Some, false, Result, Ok, Err, refl, sym, ap, subst, arith}
use Rattle.std.specs.Prelude.{IfErr, IfOk, OnOk}
use Rattle.lifetime.proofs.Names.{IsSome, recovered, torn_of, RegistryRecord, HookFact, StateFault, until_of, Event, TellsRules, WasLived, rules_of, HasLeftOfEach, IsNarrower, Narrowed, IsPlanOf, RefusesPlan}
use Rattle.lifetime.proofs.Names.{start_of, Plan, RulesFact}
use Rattle.batch_file.specs.Frames.{IsFileOf, IsReadable}
use Rattle.hook_chain.specs.Chains.{Named}
use Rattle.state_keeper.specs.Starting.{HasFront}
use Rattle.state_keeper.specs.declared.starting.Origin.{Origin}
use Rattle.state_keeper.specs.declared.starting.Origin.TheVariants as origins
use Rattle.batch_file.specs.FramesLaws.{file_is}
use Rattle.lifetime.specs.PlanParts.{IsPlanOfLeft, MayBeNarrower, RefusesLeft}
use Rattle.lifetime.specs.Plans.{AreUnder, IsMadeOn}
use Rattle.hook_chain.specs.contracts.chain.ChainHookHost.TheImpl as chain
use Rattle.endpoints.specs.Server.{outset_of}
use Rattle.narrowing.specs.Left.{KeepsOwners, left_under, under_told}
use Rattle.state_file.specs.Comparing.{KeepClients, TakesRules}
use Rattle.rules_beside.specs.Beside.{beside, is_former}
use Rattle.rules_beside.specs.OwnersLaws.{is_one}
use Rattle.rules_beside.specs.declared.owners.OwnersBeside.{OwnersBeside}
use Rattle.state_file.specs.Making.{GivesBack, IsOfHooks, Made, Makes, RefusesMaking, StopsReading, on_bytes}
use Rattle.state_file.specs.Faults.{of_reading}
use Rattle.state_file.specs.declared.resuming.Unprepared.{Unprepared}
use Rattle.batch_file.specs.Readers.{IsUnread}
use Rattle.batch_file.specs.declared.framing.ReadFault.{ReadFault}
use Rattle.batch_file.specs.declared.framing.ReadFault.TheVariants as reading
use Rattle.state_file.specs.Resuming.{AnswersFor, RefusesResume, RefusesSome}
use Rattle.state_file.specs.RunLaws.{was_run}
use Rattle.state_file.specs.Telling.{IsOfRules, last_rules}
use Rattle.state_file.specs.TellingLaws.{tell_in, tell_one, told_are, tells_none, tells_one}
use Rattle.state_file.specs.declared.fault.StateFault.TheVariants as state
use Rattle.narrowing.specs.Narrowing.{AreLess, under_in}

-- nothing is left out
abbrev pub unnarrowed : Option Narrowed
unnarrowed = None

pub under_whole : (rules : RegistryRecord) (bytes : List ℕ) → (IsSome unnarrowed ↔ IsNarrower bytes (rules_of rules)) → AreUnder rules bytes unnarrowed
under_whole rules bytes exact = record { narrower = exact; left = tt; readable = tt; until = tt }

pub under_narrowed : (rules : RegistryRecord) (bytes file : List ℕ) (narrowed : Narrowed) → (IsSome (Some narrowed) ↔ IsNarrower bytes (rules_of rules)) →
    HasLeftOfEach chain.ghosts [] bytes rules narrowed → IsFileOf narrowed.frames file → until_of narrowed.frames ≡ until_of (recovered bytes) →
    AreUnder rules bytes (Some narrowed)
under_narrowed rules bytes file narrowed exact left readable same = record {
  narrower = exact;
  left = λ history lived. left history lived.stands lived.right (was_run bytes history lived);
  readable = (file, readable);
  until = same;
}

-- WHERE THE RULES ARE NOT NARROWER

-- rules that are taken are not narrower
pub not_narrower : (rules : RegistryRecord) (bytes : List ℕ) → TakesRules (recovered bytes) (rules_of rules) → IsNarrower bytes (rules_of rules) → ⊥
not_narrower rules bytes takes narrower = narrower.less.1 (takes.1 narrower.told narrower.tells)

-- nor are those that do not keep the names
not_less : (bytes batch : List ℕ) (told now : RulesFact) → last_rules (recovered bytes) ≡ Some batch → IsOfRules batch told → (AreLess told now → ⊥) → IsNarrower bytes now → ⊥
not_less bytes batch told now at of never narrower =
    never (subst (λ (r : RulesFact). AreLess r now) (tells_one batch narrower.told told (tell_in (recovered bytes) batch narrower.told at narrower.tells) of) narrower.less)

pub exact_whole : (rules : RegistryRecord) (bytes : List ℕ) → (IsNarrower bytes (rules_of rules) → ⊥) → IsSome unnarrowed ↔ IsNarrower bytes (rules_of rules)
exact_whole rules bytes never = (λ some. absurd cc, λ narrower. absurd (never narrower))

-- WHAT IS PLANNED

-- where they are not narrowed
pub plan_whole : (rules : RegistryRecord) (hooks : List HookFact) (bytes : List ℕ) (plan : Plan) →
    Makes chain.ghosts (start_of rules hooks bytes) plan.prepared → plan.ended ≡ None → plan.torn.items ≡ plan.prepared.torn →
    TakesRules (recovered bytes) (rules_of rules) → IsPlanOf rules hooks bytes plan
plan_whole rules hooks bytes plan makes none torn takes = record {
  narrowed = unnarrowed;
  ended = none;
  under = under_whole rules bytes (exact_whole rules bytes (not_narrower rules bytes takes));
  listed = makes.listed;
  makes = λ history lived. makes.each history lived.stands lived.right (was_run bytes history lived);
  owners = λ told tells history lived owner from some was.
      (let wide = takes.1 told tells in is_one (beside told (rules_of rules)) owner wide.0.0.0.0.1 was (wide.0.0.1 owner));
  tell = makes.tell;
  until = makes.kept;
  no_later = makes.no_later;
  later = makes.later;
  moment_is = makes.moment_is;
  torn_is = torn ∙ makes.torn_is;
}

-- each owner of something in what is left is one and the same
owners_left : (rules : RegistryRecord) (bytes : List ℕ) (narrowed : Narrowed) → AreUnder rules bytes (Some narrowed) → (told : RulesFact) → TellsRules bytes told →
    (history : List Event) → WasLived bytes history → KeepsOwners (beside told (rules_of rules)) (left_under (under_in bytes rules) history)
owners_left rules bytes narrowed under told tells history lived owner from some was =
    let less = under.narrower.0 refl in
    let same : less.told ≡ told = tell_one (recovered bytes) less.told told less.tells tells in
    let keep : KeepClients told (rules_of rules) = subst (λ (r : RulesFact). KeepClients r (rules_of rules)) same less.less.0 in
    let is : (under_in bytes rules).owners ≡ beside told (rules_of rules) = ap (λ (t : Option RulesFact). (under_told t rules).owners) (told_are (recovered bytes) told tells) in
    let none : is_former (beside told (rules_of rules)) owner ≡ false =
    subst (λ (o : OwnersBeside). is_former o owner ≡ false) is ((under.left history lived).owners owner from some) in
    is_one (beside told (rules_of rules)) owner keep.0.1 was none

-- where they are
pub plan_narrowed : (rules : RegistryRecord) (hooks : List HookFact) (bytes : List ℕ) (plan : Plan) (narrowed : Narrowed) →
    IsPlanOfLeft rules hooks narrowed plan → narrowed.torn.items ≡ torn_of bytes → AreUnder rules bytes (Some narrowed) → IsPlanOf rules hooks bytes plan
plan_narrowed rules hooks bytes plan narrowed of torn under =
    let makes = of.makes in
    let same : recovered of.file ≡ narrowed.frames = file_is narrowed.frames of.file of.is in
    let until : until_of (recovered of.file) ≡ until_of (recovered bytes) = subst (λ (bs : List (List ℕ)). until_of bs ≡ until_of (recovered bytes)) (sym same) under.until in
    record {
      narrowed = Some narrowed;
      ended = of.ended;
      under = under;
      listed = rw same at makes.listed;
      makes = λ history lived. (
          let on = (under.left history lived).goes_on of.file same in
          let on_lived : WasLived of.file (left_under (under_in bytes rules) history) = record { stands = on.stands; right = on.right; ran = inr (on.host, on.ran) } in
          let made = makes.each (left_under (under_in bytes rules) history) on.stands on.right (was_run of.file (left_under (under_in bytes rules) history) on_lived) in
          record { serves = made.serves; set = made.set; stands = made.stands });
      owners = λ told tells history lived. owners_left rules bytes narrowed under told tells history lived;
      tell = makes.tell;
      until = (let kept = makes.kept in omega (arith, kept, until));
      no_later = (let no_later = makes.no_later in omega (arith, no_later, until));
      later = (let later = makes.later in omega (arith, later, until));
      moment_is = rw same at makes.moment_is;
      torn_is = of.torn ∙ torn;
    }

-- WHY NOTHING IS

module _ (rules : RegistryRecord) (hooks : List HookFact) (bytes : List ℕ) where
  pub not_left : (narrowed : Narrowed) (file : List ℕ) (fault : StateFault) → AreUnder rules bytes (Some narrowed) → IsFileOf narrowed.frames file →
      RefusesMaking chain.ghosts (start_of rules hooks file) fault → RefusesPlan rules hooks bytes fault
  not_left narrowed file fault under is refuses = inr (inr (Some narrowed, file, under, is, refuses))

  pub not_exact : (fault : StateFault) → (IsSome unnarrowed ↔ IsNarrower bytes (rules_of rules)) → RefusesMaking chain.ghosts (start_of rules hooks bytes) fault → RefusesPlan rules hooks bytes fault
  not_exact fault exact refuses = inr (inr (unnarrowed, bytes, under_whole rules bytes exact, refl, refuses))

  pub not_made : (fault : StateFault) → (IsNarrower bytes (rules_of rules) → ⊥) → RefusesMaking chain.ghosts (start_of rules hooks bytes) fault → RefusesPlan rules hooks bytes fault
  not_made fault never refuses = not_exact fault (exact_whole rules bytes never) refuses

  not_resumed : (fault : StateFault) → (MayBeNarrower fault → ⊥) → RefusesResume chain.ghosts (outset_of rules []) bytes fault → RefusesPlan rules hooks bytes fault
  not_resumed state.Memory never refuses = inl refl
  not_resumed state.NotState never refuses = inr (inl (inl refuses))
  not_resumed (state.Version version) never refuses = inr (inl (inl refuses))
  not_resumed (state.Damaged number) never refuses = inr (inl (inl refuses))
  not_resumed state.NoRules never refuses = absurd (never tt)
  not_resumed (state.ClientNarrowed name) never refuses = absurd (never tt)
  not_resumed state.FormerOwner never refuses = absurd (never tt)
  not_resumed state.LifeNarrowed never refuses = absurd (never tt)
  not_resumed state.TooLong never (inl refuses) = inr (inl (inr (inl refuses)))
  not_resumed (state.Spelling fault) never (inl refuses) =
      not_made (state.Spelling fault) (λ narrower. tells_none refuses.0 fault narrower.told refuses.2 (tell_in (recovered bytes) refuses.0 narrower.told refuses.1 narrower.tells)) (inl (inl refuses))
  not_resumed (state.ScopeMoved name) never (inl refuses) =
      not_made (state.ScopeMoved name) (not_less bytes refuses.0 refuses.2.0 (rules_of rules) refuses.1 refuses.2.1
      (λ less. (let moved = refuses.2.2 in let kept = less.0.0.0 in absurd (cc)))) (inl (inl refuses))
  not_resumed (state.OwnerMoved number) never (inl refuses) =
      not_made (state.OwnerMoved number) (not_less bytes refuses.0 refuses.2.0 (rules_of rules) refuses.1 refuses.2.1
      (λ less. (let moved = refuses.2.2.1 in let kept = less.0.0.1 in absurd (cc)))) (inl (inl refuses))
  not_resumed (state.ClientMoved name) never (inl refuses) =
      not_made (state.ClientMoved name) (not_less bytes refuses.0 refuses.2.0 (rules_of rules) refuses.1 refuses.2.1
      (λ less. (let moved = refuses.2.2.1 in let kept = less.0.1 in absurd (cc)))) (inl (inl refuses))
  not_resumed fault never (inl refuses) = absurd refuses.2.2
  not_resumed fault never (inr taken) = not_made fault (not_narrower rules bytes taken.0) (inl (inr taken))

  not_hooked : (fault : StateFault) → (IsOfHooks fault → TakesRules (recovered bytes) (rules_of rules)) → RefusesSome chain.ghosts (AnswersFor chain.ghosts bytes (outset_of rules [])) hooks fault →
      RefusesPlan rules hooks bytes fault
  not_hooked state.Memory takes refuses = inl refl
  not_hooked (state.HookDiffers name) takes refuses = not_made (state.HookDiffers name) (not_narrower rules bytes (takes tt)) (inr (inl refuses))
  not_hooked (state.Hook name fault) takes refuses = not_made (state.Hook name fault) (not_narrower rules bytes (takes tt)) (inr (inl refuses))
  not_hooked _ takes refuses = absurd refuses.2.6

  -- what is refused in one pass, where the registry can't be narrower
  pub not_whole : (fault : StateFault) → (MayBeNarrower fault → ⊥) → (IsOfHooks fault → TakesRules (recovered bytes) (rules_of rules)) →
      RefusesMaking chain.ghosts (start_of rules hooks bytes) fault → RefusesPlan rules hooks bytes fault
  not_whole fault never takes (inl resume) = not_resumed fault never resume
  not_whole fault never takes (inr (inl some)) = not_hooked fault takes some
  not_whole fault never takes (inr (inr full)) =
      not_made fault (not_narrower rules bytes (takes (subst (λ (f : StateFault). IsOfHooks f) (sym full.0) tt))) (inr (inr full))

-- WHAT A PLAN IS MADE OF

-- what is made of what was told, by a chain without hooks
module _ (rules : RegistryRecord) (hooks : List HookFact) (told bytes : List ℕ) (first : List Named) (same : told ≡ bytes) (none : first ≡ []) where
  pub made_of : (made : Made (List Named)) → Makes chain.ghosts (on_bytes told (outset_of rules first) hooks) made → Makes chain.ghosts (start_of rules hooks bytes) made
  made_of made makes =
      subst (λ (b : List ℕ). Makes chain.ghosts (on_bytes b (outset_of rules []) hooks) made) same
      (subst (λ (f : List Named). Makes chain.ghosts (on_bytes told (outset_of rules f) hooks) made) none makes)

  pub refuses_of : (fault : StateFault) → RefusesMaking chain.ghosts (on_bytes told (outset_of rules first) hooks) fault → RefusesMaking chain.ghosts (start_of rules hooks bytes) fault
  refuses_of fault refuses =
      subst (λ (b : List ℕ). RefusesMaking chain.ghosts (on_bytes b (outset_of rules []) hooks) fault) same
      (subst (λ (f : List Named). RefusesMaking chain.ghosts (on_bytes told (outset_of rules f) hooks) fault) none refuses)

-- a registry that may be narrower is given back
pub gives_back : (fault : StateFault) → MayBeNarrower fault → GivesBack fault
gives_back state.NoRules may = tt
gives_back state.FormerOwner may = tt
gives_back (state.ClientNarrowed name) may = tt
gives_back state.LifeNarrowed may = tt
gives_back _ may = absurd may

-- a file that could not be read
pub unread_stops : (fault : ReadFault) → IsUnread fault → StopsReading (of_reading fault)
unread_stops reading.Memory unread = tt
unread_stops (reading.Unread reason) unread = tt
unread_stops _ unread = absurd unread

-- what is refused for good
pub final_refused : (rules : RegistryRecord) (hooks : List HookFact) (told : List ℕ) (not : Unprepared) (fault : StateFault) (Over : Type 0) → fault ≡ not.fault →
    (MayBeNarrower not.fault → not.registry ≡ None) → (GivesBack not.fault → not.registry ≡ Some rules) → (IsOfHooks not.fault → TakesRules (recovered told) (rules_of rules)) →
    StopsReading not.fault ⊎ (Over × RefusesMaking chain.ghosts (start_of rules hooks told) not.fault) → StopsReading fault ⊎ (Over × RefusesPlan rules hooks told fault)
final_refused rules hooks told not fault Over is none back takes (inl stops) = inl (subst (λ (f : StateFault). StopsReading f) (sym is) stops)
final_refused rules hooks told not fault Over is none back takes (inr refuses) =
    let never : MayBeNarrower not.fault → ⊥ = λ may. (let gone = none may in let there = back (gives_back not.fault may) in let both : None ≡ Some rules = sym gone ∙ there in absurd (cc)) in
    inr (refuses.0, subst (λ (f : StateFault). RefusesPlan rules hooks told f) (sym is) (not_whole rules hooks told not.fault never takes refuses.1))

-- something holds where there is a plan
pub on_ok : {A B : Type 0} (P : Type 0) (r : Result A B) → P → OnOk r P
on_ok P (Ok value) is = is
on_ok P (Err fault) is = tt

-- of what was read, whole
module _ (rules : RegistryRecord) (hooks : List HookFact) (bytes : List ℕ) (made : Made (List Named)) (makes : Makes chain.ghosts (start_of rules hooks bytes) made) where
  pub whole_planned : (r : Result Plan StateFault) → TakesRules (recovered bytes) (rules_of rules) → IfOk r (λ plan. plan.prepared ≡ made) → IfOk r (λ plan. plan.ended ≡ None) →
      IfOk r (λ plan. plan.torn.items ≡ made.torn) → IfOk r (IsPlanOf rules hooks bytes)
  whole_planned (Ok plan) takes is ended torn =
      plan_whole rules hooks bytes plan (subst (λ (m : Made (List Named)). Makes chain.ghosts (start_of rules hooks bytes) m) (sym is) makes) ended
      (subst (λ (m : Made (List Named)). plan.torn.items ≡ m.torn) (sym is) torn) takes
  whole_planned (Err fault) takes is ended torn = tt

  pub whole_front : (r : Result Plan StateFault) → IsReadable bytes → IfOk r (λ plan. plan.prepared ≡ made) → IfOk r (λ plan. plan.origin ≡ origins.Device) →
      IfOk r (λ plan. HasFront bytes plan.origin plan.prepared.front)
  whole_front (Ok plan) readable is origin =
      let front : (recovered bytes ≡ plan.prepared.front) × IsReadable bytes = (sym makes.front_is ∙ ap (λ (m : Made (List Named)). m.front) (sym is), readable) in
      subst (λ (o : Origin). HasFront bytes o plan.prepared.front) (sym origin) front
  whole_front (Err fault) readable is origin = tt

pub whole_refused : (rules : RegistryRecord) (hooks : List HookFact) (bytes : List ℕ) (r : Result Plan StateFault) → IfErr r (λ fault. fault ≡ state.Memory) →
    IfErr r (λ fault. StopsReading fault ⊎ RefusesPlan rules hooks bytes fault)
whole_refused rules hooks bytes (Ok plan) memory = tt
whole_refused rules hooks bytes (Err fault) memory = inr (inl memory)

-- what is refused of what was read to its end
pub over_refused : (rules : RegistryRecord) (hooks : List HookFact) (bytes : List ℕ) (Over : Type 0) (r : Result Plan StateFault) → Over →
    IfErr r (λ fault. StopsReading fault ⊎ RefusesPlan rules hooks bytes fault) → IfErr r (λ fault. StopsReading fault ⊎ (Over × RefusesPlan rules hooks bytes fault))
over_refused rules hooks bytes Over (Ok plan) over refused = tt
over_refused rules hooks bytes Over (Err fault) over (inl stops) = inl stops
over_refused rules hooks bytes Over (Err fault) over (inr refuses) = inr (over, refuses)

-- of what is left
module _ (rules : RegistryRecord) (hooks : List HookFact) (bytes : List ℕ) (left : Narrowed) (exact : IsSome (Some left) ↔ IsNarrower bytes (rules_of rules))
    (of : HasLeftOfEach chain.ghosts [] bytes rules left) (until : until_of left.frames ≡ until_of (recovered bytes)) where
  pub left_planned : (r : Result Plan StateFault) → left.torn.items ≡ torn_of bytes → IfOk r (IsPlanOfLeft rules hooks left) → IfOk r (IsPlanOf rules hooks bytes)
  left_planned (Ok plan) torn is = plan_narrowed rules hooks bytes plan left is torn (under_narrowed rules bytes is.file left exact of is.is until)
  left_planned (Err fault) torn is = tt

  pub left_refused : (r : Result Plan StateFault) → IfErr r (RefusesLeft rules hooks left) → IfErr r (λ fault. StopsReading fault ⊎ RefusesPlan rules hooks bytes fault)
  left_refused (Ok plan) refuses = tt
  left_refused (Err fault) (inl stops) = inl stops
  left_refused (Err fault) (inr refuses) =
      inr (not_left rules hooks bytes left refuses.0 fault (under_narrowed rules bytes refuses.0 left exact of refuses.1 until) refuses.1 refuses.2)

  pub left_front : (r : Result Plan StateFault) → IfOk r (IsPlanOfLeft rules hooks left) → IfOk r (λ plan. HasFront bytes plan.origin plan.prepared.front)
  left_front (Ok plan) is =
      subst (λ (o : Origin). HasFront bytes o plan.prepared.front) (sym is.origin) (sym (is.makes.front_is ∙ file_is left.frames is.file is.is))
  left_front (Err fault) is = tt
