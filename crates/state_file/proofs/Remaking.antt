-- A server that is made of a list, change by change, and what it fits then.
use Rattle.std.proofs.Common.{◌≡◌, ◌≤◌, ◌<◌, inl, inr, ℕ, List, [], ◌∷◌, ◌++◌, refl, sym, ap, ◌∙◌, subst, append_assoc, arith}
use Rattle.state_file.proofs.Names.{append-nil, max, recovered, Event, Hosting, Outset, AllRight, event_at, with_change, last_moment, greatest_family, change_of, hooks_set_in, AnswersFor}
use Rattle.state_file.proofs.Names.{AnswersForBatches, FitsRestored, FinishesAs, FitsRemade, IsRight, ListsItself, MakesAgain, RefusesAgain, RefusesBatches, RefusesList, RefusesOne, Replays}
use Rattle.state_file.proofs.Names.{TellsAgain, WasRun, AreTold, AreTold-joined, AreTold-split, IsMomentTold, StandFor, StandsFor, until_of, Remade, Restored}
use Rattle.state_file.specs.StandingLaws.{one_told}
use Rattle.consent.specs.HistoryLaws.{is_history-later, last-joined}
use Rattle.consent.specs.History.{Change}
use Rattle.endpoints.specs.Remaking.{TellsHistory}
use Rattle.endpoints.specs.Hosts.{HostRun}
use Rattle.endpoints.specs.declared.redo.RedoFault.{RedoFault}
use Rattle.endpoints.specs.declared.redo.RedoFault.TheVariants as redoing
use Rattle.state_file.specs.Faults.{of_redoing}
use Rattle.state_file.specs.declared.fault.StateFault.{StateFault}
use Rattle.state_file.specs.declared.fault.StateFault.TheVariants as state
use Rattle.shortening.specs.AlikeLaws.{alike-later}
use Rattle.shortening.specs.Standing.{IsLeftOf, IsSound}
use Rattle.shortening.specs.StandingLaws.{left-made}
use Rattle.state_file.specs.HookLaws.{same_hooks}
use Rattle.state_file.proofs.Hooked.{hooks_of-with}

module _ {H : Type 0} (hosting : Hosting H) where
  -- nothing is made again
  pub makes_none : (remade : Remade H) → MakesAgain hosting remade [] remade
  makes_none remade outset list m fits = subst (λ (l : List Event). FitsRemade hosting remade outset l m) (sym (append-nil list)) fits

  -- some, and then others
  pub makes_then : (old mid new : Remade H) (some more : List Event) → MakesAgain hosting old some mid → MakesAgain hosting mid more new →
      MakesAgain hosting old (some ++ more) new
  makes_then old mid new some more first then outset list m fits =
      let made = then outset (list ++ some) (last_moment m some) (first outset list m fits) in
      subst (λ (l : List Event). FitsRemade hosting new outset l (last_moment m (some ++ more))) (append_assoc list some more)
      (subst (λ (n : ℕ). FitsRemade hosting new outset ((list ++ some) ++ more) n) (sym (last-joined m some more)) made)

  pub tells_none : (remade : Remade H) → TellsAgain hosting remade [] remade
  tells_none remade = ([], refl, makes_none remade)

  pub tells_then : (old mid new : Remade H) (batches more : List (List ℕ)) → TellsAgain hosting old batches mid → TellsAgain hosting mid more new →
      TellsAgain hosting old (batches ++ more) new
  tells_then old mid new batches more first then = (
    first.0 ++ then.0,
    AreTold-joined batches more first.0 then.0 first.1 then.1,
    makes_then old mid new first.0 then.0 first.2 then.2,
  )

  -- one of some others is refused
  pub refused_behind : (old mid : Remade H) (some more : List Event) → MakesAgain hosting old some mid →
      (fault : RedoFault) → RefusesAgain hosting mid more fault → RefusesAgain hosting old (some ++ more) fault
  refused_behind old mid some more first fault refused = (
    some ++ refused.0,
    refused.1,
    refused.2,
    ap (λ (es : List Event). some ++ es) refused.3 ∙ sym (append_assoc some refused.0 (refused.2 ∷ refused.1)),
    refused.4,
    makes_then old mid refused.4 some refused.0 first refused.5,
    refused.6,
    refused.7,
    refused.8,
  )

-- why a batch is refused, by the fault of one of its changes
pub refused_of : {H : Type 0} (hosting : Hosting H) (old : Remade H) (batch : List ℕ) (facts : List Event) (fault : RedoFault) → AreTold (batch ∷ []) facts →
    RefusesAgain hosting old facts fault → RefusesOne hosting old batch (of_redoing fault)
refused_of hosting old batch facts redoing.Memory told refused = tt
refused_of hosting old batch facts _ told refused = (facts, told, refused)

-- and why batches are, by the fault of one
pub refused_batch : {H : Type 0} (hosting : Hosting H) (old mid : Remade H) (batches front later : List (List ℕ)) (batch : List ℕ) (fault : StateFault) →
    batches ≡ (front ++ batch ∷ []) ++ later → TellsAgain hosting old front mid → RefusesOne hosting mid batch fault → RefusesBatches hosting old batches fault
refused_batch hosting old mid batches front later batch state.Memory are first refused = tt
refused_batch hosting old mid batches front later batch (state.Spelling fault) are first refused = λ facts told.
    let one = AreTold-split (front ++ batch ∷ []) later facts (subst (λ (bs : List (List ℕ)). AreTold bs facts) are told) in
    let two = AreTold-split front (batch ∷ []) one.0 one.2 in
    refused two.1 two.3
refused_batch hosting old mid batches front later batch (state.Follows fault) are first refused = (
  front ++ batch ∷ [],
  later,
  first.0 ++ refused.0,
  are,
  AreTold-joined front (batch ∷ []) first.0 refused.0 first.1 refused.1,
  refused_behind hosting old mid first.0 refused.0 first.2 fault refused.2,
)
refused_batch hosting old mid batches front later batch _ are first refused = absurd refused

module _ {H : Type 0} (hosting : Hosting H) (outset : Outset H) where
  -- a history that the batches stand for is told by the list from a later moment on
  tells_history : (batches : List (List ℕ)) (facts history : List Event) (until : ℕ) → (stands : StandFor batches history) → stands.facts ≡ facts →
      TellsHistory facts (max (last_moment 0 facts) until) history
  tells_history batches facts history until stands same =
      subst (λ (list : List Event). TellsHistory list (max (last_moment 0 list) until) history) same (
      let now : ℕ = last_moment 0 history in
      let later : ℕ = max (last_moment 0 stands.facts) until in
      let at = stands.moment in
      let le : now ≤ later = omega (arith, at) in
      record {
        is_history = is_history-later history now later le stands.left.happened.is_history;
        alike = alike-later history stands.facts now stands.left.alike later le;
        last_is = stands.number;
      }
      )

  -- so the server fits it
  pub answers_all : (batches : List (List ℕ)) (facts : List Event) (until : ℕ) (made : Remade H) (restored : Restored H) → AreTold batches facts →
      FitsRemade hosting made outset facts (last_moment 0 facts) → FinishesAs hosting made until restored →
      AnswersForBatches hosting batches outset restored
  answers_all batches facts until made restored told fits finished left are history stands right run =
      let stood : StandFor batches history = subst (λ (bs : List (List ℕ)). StandFor bs history) are stands in
      let same : stood.facts ≡ facts = one_told batches stood.facts facts stood.told told in
      let here : AreTold (recovered left) facts = subst (λ (bs : List (List ℕ)). AreTold bs facts) (sym are) told in
      (finished outset facts (last_moment 0 facts) fits history (tells_history batches facts history until stood same) (ran run here) (was_right right here)).0
    where
      ran : WasRun hosting outset.first left history → AreTold (recovered left) facts → HostRun hosting outset.first history made.server.host
      ran (inl itself) here =
          subst (λ (h : List Event). HostRun hosting outset.first h made.server.host) (one_told (recovered left) facts history here itself) fits.0.hosts
      ran (inr replays) here = replays facts made.server.host here fits.0.hosts

      was_right : IsRight outset.rules left history → AreTold (recovered left) facts → AllRight outset.rules [] history
      was_right (inl itself) here =
          subst (λ (h : List Event). AllRight outset.rules [] h) (one_told (recovered left) facts history here itself) fits.0.right
      was_right (inr right) here = right

  -- the list stands for itself
  pub stands_for_itself : (batches : List (List ℕ)) (facts : List Event) (made : Remade H) → AreTold batches facts →
      FitsRemade hosting made outset facts (last_moment 0 facts) → StandFor batches facts
  stands_for_itself batches facts made told fits =
      let sound = fits.0.sound in
      record { facts = facts; told = told; left = left-made facts sound.stands sound.in_order sound.closed; moment = refl; number = refl }

  pub lists_itself : (batches : List (List ℕ)) (facts : List Event) (made : Remade H) → AreTold batches facts → FitsRemade hosting made outset facts (last_moment 0 facts) →
      ListsItself outset.rules batches
  lists_itself batches facts made told fits = (facts, told, stands_for_itself batches facts made told fits, fits.0.right)

  -- and it goes on from the moment that is told
  pub moment_is_told : (batches : List (List ℕ)) (facts : List Event) (until : ℕ) (made : Remade H) (restored : Restored H) → AreTold batches facts →
      FitsRemade hosting made outset facts (last_moment 0 facts) → FinishesAs hosting made until restored → until ≡ until_of batches →
      StandFor batches facts → IsMomentTold batches restored.moment
  moment_is_told batches facts until made restored told fits finished is stands others again =
      let same : facts ≡ others = one_told batches facts others told again in
      let moment = (finished outset facts (last_moment 0 facts) fits facts (tells_history batches facts facts until stands (one_told batches stands.facts facts stands.told told))
      fits.0.hosts fits.0.right).1 in
      moment ∙ ap (λ (l : List Event). max (last_moment 0 l) until) same ∙ ap (max (last_moment 0 others)) is
