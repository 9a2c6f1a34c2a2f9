-- What the batches of a file come to with one more.
use Rattle.std.proofs.Common.{◌≡◌, ◌<◌, ◌^◌, ◌+◌, inl, ℕ, zero, suc, List, [], ◌∷◌, ◌++◌, length, Bool, true, false, refl, sym, ap, ◌∙◌, subst, append_assoc, take, arith, Vec}
use Rattle.std.specs.declared.alloc.Global.{Global}
use Rattle.state_file.proofs.Names.{append-nil, lists, max, if◌then◌else◌, unwrap_or, frames_size, Event, Hosting, Outset, RulesFact, last_moment, RefusesOne, TellsAgain, FitsRemade, RefusesList, AreTold, AreTold-joined}
use Rattle.state_file.proofs.Names.{AreTold-split, Tell, TakesRules, shortened_size, tells_number, until_of, until_of-append, Remade, Restored, FinishesAs, StateFault}
use Rattle.consent.specs.HistoryLaws.{last-joined}
use Rattle.state_file.specs.Comparing.{RefuseRules}
use Rattle.state_file.specs.Going.{HasMeasured, IsMadeOf, IsMadeOr, IsRedone, RefusesWithin, TellAlike}
use Rattle.state_file.specs.LengthLaws.{frames_size-push, shortened_size-push}
use Rattle.state_file.specs.Standing.{horizon_in}
use Rattle.state_file.specs.Telling.{BeginWithRules, rules_in}
use Rattle.state_file.proofs.Tells.{told_item, untold_item}
use Rattle.state_file.specs.declared.fault.StateFault.TheVariants as state
use Rattle.state_file.specs.declared.measures.Measures.{Measures}
use Rattle.state_file.specs.declared.redoing.Redoing.{Redoing}
use Rattle.std.specs.Prelude.{Option, None, Some, ◌==◌, ◌-◌, is_some, min}
use Rattle.state_file.proofs.Remaking.{answers_all, lists_itself, moment_is_told, stands_for_itself}

-- MAKING CHANGES AGAIN

none_held : (o : Option StateFault) → is_some o ≡ false → o ≡ None
none_held None not = refl
none_held (Some fault) not = absurd cc

module _ {H : Type 0} (hosting : Hosting H) (outset : Outset H) where
  -- the changes of one batch more are made again
  pub made_more : (batches : List (List ℕ)) (batch : List ℕ) (old new : Remade H) → IsMadeOr hosting outset batches old None → TellsAgain hosting old (batch ∷ []) new →
      IsMadeOr hosting outset (batches ++ batch ∷ []) new None
  made_more batches batch old new made tells = (
    made.0 ++ tells.0,
    AreTold-joined batches (batch ∷ []) made.0 tells.0 made.1 tells.1,
    subst (λ (n : ℕ). FitsRemade hosting new outset (made.0 ++ tells.0) n) (sym (last-joined 0 made.0 tells.0)) (tells.2 outset made.0 (last_moment 0 made.0) made.2),
  )

  -- or one of them is refused
  pub refused_now : (batches : List (List ℕ)) (batch : List ℕ) (old : Remade H) (fault : StateFault) → IsMadeOr hosting outset batches old None → RefusesOne hosting old batch fault →
      RefusesWithin hosting outset (batches ++ batch ∷ []) fault
  refused_now batches batch old state.Memory made refused = tt
  refused_now batches batch old (state.Spelling fault) made refused = λ facts told. let parts = AreTold-split batches (batch ∷ []) facts told in refused parts.1 parts.3
  refused_now batches batch old (state.Follows fault) made refused =
      let again = refused.2 in
      let fits = again.5 outset made.0 (last_moment 0 made.0) made.2 in
      let at = subst (λ (n : ℕ). FitsRemade hosting again.4 outset (made.0 ++ again.0) n) (sym (last-joined 0 made.0 again.0)) fits in
      let parts : made.0 ++ refused.0 ≡ (made.0 ++ again.0) ++ again.2 ∷ again.1 =
      ap (λ (es : List Event). made.0 ++ es) again.3 ∙ sym (append_assoc made.0 again.0 (again.2 ∷ again.1)) in (
        batches ++ batch ∷ [],
        [],
        made.0 ++ again.0,
        again.1,
        again.2,
        sym (append-nil (batches ++ batch ∷ [])),
        subst (λ (es : List Event). AreTold (batches ++ batch ∷ []) es) parts (AreTold-joined batches (batch ∷ []) made.0 refused.0 made.1 refused.1),
        (again.4.server, at.0, again.6, again.7, again.8),
      )
  refused_now batches batch old _ made refused = absurd refused

  -- what was refused stays refused
  pub refused_still : (batches : List (List ℕ)) (batch : List ℕ) (fault : StateFault) → RefusesWithin hosting outset batches fault → RefusesWithin hosting outset (batches ++ batch ∷ []) fault
  refused_still batches batch state.Memory refused = tt
  refused_still batches batch (state.Spelling fault) refused = λ facts told. let parts = AreTold-split batches (batch ∷ []) facts told in refused parts.0 parts.2
  refused_still batches batch (state.Follows fault) refused = (
    refused.0,
    refused.1 ++ batch ∷ [],
    refused.2,
    refused.3,
    refused.4,
    ap (λ (bs : List (List ℕ)). bs ++ batch ∷ []) refused.5 ∙ append_assoc refused.0 refused.1 (batch ∷ []),
    refused.6,
    refused.7,
  )
  refused_still batches batch _ refused = absurd refused

  -- A batch more, where none was refused before it, and where one was.
  held_none : (batches : List (List ℕ)) (remade : Remade H) (held : Option StateFault) → held ≡ None → IsMadeOr hosting outset batches remade held → IsMadeOr hosting outset batches remade None
  held_none batches remade held is made = subst (λ (o : Option StateFault). IsMadeOr hosting outset batches remade o) is made

  pub made_step : (batches : List (List ℕ)) (batch : List ℕ) (old new : Redoing H) → is_some old.held ≡ false → new.held ≡ old.held → TellsAgain hosting old.remade (batch ∷ []) new.remade →
      IsMadeOf hosting outset batches old → IsMadeOf hosting outset (batches ++ batch ∷ []) new
  made_step batches batch old new not same tells made =
      let none = none_held old.held not in
      subst (λ (o : Option StateFault). IsMadeOr hosting outset (batches ++ batch ∷ []) new.remade o) (sym (same ∙ none))
      (made_more batches batch old.remade new.remade (held_none batches old.remade old.held none made) tells)

  pub refused_step : (batches : List (List ℕ)) (batch : List ℕ) (old new : Redoing H) (fault : StateFault) → is_some old.held ≡ false → new.held ≡ Some fault → RefusesOne hosting old.remade batch fault →
      IsMadeOf hosting outset batches old → IsMadeOf hosting outset (batches ++ batch ∷ []) new
  refused_step batches batch old new fault not is refused made =
      subst (λ (o : Option StateFault). IsMadeOr hosting outset (batches ++ batch ∷ []) new.remade o) (sym is)
      (refused_now batches batch old.remade fault (held_none batches old.remade old.held (none_held old.held not) made) refused)

  still_by : (batches : List (List ℕ)) (batch : List ℕ) (remade : Remade H) (held : Option StateFault) → is_some held ≡ true → IsMadeOr hosting outset batches remade held →
      IsMadeOr hosting outset (batches ++ batch ∷ []) remade held
  still_by batches batch remade None is made = absurd cc
  still_by batches batch remade (Some held) is made = refused_still batches batch held made

  pub still_refused : (batches : List (List ℕ)) (batch : List ℕ) (old : Redoing H) → is_some old.held ≡ true → IsMadeOf hosting outset batches old → IsMadeOf hosting outset (batches ++ batch ∷ []) old
  still_refused batches batch old is made = still_by batches batch old.remade old.held is made

  -- so no server is made of the list
  pub within_list : (batches : List (List ℕ)) (fault : StateFault) → RefusesWithin hosting outset batches fault → RefusesList hosting outset batches fault
  within_list batches state.Memory refused = tt
  within_list batches (state.Spelling fault) refused = refused
  within_list batches (state.Follows fault) refused = refused
  within_list batches _ refused = absurd refused

  pub held_list : (batches : List (List ℕ)) (old : Redoing H) (fault : StateFault) → old.held ≡ Some fault → IsMadeOf hosting outset batches old → RefusesList hosting outset batches fault
  held_list batches old fault is made = within_list batches fault (subst (λ (o : Option StateFault). IsMadeOr hosting outset batches old.remade o) is made)

  -- a server that is made of all of them
  pub is_redone : (batches : List (List ℕ)) (until : ℕ) (old : Redoing H) (restored : Restored H) → old.held ≡ None → FinishesAs hosting old.remade until restored → IsMadeOf hosting outset batches old →
      until ≡ until_of batches → IsRedone hosting outset batches restored
  is_redone batches until old restored none finished before is =
      let made = held_none batches old.remade old.held none before in
      let told = moment_is_told hosting outset batches made.0 until old.remade restored made.1 made.2 finished is (stands_for_itself hosting outset batches made.0 old.remade made.1 made.2) in
      record {
        answers = answers_all hosting outset batches made.0 until old.remade restored made.1 made.2 finished;
        listed = lists_itself hosting outset batches made.0 old.remade made.1 made.2;
        moment_is = told;
        later = (let at = told made.0 made.1 in omega (arith, at));
      }

-- MEASURES

pub measured : (batches : List (List ℕ)) (batch : List ℕ) (long : ℕ) (old new : Measures) → long ≡ length batch → new.until ≡ max old.until (unwrap_or (horizon_in batch) 0) →
    new.size ≡ min (old.size + (21 + long)) (2 ^ 64 - 1) → new.shortened ≡ (if tells_number batch then new.size else old.shortened) →
    HasMeasured batches old → HasMeasured (batches ++ batch ∷ []) new
measured batches batch long old new len until size shortened was = record {
  until_is = (let all = until_of-append batches (batch ∷ []) in let before = was.until_is in omega (arith, all, before, until));
  sizes_are = λ few.
      let push = frames_size-push batches batch in
      let before = was.sizes_are (omega (arith, few, push)) in
      let is : new.size ≡ frames_size (batches ++ batch ∷ []) = (let was_size = before.0 in omega (arith, few, push, was_size, size, len)) in
      (is, shortened ∙ by (tells_number batch) new.size old.shortened is before.1 ∙ sym (shortened_size-push batches batch));
}
  where
    by : (n : Bool) (size before : ℕ) → size ≡ frames_size (batches ++ batch ∷ []) → before ≡ shortened_size batches →
        (if n then size else before) ≡ (if n then frames_size (batches ++ batch ∷ []) else shortened_size batches)
    by true size before is same = is
    by false size before is same = same

-- BATCHES THAT TELL THE SAME RULES

pub begin_alike : (some others : List (List ℕ)) → take 1 some ≡ take 1 others → BeginWithRules some → BeginWithRules others
begin_alike [] [] same begin = tt
begin_alike [] (o ∷ others) same begin = absurd cc
begin_alike (s ∷ some) [] same begin = absurd cc
begin_alike (s ∷ some) (o ∷ others) same begin = (let one : s ≡ o = cc in subst (λ (b : List ℕ). BeginWithRules (b ∷ [])) one begin)

module _ (batches telling : List (List ℕ)) (alike : TellAlike batches telling) (now : RulesFact) where
  pub tell_alike : (rules : RulesFact) → Tell batches rules → Tell telling rules
  tell_alike rules tells = (tells.0, alike.last ∙ tells.1, tells.2)

  pub tell_again : (rules : RulesFact) → Tell telling rules → Tell batches rules
  tell_again rules tells = (tells.0, sym alike.last ∙ tells.1, tells.2)

  pub take_alike : TakesRules telling now → TakesRules batches now
  take_alike takes = (begin_alike telling batches alike.first takes.0, λ told tells. takes.1 told (tell_alike told tells))

  pub refuse_alike : (fault : StateFault) → RefuseRules telling now fault → RefuseRules batches now fault
  refuse_alike state.Memory refused = tt
  refuse_alike state.TooLong refused = refused
  refuse_alike state.NoRules refused = λ begin. refused (begin_alike batches telling (sym alike.first) begin)
  refuse_alike _ refused = (refused.0, sym alike.last ∙ refused.1, refused.2)

-- ONE BATCH MORE

-- the first batch
pub alike_first : (batches telling : List (List ℕ)) (batch : List ℕ) → telling ≡ [] → TellAlike batches telling → TellAlike (batches ++ batch ∷ []) (batch ∷ [])
alike_first [] telling batch none alike = record { first = refl; last = refl }
alike_first (b ∷ batches) telling batch none alike = (let e : ◌≡◌ {A = List (List ℕ)} [] (b ∷ []) = ap (take 1) (sym none) ∙ alike.first in absurd cc)

first_stays : (batches telling more others : List (List ℕ)) → (telling ≡ [] → ⊥) → take 1 telling ≡ take 1 batches → take 1 (take 1 telling ++ others) ≡ take 1 (batches ++ more)
first_stays batches [] more others some same = absurd (some refl)
first_stays [] (t ∷ telling) more others some same = absurd cc
first_stays (b ∷ batches) (t ∷ telling) more others some same = same

first_kept : (batches telling more : List (List ℕ)) → (telling ≡ [] → ⊥) → take 1 telling ≡ take 1 batches → take 1 telling ≡ take 1 (batches ++ more)
first_kept batches [] more some same = absurd (some refl)
first_kept [] (t ∷ telling) more some same = absurd cc
first_kept (b ∷ batches) (t ∷ telling) more some same = same

-- one that tells rules
pub alike_rules : (batches telling : List (List ℕ)) (batch : List ℕ) → (telling ≡ [] → ⊥) → rules_in batch ≡ Some batch → TellAlike batches telling →
    TellAlike (batches ++ batch ∷ []) (take 1 telling ++ batch ∷ [])
alike_rules batches telling batch some of_rules alike = record {
  first = first_stays batches telling (batch ∷ []) (batch ∷ []) some alike.first;
  last = told_item (take 1 telling) batch of_rules ∙ sym (told_item batches batch of_rules);
}

-- one that tells none
pub alike_other : (batches telling : List (List ℕ)) (batch : List ℕ) → (telling ≡ [] → ⊥) → (rules_in batch ≡ Some batch → ⊥) → TellAlike batches telling →
    TellAlike (batches ++ batch ∷ []) telling
alike_other batches telling batch some not alike = record {
  first = first_kept batches telling (batch ∷ []) some alike.first;
  last = alike.last ∙ sym (untold_item batches batch not);
}

-- THE SAME OF LISTS IN MEMORY

pub noted_first : (batches : List (List ℕ)) (telling : List (Vec ℕ Global)) (batch : Vec ℕ Global) → length telling ≡ 0 → TellAlike batches (lists telling) →
    TellAlike (batches ++ batch.items ∷ []) (lists (telling ++ batch ∷ []))
noted_first batches [] batch none alike = alike_first batches [] batch.items refl alike
noted_first batches (t ∷ telling) batch none alike = absurd (omega arith)

pub noted_rules : (batches : List (List ℕ)) (telling : List (Vec ℕ Global)) (batch : Vec ℕ Global) → 0 < length telling → rules_in batch.items ≡ Some batch.items →
    TellAlike batches (lists telling) → TellAlike (batches ++ batch.items ∷ []) (lists (take 1 telling ++ batch ∷ []))
noted_rules batches [] batch some of_rules alike = absurd (omega arith)
noted_rules batches (t ∷ telling) batch some of_rules alike = alike_rules batches (lists (t ∷ telling)) batch.items (λ none. absurd cc) of_rules alike

pub noted_other : (batches : List (List ℕ)) (telling : List (Vec ℕ Global)) (batch : List ℕ) → 0 < length telling → (rules_in batch ≡ Some batch → ⊥) →
    TellAlike batches (lists telling) → TellAlike (batches ++ batch ∷ []) (lists telling)
noted_other batches [] batch some not alike = absurd (omega arith)
noted_other batches (t ∷ telling) batch some not alike = alike_other batches (lists (t ∷ telling)) batch (λ none. absurd cc) not alike

pub some_items : (b : Bool) (n : ℕ) → b ≡ (n == 0) → b ≡ false → 0 < n
some_items b zero is not = absurd cc
some_items b (suc n) is not = omega arith
