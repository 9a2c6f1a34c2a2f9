-- What is made of the bytes of a file, once its batches were gone over.
use Rattle.std.proofs.Common.{◌≡◌, ◌<◌, ◌≤◌, ◌^◌, ◌↔◌, inl, inr, ℕ, List, [], ◌∷◌, ◌++◌, length, Bool, true, false, None, sym, ap, ◌∙◌, subst}
use Rattle.std.specs.Prelude.{Result, Ok, Err, Option, Some, IfOk, IfErr, IfNone, IfSome, OnOk}
use Rattle.batch_file.specs.Frames.{header, last_of, RefusesFile, RefusesHeader}
use Rattle.batch_file.specs.Readers.{IsUnread}
use Rattle.batch_file.specs.declared.framing.ReadFault.{ReadFault}
use Rattle.batch_file.specs.declared.framing.ReadFault.TheVariants as reading
use Rattle.state_file.proofs.Names.{append-nil, lists, recovered, torn_of, frames_size, RulesFact, RulesFit, rules_spelling, Hosting, Outset, IsTrue, IsMomentTold, ListsItself, TakesRules, Tell, AreToldBehind}
use Rattle.state_file.proofs.Names.{RefuseServer, RefusesList, RefusesResume, StateFault, rules_of, shortened_size, until_of}
use Rattle.state_file.proofs.Begun.{known_begun}
use Rattle.state_file.proofs.Compared.{wider}
use Rattle.state_file.proofs.Going.{refuse_alike, take_alike, tell_again}
use Rattle.state_file.proofs.Tells.{told_behind}
use Rattle.state_file.specs.Comparing.{RefuseRules}
use Rattle.state_file.specs.Faults.{of_reading}
use Rattle.state_file.specs.Going.{HasGone, IsRedone, IsResumed}
use Rattle.state_file.specs.Knowing.{end_of}
use Rattle.state_file.specs.Making.{GivesBack, IsOfHooks, StopsReading}
use Rattle.state_file.specs.declared.fault.StateFault.TheVariants as state
use Rattle.state_file.specs.declared.front.Front.{Front}
use Rattle.state_file.specs.declared.gone.Gone.{Gone}
use Rattle.state_file.specs.declared.resuming.Resumed.{Resumed}

module _ {H : Type 0} (hosting : Hosting H) (outset : Outset H) (gone : Gone H) (has : HasGone hosting outset gone) where
  abbrev told_rules : RulesFact
  told_rules = rules_of gone.redoing.remade.server.rules

  same_rules : told_rules ≡ rules_of outset.rules
  same_rules = ap rules_of has.rules_are

  pub rules_taken : TakesRules (lists gone.telling.items) told_rules → TakesRules gone.front.batches (rules_of outset.rules)
  rules_taken takes =
      take_alike gone.front.batches (lists gone.telling.items) has.alike (rules_of outset.rules) (subst (λ (r : RulesFact). TakesRules (lists gone.telling.items) r) same_rules takes)

  pub rules_refused : (fault : StateFault) → RefuseRules (lists gone.telling.items) told_rules fault → RefuseServer hosting outset gone.front.batches fault
  rules_refused fault refused =
      inl (refuse_alike gone.front.batches (lists gone.telling.items) has.alike (rules_of outset.rules) fault (subst (λ (r : RulesFact). RefuseRules (lists gone.telling.items) r fault) same_rules refused))

  pub changes_refused : (fault : StateFault) → TakesRules (lists gone.telling.items) told_rules → RefusesList hosting outset gone.front.batches fault → RefuseServer hosting outset gone.front.batches fault
  changes_refused fault takes refused = inr (rules_taken takes, refused)

  pub memory_refused : (fault : StateFault) → fault ≡ state.Memory → RefuseServer hosting outset gone.front.batches fault
  memory_refused fault is = subst (λ (f : StateFault). RefuseServer hosting outset gone.front.batches f) (sym is) (inl tt)

  -- what is made of the bytes
  pub resumed_is : (bytes : List ℕ) (resumed : Resumed H) (told : Bool) → gone.front.batches ≡ recovered bytes → IsRedone hosting outset gone.front.batches resumed.restored →
      resumed.restored.server.unkept ≡ None → resumed.front ≡ gone.front → resumed.end ≡ end_of gone.front.batches → resumed.last ≡ last_of header gone.front.batches → frames_size gone.front.batches < 2 ^ 64 → resumed.torn.items ≡ torn_of bytes →
      resumed.known.rules.items ≡ rules_spelling told_rules → RulesFit told_rules → length resumed.known.rules.items < 2 ^ 32 → TakesRules (lists gone.telling.items) told_rules →
      (IsTrue told ↔ Tell (lists gone.telling.items) told_rules) → (told ≡ true → lists resumed.behind.items ≡ []) → (told ≡ false → lists resumed.behind.items ≡ resumed.known.rules.items ∷ []) →
      resumed.known.shortened ≡ gone.measures.shortened → resumed.known.until ≡ gone.measures.until → IsResumed hosting bytes outset resumed
  resumed_is bytes resumed told are redone unnoted front end last small torn spelled fit few takes tells none one shortened until =
      let batches = gone.front.batches in
      let telling = lists gone.telling.items in
      let now : RulesFact = rules_of outset.rules in
      let new = resumed.front.batches ++ lists resumed.behind.items in
      let spelled_now : resumed.known.rules.items ≡ rules_spelling now = spelled ∙ ap rules_spelling same_rules in
      let fits : RulesFit now = subst (λ (r : RulesFact). RulesFit r) same_rules fit in
      let taken : TakesRules (recovered bytes) now = subst (λ (bs : List (List ℕ)). TakesRules bs now) are (rules_taken takes) in
      let fronts : resumed.front.batches ≡ recovered bytes = ap (λ (f : Front). f.batches) front ∙ are in
      let behind : AreToldBehind (recovered bytes) now new =
      told_behind told (recovered bytes) new now resumed.known.rules.items (fits, spelled_now)
      (λ yes. subst (λ (bs : List (List ℕ)). Tell bs now) are (tell_again batches telling has.alike now now (subst (λ (r : RulesFact). Tell telling r) same_rules (tells.0 yes))))
      (λ yes. ap (λ (bs : List (List ℕ)). resumed.front.batches ++ bs) (none yes) ∙ append-nil resumed.front.batches ∙ fronts)
      (λ no. ap (λ (bs : List (List ℕ)). resumed.front.batches ++ bs) (one no) ∙ ap (λ (bs : List (List ℕ)). bs ++ resumed.known.rules.items ∷ []) fronts) in
      let listed : ListsItself outset.rules (recovered bytes) = subst (λ (bs : List (List ℕ)). ListsItself outset.rules bs) are redone.listed in
      let sizes = has.measured.sizes_are small in
      record {
        answers = redone.answers bytes (sym are);
        listed = listed;
        unnoted = unnoted;
        later = subst (λ (bs : List (List ℕ)). until_of bs ≤ resumed.restored.moment) are redone.later;
        moment_is = subst (λ (bs : List (List ℕ)). IsMomentTold bs resumed.restored.moment) are redone.moment_is;
        taken = taken;
        wider = λ registry tells. wider registry outset.rules (taken.1 (rules_of registry) tells);
        front_is = fronts;
        told = behind;
        end_is = end ∙ ap end_of (sym (ap (λ (f : Front). f.batches) front));
        last_is = last ∙ ap (last_of header) (sym (ap (λ (f : Front). f.batches) front));
        known = known_begun (recovered bytes) new listed.0 resumed.known now listed.1 spelled_now few behind (shortened ∙ sizes.1 ∙ ap shortened_size are) (until ∙ has.measured.until_is ∙ ap until_of are);
        torn_is = torn;
      }

-- WHERE THE FILE IS REFUSED

pub stops_reading : (fault : ReadFault) → IsUnread fault → StopsReading (of_reading fault)
stops_reading reading.Memory is = tt
stops_reading (reading.Unread reason) is = tt
stops_reading _ is = absurd is

pub file_refused : {H : Type 0} (hosting : Hosting H) (outset : Outset H) (left : List ℕ) (fault : ReadFault) → RefusesFile left fault → RefusesResume hosting outset left (of_reading fault)
file_refused hosting outset left reading.NotState refused = refused
file_refused hosting outset left (reading.Version version) refused = refused
file_refused hosting outset left (reading.Damaged number) refused = refused
file_refused hosting outset left _ refused = absurd refused

pub header_refused : (left : List ℕ) (fault : ReadFault) → RefusesHeader left fault → RefusesFile left fault
header_refused left reading.NotState refused = refused
header_refused left (reading.Version version) refused = refused
header_refused left _ refused = absurd refused

-- no server is refused for a hook before one is set
pub hookless : {H : Type 0} (hosting : Hosting H) (outset : Outset H) (batches : List (List ℕ)) (fault : StateFault) → RefuseServer hosting outset batches fault → IsOfHooks fault → ⊥
hookless hosting outset batches (state.HookDiffers name) (inl refused) is = absurd refused.2.2
hookless hosting outset batches (state.HookDiffers name) (inr refused) is = absurd refused.1
hookless hosting outset batches (state.Hook name fault) (inl refused) is = absurd refused.2.2
hookless hosting outset batches (state.Hook name fault) (inr refused) is = absurd refused.1
hookless hosting outset batches state.Full (inl refused) is = absurd refused.2.2
hookless hosting outset batches state.Full (inr refused) is = absurd refused.1
hookless hosting outset batches _ refused is = absurd is

-- what refuses changes is not given the registry back
pub changes_keep : {H : Type 0} (hosting : Hosting H) (outset : Outset H) (batches : List (List ℕ)) (fault : StateFault) → RefusesList hosting outset batches fault → GivesBack fault → ⊥
changes_keep hosting outset batches state.Memory refused is = absurd is
changes_keep hosting outset batches (state.Spelling fault) refused is = absurd is
changes_keep hosting outset batches (state.Follows fault) refused is = absurd is
changes_keep hosting outset batches _ refused is = absurd refused

pub memory_keeps : (fault : StateFault) → fault ≡ state.Memory → GivesBack fault → ⊥
memory_keeps fault same is = subst (λ (f : StateFault). GivesBack f) same is

-- WHAT HOLDS OF A RESULT

pub if_ok : {A E : Type 0} (r : Result A E) (P Q : A → Type 0) → ((a : A) → P a → Q a) → IfOk r P → IfOk r Q
if_ok (Ok a) P Q more p = more a p
if_ok (Err e) P Q more p = tt

pub if_err : {A E : Type 0} (r : Result A E) (P Q : E → Type 0) → ((e : E) → P e → Q e) → IfErr r P → IfErr r Q
if_err (Ok a) P Q more p = tt
if_err (Err e) P Q more p = more e p

pub on_ok : {A E : Type 0} (r : Result A E) (P Q : Type 0) → (P → Q) → OnOk r P → OnOk r Q
on_ok (Ok a) P Q more p = more p
on_ok (Err e) P Q more p = tt

pub always_ok : {A E : Type 0} (r : Result A E) (Q : Type 0) → Q → OnOk r Q
always_ok (Ok a) Q q = q
always_ok (Err e) Q q = tt

pub always_err : {A E : Type 0} (r : Result A E) (Q : E → Type 0) → ((e : E) → Q e) → IfErr r Q
always_err (Ok a) Q all = tt
always_err (Err e) Q all = all e

pub if_some : {A : Type 0} (o : Option A) (P : A → Type 0) (x : A) → o ≡ Some x → IfSome o P → P x
if_some None P x is p = absurd cc
if_some (Some y) P x is p = (let same : y ≡ x = cc in subst P same p)

pub if_none : {A : Type 0} (o : Option A) (P : Type 0) → o ≡ None → IfNone o P → P
if_none None P is p = p
if_none (Some y) P is p = absurd cc

pub if_is_ok : {A E : Type 0} (r : Result A E) (P : A → Type 0) (x : A) → r ≡ Ok x → IfOk r P → P x
if_is_ok (Ok y) P x is p = (let same : y ≡ x = cc in subst P same p)
if_is_ok (Err e) P x is p = absurd cc

pub if_is_err : {A E : Type 0} (r : Result A E) (P : E → Type 0) (x : E) → r ≡ Err x → IfErr r P → P x
if_is_err (Ok y) P x is p = absurd cc
if_is_err (Err e) P x is p = (let same : e ≡ x = cc in subst P same p)

pub on_is_ok : {A E : Type 0} (r : Result A E) (P : Type 0) (x : A) → r ≡ Ok x → OnOk r P → P
on_is_ok (Ok y) P x is p = p
on_is_ok (Err e) P x is p = absurd cc
