-- A start, from the file's changes up to the batches of the new file.
use Rattle.std.proofs.Common.{◌≡◌, ◌≤◌, ◌^◌, ◌∙◌, inl, inr, ℕ, List, [], ◌∷◌, ◌++◌, length, Option, None, Some, refl, sym, ap, subst, append_assoc, arith}
use Rattle.state_file.proofs.Names.{unwrap_or, option_map, recovered, Event, Happened, Happened-none, Happened-nothing, batch_spelling, SeenServer, FitsServer, Notes, NowNotes, AreUnkept, Outset}
use Rattle.state_file.proofs.Names.{Hosting, RulesFact, AreSet, with_hooks, AreTooLong, MakesFrom, OnBytes, RefusesMaking, AreAdded, AreToldBehind, IsUnadded, FitsRestored, Sets, StandFor, until_of}
use Rattle.state_file.proofs.Names.{AreTold-changes, until_of-append, Tell, last_rules, last_rules-push, StateFault, Restored}
use Rattle.state_file.specs.Making.{Made}
use Rattle.state_file.specs.StandingLaws.{StandFor-joined}
use Rattle.state_file.specs.declared.fault.StateFault.TheVariants as state
use Rattle.state_file.proofs.Setting.{fits_noting}
use Rattle.state_file.proofs.Tells.{stand_behind, tells_behind, until_behind}

-- a server that begins to note fits what it fitted
pub noting_fits : {H : Type 0} (hosting : Hosting H) (restored : Restored H) (server : SeenServer H) (outset : Outset H) (history : List Event) → NowNotes restored.server server (Some []) →
    FitsRestored hosting restored outset history → FitsRestored hosting (record restored { server = server }) outset history
noting_fits hosting restored server outset history begins fits =
    (fits_noting hosting restored.server server (Some []) outset history restored.moment begins fits.0, fits.1)

-- BATCHES WITH WHAT WAS NOTED

module _ (facts : List Event) (old new : List (List ℕ)) where
  pub added_stand : (before after : List Event) → AreAdded facts old new → Happened before facts after → StandFor old before → StandFor new after
  added_stand before after (inl none) happened stands =
      let same : after ≡ before = Happened-nothing before after (subst (λ (ds : List Event). Happened before ds after) none.0 happened) in
      subst (λ (bs : List (List ℕ)). StandFor bs after) (sym none.1) (subst (λ (h : List Event). StandFor old h) (sym same) stands)
  added_stand before after (inr more) happened stands =
      subst (λ (bs : List (List ℕ)). StandFor bs after) (sym more.1) (StandFor-joined old (batch_spelling facts ∷ []) before after facts stands (AreTold-changes facts more.0) happened)

  pub added_tell : (rules : RulesFact) → AreAdded facts old new → Tell old rules → Tell new rules
  added_tell rules (inl none) tell = subst (λ (bs : List (List ℕ)). Tell bs rules) (sym none.1) tell
  added_tell rules (inr more) tell = (tell.0, ap last_rules more.1 ∙ last_rules-push old (batch_spelling facts) ∙ tell.1, tell.2)

  pub added_until : AreAdded facts old new → until_of new ≡ until_of old
  added_until (inl none) = ap until_of none.1
  added_until (inr more) = let all = until_of-append old (batch_spelling facts ∷ []) in rw more.1 (omega (arith, all))

-- so do others before them
pub added_front : (front : List (List ℕ)) (facts : List Event) (old new : List (List ℕ)) → AreAdded facts old new → AreAdded facts (front ++ old) (front ++ new)
added_front front facts old new (inl none) = inl (none.0, ap (λ (bs : List (List ℕ)). front ++ bs) none.1)
added_front front facts old new (inr more) = inr (more.0, ap (λ (bs : List (List ℕ)). front ++ bs) more.1 ∙ sym (append_assoc front old (batch_spelling facts ∷ [])))

-- nothing is unkept any more, where that is noted
abbrev no_more : Option (List Event) → Option (List Event)
no_more unkept = option_map (λ (facts : List Event). []) unkept

-- what was noted from a history leads on from there
noted_leads : (unkept : Option (List Event)) (before after : List Event) → AreUnkept unkept (Some before) after → Happened before (unwrap_or unkept []) after × (no_more unkept ≡ Some [])
noted_leads None before after notes = absurd notes
noted_leads (Some facts) before after notes = (notes, refl)

-- why it is not added
pub unadded : {H : Type 0} (hosting : Hosting H) (on : OnBytes H) (facts : List Event) (fault : StateFault) → (2 ^ 32 ≤ length (batch_spelling facts) → AreTooLong hosting on) →
    IsUnadded facts fault → RefusesMaking hosting on fault
unadded hosting on facts state.Memory long is = inl (inl tt)
unadded hosting on facts state.Full long is = inr (inr (refl, long is))
unadded hosting on facts _ long is = absurd is

-- A WHOLE START

-- the batches that were read, with the rules, and with what was noted
pub record LeadOn {H : Type 0} (noted : SeenServer H) (rules : RulesFact) (read new : List (List ℕ)) : Type 0 where
  pub told : List (List ℕ)
  pub tell : AreToldBehind read rules told
  pub added : AreAdded (unwrap_or noted.unkept []) told new

module _ {H : Type 0} {noted : SeenServer H} {rules : RulesFact} {read new : List (List ℕ)} (leads : LeadOn noted rules read new) where
  pub lead_tell : Tell new rules
  lead_tell = added_tell (unwrap_or noted.unkept []) leads.told new rules leads.added (tells_behind read leads.told rules leads.tell)

  lead_same : until_of new ≡ until_of read
  lead_same = added_until (unwrap_or noted.unkept []) leads.told new leads.added ∙ until_behind read leads.told rules leads.tell

  pub lead_until : until_of read ≤ until_of new
  lead_until = (let same = lead_same in omega (arith, same))

  pub lead_no_later : until_of new ≤ until_of read
  lead_no_later = (let same = lead_same in omega (arith, same))

  pub lead_stand : (before after : List Event) → StandFor read before → Happened before (unwrap_or noted.unkept []) after → StandFor new after
  lead_stand before after stands happened =
      added_stand (unwrap_or noted.unkept []) leads.told new before after leads.added happened (stand_behind read leads.told rules before leads.tell stands)

-- each history goes on with the hooks
pub makes_from : {H : Type 0} (hosting : Hosting H) (on : OnBytes H) (made : Made H) (restored : Restored H) (noting : SeenServer H) (set : Restored H) (rules : RulesFact) (history : List Event) →
    FitsRestored hosting restored on.outset history → NowNotes restored.server noting (Some []) → Sets hosting (record restored { server = noting }) on.hooks set → set.moment ≡ restored.moment →
    NowNotes set.server made.server made.server.unkept → made.server.unkept ≡ no_more set.server.unkept → made.moment ≡ set.moment →
    LeadOn set.server rules (recovered on.bytes) made.batches → StandFor (recovered on.bytes) history → MakesFrom hosting on made history
makes_from {H = H} hosting on made restored noting set rules history fits begins sets moment same unkept moment_is leads stands =
    let begun : FitsRestored hosting (record restored { server = noting }) on.outset history = noting_fits hosting restored noting on.outset history begins fits in
    let noted : noting.unkept ≡ Some [] = ap (λ (s : SeenServer H). s.unkept) begins in
    let from : Notes noting (Some history) history = subst (λ facts. AreUnkept facts (Some history) history) (sym noted) (Happened-none history) in
    let all = sets on.outset history begun in
    let now : List Event = with_hooks made.moment history on.hooks in
    let at : with_hooks restored.moment history on.hooks ≡ now = ap (λ (m : ℕ). with_hooks m history on.hooks) (sym (moment_is ∙ moment)) in
    let fits_now : FitsRestored hosting set on.outset now = subst (λ (h : List Event). FitsRestored hosting set on.outset h) at all.0 in
    let notes : Notes set.server (Some history) now = subst (λ (h : List Event). Notes set.server (Some history) h) at (all.2 (Some history) from) in
    let led = noted_leads set.server.unkept history now notes in
    let fits_made : FitsServer hosting made.server on.outset now made.moment =
    subst (λ (m : ℕ). FitsServer hosting made.server on.outset now m) (sym moment_is) (fits_noting hosting set.server made.server made.server.unkept on.outset now set.moment same fits_now.0) in
    record {
      serves = record { fits = fits_made; notes = subst (λ (facts : Option (List Event)). AreUnkept facts (Some now) now) (sym (unkept ∙ led.1)) (Happened-none now) };
      set = subst (λ (h : List Event). AreSet on.hooks h) at all.1;
      stands = lead_stand leads history now stands led.0;
    }
