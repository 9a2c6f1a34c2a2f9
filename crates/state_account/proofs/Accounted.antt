-- What is told of a state file.
use Rattle.std.proofs.Common.{◌≡◌, ◌⊎◌, inl, inr, ℕ, List, [], map, sym, ap, ◌∙◌, subst}
use Rattle.batch_file.specs.Frames.{recovered}
use Rattle.consent.specs.Consents.{FitsConsents, kept_consents}
use Rattle.consent.specs.History.{Event}
use Rattle.consent.specs.declared.kept_consent.KeptConsent.{KeptConsent}
use Rattle.endpoints.specs.Listing.{AreConsentsOf, AreRecordsOf, IsLastOf}
use Rattle.endpoints.specs.Server.{Outset, outset_of}
use Rattle.hook_host.specs.declared.host.HookHost.{Ghosts as Hosting}
use Rattle.change_codec.specs.Rules.{RulesFact}
use Rattle.consent.specs.RecordFacts.{record_fact}
use Rattle.rules_codec.specs.Facts.{StandingFact}
use Rattle.token_store.specs.Fits.{FitsHistory, FitsStore}
use Rattle.token_store.specs.Image.{as_kept, kept_told}
use Rattle.token_store.specs.ImageLaws.{all_same}
use Rattle.token_store.specs.Kept.{Kept}
use Rattle.consent.specs.declared.kept_record.KeptRecord.{KeptRecord}
use Rattle.state_account.specs.Accounts.{IsAccountOf, IsStandingIn, IsStandingOf, IsOfTelling, IsOfBatches, TellIfAny, fault_in}
use Rattle.state_file.specs.Resuming.{FitsRestored, RefusesList}
use Rattle.state_file.specs.Standing.{IsMomentTold}
use Rattle.state_file.specs.Telling.{Tell, rules_of}
use Rattle.state_account.specs.declared.account.Account.{Account}
use Rattle.state_file.specs.declared.fault.StateFault.{StateFault}
use Rattle.state_file.specs.declared.fault.StateFault.TheVariants as state
use Rattle.state_file.specs.declared.restored.Restored.{Restored}
use Rattle.state_file.specs.ResumingLaws.{right_now}

-- FAULTS

pub of_telling : (number : ℕ) (fault : StateFault) → IsOfTelling fault → IsOfBatches (fault_in number fault)
of_telling number state.Memory of = tt
of_telling number state.NoRules of = tt
of_telling number (state.Spelling fault) of = tt
of_telling number _ of = absurd of

module _ {H : Type 0} (hosting : Hosting H) where
  pub of_list : (number : ℕ) (outset : Outset H) (batches : List (List ℕ)) (fault : StateFault) → RefusesList hosting outset batches fault → IsOfBatches (fault_in number fault)
  of_list number outset batches state.Memory of = tt
  of_list number outset batches (state.Spelling fault) of = tt
  of_list number outset batches (state.Follows fault) of = tt
  of_list number outset batches _ of = absurd of

  -- STANDINGS

  -- a server that fits a history has a standing that is one of it
  pub standing_of : (restored : Restored H) (standing : StandingFact) (records : List KeptRecord) (consents : List KeptConsent) →
      map record_fact records ≡ standing.records → consents ≡ standing.consents → standing.greatest ≡ restored.moment → IsLastOf restored.server standing.last → standing.hooks ≡ restored.hooks →
      AreRecordsOf restored.server records → AreConsentsOf restored.server consents →
      (outset : Outset H) (history : List Event) → FitsRestored hosting restored outset history → IsStandingOf standing history
  standing_of restored standing records consents told given greatest last hooks lists gives outset history fits =
      let at : restored.server.greatest ≡ restored.moment = fits.0.greatest_is in
      let there : FitsHistory (as_kept records) history restored.server.greatest =
      lists history (subst (λ (n : ℕ). FitsStore restored.server.store history n) (sym at) fits.0.store) in
      let kept : as_kept records ≡ map kept_told standing.records = sym (all_same records) ∙ ap (map kept_told) told in
      record {
        records = subst (λ (ks : List Kept). FitsHistory ks history standing.greatest) kept (subst (λ (n : ℕ). FitsHistory (as_kept records) history n) (at ∙ sym greatest) there);
        consents = subst (λ (cs : List KeptConsent). FitsConsents (kept_consents cs) history) given (gives history fits.0.consents);
        last = last history restored.moment fits.0.store;
        hooks = hooks ∙ fits.1;
      }

  -- so has an account
  pub standing_in : (account : Account H) (standing : StandingFact) → standing.greatest ≡ account.restored.moment →
      ((outset : Outset H) (history : List Event) → FitsRestored hosting account.restored outset history → IsStandingOf standing history) →
      (left : List ℕ) (first : H) → (of : IsAccountOf hosting left first account) → rules_of of.registry ≡ standing.rules → IsStandingIn hosting left first standing
  standing_in account standing greatest is left first of rules = record {
    each = λ history stands was run. is (outset_of of.registry first) history (of.answers history stands (right_now left history of.registry of.wider was) run);
    moment_is = subst (λ (m : ℕ). IsMomentTold (recovered left) m) (sym greatest) of.moment_is;
    told = subst (λ (r : RulesFact). TellIfAny left r) rules of.told;
  }

-- rules that are told of batches are told of the bytes
pub tells_any : (left : List ℕ) (batches : List (List ℕ)) (rules : RulesFact) → batches ≡ recovered left → (batches ≡ []) ⊎ Tell batches rules → TellIfAny left rules
tells_any left batches rules are (inl none) = inl (sym are ∙ none)
tells_any left batches rules are (inr told) = inr (subst (λ (bs : List (List ℕ)). Tell bs rules) are told)
