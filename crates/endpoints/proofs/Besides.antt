-- What is made beside the store.
use Rattle.std.proofs.Common.{◌≡◌, ◌≤◌, sym, subst, refl, ℕ, List, [], ◌∷◌, Option, Some, None, false, arith}
use Rattle.endpoints.proofs.Names.{change_of, changes_of, as_list, AllFollowAt, KeptConsents, FitsConsents, fits_consents-push_other}
use Rattle.endpoints.proofs.Names.{is_consent, Event, happening, event_at, with_changes, Changes, Nothing, One, Used, Left, Hosting}
use Rattle.endpoints.proofs.Names.{FitsStore, Held, HostRun, HostStep, Makes, MakesHost, CanMake, Checked, Installs, Removes, SeenServer}
use Rattle.std.specs.Borrow.{Bor}
use Rattle.consent.specs.declared.record_version.RecordVersion.{RecordVersion}
use Rattle.std.specs.List.{range_with_len}
use Rattle.std.specs.Prelude.{map}
use Rattle.std.proofs.lemmas.Simd.{map-map}
use Rattle.consent.specs.History.{withdrawals}
use Rattle.consent.specs.History.{Change as happened}
use Rattle.consent.specs.declared.change.Change.{Change}
use Rattle.consent.specs.declared.change.Change.TheVariants.{Consented, HookSet, HookGone}
use Rattle.endpoints.specs.Making.{HasConsentRoom}
use Rattle.endpoints.specs.MakingParts.{MakesConsents}
use Rattle.endpoints.proofs.Stepping.{AllQuiet, all_right-more, host_join, quiet_consents, quiet_host}

-- none of the changes is a consent or a hook's
abbrev AreQuiet : List Change → Type 0
AreQuiet cs = AllQuiet (changes_of cs)

-- a change that is none of these is no consent and no hook's
pub one_quiet : (c : Change) → ((owner client mask : ℕ) → c ≡ Consented owner client mask → ⊥) →
    ((name : Bor (List ℕ)) (version : RecordVersion) (code : Bor (List ℕ)) → c ≡ HookSet name version code → ⊥) →
    ((name : Bor (List ℕ)) → c ≡ HookGone name → ⊥) → AreQuiet (c ∷ [])
one_quiet c no_consent no_set no_gone = grind (arith, no_consent, no_set, no_gone)

-- these are neither one change nor an owner's leaving
abbrev AreOthers : Changes → Type 0
AreOthers changes = ((c : Change) → changes ≡ One c → ⊥) × ((owner clients : ℕ) → changes ≡ Left owner clients → ⊥)

-- and so are they
many_quiet : (changes : Changes) → AreOthers changes → AreQuiet (as_list changes)
many_quiet Nothing other = tt
many_quiet (One c) other = absurd (other.0 c refl)
many_quiet (Used of home access None) other = (tt, (tt, tt))
many_quiet (Used of home access (Some token)) other = (tt, (tt, (tt, tt)))
many_quiet (Left owner clients) other = absurd (other.1 owner clients refl)

-- what an owner withdraws when it leaves
pub withdrawn_are : (owner clients : ℕ) → changes_of (as_list (Left owner clients)) ≡ withdrawals owner clients
withdrawn_are owner clients = map-map change_of (λ client. Consented owner client 0) (range_with_len 1 clients)

pub quiet_made : (kept : KeptConsents) (cs : List Change) → AreQuiet cs → MakesConsents kept cs kept
quiet_made kept cs are history m fits = quiet_consents kept history m (changes_of cs) are fits

-- a change of the hooks
pub hook_consents : (kept : KeptConsents) (c : Change) (meant : happening) → change_of c ≡ meant → is_consent meant ≡ false → MakesConsents kept (c ∷ []) kept
hook_consents kept c meant means other history m fits =
    subst (λ n. FitsConsents kept (with_changes history m (n ∷ []))) (sym means) (fits_consents-push_other kept history (event_at m meant) other fits)

-- changes of which not one stands alone
pub many_consents : (kept : KeptConsents) (changes : Changes) → AreOthers changes → MakesConsents kept (as_list changes) kept
many_consents kept changes other = quiet_made kept (as_list changes) (many_quiet changes other)

-- there is room for a consent, whatever the changes are
pub room_for : (kept : KeptConsents) (cs : List Change) → 1 ≤ kept.room → HasConsentRoom kept cs
room_for kept [] room = tt
room_for kept (Consented owner client mask ∷ []) room = room
room_for kept (Consented owner client mask ∷ c ∷ cs) room = tt
room_for kept (c ∷ cs) room = tt

module _ {H : Type 0} (hosting : Hosting H) where
  pub quiet_run : (host : H) (cs : List Change) (checked : Checked H) → AreQuiet cs → MakesHost hosting host cs checked host
  quiet_run host cs checked are m can = quiet_host hosting host m (changes_of cs) are

  pub many_host : (host : H) (changes : Changes) (checked : Checked H) → AreOthers changes → MakesHost hosting host (as_list changes) checked host
  many_host host changes checked other = quiet_run host (as_list changes) checked (many_quiet changes other)

  withdrawn_host : (host : H) (m owner : ℕ) (clients : List ℕ) →
      HostRun hosting host (with_changes [] m (map (λ client. happened.Consented owner client 0) clients)) host
  withdrawn_host host m owner [] = refl
  withdrawn_host host m owner (client ∷ clients) = (host, refl, withdrawn_host host m owner clients)

  pub left_host : (host : H) (owner clients : ℕ) (checked : Checked H) → MakesHost hosting host (as_list (Left owner clients)) checked host
  left_host host owner clients checked m can =
      subst (λ cs. HostRun hosting host (with_changes [] m cs) host) (sym (withdrawn_are owner clients))
      (withdrawn_host host m owner (range_with_len 1 clients))

  pub step_host : (old new : H) (c : Change) (checked : Checked H) (wanted : happening) → change_of c ≡ wanted →
      HostStep hosting old wanted new → MakesHost hosting old (c ∷ []) checked new
  step_host old new c checked wanted meant step m can =
      subst (λ n. HostRun hosting old (with_changes [] m (n ∷ [])) new) (sym meant) (new, step, refl)

  -- a hook is set only where it was checked
  unset : (host : H) (name : Bor (List ℕ)) (version : RecordVersion) (code : Bor (List ℕ)) (checked : Checked H) → ((hook : H) → checked ≡ Installs hook → ⊥) →
      CanMake hosting host (HookSet name version code) checked → ⊥
  unset host name version code checked other can = grind (arith, other, can)

  pub unset_host : (old : H) (c : Change) (checked : Checked H) (name : Bor (List ℕ)) (version : RecordVersion) (code : Bor (List ℕ)) → c ≡ HookSet name version code →
      ((hook : H) → checked ≡ Installs hook → ⊥) → MakesHost hosting old (c ∷ []) checked old
  unset_host old c checked name version code same other m can =
      absurd (unset old name version code checked other (subst (λ c. CanMake hosting old c checked) same can))

  -- and is gone only where it was there
  kept_on : (host : H) (name : Bor (List ℕ)) (checked : Checked H) → (checked ≡ Removes → ⊥) → CanMake hosting host (HookGone name) checked → ⊥
  kept_on host name checked other can = grind (arith, other, can)

  pub kept_host : (old : H) (c : Change) (checked : Checked H) (name : Bor (List ℕ)) → c ≡ HookGone name → (checked ≡ Removes → ⊥) → MakesHost hosting old (c ∷ []) checked old
  kept_host old c checked name same other m can =
      absurd (kept_on old name checked other (subst (λ c. CanMake hosting old c checked) same can))

  -- what is made beside the store and in it is made in the server
  pub made : (old : SeenServer H) (host : H) (store : Held) (consents : KeptConsents) (unkept prepared : Option (List Event)) (cs : List Change) (checked : Checked H) →
      MakesConsents old.consents cs consents → MakesHost hosting old.host cs checked host →
      ((history : List Event) → FitsStore old.store history old.greatest → AllFollowAt history old.greatest (changes_of cs) →
      FitsStore store (with_changes history old.greatest (changes_of cs)) old.greatest) →
      Makes hosting old cs checked (record { rules = old.rules; host = host; store = store; consents = consents; greatest = old.greatest; unkept = unkept; prepared = prepared })
  made old host store consents unkept prepared cs checked puts runs keeps outset history fits follow right can = record {
    rules_are = fits.rules_are;
    greatest_is = refl;
    store = keeps history fits.store follow;
    consents = puts history old.greatest fits.consents;
    hosts =
        host_join hosting outset.first old.host host history (with_changes [] old.greatest (changes_of cs)) fits.hosts (runs old.greatest can);
    right = all_right-more outset.rules history old.greatest (changes_of cs) fits.right right;
  }
