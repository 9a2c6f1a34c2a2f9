-- What a request does to the server, by what it does to the store.
use Rattle.std.proofs.Common.{◌≡◌, ℕ, List, [], ◌∷◌, ◌++◌, false, refl, sym, append_assoc, append-nil, subst, arith}
use Rattle.endpoints.proofs.Names.{RegistryRecord, Event, event_at, with_change, with_changes, is_consent, with_changes-cons, KeptConsents, FitsConsents, fits_consents-push_other, Hosting, HostStep}
use Rattle.endpoints.proofs.Names.{HostRun, IsRightChange, AllRight, AllRightAfter}
use Rattle.consent.specs.History.{Change}
use Rattle.consent.specs.History.Change.{Consented, HookSet, HookGone}

-- the change is no consent and no hook's
abbrev pub IsQuiet : Change → Type 0
IsQuiet (Consented owner client mask) = ⊥
IsQuiet (HookSet name version code) = ⊥
IsQuiet (HookGone name) = ⊥
IsQuiet _ = Unit {0}

abbrev pub AllQuiet : List Change → Type 0
AllQuiet [] = Unit {0}
AllQuiet (c ∷ cs) = IsQuiet c × AllQuiet cs

no_consent : (c : Change) → IsQuiet c → is_consent c ≡ false
no_consent c q = grind (arith, q)

pub quiet_consents : (kept : KeptConsents) (history : List Event) (m : ℕ) (changes : List Change) → AllQuiet changes →
    FitsConsents kept history → FitsConsents kept (with_changes history m changes)
quiet_consents kept history m [] q fits = rw (append-nil history) fits
quiet_consents kept history m (c ∷ cs) q fits =
    rw (with_changes-cons history m c cs)
    (quiet_consents kept (with_change history m c) m cs q.1 (fits_consents-push_other kept history (event_at m c) (no_consent c q.0) fits))

module _ {H : Type 0} (hosting : Hosting H) where
  -- the host goes on by more events
  pub host_join : (first mid new : H) (history more : List Event) → HostRun hosting first history mid →
      HostRun hosting mid more new → HostRun hosting first (history ++ more) new
  host_join first mid new [] more run on = subst (λ (h : H). HostRun hosting h more new) run on
  host_join first mid new (x ∷ later) more run on = (run.0, run.1, host_join run.0 mid new later more run.2 on)

  quiet_step : (host : H) (c : Change) → IsQuiet c → HostStep hosting host c host
  quiet_step host c q = grind (arith, q)

  pub quiet_host : (host : H) (m : ℕ) (changes : List Change) → AllQuiet changes → HostRun hosting host (with_changes [] m changes) host
  quiet_host host m [] q = refl
  quiet_host host m (c ∷ cs) q = (host, quiet_step host c q.0, quiet_host host m cs q.1)

all_right-push : (rules : RegistryRecord) (before history : List Event) (e : Event) → AllRight rules before history →
    IsRightChange rules (before ++ history) e.change → AllRight rules before (history ++ e ∷ [])
all_right-push rules before [] e all right = (subst (λ h. IsRightChange rules h e.change) (append-nil before) right, tt)
all_right-push rules before (x ∷ later) e all right =
    (all.0, all_right-push rules (before ++ x ∷ []) later e all.1 (subst (λ h. IsRightChange rules h e.change) (sym (append_assoc before (x ∷ []) later)) right))

pub all_right-more : (rules : RegistryRecord) (history : List Event) (m : ℕ) (changes : List Change) → AllRight rules [] history →
    AllRightAfter rules history m changes → AllRight rules [] (with_changes history m changes)
all_right-more rules history m [] all right = rw (append-nil history) all
all_right-more rules history m (c ∷ cs) all right =
    rw (with_changes-cons history m c cs)
    (all_right-more rules (with_change history m c) m cs (all_right-push rules [] history (event_at m c) all right.0) right.1)
