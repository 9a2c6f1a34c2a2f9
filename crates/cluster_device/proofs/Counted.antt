-- How often a call on a file has failed, and what that says of the file.
use Rattle.std.proofs.Common.{◌≡◌, ◌⊎◌, inl, inr, ◌<◌, ◌∙◌, ℕ, List, true, refl, sym, ap, subst, arith}
use Rattle.std.specs.Prelude.{None, Option, Some, Result, Ok, Err, IfErr, IfOk, IfSome, IsSome, OnOk, is_some}
use Rattle.batch_file.specs.Crashes.{Elapses, HasCause, IsBeside, IsFailure, IsReplaceFailure, IsUnplaced, Only}
use Rattle.batch_file.specs.Faults.{IsOfRoom, of_replacing}
use Rattle.batch_file.specs.declared.device.Beginning.{Beginning}
use Rattle.batch_file.specs.declared.device.Beginning.TheVariants.{Copy, Settled}
use Rattle.batch_file.specs.declared.device.DeviceFault.{DeviceFault}
use Rattle.batch_file.specs.declared.device.DeviceFault.TheVariants.{Failed, Memory}
use Rattle.batch_file.specs.declared.device.ReplaceFault.{ReplaceFault}
use Rattle.batch_file.specs.declared.device.ReplaceFault.TheVariants as replacing
use Rattle.system_faults.specs.declared.SystemFault.{SystemFault}
use Rattle.system_faults.specs.declared.SystemFault.TheVariants.{FileTooLarge}
use Rattle.etcd_cluster.specs.declared.cluster.Cluster.{Ghosts as Cluster}
use Rattle.etcd_cluster.specs.declared.settling.SettleFault.{SettleFault}
use Rattle.cluster_device.specs.Counting.{HasFailed, IsCounted, due_of, replaced_of, settled_of}
use Rattle.cluster_file.specs.Devices.{GoesOn, KeepsSeen, has_left, leaves}
use Rattle.cluster_device.specs.Failing.{Failing, IsWorking}
use Rattle.cluster_file.specs.Files.{seen_of}
use Rattle.cluster_file.specs.declared.file.ClusterFile.{ClusterFile}
use Rattle.cluster_file.proofs.Laying.{lost_not}

-- WHAT WAS TOLD

pub on_ok : {T F : Type 0} (is_failure : F → Type 0) (memory : F) (before now : ℕ) (told result : Result T F) (P : Type 0) → IsCounted is_failure memory before now told result
    → OnOk told P → OnOk result P
on_ok is_failure memory before now told (Ok given) P counted so = subst (λ r. OnOk r P) counted.ok so
on_ok is_failure memory before now told (Err fault) P counted so = tt

pub if_ok : {T F : Type 0} (is_failure : F → Type 0) (memory : F) (before now : ℕ) (told result : Result T F) (P : T → Type 0) → IsCounted is_failure memory before now told result
    → IfOk told P → IfOk result P
if_ok is_failure memory before now told (Ok given) P counted so = subst (λ r. IfOk r P) counted.ok so
if_ok is_failure memory before now told (Err fault) P counted so = tt

-- a call that was given more did not lose the file
pub lost_before : {C : Type 0} (cluster : Cluster C) (old new : ClusterFile C) → GoesOn cluster old new → new.lost ≡ None → old.lost ≡ None
lost_before {C} cluster old new goes none = by_lost old.lost refl
  where
    by_lost : (lost : Option SettleFault) → old.lost ≡ lost → old.lost ≡ None
    by_lost None is = is
    by_lost (Some fault) is =
        let was : is_some old.lost ≡ true = ap is_some is in
        absurd (lost_not new.lost (ap (λ (f : ClusterFile C). is_some f.lost) (goes.lost was) ∙ was) none)

-- no call on it failed before, as long as it is not lost
pub goes_works : {C : Type 0} (cluster : Cluster C) (old new : ClusterFile C) (failures : ℕ) → IsWorking cluster old failures → GoesOn cluster old new → IsWorking cluster new failures
goes_works cluster old new failures works goes = (goes.well, λ none. works.1 (lost_before cluster old new goes none))

loses_by : {T F C : Type 0} (is_failure : F → Type 0) (new : ClusterFile C) (told : Result T F) → IfErr told (λ fault. is_failure fault → is_some new.lost ≡ true)
    → HasFailed is_failure told → is_some new.lost ≡ true
loses_by is_failure new (Ok given) loses failure = absurd failure
loses_by is_failure new (Err fault) loses failure = loses failure

pub counted_works : {T F C : Type 0} (is_failure : F → Type 0) (memory : F) (cluster : Cluster C) (old new : ClusterFile C) (before now : ℕ) (told result : Result T F)
    → IsWorking cluster old before → GoesOn cluster old new → IfErr told (λ fault. is_failure fault → is_some new.lost ≡ true)
    → IsCounted is_failure memory before now told result → IsWorking cluster new now
counted_works is_failure memory cluster old new before now told result works goes loses counted = (goes.well, λ none. by_counts none counted.counts)
  where
    by_counts : new.lost ≡ None → (now ≡ before) ⊎ HasFailed is_failure told → now ≡ 0
    by_counts none (inl same) = same ∙ works.1 (lost_before cluster old new goes none)
    by_counts none (inr failure) = absurd (lost_not new.lost (loses_by is_failure new told loses failure) none)

-- BESIDE THE FILE

module _ {C : Type 0} (cluster : Cluster C) (old new : ClusterFile C) where
  abbrev pub IsBesideIt : ℕ → ℕ → Type 0
  IsBesideIt before now =
      IsBeside (λ (d : Failing C). seen_of cluster d.file) (λ d. leaves cluster d.file) (λ d. d.failures)
      (record { file = old; failures = before }) (record { file = new; failures = now })

  pub beside_of : (failures : ℕ) → KeepsSeen cluster old new → IsBesideIt failures failures
  beside_of failures keeps = record { bytes = keeps.seen; crash = keeps.crash; no_fault = refl }

  pub beside_ok : {T : Type 0} (before now : ℕ) (told result : Result T DeviceFault) → IsCounted IsFailure Memory before now told result → KeepsSeen cluster old new
      → OnOk result (IsBesideIt before now)
  beside_ok before now told (Ok given) counted keeps = record { bytes = keeps.seen; crash = keeps.crash; no_fault = counted.cause.faultless }
  beside_ok before now told (Err fault) counted keeps = tt

  -- where it was lost before, nothing is done
  was_lost : (before : ℕ) → IsWorking cluster old before → GoesOn cluster old new → 0 < before → new ≡ old
  was_lost before works goes some = by_lost old.lost refl
    where
      by_lost : (lost : Option SettleFault) → old.lost ≡ lost → new ≡ old
      by_lost None is = let none = works.1 is in absurd (omega (arith, some, none))
      by_lost (Some fault) is = goes.lost (ap is_some is)

  keeps_it : new ≡ old → KeepsSeen cluster old new
  keeps_it same = subst (λ (f : ClusterFile C). KeepsSeen cluster old f) (sym same) (record { seen = refl; crash = λ left is. is })

  pub unplaced_of : {T : Type 0} (before now : ℕ) (told result : Result T DeviceFault) → IsWorking cluster old before → GoesOn cluster old new → IsCounted IsFailure Memory before now told result
      → IfErr told (λ fault. fault ≡ Memory → KeepsSeen cluster old new) → IfErr result (λ fault. IsUnplaced (of_replacing fault) → IsBesideIt before now)
  unplaced_of before now told (Ok given) works goes counted keeps = tt
  unplaced_of before now told (Err (Failed reason)) works goes counted keeps = λ placed. absurd placed
  unplaced_of before now told (Err Memory) works goes counted keeps = λ unplaced. with_seen (by_told counted.err)
    where
      by_told : (told ≡ Err Memory) ⊎ ((Memory ≡ Memory) × (0 < before)) → KeepsSeen cluster old new
      by_told (inl is) = (subst (λ r. IfErr r (λ fault. fault ≡ Memory → KeepsSeen cluster old new)) is keeps) refl
      by_told (inr (same, some)) = keeps_it (was_lost before works goes some)

      with_seen : KeepsSeen cluster old new → IsBesideIt before now
      with_seen seen = record { bytes = seen.seen; crash = seen.crash; no_fault = counted.refused (λ bad. bad) }

  no_failure : (fault : ReplaceFault) → IsUnplaced fault → IsReplaceFailure fault → ⊥
  no_failure (replacing.Failed reason) unplaced bad = unplaced
  no_failure (replacing.Unplaced reason) unplaced bad = bad
  no_failure replacing.Memory unplaced bad = bad

  pub not_placed : {T : Type 0} (before now : ℕ) (told result : Result T ReplaceFault) → IsWorking cluster old before → GoesOn cluster old new
      → IsCounted IsReplaceFailure replacing.Memory before now told result → IfErr told (λ fault. IsUnplaced fault → KeepsSeen cluster old new)
      → IfErr result (λ fault. IsUnplaced fault → IsBesideIt before now)
  not_placed before now told (Ok given) works goes counted keeps = tt
  not_placed before now told (Err fault) works goes counted keeps = λ unplaced. with_seen unplaced (by_told unplaced counted.err)
    where
      by_told : IsUnplaced fault → (told ≡ Err fault) ⊎ ((fault ≡ replacing.Memory) × (0 < before)) → KeepsSeen cluster old new
      by_told unplaced (inl is) = (subst (λ r. IfErr r (λ x. IsUnplaced x → KeepsSeen cluster old new)) is keeps) unplaced
      by_told unplaced (inr (same, some)) = keeps_it (was_lost before works goes some)

      with_seen : IsUnplaced fault → KeepsSeen cluster old new → IsBesideIt before now
      with_seen unplaced seen = record { bytes = seen.seen; crash = seen.crash; no_fault = counted.refused (no_failure fault unplaced) }

  -- a call that was refused for other than memory has lost it
  pub untouched_of : {T : Type 0} (before now : ℕ) (told result : Result T DeviceFault) → IsWorking cluster old before → GoesOn cluster old new → IsCounted IsFailure Memory before now told result
      → IfErr told IsFailure
      → IfErr result (λ fault. IsUnplaced (of_replacing fault)
      → ◌≡◌ {A = Failing C} (record { file = new; failures = now }) (record { file = old; failures = before }))
  untouched_of before now told (Ok given) works goes counted failed = tt
  untouched_of before now told (Err (Failed reason)) works goes counted failed = λ placed. absurd placed
  untouched_of before now told (Err Memory) works goes counted failed = λ unplaced. by_told counted.err
    where
      by_told : (told ≡ Err Memory) ⊎ ((Memory ≡ Memory) × (0 < before))
          → ◌≡◌ {A = Failing C} (record { file = new; failures = now }) (record { file = old; failures = before })
      by_told (inl is) = absurd (subst (λ r. IfErr r IsFailure) is failed)
      by_told (inr (same, some)) =
          ap (λ (f : ClusterFile C). record { file = f; failures = now }) (was_lost before works goes some)
          ∙ ap (λ (n : ℕ). record { file = old; failures = n }) (counted.refused (λ bad. bad))

-- A BEGINNING AND A REPLACEMENT

pub settled_then : (r : Result (Unit {0}) DeviceFault) (P : Type 0) → OnOk r P → settled_of r ≡ Ok Settled → P
settled_then (Ok done) P so is = so
settled_then (Err fault) P so is = absurd (err_ok is)
  where
    err_ok : ◌≡◌ {A = Result Beginning ReplaceFault} (Err (of_replacing fault)) (Ok Settled) → ⊥
    err_ok other = cc

pub never_copies : (r : Result (Unit {0}) DeviceFault) → settled_of r ≡ Ok Copy → ⊥
never_copies (Ok done) is = cc
never_copies (Err fault) is = cc

pub settled_fault : (r : Result (Unit {0}) DeviceFault) (P : ReplaceFault → Type 0) → IfErr r (λ fault. P (of_replacing fault)) → IfErr (settled_of r) P
settled_fault (Ok done) P so = tt
settled_fault (Err fault) P so = so

pub replaced_fault : (r : Result (Unit {0}) DeviceFault) (P : ReplaceFault → Type 0) → IfErr r (λ fault. P (of_replacing fault)) → IfErr (replaced_of r) P
replaced_fault (Ok done) P so = tt
replaced_fault (Err fault) P so = so

pub replaced_ok : (r : Result (Unit {0}) DeviceFault) (P : Type 0) → OnOk r P → OnOk (replaced_of r) P
replaced_ok (Ok done) P so = so
replaced_ok (Err fault) P so = tt

failure_of : (fault : DeviceFault) → IsReplaceFailure (of_replacing fault) → IsFailure fault
failure_of (Failed reason) is = tt
failure_of Memory is = is

pub settled_cause : (before now : ℕ) (r : Result (Unit {0}) DeviceFault) → HasCause IsFailure before now r → HasCause IsReplaceFailure before now (settled_of r)
settled_cause before now (Ok done) cause = record { later = cause.later; failed = tt; faultless = cause.faultless }
settled_cause before now (Err fault) cause = record { later = cause.later; failed = λ is. cause.failed (failure_of fault is); faultless = tt }

pub replaced_cause : (before now : ℕ) (r : Result (Unit {0}) DeviceFault) → HasCause IsFailure before now r → HasCause IsReplaceFailure before now (replaced_of r)
replaced_cause before now (Ok done) cause = record { later = cause.later; failed = tt; faultless = cause.faultless }
replaced_cause before now (Err fault) cause = record { later = cause.later; failed = λ is. cause.failed (failure_of fault is); faultless = tt }

-- BY WHEN IT WANTS TO BE CALLED AGAIN

pub due_ok : (r : Result ℕ DeviceFault) (P : Type 0) → OnOk r P → OnOk (due_of r) P
due_ok (Ok due) P so = so
due_ok (Err fault) P so = tt

pub due_cause : (before now : ℕ) (r : Result ℕ DeviceFault) → HasCause IsFailure before now r → HasCause IsFailure before now (due_of r)
due_cause before now (Ok due) cause = record { later = cause.later; failed = tt; faultless = cause.faultless }
due_cause before now (Err fault) cause = record { later = cause.later; failed = cause.failed; faultless = tt }

pub due_with : (r : Result ℕ DeviceFault) (P : Type 0) → OnOk r P → IfOk (due_of r) (λ due. IsSome due × P)
due_with (Ok due) P so = (refl, so)
due_with (Err fault) P so = tt

-- ROOM

some_same : (o : Option SystemFault) (P Q : SystemFault → Type 0) → ((reason : SystemFault) → P reason → Q reason) → IfSome o P → IfSome o Q
some_same None P Q so is = tt
some_same (Some reason) P Q so is = so reason is

pub room_same : {C : Type 0} (cluster : Cluster C) (old new : ClusterFile C) (told : Result (Option SystemFault) DeviceFault) → IfOk told (λ refused. IfSome refused (λ _. new ≡ old))
    → IfOk told (λ refused. IfSome refused (λ _. seen_of cluster new ≡ seen_of cluster old))
room_same {C} cluster old new (Ok refused) same = some_same refused _ _ (λ reason is. ap (λ (f : ClusterFile C). seen_of cluster f) is) same
room_same cluster old new (Err fault) same = tt

pub room_fits : (told : Result (Option SystemFault) DeviceFault) → IfOk told (λ refused. IfSome refused (λ reason. reason ≡ FileTooLarge)) → IfOk told (λ refused. IfSome refused IsOfRoom)
room_fits (Ok refused) is = some_same refused _ _ (λ reason large. subst (λ (x : SystemFault). IsOfRoom x) (sym large) tt) is
room_fits (Err fault) is = tt

-- A SYNC

pub durable_any : {C : Type 0} (cluster : Cluster C) (old new : ClusterFile C) (told : Result (Unit {0}) DeviceFault) (before : ℕ)
    → OnOk told (Only (seen_of cluster old) (leaves cluster new)) → OnOk told (before ≡ 0 → Only (seen_of cluster old) (leaves cluster new))
durable_any cluster old new (Ok done) before only = λ none. only
durable_any cluster old new (Err fault) before only = tt

-- THE NEXT FILE IS DROPPED
module _ {C : Type 0} (cluster : Cluster C) (file : ClusterFile C) where
  abbrev dropped : ClusterFile C
  dropped = record file { next = None }

  since_dropped : (t : ℕ) (left : List ℕ) → has_left cluster dropped t left → has_left cluster file t left
  since_dropped t left (inl stood) = inl stood
  since_dropped t left (inr found) = inr found

  dropped_since : (t : ℕ) (left : List ℕ) → has_left cluster file t left → has_left cluster dropped t left
  dropped_since t left (inl stood) = inl stood
  dropped_since t left (inr found) = inr found

  pub drop_elapses : Elapses (cluster.moment file.cluster) (cluster.moment file.cluster) (has_left cluster file) (has_left cluster dropped) (leaves cluster dropped)
  drop_elapses = record { later = omega arith; nothing_else = λ t left le is. inl (since_dropped t left is); keeps = λ t left le is. dropped_since t left is }
