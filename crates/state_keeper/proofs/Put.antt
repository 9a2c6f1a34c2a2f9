-- A new file that is put in the place of another.
use Rattle.std.proofs.Common.{◌≡◌, ◌+◌, ◌++◌, ◌∷◌, [], ⊎_elim, inl, inr, ℕ, List, None, length, refl, sym, ap, subst, ◌∙◌, arith}
use Rattle.std.specs.Prelude.{Result, Ok, Err, IfOk, IfErr, ⊤}
use Rattle.std.proofs.lemmas.List.{length-append}
use Rattle.state_keeper.proofs.Names.{LeavesOnly, IsOnDisk, BatchFile, frames_size, recovered, Device, SeenKeeper, end_of, IsOldOr, IsPutOn}
use Rattle.batch_file.specs.Crashes.{IsBeside, IsUnplaced}
use Rattle.batch_file.specs.declared.device.ReplaceFault.{ReplaceFault}
use Rattle.batch_file.specs.declared.device.ReplaceFault.TheVariants as replacing
use Rattle.state_file.specs.Faults.{of_replacing}
use Rattle.state_file.specs.declared.fault.StateFault.{StateFault}
use Rattle.batch_file.specs.declared.appending.NotPlaced.{NotPlaced}
use Rattle.state_file.specs.Knowing.{IsKnown}
use Rattle.state_keeper.proofs.Fronts.{at_rest_readable}
use Rattle.state_keeper.specs.Starting.{HasFront, IsOfDisk, IsPut, IsReadIn, IsUntouched, front_in}
use Rattle.state_keeper.specs.declared.starting.Origin.{Origin}
use Rattle.state_keeper.specs.declared.starting.Origin.TheVariants as origin
use Rattle.batch_file.specs.Frames.{IsAsBefore, header}
use Rattle.batch_file.specs.FramesLaws.{file_is, length-frames, readable_is}

module _ {D : Type 0} (device : Device D) where
  -- where the frames of a file end
  pub end_at : (file : BatchFile D) → IsOnDisk device.seen device.may_leave device.faults file → file.end ≡ 16 + frames_size (recovered (device.seen file.device))
  end_at file is =
      let rest = is.at_rest in
      omega (arith, rest.ends, length-frames (recovered (device.seen file.device)) header file.last rest.frames rest.are)

  -- what holds by a weaker claim
  pub leaves_weaker : (old new : D) (P Q : List ℕ → Type 0) → ((c : List ℕ) → P c → Q c) → LeavesOnly device.moment device.left_since old new P → LeavesOnly device.moment device.left_since old new Q
  leaves_weaker old new P Q weaker leaves = record {
    later = leaves.later;
    each = λ c left. weaker c (leaves.each c left);
    before = λ t c le left. ⊎_elim (λ was. inl was) (λ is. inr (weaker c is)) (leaves.before t c le left);
  }

  -- a file of the batches has them, and is read
  pub old_or : (old new : D) (batches : List (List ℕ)) → LeavesOnly device.moment device.left_since old new (IsAsBefore (device.may_leave old) batches) →
      LeavesOnly device.moment device.left_since old new (IsOldOr device old batches)
  old_or old new batches leaves =
      leaves_weaker old new (IsAsBefore (device.may_leave old) batches) (IsOldOr device old batches)
      (λ c. ⊎_elim (λ was. inl was) (λ is. inr (file_is batches c is, readable_is batches c is))) leaves

  -- what is told of a file that was put there
  pub puts : (old : D) (batches : List (List ℕ)) (r : Result (BatchFile D) (NotPlaced D)) → IfOk r (λ file. IsOnDisk device.seen device.may_leave device.faults file) →
      IfOk r (λ file. device.reads_true file.device → recovered (device.seen file.device) ≡ batches) → IfOk r (λ file. file.end ≡ end_of batches) →
      IfOk r (λ file. LeavesOnly device.moment device.left_since old file.device (IsAsBefore (device.may_leave old) batches)) → IfOk r (IsPut device old batches)
  puts old batches (Ok file) settled seen end leaves = record { seen = seen; settled = settled; end = end; meanwhile = old_or old file.device batches leaves }
  puts old batches (Err lost) settled seen end leaves = tt

  pub puts_not : (old : D) (batches : List (List ℕ)) (r : Result (BatchFile D) (NotPlaced D)) →
      IfErr r (λ lost. LeavesOnly device.moment device.left_since old lost.device (IsAsBefore (device.may_leave old) batches)) →
      IfErr r (λ lost. LeavesOnly device.moment device.left_since old lost.device (IsOldOr device old batches))
  puts_not old batches (Ok file) leaves = tt
  puts_not old batches (Err lost) leaves = old_or old lost.device batches leaves

  -- where nothing was done
  pub beside_self : (old : D) → IsBeside device.seen device.may_leave device.faults old old
  beside_self old = record { bytes = refl; crash = λ c may. may; no_fault = refl }

  pub put_on : (old : D) (keeper : SeenKeeper D) (batches : List (List ℕ)) → IsPut device old batches keeper.file → IsKnown ⊤ batches keeper.known →
      keeper.fault ≡ None → keeper.front ≡ None → IsPutOn device batches old keeper
  put_on old keeper batches put known unfailed unbegun = record {
    seen = put.seen;
    readable = at_rest_readable put.settled.at_rest;
    durable = put.settled.durable;
    end = put.end;
    known = known;
    unfailed = unfailed;
    unbegun = unbegun;
    meanwhile = put.meanwhile;
  }

-- where the batches of an origin are these
pub front_is : (seen : List ℕ) (origin : Origin) (front : List (List ℕ)) → HasFront seen origin front → (front_in seen origin ≡ front) × IsReadIn seen origin
front_is seen origin.Device front has = has
front_is seen (origin.Memory frames) front has = (has, tt)

-- where the file is as it was
pub untouched_by : (placing : ReplaceFault) (fault : StateFault) → fault ≡ of_replacing placing → IsUntouched fault → IsUnplaced placing
untouched_by replacing.Memory fault is untouched = tt
untouched_by (replacing.Unplaced reason) fault is untouched = tt
untouched_by (replacing.Failed reason) fault is untouched = subst (λ (f : StateFault). IsUntouched f) is untouched

-- and what is told of it is of the disk
pub of_disk_by : (placing : ReplaceFault) (fault : StateFault) → fault ≡ of_replacing placing → IsOfDisk fault
of_disk_by replacing.Memory fault is = subst (λ (f : StateFault). IsOfDisk f) (sym is) tt
of_disk_by (replacing.Unplaced reason) fault is = subst (λ (f : StateFault). IsOfDisk f) (sym is) tt
of_disk_by (replacing.Failed reason) fault is = subst (λ (f : StateFault). IsOfDisk f) (sym is) tt
