-- A shortening that is on the way, once the file was read or a draft was written.
use Rattle.std.proofs.Common.{◌≡◌, ◌≤◌, ◌+◌, ◌-◌, ◌∙◌, ℕ, List, [], ◌∷◌, ◌++◌, length, Bool, true, false, refl, sym, ap, subst, append_assoc, arith}
use Rattle.std.specs.Prelude.{nat_lt}
use Rattle.std.proofs.lemmas.Bool.{le-ltb, lt-ltb}
use Rattle.batch_file.specs.Crashes.{Elapses, IsBeside}
use Rattle.batch_file.specs.CrashesLaws.{goes_on, started, then}
use Rattle.batch_file.specs.Frames.{IsUndisturbed}
use Rattle.batch_file.specs.FramesLaws.{next_stays}
use Rattle.state_keeper.proofs.Names.{BatchFile, Device, IsOnDisk, LeavesOnly, end_of, frames_size, if◌then◌else◌, recovered}
use Rattle.state_keeper.specs.Passing.{AreWritten, AreWrittenIn, Hand, IsOnTheWay, IsWay, KeepsFile, front_at, front_of, hand, to_go_in, to_go_of}
use Rattle.state_keeper.specs.PassingParts.{IsFrameAt, IsFrameOf, IsInStage}
use Rattle.state_keeper.specs.declared.course.Course.{Course}
use Rattle.state_keeper.specs.declared.course.Draft.{Draft}
use Rattle.state_keeper.specs.declared.course.Frame.{Frame}
use Rattle.state_keeper.specs.declared.course.Shortening.{Shortening}
use Rattle.state_keeper.specs.declared.course.Stage.{Stage}
use Rattle.state_keeper.specs.declared.course.Stage.TheVariants as stage

module _ {D : Type 0} (device : Device D) where
  -- where nothing is done
  pub keeps_none : (file : BatchFile D) → ((c : List ℕ) → device.left_since file.device (device.moment file.device) c → device.may_leave file.device c) →
      ((c : List ℕ) → device.may_leave file.device c → device.reads_true file.device) →
      IsOnDisk device.seen device.may_leave device.faults file → KeepsFile device file file
  keeps_none file only_now only_true settled = record {
    stands = record { settled = settled; end = refl; seen = refl; any_moment = started (λ c left. settled.durable c (only_now c left)) };
    truth = λ true. true;
    true_before = started (λ c left. only_true c (only_now c left));
  }

  -- and where something more is done
  pub keeps_then : (old mid new : BatchFile D) → KeepsFile device old mid → KeepsFile device mid new → KeepsFile device old new
  keeps_then old mid new first second = record {
    stands = record {
      settled = second.stands.settled;
      end = second.stands.end ∙ first.stands.end;
      seen = second.stands.seen ∙ first.stands.seen;
      any_moment = (then) first.stands.any_moment second.stands.any_moment (λ c is. is) (λ c is. is ∙ first.stands.seen);
    };
    truth = λ true. first.truth (second.truth true);
    true_before = (then) first.true_before second.true_before (λ c true. true) (λ c true. first.truth true);
  }

  -- what a call on the file, or on the one beside it, promises
  pub keeps_of_call : (old new : BatchFile D) → IsOnDisk device.seen device.may_leave device.faults new → IsUndisturbed device.seen device.moment device.left_since old new →
      (device.reads_true new.device → device.reads_true old.device) →
      LeavesOnly device.moment device.left_since old.device new.device (λ _. device.reads_true old.device) → KeepsFile device old new
  keeps_of_call old new settled same truth true_before = record {
    stands = record { settled = settled; end = same.end; seen = same.bytes; any_moment = same.any_moment };
    truth = truth;
    true_before = true_before;
  }

  -- what a call of the device on the file beside it promises
  pub keeps_beside : (old new : BatchFile D) → ((c : List ℕ) → device.left_since old.device (device.moment old.device) c → device.may_leave old.device c) →
      ((c : List ℕ) → device.may_leave old.device c → device.reads_true old.device) → IsOnDisk device.seen device.may_leave device.faults old → new.end ≡ old.end → new.room ≡ old.room → new.last ≡ old.last →
      IsBeside device.seen device.may_leave device.faults old.device new.device →
      Elapses (device.moment old.device) (device.moment new.device) (device.left_since old.device) (device.left_since new.device) (device.may_leave new.device) →
      (device.reads_true new.device → device.reads_true old.device) → KeepsFile device old new
  keeps_beside old new only_now only_true settled end room last beside time truth = record {
    stands = record {
      settled = record {
        at_rest = rw (end, room, last, beside.bytes) settled.at_rest;
        durable = λ c may. settled.durable c (beside.crash c may) ∙ sym beside.bytes;
        faultless = beside.no_fault ∙ settled.faultless;
      };
      end = end;
      seen = beside.bytes;
      any_moment = goes_on (started (λ c left. settled.durable c (only_now c left))) time (λ c may. settled.durable c (beside.crash c may));
    };
    truth = truth;
    true_before = goes_on (started (λ c left. only_true c (only_now c left))) time (λ c may. only_true c (beside.crash c may));
  }

  -- what was written is what it was, where the file beside it was left alone
  pub written_same : (old new : BatchFile D) (draft : Draft) (written : List (List ℕ)) → device.next new.device ≡ device.next old.device →
      AreWritten device old draft written → AreWritten device new draft written
  written_same old new draft written same are = record { next = next_stays device.next old new draft.next written same are.next; size = are.size }

  pub still_written : (old new : BatchFile D) → device.next new.device ≡ device.next old.device → (now : Stage) (written : List (List ℕ)) → AreWrittenIn device old now written →
      AreWrittenIn device new now written
  still_written old new same (stage.Leaving leaving gathered draft) written are = written_same old new draft written same are
  still_written old new same (stage.Following draft) written are = written_same old new draft written same are
  still_written old new same _ written are = tt

  module _ (rules : List ℕ) (front : List (List ℕ)) where
    -- it goes on, if its stage does
    pub way_on : (old new : Hand D) (w : IsWay device rules front old) → KeepsFile device old.file new.file → new.course.front_end ≡ old.course.front_end →
        new.course.at ≤ old.file.end → (written : List (List ℕ)) → AreWrittenIn device new.file new.stage written →
        (device.reads_true new.file.device → IsInStage rules front w.tail old.course old.stage w.written → IsInStage rules front w.tail new.course new.stage written) →
        IsWay device rules front new
    way_on old new w keeps same at written drafted on = record {
      written = written;
      drafted = drafted;
      tail = w.tail;
      whole_is = ap recovered keeps.stands.seen ∙ w.whole_is;
      end_is = same ∙ w.end_is;
      within = let within = w.within in let end = keeps.stands.end in omega (arith, within, end, same);
      at_within = let end = keeps.stands.end in omega (arith, end, at);
      true = λ true. on true (w.true (keeps.truth true));
    }

    -- a frame of the file is one of the front
    pub frame_at_in : (old : Hand D) (w : IsWay device rules front old) (at : ℕ) (bytes : List ℕ) → IsFrameAt (recovered (device.seen old.file.device)) at bytes → IsFrameAt front at bytes
    frame_at_in old w at bytes is = λ before after batch parted begins.
        is before (after ++ w.tail) batch
        (w.whole_is ∙ ap (λ (bs : List (List ℕ)). bs ++ w.tail) parted ∙ append_assoc before (batch ∷ after) w.tail) begins

    pub frame_in : (old : Hand D) (w : IsWay device rules front old) (at : ℕ) (frame : Frame) → frame.end ≡ at + (21 + length frame.bytes.items) →
        frame.end ≤ old.course.front_end → IsFrameAt (recovered (device.seen old.file.device)) at frame.bytes.items → IsFrameOf front at frame
    frame_in old w at frame ends within is = record {
      more = let end_is = w.end_is in omega (arith, ends, within, end_is);
      is = frame_at_in old w at frame.bytes.items is;
      ends = ends;
    }

-- where the file stands as it was, and so does the one beside it
module _ {D : Type 0} (device : Device D) (rules : List ℕ) (old new : BatchFile D) (s : Shortening) (keeps : KeepsFile device old new) where
  pub front_kept : front_of device new s ≡ front_of device old s
  front_kept = ap (λ (bytes : List ℕ). front_at (s.course.front_end - 16) (recovered bytes)) keeps.stands.seen

  pub way_kept : device.next new.device ≡ device.next old.device → IsOnTheWay device old rules s → IsOnTheWay device new rules s
  way_kept next w =
      subst (λ (bs : List (List ℕ)). IsWay device rules bs (hand new s.course s.stage)) (sym front_kept)
      (way_on device rules (front_of device old s) (hand old s.course s.stage) (hand new s.course s.stage) w keeps refl w.at_within w.written
      (still_written device old new next s.stage w.written w.drafted) (λ true is. is))

-- A BATCH MORE

none_of : (b : Bool) (xs : List (List ℕ)) → b ≡ true → (if b then [] else xs) ≡ []
none_of true xs is = refl
none_of false xs is = absurd cc

some_of : (b : Bool) (xs ys : List (List ℕ)) → b ≡ false → xs ≡ ys → (if b then [] else xs) ≡ ys
some_of true xs ys is same = absurd cc
some_of false xs ys is same = same

front_at-append : (size : ℕ) (front tail : List (List ℕ)) → size ≡ frames_size front → front_at size (front ++ tail) ≡ front
front_at-append size [] [] is = refl
front_at-append size [] (batch ∷ tail) is =
    none_of (nat_lt size (21 + length batch)) (batch ∷ front_at (size - (21 + length batch)) tail) (lt-ltb size (21 + length batch) (omega (arith, is)))
front_at-append size (batch ∷ front) tail is =
    some_of (nat_lt size (21 + length batch)) (batch ∷ front_at (size - (21 + length batch)) (front ++ tail)) (batch ∷ front) (le-ltb size (21 + length batch) (omega (arith, is)))
    (ap (λ (bs : List (List ℕ)). batch ∷ bs) (front_at-append (size - (21 + length batch)) front tail (omega (arith, is))))

-- the front is what it was, whatever stands behind it
pub front_is : (end : ℕ) (batches front tail : List (List ℕ)) → batches ≡ front ++ tail → end ≡ end_of front → front_at (end - 16) batches ≡ front
front_is end batches front tail parted is = ap (front_at (end - 16)) parted ∙ front_at-append (end - 16) front tail (omega (arith, is))

module _ {D : Type 0} (device : Device D) (rules : List ℕ) (batch : List ℕ) (old new : BatchFile D) (added : recovered (device.seen new.device) ≡ recovered (device.seen old.device) ++ batch ∷ [])
    (longer : old.end ≤ new.end) (same_next : device.next new.device ≡ device.next old.device) (truth : device.reads_true new.device → device.reads_true old.device) where
  stage_still : (front tail : List (List ℕ)) (course : Course) (now : Stage) (written : List (List ℕ)) → IsInStage rules front tail course now written →
      IsInStage rules front (tail ++ batch ∷ []) course now written
  stage_still front tail course (stage.Following draft) written is = record {
    left = is.left;
    followed = is.followed;
    rest = is.rest ++ batch ∷ [];
    short = is.short;
    written_is = is.written_is;
    tail_is = ap (λ (bs : List (List ℕ)). bs ++ batch ∷ []) is.tail_is ∙ append_assoc is.followed is.rest (batch ∷ []);
    at_is = is.at_is;
  }
  stage_still front tail course _ written is = is

  way_appended : (front : List (List ℕ)) (course : Course) (now : Stage) → IsWay device rules front (hand old course now) → IsWay device rules front (hand new course now)
  way_appended front course now w = record {
    written = w.written;
    drafted = still_written device old new same_next now w.written w.drafted;
    tail = w.tail ++ batch ∷ [];
    whole_is = added ∙ ap (λ (bs : List (List ℕ)). bs ++ batch ∷ []) w.whole_is ∙ append_assoc front w.tail (batch ∷ []);
    end_is = w.end_is;
    within = let within = w.within in omega (arith, within, longer);
    at_within = let within = w.at_within in omega (arith, within, longer);
    true = λ true. stage_still front w.tail course now w.written (w.true (truth true));
  }

  -- the front stays, and the shortening is on the way still
  pub front_of_more : (s : Shortening) → IsOnTheWay device old rules s → front_of device new s ≡ front_of device old s
  front_of_more s w =
      front_is s.course.front_end (recovered (device.seen new.device)) (front_of device old s) (w.tail ++ batch ∷ [])
      (added ∙ ap (λ (bs : List (List ℕ)). bs ++ batch ∷ []) w.whole_is ∙ append_assoc (front_of device old s) w.tail (batch ∷ [])) w.end_is

  pub on_the_way_more : (s : Shortening) → IsOnTheWay device old rules s → IsOnTheWay device new rules s
  on_the_way_more s w =
      subst (λ (bs : List (List ℕ)). IsWay device rules bs (hand new s.course s.stage)) (sym (front_of_more s w)) (way_appended (front_of device old s) s.course s.stage w)

  -- there is as much more to go over as was added
  go_more : (course : Course) (now : Stage) → course.front_end ≤ old.end → course.at ≤ old.end → to_go_in course now new.end + old.end ≡ to_go_in course now old.end + new.end
  go_more course stage.Counting within at = omega (arith, longer)
  go_more course (stage.Noting unexpired) within at = omega (arith, longer)
  go_more course (stage.Listing listing) within at = omega (arith, longer)
  go_more course (stage.Deciding deciding) within at = omega (arith, longer)
  go_more course (stage.Leaving leaving gathered draft) within at = omega (arith, longer)
  go_more course (stage.Following draft) within at = omega (arith, longer)

  pub to_go_more : (s : Shortening) → IsOnTheWay device old rules s → to_go_of s new.end + old.end ≡ to_go_of s old.end + new.end
  to_go_more s w = go_more s.course s.stage w.within w.at_within
