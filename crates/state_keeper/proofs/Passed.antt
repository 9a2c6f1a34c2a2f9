-- A keeper with a shortening that is on the way, when a batch is added to its file.
use Rattle.std.proofs.Common.{◌≡◌, ◌≤◌, ◌<◌, ◌+◌, ◌-◌, ◌*◌, ◌^◌, ◌++◌, ◌∷◌, [], length, ℕ, List, Option, None, Some, refl, ap, ◌∙◌, arith}
use Rattle.std.specs.Prelude.{min}
use Rattle.state_keeper.proofs.Names.{recovered, frames_size, BatchFile, Device, IsOnDisk}
use Rattle.state_keeper.proofs.Kept.{IsBegunIn}
use Rattle.state_file.specs.LengthLaws.{frames_size-push}
use Rattle.state_keeper.proofs.Put.{end_at}
use Rattle.state_keeper.proofs.Way.{front_of_more, on_the_way_more, to_go_more}
use Rattle.state_keeper.specs.Slicing.{IsOnTheWayIf, front_if, to_go_if}
use Rattle.state_keeper.specs.declared.course.Shortening.{Shortening}

-- the file begins with what it had when the shortening began
pub begun_in : {D : Type 0} (device : Device D) (file : BatchFile D) (rules : List ℕ) (s : Option Shortening) → IsOnTheWayIf device file rules s →
    IsBegunIn (recovered (device.seen file.device)) (front_if device file s)
begun_in device file rules None is = tt
begun_in device file rules (Some s) is = (is.tail, is.whole_is)

-- A file has a batch more.
pub record HasOneMore {D : Type 0} (device : Device D) (old new : BatchFile D) (batch : List ℕ) : Type 0 where
  pub before : IsOnDisk device.seen device.may_leave device.faults old
  pub settled : IsOnDisk device.seen device.may_leave device.faults new
  pub added : recovered (device.seen new.device) ≡ recovered (device.seen old.device) ++ batch ∷ []
  pub next : device.next new.device ≡ device.next old.device
  pub truth : device.reads_true new.device → device.reads_true old.device

module _ {D : Type 0} (device : Device D) (old new : BatchFile D) (batch rules : List ℕ) (more : HasOneMore device old new batch) where
  -- it ends so much later
  end_more : (16 ≤ old.end) × (new.end ≡ old.end + (21 + length batch))
  end_more =
      let was = end_at device old more.before in
      let now = end_at device new more.settled ∙ ap (λ (bs : List (List ℕ)). 16 + frames_size bs) more.added in
      let push = frames_size-push (recovered (device.seen old.device)) batch in
      (omega (arith, was), omega (arith, was, now, push))

  longer : old.end ≤ new.end
  longer = let end = end_more.1 in omega (arith, end)

  -- the shortening is on the way still
  pub still_on_the_way : (s : Option Shortening) → IsOnTheWayIf device old rules s → IsOnTheWayIf device new rules s
  still_on_the_way None is = tt
  still_on_the_way (Some s) is = on_the_way_more device rules batch old new more.added longer more.next more.truth s is

  -- and began with the same
  pub same_front : (s : Option Shortening) → IsOnTheWayIf device old rules s → front_if device new s ≡ front_if device old s
  same_front None is = refl
  same_front (Some s) is = ap (λ (f : List (List ℕ)). Some f) (front_of_more device rules batch old new more.added longer more.next more.truth s is)

  -- keeping never undoes what was gone over
  pub no_further : (s : Option Shortening) → IsOnTheWayIf device old rules s → new.end < 2 ^ 64 →
      to_go_if s new.end + 8 * min (old.end + 1) (2 ^ 64 - 1) ≤ to_go_if s old.end + 8 * min (new.end + 1) (2 ^ 64 - 1)
  no_further None is less = let at = end_more.0 in let end = end_more.1 in omega (arith, at, end, less)
  no_further (Some s) is less =
      let grown = to_go_more device rules batch old new more.added longer more.next more.truth s is in
      let end = end_more.1 in
      omega (arith, grown, end, less)
