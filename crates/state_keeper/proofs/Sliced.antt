-- What a keeper holds behind a slice of a shortening.
use Rattle.std.proofs.Common.{◌≡◌, ◌<◌, ◌∙◌, inl, inr, List, ℕ, None, Some, refl, sym, subst, arith}
use Rattle.std.specs.Prelude.{◌≢◌, IsSome, Result, Ok, Err, IfOk, IfErr, OnOk, IsErrOf}
use Rattle.state_keeper.proofs.Names.{BatchFile, Device, LeavesOnly, AreDrafted, IsDraft, IsLongFile, KeepsBasis, SeenKeeper, TellsBasis, file_crashes}
use Rattle.state_keeper.proofs.Names.{recovered}
use Rattle.state_keeper.specs.Seen.{GoesOn, IsSlice, ShortensFile, SlicesFile}
use Rattle.change_codec.specs.Keeping.{HeldMeanwhile, HoldsStill}
use Rattle.change_codec.specs.declared.keeper.Length.{Length}
use Rattle.change_codec.specs.declared.keeper.Length.TheVariants.{Short, Long}
use Rattle.change_codec.specs.declared.keeper.ShortenFault.{ShortenFault}
use Rattle.change_codec.specs.declared.keeper.ShortenFault.TheVariants.{Memory, Unwritten, Failed}
use Rattle.state_keeper.proofs.Kept.{HasNow, IsSame, IsSameOrLeft, LeavesHeld, StaysIn, goes_on_now, keeps, keeps_basis, keeps_not, left_stand, left_tell, same_stand, same_tell, tells_basis}
use Rattle.state_keeper.proofs.Way.{front_kept, keeps_then, way_kept}
use Rattle.state_keeper.specs.Passing.{IsOnTheWay, IsReady, KeepsFile, StandsAsItWas, front_of, to_go_of}
use Rattle.state_keeper.specs.Slicing.{Ends, Fails, GivesUp, GoesOver, Puts, Slices, SlicesNot, StaysLong, Waits}
use Rattle.state_keeper.specs.declared.course.Shortening.{Shortening}
use Rattle.state_keeper.specs.declared.course.Stage.{Stage}
use Rattle.state_keeper.specs.declared.renewing.Came.{Came}
use Rattle.state_keeper.specs.declared.renewing.Came.TheVariants.{On, Placed, Refused, Broken}

-- the new keeper holds all that the old one held
pub record HoldsAll {D : Type 0} (device : Device D) (old new : SeenKeeper D) : Type 0 where
  pub holds : HoldsStill (file_crashes device) old new
  pub told : KeepsBasis (file_crashes device) 0 old new

-- or a crash meanwhile left that, and no more is known
pub record HeldAll {D : Type 0} (device : Device D) (old new : SeenKeeper D) : Type 0 where
  pub held : HeldMeanwhile (file_crashes device) old new
  pub told : TellsBasis (file_crashes device) 0 old new

module _ {D : Type 0} {device : Device D} {old new : SeenKeeper D} where
  pub by_same : HasNow device old new IsSame → HoldsAll device old new
  by_same now = record { holds = λ history. keeps device old new IsSame history history now (same_stand history); told = keeps_basis device old new IsSame 0 now (same_tell 0) }

  pub by_left : HasNow device old new IsSameOrLeft → HoldsAll device old new
  by_left now = record { holds = λ history. keeps device old new IsSameOrLeft history history now (left_stand history); told = keeps_basis device old new IsSameOrLeft 0 now (left_tell 0) }

  pub by_leaving : LeavesHeld device old new IsSame → HeldAll device old new
  by_leaving leaves = record { held = λ history. keeps_not device old new IsSame history history leaves (same_stand history); told = tells_basis device old new IsSame 0 leaves (same_tell 0) }

-- a file that stands as it was
pub stays_as : {D : Type 0} (device : Device D) (old new : BatchFile D) → StandsAsItWas device old new → LeavesOnly device.moment device.left_since old.device new.device (λ _. device.reads_true old.device) →
    (device.reads_true new.device → device.reads_true old.device) → ((c : List ℕ) → device.may_leave new.device c → device.reads_true new.device) → StaysIn device old new
stays_as device old new stands trues truth true =
    record { settled = stands.settled; seen = stands.seen; leaves = stands.any_moment; trues = trues; truth = truth; true = true }

-- what was written is a draft of what stood there before the slice
pub drafted_before : {D : Type 0} (device : Device D) (old new : BatchFile D) (was now : Shortening) (ready : IsReady device new now) →
    device.seen new.device ≡ device.seen old.device → front_of device new now ≡ front_of device old was → device.reads_true new.device →
    AreDrafted (Some (front_of device old was)) (recovered (device.seen old.device)) ready.batches
drafted_before device old new was now ready seen front true =
    subst (λ (f : List (List ℕ)). IsDraft f (recovered (device.seen old.device)) ready.batches) front
    (subst (λ (file : List ℕ). IsDraft (front_of device new now) (recovered file) ready.batches) seen (ready.draft_is true))

-- WHAT A SLICE DOES

module _ {D : Type 0} {device : Device D} {old new : SeenKeeper D} where
  pub refused_by : (fault : ShortenFault) → fault ≢ Failed → StaysLong device old new → SlicesNot device old new fault
  refused_by Memory other stays = stays
  refused_by Unwritten other stays = stays
  refused_by Failed other stays = absurd (other refl)

  -- where a slice is refused
  pub stays_long : HoldsAll device old new → IsLongFile old → new.file.end ≡ old.file.end → device.next new.file.device ≡ None → StaysLong device old new
  stays_long all long end none = record { kept = all.holds; told = all.told; long = long; end = end; none = none }

  pub fails_so : HeldAll device old new → IsSome new.fault → Fails device old new
  fails_so all fails = record { held = all.held; told = all.told; fails = fails }

-- where nothing is done
pub nothing_done : {D : Type 0} (device : Device D) (keeper : SeenKeeper D) → StaysIn device keeper.file keeper.file → HoldsAll device keeper keeper
nothing_done device keeper stays = by_same (goes_on_now device keeper keeper stays refl)

module _ {D : Type 0} (device : Device D) (old new : SeenKeeper D) (all : HoldsAll device old new) (works : ¬ (IsSome new.fault)) where
  -- the file was not long
  pub slices_none : (IsLongFile old → ⊥) → new ≡ old → Slices device old new Short
  slices_none short same = record {
    kept = all.holds;
    told = all.told;
    works = works;
    short = λ _ long. short (subst (λ (k : SeenKeeper D). IsLongFile k) same long);
    long = λ is. absurd cc;
    left = inl same;
    nearer = λ long. absurd (short long);
    slice = λ long. absurd (short long);
    goes_on = λ long. absurd (short long);
  }

  -- a shortening begins, or goes on
  pub slices_on : IsLongFile old → IsLongFile new → new.to_go < old.to_go → new.file.end ≡ old.file.end → GoesOn device old new →
      (device.reads_true new.file.device → IsSlice (recovered (device.seen old.file.device)) old.to_go new.to_go) → Slices device old new Long
  slices_on long still less end goes slice = record {
    kept = all.holds;
    told = all.told;
    works = works;
    short = λ is. absurd cc;
    long = λ _. still;
    left = inr long;
    nearer = λ _. inl (less, end);
    slice = λ _ true. inl (goes, slice true);
    goes_on = λ _. inl goes;
  }

  -- or ends
  pub slices_last : (length : Length) → IsLongFile old → ShortensFile device old new →
      (device.reads_true new.file.device → IsSlice (recovered (device.seen old.file.device)) old.to_go 0) → (length ≡ Short → ¬ (IsLongFile new)) →
      (length ≡ Long → IsLongFile new) → Slices device old new length
  slices_last length long shortens slice short still = record {
    kept = all.holds;
    told = all.told;
    works = works;
    short = short;
    long = still;
    left = inr long;
    nearer = λ _. inr shortens;
    slice = λ _ true. inr (slice true);
    goes_on = λ _. inr shortens;
  }

-- WHAT A RESULT TELLS

pub on_ok : {T E A : Type 0} {P : T → Type 0} (r : Result T E) → ((x : T) → P x → A) → IfOk r P → OnOk r A
on_ok (Ok x) more p = more x p
on_ok (Err e) more p = tt

pub if_ok : {T E : Type 0} {P Q : T → Type 0} (r : Result T E) → ((x : T) → P x → Q x) → IfOk r P → IfOk r Q
if_ok (Ok x) more p = more x p
if_ok (Err e) more p = tt

pub if_err : {T E : Type 0} {P Q : E → Type 0} (r : Result T E) → ((e : E) → P e → Q e) → IfErr r P → IfErr r Q
if_err (Ok x) more p = tt
if_err (Err e) more p = more e p

module _ {D : Type 0} (device : Device D) (old new : SeenKeeper D) where
  pub stays_of : (fault : ShortenFault) → SlicesNot device old new fault → fault ≢ Failed → StaysLong device old new
  stays_of Memory refused other = refused
  stays_of Unwritten refused other = refused
  stays_of Failed refused other = absurd (other refl)

  pub failed_of : (r : Result Length ShortenFault) → IfErr r (SlicesNot device old new) → IsErrOf r Failed → Fails device old new
  failed_of r refused is = subst (λ (x : Result Length ShortenFault). IfErr x (SlicesNot device old new)) is refused

  meanwhile_by : (fault : ShortenFault) → SlicesNot device old new fault → TellsBasis (file_crashes device) 0 old new
  meanwhile_by Memory refused = refused.told.meanwhile
  meanwhile_by Unwritten refused = refused.told.meanwhile
  meanwhile_by Failed refused = refused.told

  pub meanwhile_of : (r : Result Length ShortenFault) → IfOk r (Slices device old new) → IfErr r (SlicesNot device old new) → TellsBasis (file_crashes device) 0 old new
  meanwhile_of (Ok length) slices refused = slices.told.meanwhile
  meanwhile_of (Err fault) slices refused = meanwhile_by fault refused

-- what comes of the end of a shortening comes of a slice
pub ends_over : {D : Type 0} (device : Device D) (old : BatchFile D) (rules : List ℕ) (was : Shortening) (new : BatchFile D) (now : Shortening) (came : Came) → Ends device old was new came →
    GoesOver device old rules was new now came
ends_over device old rules was new now On ends = absurd ends.puts
ends_over device old rules was new now (Placed size) ends = ends
ends_over device old rules was new now (Refused fault) ends = inr ends
ends_over device old rules was new now (Broken fault) ends = ends

-- IT IS GIVEN UP

module _ {D : Type 0} (device : Device D) (old mid new : BatchFile D) (fault : ShortenFault) (came : Came) (other : fault ≢ Failed) (is : came ≡ Refused fault) (keeps : KeepsFile device old mid)
    (gives : GivesUp device mid new) where
  gives_then : (fault ≢ Failed) × GivesUp device old new
  gives_then = (other, record { keeps = keeps_then device old mid new keeps gives.keeps; none = gives.none })

  pub waits_not : (now : Stage) → Waits device old now new came
  waits_not now = subst (λ (c : Came). Waits device old now new c) (sym is) gives_then

  pub puts_refused : (s : Shortening) → Puts device old s new came
  puts_refused s = subst (λ (c : Came). Puts device old s new c) (sym is) gives_then

  pub given_up : (rules : List ℕ) (was now : Shortening) → GoesOver device old rules was new now came
  given_up rules was now = subst (λ (c : Came). GoesOver device old rules was new now c) (sym is) (inl gives_then)

-- what was written so far was waited for
pub waited : {D : Type 0} (device : Device D) (old : BatchFile D) (rules : List ℕ) (was : Shortening) (mid new : BatchFile D) (now : Shortening) (came : Came) → KeepsFile device old mid →
    IsOnTheWay device mid rules now → front_of device mid now ≡ front_of device old was → to_go_of now old.end < to_go_of was old.end →
    (device.reads_true mid.device → IsSlice (recovered (device.seen old.device)) (to_go_of was old.end) (to_go_of now old.end)) → Waits device mid now.stage new came → GoesOver device old rules was new now came
waited device old rules was mid new now On keeps way same nearer slice waits = record {
  keeps = keeps_then device old mid new keeps waits.0;
  way = way_kept device rules mid new now waits.0 waits.1 way;
  same = front_kept device rules mid new now waits.0 ∙ same;
  nearer = nearer;
  slice = λ true. slice (waits.0.truth true);
  down = λ portion. waits.2;
}
waited device old rules was mid new now (Placed size) keeps way same nearer slice waits = absurd waits
waited device old rules was mid new now (Refused fault) keeps way same nearer slice waits =
    inl (waits.0, record { keeps = keeps_then device old mid new keeps waits.1.keeps; none = waits.1.none })
waited device old rules was mid new now (Broken fault) keeps way same nearer slice waits = absurd waits

-- a keeper that has failed holds what it holds
pub failed_still : {D : Type 0} (device : Device D) (keeper : SeenKeeper D) →
    ((c : List ℕ) → device.left_since keeper.file.device (device.moment keeper.file.device) c → device.may_leave keeper.file.device c) → HeldAll device keeper keeper
failed_still device keeper only_now = record {
  held = λ history. record { meanwhile = λ holds. record { later = omega arith; each = λ c left. inl (holds c (inl (only_now c left))); earlier = λ t c le left. inl left } };
  told = record { later = omega arith; earlier = λ basis t c within holds le left. inl left };
}
