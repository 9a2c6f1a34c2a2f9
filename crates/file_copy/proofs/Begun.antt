-- What is written behind a file where it stands.
use Rattle.std.proofs.Common.{◌≡◌, ◌∙◌, ⊎_elim, inl, inr, ℕ, ◌+◌, ◌≤◌, List, [], ◌∷◌, ◌++◌, length, take, refl, sym, ap, subst, arith, append_assoc, length-append}
use Rattle.std.proofs.lemmas.List.{append-nil, take_at}
use Rattle.std.specs.Prelude.{Some, Result, Ok, Err, IfOk, IfErr}
use Rattle.batch_file.specs.Crashes.{ComesOfStep, Elapses, LeavesOnly, Only, Swapped}
use Rattle.batch_file.specs.CrashesLaws.{then}
use Rattle.batch_file.specs.Frames.{header, last_of, recovered, frames_size, AreFrames, IsAsBefore, IsAtRest, IsFileOf, IsOnDisk, IsReadable}
use Rattle.batch_file.specs.FramesLaws.{frames_size-append, last_is, length-frames}
use Rattle.batch_file.specs.declared.appending.BatchFile.{BatchFile}
use Rattle.batch_file.specs.declared.device.Device.{Ghosts as Device}
use Rattle.batch_file.specs.declared.next.Next.{Next}
use Rattle.file_copy.specs.Copies.{AreBehind, AreGathered, AreGatheredWhole, StaysAside}
use Rattle.file_copy.specs.declared.placing.Gathered.{Gathered}
use Rattle.batch_file.proofs.Steps.{placing}
use Rattle.file_copy.proofs.Copying.{all_on_disk}

-- up to where its frames end, a file that is read is the header and the frames
pub behind_seen : (seen : List ℕ) (front : Next) → IsReadable seen → front.end ≡ 16 + frames_size (recovered seen) → front.last ≡ last_of header (recovered seen)
    → AreBehind (take front.end seen) (recovered seen) front
behind_seen seen front readable end last =
    let read = readable.1 in
    let size : length (header ++ read.frames) ≡ front.end = omega (arith, length-frames (recovered seen) header readable.0 read.frames read.are, end) in
    let cut : take front.end seen ≡ header ++ read.frames =
    ap (λ (l : List ℕ). take front.end l) (read.is ∙ sym (append_assoc header read.frames read.rest)) ∙ take_at (header ++ read.frames) read.rest front.end size in
    record {
      frames = read.frames;
      is = cut;
      are = subst (λ (l : List ℕ). AreFrames header (recovered seen) l read.frames) (last_is header (recovered seen) readable.0 read.frames read.are ∙ sym last) read.are;
      end = end;
    }

pub ends_within : (seen : List ℕ) (front : Next) → IsReadable seen → front.end ≡ 16 + frames_size (recovered seen) → front.end ≤ length seen
ends_within seen front readable end =
    let read = readable.1 in
    omega (
      arith,
      ap length read.is,
      length-append header (read.frames ++ read.rest),
      length-append read.frames read.rest,
      length-frames (recovered seen) header readable.0 read.frames read.are,
      end,
    )

-- no more than that front
pub begun_gathered : (written : List ℕ) (batches : List (List ℕ)) (front : Next) → AreBehind written batches front → (gathered : Gathered) → gathered.out.items ≡ [] → gathered.next ≡ front
    → AreGathered (Some written) (batches ++ []) gathered
begun_gathered written batches front are gathered none same = record {
  written = written;
  next_is = refl;
  frames = are.frames;
  is = ap (λ (l : List ℕ). written ++ l) none ∙ append-nil written ∙ are.is;
  are = subst (λ (next : Next). AreFrames header (batches ++ []) next.last are.frames) (sym same)
      (subst (λ (bs : List (List ℕ)). AreFrames header bs front.last are.frames) (sym (append-nil batches)) are.are);
  end = ap (λ (next : Next). next.end) same ∙ are.end ∙ ap (λ (bs : List (List ℕ)). 16 + frames_size bs) (sym (append-nil batches));
}

-- with a zero behind
pub gathered_whole : (written : List ℕ) (batches : List (List ℕ)) (old new : Gathered) → AreGathered (Some written) batches old → new.out.items ≡ old.out.items ++ 0 ∷ [] → new.next ≡ old.next
    → AreGatheredWhole written batches new
gathered_whole written batches old new are out_is same =
    let disk = all_on_disk (Some written) batches old are new.out.items (Some (written ++ new.out.items)) (Some (written ++ new.out.items)) out_is refl refl in
    let is : disk.0 ≡ written ++ new.out.items = some_is disk.0 (written ++ new.out.items) (sym disk.1) in
    record {
      at_rest = subst (λ (next : Next). IsAtRest next.end 1 next.last (written ++ new.out.items)) (sym same) (subst (λ (l : List ℕ). IsAtRest old.next.end 1 old.next.last l) is disk.2);
      batches_are = ap recovered (sym is) ∙ disk.3;
    }
  where
    some_is : (a b : List ℕ) → Some a ≡ Some b → a ≡ b
    some_is a b is = cc is

-- WHAT A RESULT SAYS

pub if_ok : {T E : Type 0} {P Q : T → Type 0} (r : Result T E) → ((x : T) → P x → Q x) → IfOk r P → IfOk r Q
if_ok (Ok x) more p = more x p
if_ok (Err e) more p = tt

pub if_err : {T E : Type 0} {P Q : E → Type 0} (r : Result T E) → ((e : E) → P e → Q e) → IfErr r P → IfErr r Q
if_err (Ok x) more p = tt
if_err (Err e) more p = more e p

-- NOTHING WAS DONE YET

module _ {D : Type 0} (device : Device D) (old mid : D) (aside : StaysAside device old mid) where
  -- whatever takes its place then
  pub placed_aside : (new : D) (behind : List (List ℕ)) → LeavesOnly device.moment device.left_since mid new (IsAsBefore (device.may_leave mid) (recovered (device.seen mid) ++ behind))
      → LeavesOnly device.moment device.left_since old new (IsAsBefore (device.may_leave old) (recovered (device.seen old) ++ behind))
  placed_aside new behind leaves =
      then aside.any_moment leaves (λ c may. inl may)
      (λ c is.
      ⊎_elim (λ may. inl (aside.beside.crash c may)) (λ file. inr (subst (λ (l : List ℕ). IsFileOf (recovered l ++ behind) c) aside.beside.bytes file)) is)

  pub true_further : ((file : D) (left : List ℕ) → device.may_leave file left → device.reads_true file) → (new : D)
      → LeavesOnly device.moment device.left_since mid new (λ _. device.reads_true mid) → LeavesOnly device.moment device.left_since old new (λ _. device.reads_true old)
  true_further only_true new leaves = then aside.any_moment leaves (λ c may. only_true old c may) (λ c told. aside.truth told)

-- IT WAS DONE WHERE THE FILE STANDS

module _ {D : Type 0} (device : Device D) (old : D) (front : Next) (behind : List (List ℕ)) (gathered : Gathered) (put : List ℕ) (readable : IsReadable (device.seen old))
    (end : front.end ≡ 16 + frames_size (recovered (device.seen old))) (last : front.last ≡ last_of header (recovered (device.seen old)))
    (whole : (written : List ℕ) (batches : List (List ℕ)) → AreBehind written batches front → AreGatheredWhole written (batches ++ behind) gathered) (put_is : put ≡ gathered.out.items) where
  -- what stands there then
  abbrev pub begun : List ℕ
  begun = take front.end (device.seen old) ++ put

  rests_begun : IsAtRest gathered.next.end 1 gathered.next.last begun × (recovered begun ≡ recovered (device.seen old) ++ behind)
  rests_begun =
      let written = take front.end (device.seen old) in
      let made = whole written (recovered (device.seen old)) (behind_seen (device.seen old) front readable end last) in (
        subst (λ (l : List ℕ). IsAtRest gathered.next.end 1 gathered.next.last (written ++ l)) (sym put_is) made.at_rest,
        ap (λ (l : List ℕ). recovered (written ++ l)) put_is ∙ made.batches_are,
      )

  pub begun_leaves : (new : D) → ((c : List ℕ) → device.left_since old (device.moment old) c → device.may_leave old c) → ComesOfStep (Swapped begun) (device.may_leave old) (device.may_leave new)
      → Elapses (device.moment old) (device.moment new) (device.left_since old) (device.left_since new) (device.may_leave new)
      → LeavesOnly device.moment device.left_since old new (IsAsBefore (device.may_leave old) (recovered (device.seen old) ++ behind))
  begun_leaves new only_now crash time =
      placing device.moment device.left_since device.may_leave gathered.next.last begun begun (recovered (device.seen old) ++ behind) (gathered.next.end, rests_begun.0) rests_begun.1 refl old new only_now
      crash time

  pub begun_batches : (new : D) → device.seen new ≡ begun → recovered (device.seen new) ≡ recovered (device.seen old) ++ behind
  begun_batches new seen = ap recovered seen ∙ rests_begun.1

  pub begun_settled : (file : BatchFile D) → file.end ≡ gathered.next.end → file.room ≡ 1 → file.last ≡ gathered.next.last → device.seen file.device ≡ begun
      → Only (device.seen file.device) (device.may_leave file.device) → device.faults file.device ≡ 0 → IsOnDisk device.seen device.may_leave device.faults file
  begun_settled file end_is room_is last_is seen only faultless = record {
    at_rest = rw (end_is, room_is, last_is, seen) rests_begun.0;
    durable = only;
    faultless = faultless;
  }

  pub begun_end : gathered.next.end ≡ front.end + frames_size behind
  begun_end =
      let rest = rests_begun.0 in
      omega (
        arith,
        rest.ends,
        length-frames (recovered begun) header gathered.next.last rest.frames rest.are,
        ap frames_size rests_begun.1,
        frames_size-append (recovered (device.seen old)) behind,
        end,
      )
