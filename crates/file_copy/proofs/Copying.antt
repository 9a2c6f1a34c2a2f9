-- A copy of a file is written beside it, and takes its place.
use Rattle.std.proofs.Common.{◌≡◌, ◌⊎◌, inl, inr, ⊎_elim, ℕ, ◌+◌, ◌^◌, ◌<◌, ◌≤◌, List, [], ◌∷◌, ◌++◌, length, take, drop, refl, sym, ◌∙◌, ap, subst, arith, append_assoc, length-append}
use Rattle.std.proofs.Math.Seq.{take-add}
use Rattle.std.proofs.lemmas.List.{append-nil, append_cancel_left, take_at}
use Rattle.std.specs.Prelude.{Option, Some, option_map, IfSome}
use Rattle.std.specs.Int.{w32, to_be_bytes}
use Rattle.batch_file.specs.declared.appending.BatchFile.{BatchFile}
use Rattle.batch_file.specs.declared.device.Device.{Ghosts as Device}
use Rattle.batch_file.specs.declared.next.Next.{Next}
use Rattle.file_copy.specs.declared.placing.Gathered.{Gathered}
use Rattle.batch_file.specs.declared.walk.Walk.{Walk}
use Rattle.file_copy.specs.Copies.{AreGathered, HasCopied, HasSeen, IsCopied, StaysAside}
use Rattle.batch_file.specs.Crashes.{ComesOfStep, Elapses, IsBeside, LeavesOnly, Only, Swapped}
use Rattle.batch_file.specs.CrashesLaws.{started, goes_on, weaker}
use Rattle.batch_file.specs.Frames.{header, digest, sealed, recovered, frames_size, AreFrames, IsAsBefore, IsAtRest, IsFileOf, IsOnDisk, IsReadable}
use Rattle.batch_file.specs.FramesLaws.{frames_size-append, framed_is, length-frames, no_frame_in}
use Rattle.batch_file.specs.Readers.{ahead, HasWalked}
use Rattle.batch_file.proofs.Following.{if_known}
use Rattle.batch_file.proofs.Steps.{whole_file}
use Rattle.batch_file.proofs.Walking.{AreFrames-snoc, rests}

-- BESIDE THE FILE

module _ {D : Type 0} (device : Device D) where
  pub aside_here : (file : D) → ((c : List ℕ) → device.left_since file (device.moment file) c → device.may_leave file c) → StaysAside device file file
  aside_here file only_now = record {
    beside = record { bytes = refl; crash = λ c may. may; no_fault = refl };
    any_moment = started only_now;
    truth = λ told. told;
  }

  pub aside_on : (old mid new : D) → StaysAside device old mid → IsBeside device.seen device.may_leave device.faults mid new
      → Elapses (device.moment mid) (device.moment new) (device.left_since mid) (device.left_since new) (device.may_leave new) → (device.reads_true new → device.reads_true mid)
      → StaysAside device old new
  aside_on old mid new so_far beside time truth = record {
    beside = record {
      bytes = beside.bytes ∙ so_far.beside.bytes;
      crash = λ c may. so_far.beside.crash c (beside.crash c may);
      no_fault = beside.no_fault ∙ so_far.beside.no_fault;
    };
    any_moment = goes_on so_far.any_moment time (λ c may. so_far.beside.crash c (beside.crash c may));
    truth = λ told. so_far.truth (truth told);
  }

-- WHAT IS GATHERED

module _ (next : Option (List ℕ)) (front : List (List ℕ)) (old : Gathered) (a : AreGathered next front old) where
  pub gathered_more : (new : Gathered) (batch size made : List ℕ) → length batch < 2 ^ 32 → new.out.items ≡ old.out.items ++ (255 ∷ []) ++ size ++ made ++ batch
      → size ≡ to_be_bytes w32 (length batch)
      → made ≡ digest old.next.last batch → new.next.last ≡ made → new.next.end ≡ old.next.end + (21 + length batch) → AreGathered next (front ++ batch ∷ []) new
  gathered_more new batch size made short out_is size_is made_is last_is end_is =
      let last = old.next.last in
      let one = 255 ∷ sealed last batch in
      let pieces : old.out.items ++ (255 ∷ []) ++ size ++ made ++ batch ≡ old.out.items ++ 255 ∷ (size ++ (made ++ batch)) =
      append_assoc (old.out.items ++ (255 ∷ []) ++ size) made batch ∙ append_assoc (old.out.items ++ (255 ∷ [])) size (made ++ batch)
      ∙ append_assoc old.out.items (255 ∷ []) (size ++ (made ++ batch)) in
      let out_one : new.out.items ≡ old.out.items ++ one =
      out_is ∙ pieces
      ∙ ap (λ (l : List ℕ). old.out.items ++ 255 ∷ (l ++ (made ++ batch))) size_is
      ∙ ap (λ (l : List ℕ). old.out.items ++ 255 ∷ (to_be_bytes w32 (length batch) ++ (l ++ batch))) made_is in
      let frame : AreFrames header (front ++ batch ∷ []) (digest last batch) (a.frames ++ one) =
      AreFrames-snoc front header last a.frames batch a.are short in
      record {
        written = a.written;
        next_is = a.next_is;
        frames = a.frames ++ one;
        is =
            ap (λ (l : List ℕ). a.written ++ l) out_one
            ∙ sym (append_assoc a.written old.out.items one)
            ∙ ap (λ (l : List ℕ). l ++ one) a.is
            ∙ append_assoc header a.frames one;
        are = subst (λ (l : List ℕ). AreFrames header (front ++ batch ∷ []) l (a.frames ++ one)) (sym (last_is ∙ made_is)) frame;
        end = omega (arith, end_is, a.end, frames_size-append front (batch ∷ []));
      }

  -- it is written
  pub all_written : (later : Option (List ℕ)) (new : Gathered) → later ≡ option_map (λ w. w ++ old.out.items) next → new.out.items ≡ [] → new.next.last ≡ old.next.last
      → new.next.end ≡ old.next.end → AreGathered later front new
  all_written later new added none last_is end_is = record {
    written = a.written ++ old.out.items;
    next_is = added ∙ ap (option_map (λ w. w ++ old.out.items)) a.next_is;
    frames = a.frames;
    is = ap (λ (l : List ℕ). a.written ++ old.out.items ++ l) none ∙ append-nil (a.written ++ old.out.items) ∙ a.is;
    are = subst (λ (l : List ℕ). AreFrames header front l a.frames) (sym last_is) a.are;
    end = end_is ∙ a.end;
  }

  -- with a zero behind, and is on the disk
  pub all_on_disk : (out : List ℕ) (later known : Option (List ℕ)) → out ≡ old.out.items ++ 0 ∷ [] → later ≡ option_map (λ w. w ++ out) next → known ≡ later
      → (bytes : List ℕ) × (known ≡ Some bytes) × IsAtRest old.next.end 1 old.next.last bytes × (recovered bytes ≡ front)
  all_on_disk out later known out_is added synced =
      let bytes = a.written ++ out in
      let spelled : bytes ≡ header ++ (a.frames ++ 0 ∷ []) =
      ap (λ (l : List ℕ). a.written ++ l) out_is ∙ sym (append_assoc a.written old.out.items (0 ∷ [])) ∙ ap (λ (l : List ℕ). l ++ 0 ∷ []) a.is ∙ append_assoc header a.frames (0 ∷ []) in
      let size : old.next.end ≡ 16 + length a.frames = omega (arith, length-frames front header old.next.last a.frames a.are, a.end) in
      let whole = rests front old.next.last a.frames bytes old.next.end 1 a.are spelled size (omega arith) (omega arith) in
      (bytes, synced ∙ added ∙ ap (option_map (λ w. w ++ out)) a.next_is, whole.0, whole.1)

-- WHAT WAS READ OF IT

pub seen_more : {D : Type 0} (device : Device D) (seen : List ℕ) (batches : List (List ℕ)) (old new : Walk) (at next end size : ℕ) (was now : D) (piece : List ℕ)
    → HasSeen device seen batches old at end was
    → device.seen now ≡ seen → (device.reads_true now → device.reads_true was) → (device.reads_true now → piece ≡ take size (drop at (device.seen now))) → length piece ≡ size → next ≡ at + size
    → next ≤ end
    → ((batches : List (List ℕ)) (told : List ℕ) → HasWalked batches told old → HasWalked batches (told ++ piece) new) → HasSeen device seen batches new next end now
seen_more device seen batches old new at next end size was now piece h same truth read size_is next_is within walked = record {
  told = h.told ++ piece;
  walked = walked batches h.told h.walked;
  size = omega (arith, length-append h.told piece, h.size, size_is, next_is);
  within = within;
  true = λ told.
      ap (λ (l : List ℕ). l ++ piece) (h.true (truth told))
      ∙ ap (λ (l : List ℕ). take at seen ++ l) (read told ∙ ap (λ (l : List ℕ). take size (drop at l)) same)
      ∙ sym (take-add at size seen)
      ∙ ap (λ (k : ℕ). take k seen) (sym next_is);
}

-- it stays, whatever is done beside
pub seen_on : {D : Type 0} (device : Device D) (seen : List ℕ) (batches : List (List ℕ)) (walk : Walk) (at end : ℕ) (was now : D) → HasSeen device seen batches walk at end was
    → (device.reads_true now → device.reads_true was)
    → HasSeen device seen batches walk at end now
seen_on device seen batches walk at end was now h truth = record { told = h.told; walked = h.walked; size = h.size; within = h.within; true = λ told. h.true (truth told) }

-- one frame of it was gone over
pub seen_next : {D : Type 0} (device : Device D) (seen : List ℕ) (batches : List (List ℕ)) (batch : List ℕ) (old new : Walk) (at end : ℕ) (file : D) → HasSeen device seen batches old at end file
    → ((batches : List (List ℕ)) (told : List ℕ) → HasWalked batches told old → HasWalked (batches ++ batch ∷ []) told new) → HasSeen device seen (batches ++ batch ∷ []) new at end file
seen_next device seen batches batch old new at end file h walked = record { told = h.told; walked = walked batches h.told h.walked; size = h.size; within = h.within; true = h.true }

-- frames that are as long as those of a file are these
pub all_copied : {D : Type 0} (device : Device D) (seen : List ℕ) (batches : List (List ℕ)) (walk : Walk) (at end : ℕ) (file : D) → HasSeen device seen batches walk at end file → walk.end ≡ end
    → device.reads_true file → IsReadable seen → end ≡ 16 + frames_size (recovered seen) → batches ≡ recovered seen
all_copied device seen batches walk at end file h end_is told readable ends =
    let s = readable.1 in
    let there = recovered seen in
    let frames = h.walked.frames in
    let rest = ahead walk in
    let none : length rest ≡ 0 = omega (arith, ap length h.walked.is, length-append header (frames ++ rest), length-append frames rest, h.walked.end, h.size, h.within, end_is) in
    let at_is : at ≡ end = omega (arith, ap length h.walked.is, length-append header (frames ++ rest), length-append frames rest, h.walked.end, h.size, h.within, end_is) in
    let empty : rest ≡ [] = nothing rest none in
    let spelled : h.told ≡ header ++ frames = h.walked.is ∙ ap (λ (l : List ℕ). header ++ (frames ++ l)) empty ∙ ap (λ (l : List ℕ). header ++ l) (append-nil frames) in
    let size : length (header ++ s.frames) ≡ end = omega (arith, length-append header s.frames, length-frames there header readable.0 s.frames s.are, ends) in
    let front : take end seen ≡ header ++ s.frames =
    ap (λ (l : List ℕ). take end l) (s.is ∙ sym (append_assoc header s.frames s.rest)) ∙ take_at (header ++ s.frames) s.rest end size in
    let same : frames ≡ s.frames = append_cancel_left header frames s.frames (sym spelled ∙ h.true told ∙ ap (λ (k : ℕ). take k seen) at_is ∙ front) in
    sym (alone batches walk.last frames h.walked.are) ∙ ap (λ (l : List ℕ). recovered (header ++ l)) same ∙ alone there readable.0 s.frames s.are
  where
    nothing : (l : List ℕ) → length l ≡ 0 → l ≡ []
    nothing [] is = refl
    nothing (a ∷ l) is = absurd (omega arith)

    alone : (bs : List (List ℕ)) (last one : List ℕ) → AreFrames header bs last one → recovered (header ++ one) ≡ bs
    alone bs last one are = framed_is bs last one [] (header ++ one) are (ap (λ (l : List ℕ). header ++ l) (sym (append-nil one))) (no_frame_in last [] (omega arith))

-- where a walk ends there, they were copied
pub has_copied : {D : Type 0} (device : Device D) (seen : List ℕ) (batches : List (List ℕ)) (walk : Walk) (at end : ℕ) (file : D) (gathered : Gathered)
    → HasSeen device seen batches walk at end file
    → AreGathered (device.next file) batches gathered → walk.end ≡ end → HasCopied device seen end file gathered
has_copied device seen batches walk at end file gathered h are end_is = record {
  batches = batches;
  are = are;
  ends = omega (arith, are.end, h.walked.end, length-frames batches header walk.last h.walked.frames h.walked.are, end_is);
  same = λ told. all_copied device seen batches walk at end file h end_is told;
}

-- with others behind, and is on the disk
pub is_copied : {D : Type 0} (device : Device D) (seen : List ℕ) (behind : List (List ℕ)) (end : ℕ) (was put new : D) (first gathered : Gathered) (h : HasCopied device seen end was first)
    → AreGathered (device.next put) (h.batches ++ behind) gathered → (out : List ℕ) (later : Option (List ℕ)) → out ≡ gathered.out.items ++ 0 ∷ []
    → later ≡ option_map (λ w. w ++ out) (device.next put)
    → device.next_on_disk new ≡ later → (device.reads_true new → device.reads_true was) → IsReadable seen → end ≡ 16 + frames_size (recovered seen) → IsCopied device seen behind new gathered.next
is_copied device seen behind end was put new first gathered h are out later out_is added synced truth readable ends =
    let disk = all_on_disk (device.next put) (h.batches ++ behind) gathered are out later (device.next_on_disk new) out_is added synced in
    record {
      bytes = disk.0;
      on_disk = disk.1;
      at_rest = disk.2;
      batches = λ told. disk.3 ∙ ap (λ (l : List (List ℕ)). l ++ behind) (h.same (truth told) readable ends);
    }

pub copied_end : {D : Type 0} (device : Device D) (seen : List ℕ) (behind : List (List ℕ)) (end : ℕ) (was : D) (next : Option (List ℕ)) (first gathered : Gathered)
    (h : HasCopied device seen end was first)
    → AreGathered next (h.batches ++ behind) gathered → gathered.next.end ≡ end + frames_size behind
copied_end device seen behind end was next first gathered h are = omega (arith, are.end, h.are.end, h.ends, frames_size-append h.batches behind)

-- IT TAKES THE PLACE OF THE FILE

-- it stands there
pub settled : {D : Type 0} (device : Device D) (seen : List ℕ) (behind : List (List ℕ)) (mid : D) (next : Next) (file : BatchFile D) → IsCopied device seen behind mid next → file.end ≡ next.end
    → file.room ≡ 1 → file.last ≡ next.last
    → IfSome (device.next_on_disk mid) (λ bytes. device.seen file.device ≡ bytes) → IfSome (device.next_on_disk mid) (λ bytes. Only bytes (device.may_leave file.device))
    → device.faults file.device ≡ 0
    → IsOnDisk device.seen device.may_leave device.faults file
settled device seen behind mid next file copied end_is room_is last_is replaced durable faultless =
    let seen_is = if_known (λ b. device.seen file.device ≡ b) (device.next_on_disk mid) copied.bytes copied.on_disk replaced in
    let only = if_known (λ b. Only b (device.may_leave file.device)) (device.next_on_disk mid) copied.bytes copied.on_disk durable in
    record {
      at_rest = subst (λ (l : List ℕ). IsAtRest file.end file.room l (device.seen file.device)) (sym last_is)
          (subst (λ (k : ℕ). IsAtRest k file.room next.last (device.seen file.device)) (sym end_is)
          (subst (λ (k : ℕ). IsAtRest next.end k next.last (device.seen file.device)) (sym room_is) (subst (λ (l : List ℕ). IsAtRest next.end 1 next.last l) (sym seen_is) copied.at_rest)));
      durable = λ left may. only left may ∙ sym seen_is;
      faultless = faultless;
    }

pub copy_placed : {D : Type 0} (device : Device D) (old mid new : D) (behind : List (List ℕ)) (next : Next) → StaysAside device old mid → IsCopied device (device.seen old) behind mid next
    → ((file : D) (left : List ℕ) → device.may_leave file left → device.reads_true file)
    → IfSome (device.next_on_disk mid) (λ bytes. ComesOfStep (Swapped bytes) (device.may_leave mid) (device.may_leave new))
    → Elapses (device.moment mid) (device.moment new) (device.left_since mid) (device.left_since new) (device.may_leave new)
    → LeavesOnly device.moment device.left_since old new (IsAsBefore (device.may_leave old) (recovered (device.seen old) ++ behind))
copy_placed device old mid new behind next aside copied only_true crash time =
    let batches = recovered (device.seen old) ++ behind in
    let step = if_known (λ b. ComesOfStep (Swapped b) (device.may_leave mid) (device.may_leave new)) (device.next_on_disk mid) copied.bytes copied.on_disk crash in
    let file : device.reads_true mid → IsFileOf batches copied.bytes = λ told. whole_file next.last copied.bytes batches (next.end, copied.at_rest) (copied.batches told) in
    goes_on (weaker {R = IsAsBefore (device.may_leave old) batches} aside.any_moment (λ c left. inl left)) time
    (λ c left.
    let from = step c left in
    let was = aside.beside.crash from.0 from.1 in
    ⊎_elim (λ same. inl (subst (λ (l : List ℕ). device.may_leave old l) (sym same) was))
    (λ now. inr (subst (λ (l : List ℕ). IsFileOf batches l) (sym now) (file (only_true mid from.0 from.1))))
    from.2)

-- nothing took its place
pub not_placed : {D : Type 0} (device : Device D) (old new : D) (batches : List (List ℕ)) → StaysAside device old new
    → LeavesOnly device.moment device.left_since old new (IsAsBefore (device.may_leave old) batches)
not_placed device old new batches aside = weaker {R = IsAsBefore (device.may_leave old) batches} aside.any_moment (λ c left. inl left)

-- where reads told what was there, at each moment that counts
pub true_aside : {D : Type 0} (device : Device D) (old new : D) → ((file : D) (left : List ℕ) → device.may_leave file left → device.reads_true file) → StaysAside device old new
    → LeavesOnly device.moment device.left_since old new (λ _. device.reads_true old)
true_aside device old new only_true aside = weaker {R = λ _. device.reads_true old} aside.any_moment (λ c left. only_true old c left)

pub true_placed : {D : Type 0} (device : Device D) (old mid new : D) → ((file : D) (left : List ℕ) → device.may_leave file left → device.reads_true file) → StaysAside device old mid
    → Elapses (device.moment mid) (device.moment new) (device.left_since mid) (device.left_since new) (device.may_leave new) → (device.reads_true new → device.reads_true mid)
    → LeavesOnly device.moment device.left_since old new (λ _. device.reads_true old)
true_placed device old mid new only_true aside time truth = goes_on (true_aside device old mid only_true aside) time (λ c left. aside.truth (truth (only_true new c left)))

-- what was done beside it in two steps
pub both_beside : {D : Type 0} (device : Device D) (old mid new : D) → IsBeside device.seen device.may_leave device.faults old mid → IsBeside device.seen device.may_leave device.faults mid new
    → IsBeside device.seen device.may_leave device.faults old new
both_beside device old mid new first second = record { bytes = second.bytes ∙ first.bytes; crash = λ c may. first.crash c (second.crash c may); no_fault = second.no_fault ∙ first.no_fault }
