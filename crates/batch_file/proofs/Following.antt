-- The next file, piece by piece.
use Rattle.std.proofs.Common.{◌≡◌, ℕ, ◌+◌, ◌^◌, ◌<◌, List, [], ◌∷◌, ◌++◌, length, inl, inr, refl, sym, ◌∙◌, ap, subst, arith, append_assoc, length-append}
use Rattle.std.specs.Prelude.{Option, Some, option_map, IfSome}
use Rattle.std.specs.Int.{w32, to_be_bytes}
use Rattle.std.proofs.lemmas.List.{append-nil}
use Rattle.batch_file.specs.declared.appending.BatchFile.{BatchFile}
use Rattle.batch_file.specs.declared.next.Next.{Next}
use Rattle.batch_file.specs.Crashes.{ComesOfStep, Elapses, LeavesOnly, Only, Swapped}
use Rattle.batch_file.specs.Frames.{header, digest, sealed, recovered, AreFrames, AreNext, IsAtRest, IsFileOf, IsOldOrNew, IsReadable}
use Rattle.batch_file.specs.FramesLaws.{frames_size-append, length-frames}
use Rattle.batch_file.specs.CrashesLaws.{started, goes_on, weaker}
use Rattle.batch_file.proofs.Steps.{Either, is_readable, stands_for, whole_file}
use Rattle.batch_file.proofs.Tearing.{at_rest_file}
use Rattle.batch_file.proofs.Walking.{AreFrames-snoc, rests}

-- what was added stands behind what was written
then : (bytes : List ℕ) (was now : Option (List ℕ)) (written : List ℕ) → now ≡ option_map (λ w. w ++ bytes) was → was ≡ Some written → now ≡ Some (written ++ bytes)
then bytes was now written added is = added ∙ ap (option_map (λ w. w ++ bytes)) is

-- a byte 255, the head of a batch and the batch
module _ (batches : List (List ℕ)) (last frames head batch : List ℕ) (are : AreFrames header batches last frames) (short : length batch < 2 ^ 32) (is : head ≡ to_be_bytes w32 (length batch) ++ digest last batch) where
  one : List ℕ
  one = 255 ∷ (head ++ batch)

  one_is : one ≡ 255 ∷ sealed last batch
  unfolding one
  one_is = ap (λ (l : List ℕ). 255 ∷ (l ++ batch)) is ∙ ap (λ (l : List ℕ). 255 ∷ l) (append_assoc (to_be_bytes w32 (length batch)) (digest last batch) batch)

  more : AreFrames header (batches ++ batch ∷ []) (digest last batch) (frames ++ one)
  more = subst (λ (l : List ℕ). AreFrames header (batches ++ batch ∷ []) (digest last batch) (frames ++ l)) (sym one_is) (AreFrames-snoc batches header last frames batch are short)

  behind : (header ++ frames ++ (255 ∷ []) ++ head ++ batch) ≡ header ++ (frames ++ one)
  unfolding one
  behind = append_assoc (header ++ frames ++ (255 ∷ [])) head batch ∙ append_assoc (header ++ frames) (255 ∷ []) (head ++ batch) ∙ append_assoc header frames (255 ∷ (head ++ batch))

-- one frame more
pub one_next : {D : Type 0} (next_of : D → Option (List ℕ)) (old new : BatchFile D) (next later : Next) (first second : D) (head batch : List ℕ) → length batch < 2 ^ 32
    → head ≡ to_be_bytes w32 (length batch) ++ digest next.last batch → later.last ≡ digest next.last batch → later.end ≡ next.end + (21 + length batch)
    → next_of first ≡ option_map (λ w. w ++ 255 ∷ []) (next_of old.device) → next_of second ≡ option_map (λ w. w ++ head) (next_of first)
    → next_of new.device ≡ option_map (λ w. w ++ batch) (next_of second)
    → (batches : List (List ℕ)) → AreNext next_of old next batches → AreNext next_of new later (batches ++ batch ∷ [])
one_next next_of old new next later first second head batch short is last_is end_is latch_added head_added batch_added batches a =
    let one_there = then (255 ∷ []) (next_of old.device) (next_of first) (header ++ a.frames) latch_added a.is in
    let two_there = then head (next_of first) (next_of second) (header ++ a.frames ++ (255 ∷ [])) head_added one_there in
    let all_there = then batch (next_of second) (next_of new.device) (header ++ a.frames ++ (255 ∷ []) ++ head) batch_added two_there in
    record {
      frames = a.frames ++ one batches next.last a.frames head batch a.are short is;
      is = all_there ∙ ap Some (behind batches next.last a.frames head batch a.are short is);
      are = subst (λ (l : List ℕ). AreFrames header (batches ++ batch ∷ []) l (a.frames ++ one batches next.last a.frames head batch a.are short is)) (sym last_is) (more batches next.last a.frames head batch a.are short is);
      end = omega (arith, end_is, a.end, frames_size-append batches (batch ∷ []));
    }

-- IT TAKES THE PLACE OF THE FILE

-- a zero behind its frames
abbrev pub shut : {D : Type 0} {next_of : D → Option (List ℕ)} {file : BatchFile D} {next : Next} {batches : List (List ℕ)} → AreNext next_of file next batches → List ℕ
shut a = header ++ a.frames ++ 0 ∷ []

module _ {D : Type 0} {next_of : D → Option (List ℕ)} {file : BatchFile D} {next : Next} {batches : List (List ℕ)} (a : AreNext next_of file next batches) where
  pub next_rests : IsAtRest next.end 1 next.last (shut a) × (recovered (shut a) ≡ batches)
  next_rests = rests batches next.last a.frames (shut a) next.end 1 a.are (append_assoc header a.frames (0 ∷ [])) (omega (arith, length-frames batches header next.last a.frames a.are, a.end)) (omega arith) (omega arith)

  pub next_file : IsFileOf batches (shut a)
  next_file = whole_file next.last (shut a) batches (next.end, next_rests.0) next_rests.1

  pub on_disk : (mid : D) (told : Option (List ℕ)) → next_of mid ≡ option_map (λ w. w ++ 0 ∷ []) (next_of file.device) → told ≡ next_of mid → told ≡ Some (shut a)
  on_disk mid told added synced = synced ∙ then (0 ∷ []) (next_of file.device) (next_of mid) (header ++ a.frames) added a.is

-- what is told of what is known
pub if_known : (P : List ℕ → Type 0) (told : Option (List ℕ)) (bytes : List ℕ) → told ≡ Some bytes → IfSome told P → P bytes
if_known P told bytes is known = subst (λ (o : Option (List ℕ)). IfSome o P) is known

-- what is read of either of the two files
module _ (end room : ℕ) (last file : List ℕ) (r : IsAtRest end room last file) (batches : List (List ℕ)) where
  old_file : (c : List ℕ) → c ≡ file → Either (recovered file) batches c
  old_file c is = inl (subst (λ (l : List ℕ). IsFileOf (recovered file) l) (sym is) (at_rest_file end room last file r))

  either : (next d c : List ℕ) → IsFileOf batches next → d ≡ file → Swapped next d c → Either (recovered file) batches c
  either next d c is_file is (inl was) = old_file c (was ∙ is)
  either next d c is_file is (inr now) = inr (subst (λ (l : List ℕ). IsFileOf batches l) (sym now) is_file)

module _ {D : Type 0} (moment : D → ℕ) (left_since : D → ℕ → List ℕ → Type 0) (may_leave : D → List ℕ → Type 0) where
  abbrev Passes : D → D → Type 0
  Passes old new = Elapses (moment old) (moment new) (left_since old) (left_since new) (may_leave new)

  -- a crash leaves no more than before
  abbrev NoMore : D → D → Type 0
  NoMore old new = (c : List ℕ) → may_leave new c → may_leave old c

  -- a zero was added, all of it synced, and then it takes the file's place
  pub moving : {next_of : D → Option (List ℕ)} {file : BatchFile D} {next : Next} {batches : List (List ℕ)} (a : AreNext next_of file next batches) (bytes : List ℕ) → IsAtRest file.end file.room file.last bytes
      → (first second new : D) (told : Option (List ℕ)) → told ≡ Some (shut a)
      → ((c : List ℕ) → left_since file.device (moment file.device) c → may_leave file.device c) → Only bytes (may_leave file.device)
      → NoMore file.device first → Passes file.device first → NoMore first second → Passes first second
      → IfSome told (λ b. ComesOfStep (Swapped b) (may_leave second) (may_leave new)) → Passes second new
      → LeavesOnly moment left_since file.device new (IsOldOrNew (recovered bytes) batches) × LeavesOnly moment left_since file.device new IsReadable
  moving {file = file} {batches = batches} a bytes r first second new told known only_now only fewer1 time1 fewer2 time2 crash time =
      let P = Either (recovered bytes) batches in
      let same : (c : List ℕ) → may_leave second c → c ≡ bytes = λ c left. only c (fewer1 c (fewer2 c left)) in
      let step = if_known (λ b. ComesOfStep (Swapped b) (may_leave second) (may_leave new)) told (shut a) known crash in
      let old = old_file file.end file.room file.last bytes r batches in
      let so_far : LeavesOnly moment left_since file.device file.device P = started (λ c left. old c (only c (only_now c left))) in
      let added : LeavesOnly moment left_since file.device first P = goes_on so_far time1 (λ c left. old c (only c (fewer1 c left))) in
      let synced : LeavesOnly moment left_since file.device second P = goes_on added time2 (λ c left. old c (same c left)) in
      let all : LeavesOnly moment left_since file.device new P =
      goes_on synced time (λ c left. let from = step c left in either file.end file.room file.last bytes r batches (shut a) from.0 c (next_file a) (same from.0 from.1) from.2) in
      (weaker all (stands_for (recovered bytes) batches), weaker all (is_readable (recovered bytes) batches))
