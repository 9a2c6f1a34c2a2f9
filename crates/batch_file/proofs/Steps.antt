-- The steps of the calls of a file of batches, from one content of the file to the next.
use Rattle.std.proofs.Common.{◌≡◌, ◌⊎◌, inl, inr, ⊎_elim, ℕ, ◌+◌, ◌-◌, ◌^◌, ◌<◌, ◌≤◌, List, [], ◌∷◌, ◌++◌, length, sym, ◌∙◌, ap, subst, arith}
use Rattle.batch_file.specs.declared.appending.BatchFile.{BatchFile}
use Rattle.batch_file.specs.Crashes.{ComesOfStep, Elapses, IsWrittenAt, LeavesOnly, Only, Swapped}
use Rattle.batch_file.specs.Frames.{digest, sealed, recovered, IsFileOf, IsReadable, IsAtRest, IsOnDisk, IsWhole, IsAsBefore, IsBeforeOrAfter, IsOldOrNew}
use Rattle.batch_file.specs.FramesLaws.{length-sealed, file_is, readable_is}
use Rattle.batch_file.specs.CrashesLaws.{started, goes_on, then, weaker}
use Rattle.batch_file.specs.Tears.{Torn}
use Rattle.batch_file.proofs.Wholes.{length-at_rest}
use Rattle.batch_file.proofs.Tearing.{appended, at_rest_file, length-frame, torn_is, torn_none}

-- it is a file of these batches, or of those
abbrev pub Either : List (List ℕ) → List (List ℕ) → List ℕ → Type 0
Either old new c = IsFileOf old c ⊎ IsFileOf new c

pub stands_for : (old new : List (List ℕ)) (c : List ℕ) → Either old new c → IsOldOrNew old new c
stands_for old new c (inl a) = inl (file_is old c a)
stands_for old new c (inr b) = inr (file_is new c b)

pub is_readable : (old new : List (List ℕ)) (c : List ℕ) → Either old new c → IsReadable c
is_readable old new c (inl a) = readable_is old c a
is_readable old new c (inr b) = readable_is new c b

-- AN APPEND

-- the file was perhaps made longer, and then a frame was written behind the others
pub appending : {D : Type 0} {moment : D → ℕ} {left_since : D → ℕ → List ℕ → Type 0} {old mid new : D} (end room : ℕ) (last file batch frame : List ℕ) (batches : List (List ℕ)) → IsAtRest end room last file → length batch < 2 ^ 32
    → frame ≡ 255 ∷ sealed last batch → length frame + 16 ≤ room → recovered file ≡ batches → LeavesOnly moment left_since old mid (IsFileOf batches) → LeavesOnly moment left_since mid new (Torn end frame file)
    → LeavesOnly moment left_since old new (Either batches (batches ++ batch ∷ []))
appending end room last file batch frame batches r short is wide stands first second =
    then first second (λ c was. inl was)
    (λ c torn. subst (λ (bs : List (List ℕ)). Either bs (bs ++ batch ∷ []) c) stands (torn_is end room last file r batch short (omega (arith, ap length is, length-sealed last batch)) frame is wide c torn))

-- it stands there
pub added_frame : (end room : ℕ) (last file batch frame made c : List ℕ) (n : ℕ) → IsAtRest end room last file → length batch < 2 ^ 32 → frame ≡ 255 ∷ sealed last batch → length frame + 16 ≤ room → n ≡ length frame
    → made ≡ digest last batch → IsWrittenAt file end frame c → IsAtRest (end + n) (room - n) made c × (recovered c ≡ recovered file ++ batch ∷ [])
added_frame end room last file batch frame made c n r short is wide n_is made_is written =
    let fits : 21 + length batch ≤ room = omega (arith, ap length is, length-sealed last batch) in
    let one = appended end room last file r batch short fits frame is wide c written in
    let long : n ≡ 21 + length batch = n_is ∙ length-frame end room last file r batch short fits frame is wide in (
      subst (λ (k : ℕ). IsAtRest (end + k) (room - k) made c) (sym long) (subst (λ (l : List ℕ). IsAtRest (end + (21 + length batch)) (room - (21 + length batch)) l c) (sym made_is) one.0),
      one.1,
    )

-- so much for a crash meanwhile
pub both_ways : {D : Type 0} {moment : D → ℕ} {left_since : D → ℕ → List ℕ → Type 0} {old new : D} (batches : List (List ℕ)) (batch : List ℕ) → LeavesOnly moment left_since old new (Either batches (batches ++ batch ∷ []))
    → LeavesOnly moment left_since old new (IsBeforeOrAfter batches batch) × LeavesOnly moment left_since old new IsReadable
both_ways batches batch leaves = (weaker leaves (stands_for batches (batches ++ batch ∷ [])), weaker leaves (is_readable batches (batches ++ batch ∷ [])))

pub as_before : {D : Type 0} {moment : D → ℕ} {left_since : D → ℕ → List ℕ → Type 0} {old new : D} (batches : List (List ℕ)) (batch : List ℕ) → LeavesOnly moment left_since old new (IsFileOf batches)
    → LeavesOnly moment left_since old new (IsBeforeOrAfter batches batch) × LeavesOnly moment left_since old new IsReadable
as_before batches batch leaves = (weaker leaves (λ c was. inl (file_is batches c was)), weaker leaves (λ c was. readable_is batches c was))

-- the file is as it was
pub as_it_was : (end room : ℕ) (last file : List ℕ) → IsAtRest end room last file → (c : List ℕ) → c ≡ file → IsFileOf (recovered file) c
as_it_was end room last file r c is = subst (λ (l : List ℕ). IsFileOf (recovered file) l) (sym is) (at_rest_file end room last file r)

-- nothing was done
pub unmoved : {D : Type 0} {moment : D → ℕ} {left_since : D → ℕ → List ℕ → Type 0} (may_leave : D → List ℕ → Type 0) {old : D} (end room : ℕ) (last file : List ℕ) → IsAtRest end room last file
    → ((c : List ℕ) → left_since old (moment old) c → may_leave old c) → Only file (may_leave old) → LeavesOnly moment left_since old old (IsFileOf (recovered file))
unmoved may_leave end room last file r only_now only = started (λ c left. as_it_was end room last file r c (only c (only_now c left)))

-- ONE CALL, AND A SYNC

module _ {D : Type 0} (moment : D → ℕ) (left_since : D → ℕ → List ℕ → Type 0) (may_leave : D → List ℕ → Type 0) (file : List ℕ) (P : List ℕ → Type 0) (step : List ℕ → List ℕ → Type 0) where
  -- a call on a file that is on the disk, by which a crash leaves what has P
  pub called : (old mid : D) → ((c : List ℕ) → c ≡ file → P c) → ((c : List ℕ) → step file c → P c) → ((c : List ℕ) → left_since old (moment old) c → may_leave old c) → Only file (may_leave old)
      → ComesOfStep step (may_leave old) (may_leave mid) → Elapses (moment old) (moment mid) (left_since old) (left_since mid) (may_leave mid)
      → LeavesOnly moment left_since old mid P × ((c : List ℕ) → may_leave mid c → P c)
  called old mid was now only_now only crash time =
      let leaves : (c : List ℕ) → may_leave mid c → P c = λ c left.
      let from = crash c left in
      now c (subst (λ (f : List ℕ). step f c) (only from.0 from.1) from.2) in
      (goes_on (started (λ c left. was c (only c (only_now c left)))) time leaves, leaves)

  -- and then it is synced
  pub synced : (old mid new : D) → LeavesOnly moment left_since old mid P × ((c : List ℕ) → may_leave mid c → P c) → ((c : List ℕ) → may_leave new c → may_leave mid c)
      → Elapses (moment mid) (moment new) (left_since mid) (left_since new) (may_leave new) → LeavesOnly moment left_since old new P
  synced old mid new so_far fewer time = goes_on so_far.0 time (λ c left. so_far.1 c (fewer c left))

pub not_torn : (at : ℕ) (bytes file c : List ℕ) → c ≡ file → Torn at bytes file c
not_torn at bytes file c is = subst (λ (l : List ℕ). Torn at bytes file l) (sym is) (torn_none at bytes file)

-- A REPLACEMENT

pub whole_file : (last next : List ℕ) (batches : List (List ℕ)) → IsWhole last next → recovered next ≡ batches → IsFileOf batches next
whole_file last next batches w is = subst (λ (bs : List (List ℕ)). IsFileOf bs next) is (at_rest_file w.0 1 last next w.1)

-- it stands on the disk
pub stands_whole : {D : Type 0} (seen : D → List ℕ) (may_leave : D → List ℕ → Type 0) (faults : D → ℕ) (file : BatchFile D) (last bytes : List ℕ) → IsWhole last bytes → file.end + 1 ≡ length bytes → file.room ≡ 1 → file.last ≡ last
    → seen file.device ≡ bytes → Only bytes (may_leave file.device) → faults file.device ≡ 0 → IsOnDisk seen may_leave faults file
stands_whole seen may_leave faults file last bytes w long room_is last_is seen_is only faultless =
    let end_is : w.0 ≡ file.end = omega (arith, long, length-at_rest w.0 1 last bytes w.1) in
    record {
      at_rest = subst (λ (l : List ℕ). IsAtRest file.end file.room file.last l) (sym seen_is) (subst (λ (l : List ℕ). IsAtRest file.end file.room l bytes) (sym last_is)
          (subst (λ (k : ℕ). IsAtRest file.end k last bytes) (sym room_is) (subst (λ (k : ℕ). IsAtRest k 1 last bytes) end_is w.1)));
      durable = λ left may. only left may ∙ sym seen_is;
      faultless = faultless;
    }

module _ {D : Type 0} (moment : D → ℕ) (left_since : D → ℕ → List ℕ → Type 0) (may_leave : D → List ℕ → Type 0) (last file next : List ℕ) (batches : List (List ℕ)) (w : IsWhole last file) (stands : recovered file ≡ batches) (is : next ≡ file) where
  -- another file is being put in the place of what a device has
  pub placing : (old new : D) → ((c : List ℕ) → left_since old (moment old) c → may_leave old c) → ComesOfStep (Swapped next) (may_leave old) (may_leave new)
      → Elapses (moment old) (moment new) (left_since old) (left_since new) (may_leave new) → LeavesOnly moment left_since old new (IsAsBefore (may_leave old) batches)
  placing old new only_now crash time =
      let P = IsAsBefore (may_leave old) batches in
      goes_on (started {P = P} (λ c left. inl (only_now c left))) time
      (λ c left.
      let from = crash c left in
      ⊎_elim (λ was. inl (subst (λ (l : List ℕ). may_leave old l) (sym was) from.1))
      (λ now. inr (subst (λ (l : List ℕ). IsFileOf batches l) (sym (now ∙ is)) (whole_file last file batches w stands)))
      from.2)
