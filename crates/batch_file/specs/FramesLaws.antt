-- Laws of what a file stands for: a reader may skip the proofs.
use Rattle.std.proofs.Common.{◌≡◌, ◌≢◌, ◌⊎◌, inl, inr, ℕ, zero, suc, ◌+◌, ◌^◌, ◌<◌, ◌≤◌, List, [], ◌∷◌, ◌++◌, length, get_or, take, drop, refl, sym, ◌∙◌, ap, subst, arith, append_assoc, length-append, length-drop, length-take, take-append-drop}
use Rattle.std.proofs.lemmas.List.{take_at, drop_at, append-nil, append_cancel_left}
use Rattle.std.specs.Prelude.{Bool, true, false, ltb, ◌&&◌, if◌then◌else◌, bytes_eq, Option}
use Rattle.std.proofs.lemmas.Bool.{cases_Bool, and_parts, and_from, ltb-true, lt-ltb}
use Rattle.std.proofs.lemmas.Slice.Eq.{bytes_eq-Decides}
use Rattle.std.proofs.lemmas.Nat.{from_be_bytes-to_be_bytes_4}
use Rattle.sha2.specs.Sha256.{sha256}
use Rattle.sha2.proofs.Facts256.{length-sha256}
use Rattle.batch_file.specs.declared.appending.BatchFile.{BatchFile}
use Rattle.batch_file.specs.declared.next.Next.{Next}
use Rattle.batch_file.specs.declared.framing.ReadFault.{ReadFault}
use Rattle.batch_file.specs.declared.framing.ReadFault.TheVariants.{Memory, NotState, Version, Damaged, Unread}
use Rattle.batch_file.specs.Frames.{last_of, header, body, seal, digest, sealed, size_at, first_at, is_frame, batches_in, recovered, frames_size, IsFrame, AreFrames, IsTorn, Spells, IsFileOf, IsReadable, IsVersion, IsNoFrame, IsRightFront, IsDamaged, RefusesFile, AreNext}

pub length-seal : (bytes : List ℕ) → length (seal bytes) ≡ 16
unfolding seal
length-seal bytes = omega (arith, length-take 16 (sha256 bytes), length-sha256 bytes)

pub length-sealed : (before batch : List ℕ) → length (sealed before batch) ≡ 20 + length batch
length-sealed before batch = omega (arith, length-append (digest before batch) batch, length-seal (before ++ body batch))

-- WHAT IS READ

-- the batch of a frame is told by the bytes there, and so is what stands behind it
pub parts : (before batch rest bytes : List ℕ) → IsFrame before batch rest bytes → (first_at bytes ≡ batch) × (drop (21 + length batch) bytes ≡ rest)
parts before batch rest bytes f =
    let says : size_at (drop 1 bytes) ≡ length batch = ap (λ (l : List ℕ). size_at (drop 1 l)) f.is ∙ from_be_bytes-to_be_bytes_4 (length batch) f.short in
    let behind : drop 21 bytes ≡ batch ++ rest =
    ap (drop 21) f.is ∙ ap (drop 16) (append_assoc (digest before batch) batch rest) ∙ drop_at (digest before batch) (batch ++ rest) 16 (length-seal _) in (
      ap (λ (k : ℕ). take k (drop 21 bytes)) says ∙ ap (λ (l : List ℕ). take (length batch) l) behind ∙ take_at batch rest (length batch) refl,
      ap (λ (l : List ℕ). drop (21 + length batch) l) f.is ∙ drop_at (255 ∷ sealed before batch) rest (21 + length batch) (omega (arith, length-sealed before batch)),
    )

pub frame_told : (before bytes : List ℕ) → is_frame before bytes ≡ true → IsFrame before (first_at bytes) (drop (21 + length (first_at bytes)) bytes) bytes
unfolding is_frame
frame_told before bytes holds =
    let batch = first_at bytes in
    let both = and_parts (ltb (length batch) (2 ^ 32)) (bytes_eq (take (21 + length batch) bytes) (255 ∷ sealed before batch)) holds in
    record {
      short = ltb-true (length batch) (2 ^ 32) both.0;
      is =
          sym (take-append-drop (21 + length batch) bytes)
          ∙ ap (λ (l : List ℕ). l ++ drop (21 + length batch) bytes) ((bytes_eq-Decides (take (21 + length batch) bytes) (255 ∷ sealed before batch)).0 both.1);
    }

pub tells_frame : (before batch rest bytes : List ℕ) → IsFrame before batch rest bytes → is_frame before bytes ≡ true
unfolding is_frame
tells_frame before batch rest bytes f =
    let front : take (21 + length batch) bytes ≡ 255 ∷ sealed before batch =
    ap (λ (l : List ℕ). take (21 + length batch) l) f.is ∙ take_at (255 ∷ sealed before batch) rest (21 + length batch) (omega (arith, length-sealed before batch)) in
    let so : (ltb (length batch) (2 ^ 32) && bytes_eq (take (21 + length batch) bytes) (255 ∷ sealed before batch)) ≡ true =
    and_from _ _ (lt-ltb (length batch) (2 ^ 32) f.short) ((bytes_eq-Decides (take (21 + length batch) bytes) (255 ∷ sealed before batch)).1 front) in
    subst (λ (l : List ℕ). (ltb (length l) (2 ^ 32) && bytes_eq (take (21 + length l) bytes) (255 ∷ sealed before l)) ≡ true) (sym (parts before batch rest bytes f).0) so

-- bytes either begin with a frame or don't
pub frame_or_none : (before bytes : List ℕ) → IsFrame before (first_at bytes) (drop (21 + length (first_at bytes)) bytes) bytes ⊎ IsNoFrame before bytes
frame_or_none before bytes =
    elim (cases_Bool (is_frame before bytes)) [
      | inl holds ↦ inl (frame_told before bytes holds)
      | inr fails ↦ inr (λ batch rest f. let holds = tells_frame before batch rest bytes f in absurd (cc))
    ]

-- two frames at the front of the same bytes are one
pub two_frames : (before batch other rest more bytes : List ℕ) → IsFrame before batch rest bytes → IsFrame before other more bytes → (batch ≡ other) × (rest ≡ more)
two_frames before batch other rest more bytes f g =
    let a = parts before batch rest bytes f in
    let b = parts before other more bytes g in
    let same : batch ≡ other = sym a.0 ∙ b.0 in
    (same, sym a.1 ∙ ap (λ (l : List ℕ). drop (21 + length l) bytes) same ∙ b.1)

pub further : (before batch rest bytes more : List ℕ) → IsFrame before batch rest bytes → IsFrame before batch (rest ++ more) (bytes ++ more)
further before batch rest bytes more f = record {
  short = f.short;
  is = ap (λ (l : List ℕ). l ++ more) f.is ∙ append_assoc (255 ∷ sealed before batch) rest more;
}

-- the frames of these batches, and behind them others
pub AreFrames-append : (xs ys : List (List ℕ)) (before mid last frames more : List ℕ) → AreFrames before xs mid frames → AreFrames mid ys last more → AreFrames before (xs ++ ys) last (frames ++ more)
AreFrames-append [] ys before mid last frames more are behind =
    subst (λ (l : List ℕ). AreFrames before ys last (l ++ more)) (sym are.1) (subst (λ (l : List ℕ). AreFrames l ys last more) are.0 behind)
AreFrames-append (x ∷ xs) ys before mid last frames more are behind =
    (are.0 ++ more, further before x are.0 frames more are.1, AreFrames-append xs ys (digest before x) mid last are.0 more are.2 behind)

pub length-frames : (batches : List (List ℕ)) (before last frames : List ℕ) → AreFrames before batches last frames → length frames ≡ frames_size batches
length-frames [] before last frames are = ap length are.1
length-frames (batch ∷ later) before last frames are =
    let f = are.1 in
    omega (arith, ap length f.is, length-append (sealed before batch) are.0, length-sealed before batch, length-frames later (digest before batch) last are.0 are.2)

pub frames_size-append : (xs ys : List (List ℕ)) → frames_size (xs ++ ys) ≡ frames_size xs + frames_size ys
frames_size-append [] ys = omega arith
frames_size-append (x ∷ xs) ys = omega (arith, frames_size-append xs ys)

-- behind right frames no other ones begin, where no frame stands behind them
none_begin : (batch : List ℕ) (later : List (List ℕ)) (before last other frames more rest : List ℕ)
    → AreFrames before (batch ∷ later) other frames → rest ≡ frames ++ more → last ≡ before → IsNoFrame last rest → ⊥
none_begin batch later before last other frames more rest are is same no_frame =
    let f : IsFrame before batch (are.0 ++ more) rest = subst (λ (l : List ℕ). IsFrame before batch (are.0 ++ more) l) (sym is) (further before batch are.0 frames more are.1) in
    no_frame batch (are.0 ++ more) (subst (λ (l : List ℕ). IsFrame l batch (are.0 ++ more) rest) (sym same) f)

-- all right frames at the front of the same bytes are of the same batches
one_run : (xs ys : List (List ℕ)) (before last other frames found rest more : List ℕ)
    → AreFrames before xs last frames → AreFrames before ys other found → frames ++ rest ≡ found ++ more
    → IsNoFrame last rest → IsNoFrame other more → (xs ≡ ys) × (last ≡ other) × (rest ≡ more)
one_run [] [] before last other frames found rest more are had same no_frame none =
    (refl, are.0 ∙ sym had.0, ap (λ (l : List ℕ). l ++ rest) (sym are.1) ∙ same ∙ ap (λ (l : List ℕ). l ++ more) had.1)
one_run [] (y ∷ ys) before last other frames found rest more are had same no_frame none =
    absurd (none_begin y ys before last other found more rest had (ap (λ (l : List ℕ). l ++ rest) (sym are.1) ∙ same) are.0 no_frame)
one_run (x ∷ xs) [] before last other frames found rest more are had same no_frame none =
    absurd (none_begin x xs before other last frames rest more are (ap (λ (l : List ℕ). l ++ more) (sym had.1) ∙ sym same) had.0 none)
one_run (x ∷ xs) (y ∷ ys) before last other frames found rest more are had same no_frame none =
    let f = further before x are.0 frames rest are.1 in
    let g = further before y had.0 found more had.1 in
    let two = two_frames before x y (are.0 ++ rest) (had.0 ++ more) (frames ++ rest) f (subst (λ (l : List ℕ). IsFrame before y (had.0 ++ more) l) (sym same) g) in
    let moved : AreFrames (digest before x) ys other had.0 = subst (λ (l : List ℕ). AreFrames (digest before l) ys other had.0) (sym two.0) had.2 in
    let one = one_run xs ys (digest before x) last other are.0 had.0 rest more are.2 moved two.1 no_frame none in
    (ap (λ (l : List ℕ). l ∷ xs) two.0 ∙ ap (λ (l : List (List ℕ)). y ∷ l) one.0, one.1, one.2)

-- a file has one right front
pub one_front : (xs ys : List (List ℕ)) (file : List ℕ) (a : IsRightFront xs file) (b : IsRightFront ys file) → (xs ≡ ys) × (a.last ≡ b.last) × (a.rest ≡ b.rest)
one_front xs ys file a b =
    one_run xs ys header a.last b.last a.frames b.frames a.rest b.rest a.are b.are (append_cancel_left header (a.frames ++ a.rest) (b.frames ++ b.rest) (sym a.is ∙ b.is)) a.no_frame b.no_frame

-- WHICH BATCHES A FILE STANDS FOR

-- bytes are the frames of these batches, and then no frame
pub record Runs (before : List ℕ) (batches : List (List ℕ)) (bytes : List ℕ) : Type 0 where
  pub last : List ℕ
  pub frames : List ℕ
  pub rest : List ℕ
  pub is : bytes ≡ frames ++ rest
  pub are : AreFrames before batches last frames
  pub no_frame : IsNoFrame last rest

pub no_frame_in : (before bytes : List ℕ) → length bytes ≤ 20 → IsNoFrame before bytes
no_frame_in before bytes short = λ batch more f. absurd (omega (arith, ap length f.is, length-append (sealed before batch) more, length-sealed before batch))

pub runs : (n : ℕ) (before bytes : List ℕ) → length bytes ≤ n → Runs before (batches_in n before bytes) bytes
unfolding batches_in
runs zero before bytes le = record { last = before; frames = []; rest = bytes; is = refl; are = (refl, refl); no_frame = no_frame_in before bytes (omega arith) }
runs (suc n) before bytes le =
    let batch = first_at bytes in
    let behind = drop (21 + length batch) bytes in
    elim (cases_Bool (is_frame before bytes)) [
      | inl holds ↦
          let f = frame_told before bytes holds in
          let later = runs n (digest before batch) behind (omega (arith, length-drop (21 + length batch) bytes)) in
          subst (λ (b : Bool). Runs before (if b then batch ∷ batches_in n (digest before batch) behind else []) bytes) (sym holds) (record {
            last = later.last;
            frames = 255 ∷ sealed before batch ++ later.frames;
            rest = later.rest;
            is = f.is ∙ ap (λ (l : List ℕ). 255 ∷ sealed before batch ++ l) later.is ∙ sym (append_assoc (255 ∷ sealed before batch) later.frames later.rest);
            are = (later.frames, record { short = f.short; is = refl }, later.are);
            no_frame = later.no_frame;
          })
      | inr fails ↦
          subst (λ (b : Bool). Runs before (if b then batch ∷ batches_in n (digest before batch) behind else []) bytes) (sym fails) (record {
            last = before;
            frames = [];
            rest = bytes;
            is = refl;
            are = (refl, refl);
            no_frame = λ other more f. let holds = tells_frame before other more bytes f in absurd (cc);
          })
    ]

-- the batches from here on
abbrev pub parsed : List ℕ → List ℕ → List (List ℕ)
parsed before bytes = batches_in (length bytes) before bytes

-- the right front of a file has the batches that it stands for
pub right_front : (file rest : List ℕ) → file ≡ header ++ rest → IsRightFront (recovered file) file
unfolding recovered
right_front file rest is =
    let r = runs (length file) header (drop 16 file) (omega (arith, length-drop 16 file)) in
    record {
      last = r.last;
      frames = r.frames;
      rest = r.rest;
      is = is ∙ ap (λ (l : List ℕ). header ++ l) (sym (ap (λ (l : List ℕ). drop 16 l) is) ∙ r.is);
      are = r.are;
      no_frame = r.no_frame;
    }

-- frames stand for their batches, where no frame stands behind them
pub framed_is : (batches : List (List ℕ)) (last frames rest file : List ℕ) → AreFrames header batches last frames → file ≡ header ++ (frames ++ rest) → IsNoFrame last rest → recovered file ≡ batches
framed_is batches last frames rest file are is none =
    (one_front (recovered file) batches file (right_front file (frames ++ rest) is) (record { last = last; frames = frames; rest = rest; is = is; are = are; no_frame = none })).0

-- and else for those that follow, too
pub framed_more : (batches : List (List ℕ)) (last frames more file : List ℕ) → AreFrames header batches last frames → file ≡ header ++ (frames ++ more) → recovered file ≡ batches ++ parsed last more
framed_more batches last frames more file are is =
    let r = runs (length more) last more (omega arith) in
    framed_is (batches ++ parsed last more) r.last (frames ++ r.frames) r.rest file (AreFrames-append batches (parsed last more) header last r.last frames r.frames are r.are)
    (is ∙ ap (λ (l : List ℕ). header ++ (frames ++ l)) r.is ∙ ap (λ (l : List ℕ). header ++ l) (sym (append_assoc frames r.frames r.rest))) r.no_frame

-- a file that is read as batches stands for these, and for no other
pub file_is : (batches : List (List ℕ)) (file : List ℕ) → IsFileOf batches file → recovered file ≡ batches
file_is batches file some = framed_is batches some.0 some.1.frames some.1.rest file some.1.are some.1.is some.1.ends.no_frame

pub readable_is : (batches : List (List ℕ)) (file : List ℕ) → IsFileOf batches file → IsReadable file
readable_is batches file is = subst (λ (bs : List (List ℕ)). IsFileOf bs file) (sym (file_is batches file is)) is

-- the frames before one
pub frames_before : (xs ys : List (List ℕ)) (before last frames : List ℕ) → AreFrames before (xs ++ ys) last frames → (mid : List ℕ) × (front : List ℕ) × AreFrames before xs mid front
frames_before [] ys before last frames are = (before, [], (refl, refl))
frames_before (x ∷ xs) ys before last frames are =
    let later = frames_before xs ys (digest before x) last are.0 are.2 in
    (later.0, 255 ∷ sealed before x ++ later.1, (later.1, record { short = are.1.short; is = refl }, later.2))

-- frames alone stand for their batches
pub alone : (last frames : List ℕ) (batches : List (List ℕ)) → AreFrames header batches last frames → recovered (header ++ frames) ≡ batches
alone last frames batches are =
    let whole : header ++ frames ≡ header ++ (frames ++ []) = ap (λ (l : List ℕ). header ++ l) (sym (append-nil frames)) in
    framed_is batches last frames [] (header ++ frames) are whole (no_frame_in last [] (omega arith))

-- the batches before the last one of a file are those of some file
pub front_file : (file batch : List ℕ) (xs : List (List ℕ)) → recovered file ≡ xs ++ batch ∷ [] → (front : List ℕ) × (recovered front ≡ xs)
unfolding recovered
front_file file batch xs is =
    let r = runs (length file) header (drop 16 file) (omega (arith, length-drop 16 file)) in
    let some = frames_before xs (batch ∷ []) header r.last r.frames (subst (λ (bs : List (List ℕ)). AreFrames header bs r.last r.frames) is r.are) in
    (header ++ some.1, alone some.0 some.1 xs some.2)

-- WHAT IS REFUSED

-- the right front of a file that is read has all of its batches
abbrev pub front_of_file : (batches : List (List ℕ)) (file : List ℕ) → IsFileOf batches file → IsRightFront batches file
front_of_file batches file some =
    let s = some.1 in
    record { last = some.0; frames = s.frames; rest = s.rest; is = s.is; are = s.are; no_frame = s.ends.no_frame }

-- a damaged file spells nothing
pub damaged_is_none : (number : ℕ) (file : List ℕ) (batches : List (List ℕ)) → IsDamaged number file → IsFileOf batches file → ⊥
damaged_is_none number file batches d some =
    let s = some.1 in
    let one = one_front d.batches batches file d.front (front_of_file batches file some) in
    d.no_end (subst (λ (l : List ℕ). IsTorn l d.front.rest) (sym one.1) (subst (λ (l : List ℕ). IsTorn some.0 l) (sym one.2) s.ends))

-- a file that begins with the header is of this version, and of no other
other_version : (version : ℕ) (rest file : List ℕ) → file ≡ header ++ rest → IsVersion version file → version ≡ 3
other_version version rest file is (inl told) =
    let digit : 48 + version ≡ 51 = ap (λ (l : List ℕ). get_or l 14 0) (sym told.1 ∙ ap (λ (l : List ℕ). take 16 l) is) in
    omega (arith, digit)
other_version version rest file is (inr first) =
    let latch : 1 ≡ 111 = ap (λ (l : List ℕ). get_or l 0 0) (sym first.1.1 ∙ is) in
    absurd (omega (arith, latch))

-- so a file that is read is never refused
pub readable_is_kept : (file : List ℕ) (fault : ReadFault) → IsReadable file → RefusesFile file fault → ⊥
readable_is_kept file Memory readable refused = refused
readable_is_kept file NotState readable refused = refused 3 (inl (omega arith, ap (λ (l : List ℕ). take 16 l) readable.1.is))
readable_is_kept file (Version version) readable refused = refused.1 (other_version version _ file readable.1.is refused.0)
readable_is_kept file (Damaged number) readable refused = damaged_is_none number file (recovered file) refused readable
readable_is_kept file (Unread reason) readable refused = refused

-- WHAT A DIGEST VOUCHES FOR

-- two inputs of SHA-256 have one digest, as far as its first 16 bytes go
pub record Collision : Type 0 where
  pub one : List ℕ
  pub other : List ℕ
  pub differ : one ≢ other
  pub meet : seal one ≡ seal other

pub same_list : (a b : List ℕ) → (a ≡ b) ⊎ (a ≢ b)
same_list a b =
    let told = bytes_eq-Decides a b in
    elim (cases_Bool (bytes_eq a b)) [
      | inl is ↦ inl (told.0 is)
      | inr not ↦ inr (λ is. let same = told.1 is in absurd cc)
    ]

-- where the digest of a frame stands
pub digest_is : (before batch rest bytes : List ℕ) → IsFrame before batch rest bytes → take 16 (drop 5 bytes) ≡ digest before batch
digest_is before batch rest bytes f =
    ap (λ (l : List ℕ). take 16 (drop 5 l)) f.is
    ∙ ap (λ (l : List ℕ). take 16 l) (append_assoc (digest before batch) batch rest)
    ∙ take_at (digest before batch) (batch ++ rest) 16 (length-seal _)

-- Two frames behind the same digest that have one digest are of the same batch.
pub digest_vouches : (before batch other rest more bytes changed : List ℕ) → IsFrame before batch rest bytes → IsFrame before other more changed → take 16 (drop 5 bytes) ≡ take 16 (drop 5 changed) → (batch ≡ other) ⊎ Collision
digest_vouches before batch other rest more bytes changed f g same =
    elim (same_list (before ++ body batch) (before ++ body other)) [
      | inr differ ↦ inr (record { one = before ++ body batch; other = before ++ body other; differ = differ; meet = sym (digest_is before batch rest bytes f) ∙ same ∙ digest_is before other more changed g })
      | inl input ↦ inl (ap (λ (l : List ℕ). drop 4 l) (append_cancel_left before (body batch) (body other) input))
    ]

-- two chains of as many frames that end in one digest are of the same batches
same_chain : (xs ys : List (List ℕ)) (before other last frames found : List ℕ) → length before ≡ 16 → length other ≡ 16 → length xs ≡ length ys
    → AreFrames before xs last frames → AreFrames other ys last found → ((before ≡ other) × (xs ≡ ys)) ⊎ Collision
same_chain [] [] before other last frames found p q long are had = inl (sym are.0 ∙ had.0, refl)
same_chain [] (y ∷ ys) before other last frames found p q long are had = absurd (omega arith)
same_chain (x ∷ xs) [] before other last frames found p q long are had = absurd (omega arith)
same_chain (x ∷ xs) (y ∷ ys) before other last frames found p q long are had =
    elim (same_chain xs ys (digest before x) (digest other y) last are.0 had.0 (length-seal _) (length-seal _) (omega arith) are.2 had.2) [
      | inr collision ↦ inr collision
      | inl same ↦
          elim (same_list (before ++ body x) (other ++ body y)) [
            | inr differ ↦ inr (record { one = before ++ body x; other = other ++ body y; differ = differ; meet = same.0 })
            | inl input ↦
                let front : before ≡ other = sym (take_at before (body x) 16 p) ∙ ap (λ (l : List ℕ). take 16 l) input ∙ take_at other (body y) 16 q in
                let back : body x ≡ body y = sym (drop_at before (body x) 16 p) ∙ ap (λ (l : List ℕ). drop 16 l) input ∙ drop_at other (body y) 16 q in
                let batch : x ≡ y = ap (λ (l : List ℕ). drop 4 l) back in
                inl (front, ap (λ (b : List ℕ). b ∷ xs) batch ∙ ap (λ (l : List (List ℕ)). y ∷ l) same.1)
          ]
    ]

-- Two files that are read as the same number of batches, the last of which have one digest, are read as the same batches.
pub last_digest_vouches : (xs ys : List (List ℕ)) (last file other : List ℕ) → Spells xs last file → Spells ys last other → length xs ≡ length ys → (xs ≡ ys) ⊎ Collision
last_digest_vouches xs ys last file other a b long =
    elim (same_chain xs ys header header last a.frames b.frames refl refl long a.are b.are) [
      | inl same ↦ inl same.1
      | inr collision ↦ inr collision
    ]

-- THE NEXT FILE

-- what is done to the file itself leaves it as it was
pub next_stays : {D : Type 0} (next_of : D → Option (List ℕ)) (old new : BatchFile D) (next : Next) (batches : List (List ℕ))
    → next_of new.device ≡ next_of old.device → AreNext next_of old next batches → AreNext next_of new next batches
next_stays next_of old new next batches same was = record { frames = was.frames; is = same ∙ was.is; are = was.are; end = was.end }

-- the digest of the last frame is that of the last batch
pub last_is : (before : List ℕ) (batches : List (List ℕ)) (last bytes : List ℕ) → AreFrames before batches last bytes → last ≡ last_of before batches
last_is before [] last bytes are = are.0
last_is before (batch ∷ later) last bytes are = last_is (digest before batch) later last are.0 are.2
