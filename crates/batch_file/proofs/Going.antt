-- Going over a file of which a piece is in memory.
use Rattle.std.proofs.Common.{◌≡◌, ◌≢◌, ◌⊎◌, inl, inr, ℕ, ◌+◌, ◌-◌, ◌≤◌, List, [], ◌∷◌, ◌++◌, length, get_or, take, drop, refl, sym, ◌∙◌, ap, subst, arith, append_assoc, length-append, length-take, take-append-drop}
use Rattle.std.proofs.lemmas.List.{take_at, drop_at, take-append-le, drop-drop, append-nil}
use Rattle.std.specs.Prelude.{Bool, IsTrue, IsFalse, Option, None, Some, IfNone, IfSome}
use Rattle.std.proofs.lemmas.Bool.{cases_lt}
use Rattle.std.specs.Int.{w32, from_be_bytes}
use Rattle.std.proofs.lemmas.Nat.{from_be_bytes-to_be_bytes_4}
use Rattle.batch_file.specs.declared.walk.Walk.{Walk}
use Rattle.batch_file.specs.Frames.{header, digest, sealed, size_at, recovered, without_zeros, frames_size, most_room, IsFrame, IsNoFrame, IsTorn, AreFrames, IsFileOf, IsDamaged, IsRightFront, IsVersion}
use Rattle.batch_file.specs.FramesLaws.{length-sealed, length-frames, file_is, readable_is}
use Rattle.batch_file.specs.Reads.{Begins, IsRead}
use Rattle.batch_file.specs.declared.reader.FrameReader.{FrameReader}
use Rattle.batch_file.specs.Readers.{ahead, HasRead, HasWalked}
use Rattle.batch_file.specs.ReadersParts.{IsEnd}
use Rattle.batch_file.proofs.Walking.{AreFrames-snoc}

-- one frame more
pub gone_over : (batches : List (List ℕ)) (told batch given : List ℕ) (old new : Walk) → HasWalked batches told old
    → IsFrame old.last batch (drop (21 + length batch) (ahead old)) (ahead old) → new.bytes.items ≡ old.bytes.items → new.at ≡ old.at + (21 + length batch)
    → new.end ≡ old.end + (21 + length batch) → new.number ≡ old.number + 1 → new.last ≡ digest old.last batch → given ≡ batch → HasWalked (batches ++ given ∷ []) told new
gone_over batches told batch given old new h f bytes_is at_is end_is number_is last_is same =
    let one = 255 ∷ sealed old.last batch in
    let behind : drop (21 + length batch) (ahead old) ≡ ahead new =
    drop-drop (21 + length batch) old.at old.bytes.items ∙ ap (λ (k : ℕ). drop k old.bytes.items) (sym at_is) ∙ ap (λ (l : List ℕ). drop new.at l) (sym bytes_is) in
    let tail : ahead old ≡ one ++ ahead new = f.is ∙ ap (λ (l : List ℕ). one ++ l) behind in
    subst (λ (l : List ℕ). HasWalked (batches ++ l ∷ []) told new) (sym same) (record {
      frames = h.frames ++ one;
      is = h.is ∙ ap (λ (l : List ℕ). header ++ (h.frames ++ l)) tail ∙ ap (λ (l : List ℕ). header ++ l) (sym (append_assoc h.frames one (ahead new)));
      are = subst (λ (l : List ℕ). AreFrames header (batches ++ batch ∷ []) l (h.frames ++ one)) (sym last_is) (AreFrames-snoc batches header old.last h.frames batch h.are f.short);
      end = omega (arith, end_is, h.end, length-append h.frames one, length-sealed old.last batch);
      number = omega (arith, number_is, h.number, length-append batches (batch ∷ []));
    })

-- more was read
pub walked_more : (batches : List (List ℕ)) (told piece : List ℕ) (old new : Walk) → ahead new ≡ ahead old ++ piece → new.last ≡ old.last → new.end ≡ old.end → new.number ≡ old.number
    → HasWalked batches told old → HasWalked batches (told ++ piece) new
walked_more batches told piece old new ahead_is last_is end_is number_is h = record {
  frames = h.frames;
  is =
      ap (λ (l : List ℕ). l ++ piece) h.is
      ∙ append_assoc header (h.frames ++ ahead old) piece
      ∙ ap (λ (l : List ℕ). header ++ l) (append_assoc h.frames (ahead old) piece)
      ∙ ap (λ (l : List ℕ). header ++ (h.frames ++ l)) (sym ahead_is);
  are = subst (λ (l : List ℕ). AreFrames header batches l h.frames) (sym last_is) h.are;
  end = end_is ∙ h.end;
  number = number_is ∙ h.number;
}

-- WHETHER A FRAME IS AHEAD

first_is : (bytes more : List ℕ) → 1 ≤ length bytes → get_or (bytes ++ more) 0 0 ≡ get_or bytes 0 0
first_is [] more some = absurd (omega arith)
first_is (a ∷ bytes) more some = refl

size_is : (bytes more : List ℕ) → 5 ≤ length bytes → size_at (drop 1 (bytes ++ more)) ≡ size_at (drop 1 bytes)
size_is (a ∷ bytes) more long = ap (from_be_bytes w32) (take-append-le 4 bytes more (omega arith))
size_is [] more long = absurd (omega arith)

pub mark_decides : (last bytes more : List ℕ) → 1 ≤ length bytes → get_or bytes 0 0 ≢ 255 → IsNoFrame last (bytes ++ more)
mark_decides last bytes more some other = λ batch rest f. other (sym (first_is bytes more some) ∙ ap (λ (l : List ℕ). get_or l 0 0) f.is)

pub length_decides : (last bytes more : List ℕ) → 21 ≤ length bytes → size_at (drop 1 bytes) ≤ length bytes - 21 → IsNoFrame last bytes → IsNoFrame last (bytes ++ more)
length_decides last bytes more long fits none = λ batch rest f.
    let one = 255 ∷ sealed last batch in
    let whole = bytes ++ more in
    let says : size_at (drop 1 whole) ≡ length batch = ap (λ (l : List ℕ). size_at (drop 1 l)) f.is ∙ from_be_bytes-to_be_bytes_4 (length batch) f.short in
    let short : 21 + length batch ≤ length bytes = omega (arith, says, size_is bytes more (omega arith)) in
    let size : length one ≡ 21 + length batch = omega (arith, length-sealed last batch) in
    let front : take (21 + length batch) bytes ≡ one =
    sym (take-append-le (21 + length batch) bytes more short) ∙ ap (λ (l : List ℕ). take (21 + length batch) l) f.is ∙ take_at one rest (21 + length batch) size in
    let back = drop (21 + length batch) bytes in
    none batch back (record { short = f.short; is = sym (take-append-drop (21 + length batch) bytes) ∙ ap (λ (l : List ℕ). l ++ back) front })

-- HOW A FILE BEGINS

pub all_there : (bytes : List ℕ) → Begins bytes [] (length bytes)
all_there bytes = record { size = ap length (append-nil bytes); short = λ short. refl }

-- of this version, before its first frame
pub third_version : (bytes : List ℕ) → IsVersion 3 bytes → (16 ≤ length bytes) × IsRead [] header 16 bytes
third_version bytes (inl is) =
    (omega (arith, ap length is.1, length-take 16 bytes), record { frames = []; is = sym (take-append-drop 16 bytes) ∙ ap (λ (l : List ℕ). l ++ drop 16 bytes) is.1; are = (refl, refl); ends = omega arith })
third_version bytes (inr is) = absurd (omega (arith, is.0))

-- one that begins as no file of batches does
module _ (told front more : List ℕ) (len : ℕ) (begins : Begins front more len) (is : told ≡ front ++ more) where
  pub no_version : ((version : ℕ) → IsVersion version (front ++ more) → ⊥) → (version : ℕ) → IsVersion version told → ⊥
  no_version none version v = none version (subst (λ (l : List ℕ). IsVersion version l) is v)

  pub other_version : ((rest : List ℕ) → front ≡ header ++ rest → ⊥) → (version : ℕ) → IsVersion version (front ++ more) → IsVersion version told × (version ≢ 3)
  other_version other version v = (subst (λ (l : List ℕ). IsVersion version l) (sym is) v, λ three. other (drop 16 front) (begins_so (third_version (front ++ more) (subst (λ (k : ℕ). IsVersion k (front ++ more)) three v))))
    where
      begins_so : (16 ≤ length (front ++ more)) × IsRead [] header 16 (front ++ more) → front ≡ header ++ drop 16 front
      begins_so read =
          let long : 16 ≤ length front =
          elim (cases_lt (length front) 16) [
            | inl short ↦ omega (arith, read.0, ap (λ (l : List ℕ). length (front ++ l)) (begins.short short), length-append front [])
            | inr enough ↦ enough
          ] in
          let r = read.1 in
          let start : take 16 (front ++ more) ≡ header = ap (λ (l : List ℕ). take 16 l) (r.is ∙ ap (λ (l : List ℕ). header ++ (l ++ drop 16 (front ++ more))) r.are.1) in
          sym (take-append-drop 16 front) ∙ ap (λ (l : List ℕ). l ++ drop 16 front) (sym (take-append-le 16 front more long) ∙ start)

-- all of a file that begins with these bytes was told, and has so many
pub record IsAll (told front : List ℕ) (len : ℕ) : Type 0 where
  pub more : List ℕ
  pub is : told ≡ front ++ more
  pub begins : Begins front more len

pub all_told : (told front : List ℕ) (size len : ℕ) → front ≡ told → len ≡ size → size ≡ length front → IsAll told front len
all_told told front size len is len_is size_is =
    subst (λ (k : ℕ). IsAll told front k) (sym (len_is ∙ size_is)) (record { more = []; is = sym (append-nil front ∙ is); begins = all_there front })

pub all_skipped : (before told rest front : List ℕ) (size all len : ℕ) → front ≡ before → told ≡ before ++ rest → all ≡ size + length rest → len ≡ all → size ≡ length front → 16 ≤ length front → IsAll told front len
all_skipped before told rest front size all len is told_is all_is len_is size_is long = record {
  more = rest;
  is = told_is ∙ ap (λ (l : List ℕ). l ++ rest) (sym is);
  begins = record { size = omega (arith, length-append front rest, all_is, len_is, size_is); short = λ short. absurd (omega (arith, short, long)) };
}

-- WHERE A FILE ENDS

pub nothing_more : (old new rest : List ℕ) (size : ℕ) → new ≡ old ++ rest → size ≡ 0 + length rest → size ≤ 0 → new ≡ old
nothing_more old new [] size is size_is none = is ∙ append-nil old
nothing_more old new (a ∷ rest) size is size_is none = absurd (omega (arith, size_is, none))

-- with no more than an append that was not finished behind the frames
pub ends_there : (batches : List (List ℕ)) (told torn : List ℕ) (walk : Walk) → HasWalked batches told walk → IsTorn walk.last (ahead walk) → torn ≡ without_zeros (ahead walk) → IsEnd told batches walk.end torn
ends_there batches told torn walk h ends torn_is =
    let file : IsFileOf batches told = (walk.last, record { frames = h.frames; rest = ahead walk; is = h.is; are = h.are; ends = ends }) in
    let are : recovered told ≡ batches = file_is batches told file in
    let size : length h.frames ≡ frames_size (recovered told) = length-frames batches header walk.last h.frames h.are ∙ ap frames_size (sym are) in
    let whole : told ≡ (header ++ h.frames) ++ ahead walk = h.is ∙ sym (append_assoc header h.frames (ahead walk)) in
    let there : drop (16 + frames_size (recovered told)) told ≡ ahead walk =
    ap (λ (l : List ℕ). drop (16 + frames_size (recovered told)) l) whole ∙ drop_at (header ++ h.frames) (ahead walk) (16 + frames_size (recovered told)) (omega (arith, size)) in
    record {
      are = are;
      readable = readable_is batches told file;
      torn_is = torn_is ∙ ap (λ (l : List ℕ). without_zeros l) (sym there);
      end_is = omega (arith, h.end, size);
    }

-- where it is no end, the file is damaged
pub is_damaged : (batches : List (List ℕ)) (told more : List ℕ) (walk : Walk) (number : ℕ) → HasWalked batches told walk → number ≡ walk.number → IsNoFrame walk.last (ahead walk ++ more) → (IsTorn walk.last (ahead walk ++ more) → ⊥)
    → IsDamaged number (told ++ more)
is_damaged batches told more walk number h number_is no_frame no_end =
    let front : IsRightFront batches (told ++ more) = record {
      last = walk.last;
      frames = h.frames;
      rest = ahead walk ++ more;
      is =
          ap (λ (l : List ℕ). l ++ more) h.is
          ∙ append_assoc header (h.frames ++ ahead walk) more
          ∙ ap (λ (l : List ℕ). header ++ l) (append_assoc h.frames (ahead walk) more);
      are = h.are;
      no_frame = no_frame;
    } in
    record { batches = batches; front = front; count = sym h.number ∙ sym number_is; no_end = no_end }

pub is_damaged_there : (batches : List (List ℕ)) (told : List ℕ) (walk : Walk) → HasWalked batches told walk → IsNoFrame walk.last (ahead walk ++ []) → (IsTorn walk.last (ahead walk) → ⊥) → IsDamaged walk.number told
is_damaged_there batches told walk h no_frame no_end =
    subst (λ (l : List ℕ). IsDamaged walk.number l) (append-nil told)
    (is_damaged batches told [] walk walk.number h refl no_frame (subst (λ (l : List ℕ). IsTorn walk.last l → ⊥) (sym (append-nil (ahead walk))) no_end))

-- so much is none
pub too_long : (last bytes more : List ℕ) → most_room + 1 ≤ length bytes → IsTorn last (bytes ++ more) → ⊥
too_long last bytes more long ends = absurd (omega (arith, length-append bytes more, ends.brief))

-- what is told of what is known
pub none_told : {A P : Type 0} (o : Option A) → o ≡ None → IfNone o P → P
none_told {P = P} o is = subst (λ o. IfNone o P) is

pub some_told : {A : Type 0} (P : A → Type 0) (o : Option A) (a : A) → o ≡ Some a → IfSome o P → P a
some_told P o a is = subst (λ o. IfSome o P) is

-- A READER

pub no_both : (b : Bool) → IsTrue b → IsFalse b → ⊥
no_both b on off = absurd cc

module _ {S : Type 0} (told : S → List ℕ) (is_over : S → Type 0) (batches : List (List ℕ)) where
  -- it has read more
  pub read_more : (piece : List ℕ) (old new : FrameReader S) → HasRead told is_over batches old → IsFalse old.over → HasWalked batches (told old.source ++ piece) new.walk → told new.source ≡ told old.source ++ piece
      → ahead new.walk ≡ ahead old.walk ++ piece → new.walk.last ≡ old.walk.last → new.spent ≡ old.spent → (IsTrue new.over → is_over new.source) → HasRead told is_over batches new
  read_more piece old new h more walked told_is ahead_is last_is spent_is over = record {
    walked = subst (λ (l : List ℕ). HasWalked batches l new.walk) (sym told_is) walked;
    over = over;
    spent = λ yes rest rest_is.
        let no_frame = h.spent (subst (λ (b : Bool). IsTrue b) spent_is yes) (piece ++ rest) (λ was. absurd (no_both old.over was more)) in
        subst (λ (l : List ℕ). IsNoFrame l (ahead new.walk ++ rest)) (sym last_is) (subst (λ (l : List ℕ). IsNoFrame old.walk.last l) (sym (append_assoc (ahead old.walk) piece rest) ∙ ap (λ (l : List ℕ). l ++ rest) (sym ahead_is)) no_frame);
  }

  -- there was no more to read
  pub read_over : (old new : FrameReader S) → HasRead told is_over batches old → told new.source ≡ told old.source → new.walk ≡ old.walk → new.over ≡ old.over → new.spent ≡ old.spent → is_over new.source
      → HasRead told is_over batches new
  read_over old new h told_is walk_is over_is spent_is over = record {
    walked = subst (λ (w : Walk). HasWalked batches (told new.source) w) (sym walk_is) (subst (λ (l : List ℕ). HasWalked batches l old.walk) (sym told_is) h.walked);
    over = λ yes. over;
    spent = λ yes rest rest_is.
        let no_frame = h.spent (subst (λ (b : Bool). IsTrue b) spent_is yes) rest (λ was. rest_is (subst (λ (b : Bool). IsTrue b) (sym over_is) was)) in
        subst (λ (w : Walk). IsNoFrame w.last (ahead w ++ rest)) (sym walk_is) no_frame;
  }

  -- it has given one batch more
  pub goes_further : (batch : List ℕ) (old new : FrameReader S) → HasRead told is_over batches old → HasWalked (batches ++ batch ∷ []) (told old.source) new.walk → new.source ≡ old.source → new.over ≡ old.over
      → IsFalse new.spent → HasRead told is_over (batches ++ batch ∷ []) new
  goes_further batch old new h walked source_is over_is more = record {
    walked = subst (λ (s : S). HasWalked (batches ++ batch ∷ []) (told s) new.walk) (sym source_is) walked;
    over = λ yes. subst is_over (sym source_is) (h.over (subst (λ (b : Bool). IsTrue b) over_is yes));
    spent = λ yes rest rest_is. absurd (no_both new.spent yes more);
  }

  -- there is no frame behind
  pub is_spent : (old new : FrameReader S) → HasRead told is_over batches old → new.source ≡ old.source → new.walk ≡ old.walk → new.over ≡ old.over
      → IsTrue old.over ⊎ ((last more : List ℕ) → IsNoFrame last (ahead old.walk) → IsNoFrame last (ahead old.walk ++ more)) → IsNoFrame old.walk.last (ahead old.walk) → HasRead told is_over batches new
  is_spent old new h source_is walk_is over_is decided none = record {
    walked = subst (λ (w : Walk). HasWalked batches (told new.source) w) (sym walk_is) (subst (λ (s : S). HasWalked batches (told s) old.walk) (sym source_is) h.walked);
    over = λ yes. subst is_over (sym source_is) (h.over (subst (λ (b : Bool). IsTrue b) over_is yes));
    spent = λ yes rest rest_is. subst (λ (w : Walk). IsNoFrame w.last (ahead w ++ rest)) (sym walk_is) (behind rest (λ was. rest_is (subst (λ (b : Bool). IsTrue b) (sym over_is) was)) decided);
  }
    where
      behind : (rest : List ℕ) → (IsTrue old.over → rest ≡ []) → IsTrue old.over ⊎ ((last more : List ℕ) → IsNoFrame last (ahead old.walk) → IsNoFrame last (ahead old.walk ++ more)) → IsNoFrame old.walk.last (ahead old.walk ++ rest)
      behind rest rest_is (inl was) = subst (λ (l : List ℕ). IsNoFrame old.walk.last l) (sym (append-nil (ahead old.walk)) ∙ ap (λ (l : List ℕ). ahead old.walk ++ l) (sym (rest_is was))) none
      behind rest rest_is (inr so) = so old.walk.last rest none
