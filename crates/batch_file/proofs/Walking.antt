-- One frame after the other.
use Rattle.std.proofs.Common.{◌≡◌, ℕ, ◌+◌, ◌^◌, ◌<◌, ◌≤◌, List, [], ◌∷◌, ◌++◌, length, take, drop, refl, sym, ◌∙◌, ap, subst, arith, append_assoc, length-append}
use Rattle.std.proofs.lemmas.List.{drop-drop, append-nil, take_at}
use Rattle.batch_file.specs.Frames.{header, digest, sealed, zeros, most_room, recovered, frames_size, IsFrame, AreFrames, IsFileOf, IsReadable, IsAtRest, IsWhole, IsRightFront}
use Rattle.batch_file.specs.FramesLaws.{digest_is, length-frames, length-sealed, AreFrames-append, file_is, framed_is, readable_is}
use Rattle.batch_file.specs.Reads.{IsRead, IsFront, IsFound}
use Rattle.batch_file.proofs.Zeros.{zeros_begin}

-- with zeros behind them
pub rests : (batches : List (List ℕ)) (last frames c : List ℕ) (end room : ℕ) → AreFrames header batches last frames → c ≡ header ++ (frames ++ zeros room) → end ≡ 16 + length frames → 0 < room → room ≤ most_room
    → IsAtRest end room last c × (recovered c ≡ batches)
rests batches last frames c end room are is ends some few =
    let stands : recovered c ≡ batches = framed_is batches last frames (zeros room) c are is (zeros_begin last room) in
    (record { frames = frames; is = is; are = subst (λ (bs : List (List ℕ)). AreFrames header bs last frames) (sym stands) are; ends = ends; some = some; few = few }, stands)

-- a frame alone
pub alone : (before batch : List ℕ) → length batch < 2 ^ 32 → AreFrames before (batch ∷ []) (digest before batch) (255 ∷ sealed before batch)
alone before batch short = ([], record { short = short; is = sym (append-nil (255 ∷ sealed before batch)) }, (refl, refl))

-- a frame behind the frames
pub AreFrames-snoc : (batches : List (List ℕ)) (before last frames batch : List ℕ) → AreFrames before batches last frames → length batch < 2 ^ 32
    → AreFrames before (batches ++ batch ∷ []) (digest last batch) (frames ++ (255 ∷ sealed last batch))
AreFrames-snoc batches before last frames batch are short = AreFrames-append batches (batch ∷ []) before last (digest last batch) frames (255 ∷ sealed last batch) are (alone last batch short)

pub goes_on : (batches : List (List ℕ)) (last batch later bytes : List ℕ) (end next : ℕ) → IsRead batches last end bytes → IsFrame last batch (drop (21 + length batch) (drop end bytes)) (drop end bytes)
    → next ≡ end + (21 + length batch) → later ≡ take 16 (drop (end + 5) bytes) → IsRead (batches ++ batch ∷ []) later next bytes
goes_on batches last batch later bytes end next r f next_is later_is =
    let one = 255 ∷ sealed last batch in
    let behind : drop (21 + length batch) (drop end bytes) ≡ drop next bytes = drop-drop (21 + length batch) end bytes ∙ ap (λ (k : ℕ). drop k bytes) (sym next_is) in
    let tail : drop end bytes ≡ one ++ drop next bytes = f.is ∙ ap (λ (l : List ℕ). one ++ l) behind in
    let whole : bytes ≡ header ++ ((r.frames ++ one) ++ drop next bytes) =
    r.is ∙ ap (λ (l : List ℕ). header ++ (r.frames ++ l)) tail ∙ ap (λ (l : List ℕ). header ++ l) (sym (append_assoc r.frames one (drop next bytes))) in
    let is : later ≡ digest last batch = later_is ∙ ap (λ (l : List ℕ). take 16 l) (sym (drop-drop 5 end bytes)) ∙ digest_is last batch _ (drop end bytes) f in
    subst (λ (l : List ℕ). IsRead (batches ++ batch ∷ []) l next bytes) (sym is) (record {
      frames = r.frames ++ one;
      is = whole;
      are = AreFrames-snoc batches header last r.frames batch r.are f.short;
      ends = omega (arith, length-append r.frames one, length-sealed last batch, r.ends, next_is);
    })

pub found_file : (batches : List (List ℕ)) (last : List ℕ) (end : ℕ) (bytes : List ℕ) → IsFound batches last end bytes → IsFileOf batches bytes
found_file batches last end bytes found =
    let r = found.0 in
    (last, record { frames = r.frames; rest = drop end bytes; is = r.is; are = r.are; ends = found.1 })

pub found_batches : (batches : List (List ℕ)) (last : List ℕ) (end : ℕ) (bytes : List ℕ) → IsFound batches last end bytes → batches ≡ recovered bytes
found_batches batches last end bytes found = sym (file_is batches bytes (found_file batches last end bytes found))

pub found_readable : (batches : List (List ℕ)) (last : List ℕ) (end : ℕ) (bytes : List ℕ) → IsFound batches last end bytes → IsReadable bytes
found_readable batches last end bytes found = readable_is batches bytes (found_file batches last end bytes found)

pub found_end : (batches : List (List ℕ)) (last : List ℕ) (end : ℕ) (bytes : List ℕ) → IsFound batches last end bytes → end ≡ 16 + frames_size (recovered bytes)
found_end batches last end bytes found =
    let r = found.0 in
    omega (arith, r.ends, length-frames batches header last r.frames r.are, ap frames_size (found_batches batches last end bytes found))

-- the front of a file, and a zero
pub front_whole : (batches : List (List ℕ)) (last : List ℕ) (end : ℕ) (bytes out : List ℕ) → IsRead batches last end bytes → out ≡ take end bytes ++ 0 ∷ [] → IsWhole last out × (recovered out ≡ batches)
front_whole batches last end bytes out r is =
    let front : take end bytes ≡ header ++ r.frames =
    ap (λ (l : List ℕ). take end l) (r.is ∙ sym (append_assoc header r.frames (drop end bytes))) ∙ take_at (header ++ r.frames) (drop end bytes) end (omega (arith, r.ends)) in
    let spelled : out ≡ header ++ (r.frames ++ 0 ∷ []) = is ∙ ap (λ (l : List ℕ). l ++ 0 ∷ []) front ∙ append_assoc header r.frames (0 ∷ []) in
    let whole : IsAtRest end 1 last out × (recovered out ≡ batches) = rests batches last r.frames out end 1 r.are spelled r.ends (omega arith) (omega arith) in
    ((end, whole.0), whole.1)

-- a file that was read, without what stands behind its frames
pub found_whole : (batches : List (List ℕ)) (last : List ℕ) (end : ℕ) (bytes out : List ℕ) → IsFound batches last end bytes → out ≡ take end bytes ++ 0 ∷ [] → IsWhole last out × (recovered out ≡ recovered bytes)
found_whole batches last end bytes out found is =
    let whole = front_whole batches last end bytes out found.0 is in
    (whole.0, whole.1 ∙ found_batches batches last end bytes found)

abbrev pub front_is_right : (batches : List (List ℕ)) (last : List ℕ) (end : ℕ) (bytes : List ℕ) → IsFront batches last end bytes → IsRightFront batches bytes
front_is_right batches last end bytes front =
    let r = front.0 in
    record { last = last; frames = r.frames; rest = drop end bytes; is = r.is; are = r.are; no_frame = front.1 }
