-- A batch in the midst of a file.
use Rattle.std.proofs.Common.{◌≡◌, ℕ, ◌+◌, ◌≤◌, List, [], ◌∷◌, ◌++◌, length, get_or, take, drop, refl, sym, ◌∙◌, ap, subst, arith, take-take}
use Rattle.std.specs.Int.{w32, from_be_bytes}
use Rattle.std.proofs.lemmas.List.{drop-drop, drop_at}
use Rattle.batch_file.specs.Frames.{header, digest, sealed, size_at, recovered, frames_size, zeros, IsFrame, AreFrames, IsAtRest}
use Rattle.batch_file.specs.FramesLaws.{further, length-sealed, parts}

-- where its frame stands
frame_at : (earlier : List (List ℕ)) (start last batch : List ℕ) (later : List (List ℕ)) (frames more : List ℕ) → AreFrames start (earlier ++ batch ∷ later) last frames
    → (before : List ℕ) × (rest : List ℕ) × IsFrame before batch rest (drop (frames_size earlier) (frames ++ more))
frame_at [] start last batch later frames more are = (start, are.0 ++ more, further start batch are.0 frames more are.1)
frame_at (b ∷ earlier) start last batch later frames more are =
    let f = further start b are.0 frames more are.1 in
    let there = frame_at earlier (digest start b) last batch later are.0 more are.2 in
    let size : length (255 ∷ sealed start b) ≡ 21 + length b = omega (arith, length-sealed start b) in
    let behind : drop (21 + length b) (frames ++ more) ≡ are.0 ++ more =
    ap (λ (l : List ℕ). drop (21 + length b) l) f.is ∙ drop_at (255 ∷ sealed start b) (are.0 ++ more) (21 + length b) size in
    let skip : drop (21 + length b + frames_size earlier) (frames ++ more) ≡ drop (frames_size earlier) (are.0 ++ more) =
    sym (drop-drop (frames_size earlier) (21 + length b) (frames ++ more)) ∙ ap (λ (l : List ℕ). drop (frames_size earlier) l) behind in
    (there.0, there.1, subst (λ (l : List ℕ). IsFrame there.0 batch there.1 l) (sym skip) there.2)

-- what its head says of its length
pub told_is : (head : List ℕ) → 5 ≤ length head → size_at (drop 1 head) ≡ from_be_bytes w32 (get_or head 1 0 ∷ get_or head 2 0 ∷ get_or head 3 0 ∷ get_or head 4 0 ∷ [])
told_is (latch ∷ a ∷ b ∷ c ∷ d ∷ rest) long = refl
told_is _ long = absurd (omega arith)

first_four : (bytes : List ℕ) → take 4 (drop 1 (take 21 bytes)) ≡ take 4 (drop 1 bytes)
first_four [] = refl
first_four (a ∷ bytes) = take-take 4 20 bytes (omega arith)

pub batch_there : (end room at size : ℕ) (last file head bytes : List ℕ) → IsAtRest end room last file → head ≡ take 21 (drop at file)
    → size ≡ size_at (drop 1 head) → bytes ≡ take size (drop (at + 21) file)
    → (before after : List (List ℕ)) (batch : List ℕ) → recovered file ≡ before ++ batch ∷ after → at ≡ 16 + frames_size before → bytes ≡ batch
batch_there end room at size last file head bytes r head_is says bytes_is before after batch is at_is =
    let are : AreFrames header (before ++ batch ∷ after) last r.frames = subst (λ (bs : List (List ℕ)). AreFrames header bs last r.frames) is r.are in
    let found = frame_at before header last batch after r.frames (zeros room) are in
    let here : drop at file ≡ drop (frames_size before) (r.frames ++ zeros room) =
    ap (λ (i : ℕ). drop i file) at_is
    ∙ sym (drop-drop (frames_size before) 16 file)
    ∙ ap (λ (l : List ℕ). drop (frames_size before) l) (ap (λ (l : List ℕ). drop 16 l) r.is ∙ drop_at header (r.frames ++ zeros room) 16 refl) in
    let frame : IsFrame found.0 batch found.1 (drop at file) = subst (λ (l : List ℕ). IsFrame found.0 batch found.1 l) (sym here) found.2 in
    let part = (parts found.0 batch found.1 (drop at file) frame).0 in
    let size_is : size ≡ size_at (drop 1 (drop at file)) =
    says ∙ ap (from_be_bytes w32) (ap (λ (l : List ℕ). take 4 (drop 1 l)) head_is ∙ first_four (drop at file)) in
    let behind : drop (at + 21) file ≡ drop 21 (drop at file) = sym (drop-drop 21 at file) in
    bytes_is ∙ ap (λ (i : ℕ). take i (drop (at + 21) file)) size_is ∙ ap (λ (l : List ℕ). take (size_at (drop 1 (drop at file))) l) behind ∙ part
