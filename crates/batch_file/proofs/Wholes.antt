-- Whole files, and one with a batch more.
use Rattle.std.proofs.Common.{◌≡◌, ℕ, ◌+◌, ◌-◌, ◌^◌, ◌<◌, ◌≤◌, List, [], ◌∷◌, ◌++◌, length, set, refl, sym, ◌∙◌, ap, arith, append_assoc, length-append}
use Rattle.std.specs.Int.{w32, to_be_bytes}
use Rattle.std.proofs.Math.Seq.{set-append_seam}
use Rattle.batch_file.specs.Frames.{header, digest, sealed, zeros, most_room, recovered, file_size, IsAtRest, IsWhole}
use Rattle.batch_file.specs.FramesLaws.{length-frames, length-sealed}
use Rattle.batch_file.proofs.Walking.{rests, AreFrames-snoc}
use Rattle.batch_file.proofs.Zeros.{length-zeros}

pub length-at_rest : (end room : ℕ) (last file : List ℕ) → IsAtRest end room last file → length file ≡ end + room
length-at_rest end room last file r =
    omega (arith, ap length r.is, length-append r.frames (zeros room), length-zeros room, r.ends)

pub end_at_rest : (end room : ℕ) (last file : List ℕ) (r : IsAtRest end room last file) → end + 1 ≡ file_size (recovered file)
end_at_rest end room last file r = omega (arith, r.ends, length-frames (recovered file) header last r.frames r.are)

pub length-whole : (last file : List ℕ) (batches : List (List ℕ)) → IsWhole last file → recovered file ≡ batches → length file ≡ file_size batches
length-whole last file batches w is = length-at_rest w.0 1 last file w.1 ∙ end_at_rest w.0 1 last file w.1 ∙ ap file_size is

-- one without batches
pub empty_whole : (last file : List ℕ) → last ≡ header → file ≡ header ++ 0 ∷ [] → IsWhole last file × (recovered file ≡ [])
empty_whole last file last_is is =
    let both = rests [] last [] file 16 1 (last_is, refl) is refl (omega arith) (omega arith) in
    ((16, both.0), both.1)

-- what stands before the zeros
abbrev pub front_of : {end room : ℕ} {last file : List ℕ} → IsAtRest end room last file → List ℕ
front_of r = header ++ r.frames

pub front_is : (end room : ℕ) (last file : List ℕ) (r : IsAtRest end room last file) → file ≡ front_of r ++ zeros room
front_is end room last file r = r.is ∙ sym (append_assoc header r.frames (zeros room))

pub length-front : (end room : ℕ) (last file : List ℕ) (r : IsAtRest end room last file) → length (front_of r) ≡ end
length-front end room last file r = omega (arith, r.ends)

-- the frame of one batch more stands behind the others
pub one_more : (end room more : ℕ) (last file batch c : List ℕ) (r : IsAtRest end room last file) → length batch < 2 ^ 32 → 0 < more → more ≤ most_room
    → c ≡ front_of r ++ (255 ∷ sealed last batch ++ zeros more) → IsAtRest (end + (21 + length batch)) more (digest last batch) c × (recovered c ≡ recovered file ++ batch ∷ [])
one_more end room more last file batch c r short some few is =
    let one = 255 ∷ sealed last batch in
    rests (recovered file ++ batch ∷ []) (digest last batch) (r.frames ++ one) c (end + (21 + length batch)) more (AreFrames-snoc (recovered file) header last r.frames batch r.are short)
    (is ∙ append_assoc header r.frames (one ++ zeros more) ∙ ap (λ (l : List ℕ). header ++ l) (sym (append_assoc r.frames one (zeros more))))
    (omega (arith, r.ends, length-append r.frames one, length-sealed last batch)) some few

-- a head and a batch are what stands behind the first byte of a frame
pub head_is : (before batch head : List ℕ) → head ≡ to_be_bytes w32 (length batch) ++ digest before batch → head ++ batch ≡ sealed before batch
head_is before batch head is = ap (λ (l : List ℕ). l ++ batch) is ∙ append_assoc (to_be_bytes w32 (length batch)) (digest before batch) batch

pub added : (at : ℕ) (last file batch head out : List ℕ) → IsWhole last file → length batch < 2 ^ 32 → head ≡ to_be_bytes w32 (length batch) ++ digest last batch
    → out ≡ file ++ head ++ batch ++ 0 ∷ [] → at ≡ length file - 1 → IsWhole (digest last batch) (set out at 255) × (recovered (set out at 255) ≡ recovered file ++ batch ∷ [])
added at last file batch head out w short head_spelled is at_is =
    let end = w.0 in
    let r = w.1 in
    let text = sealed last batch ++ 0 ∷ [] in
    let behind : out ≡ front_of r ++ 0 ∷ text =
    is
    ∙ ap (λ (l : List ℕ). l ++ 0 ∷ []) (append_assoc file head batch)
    ∙ append_assoc file (head ++ batch) (0 ∷ [])
    ∙ ap (λ (l : List ℕ). file ++ (l ++ 0 ∷ [])) (head_is last batch head head_spelled)
    ∙ ap (λ (l : List ℕ). l ++ text) (front_is end 1 last file r)
    ∙ append_assoc (front_of r) (0 ∷ []) text in
    let at_end : at ≡ length (front_of r) = omega (arith, at_is, length-at_rest end 1 last file r, length-front end 1 last file r) in
    let opened : set out at 255 ≡ front_of r ++ 255 ∷ text = ap (λ (k : ℕ). set out k 255) at_end ∙ ap (λ (l : List ℕ). set l (length (front_of r)) 255) behind ∙ set-append_seam (front_of r) 0 text 255 in
    let more = one_more end 1 1 last file batch (set out at 255) r short (omega arith) (omega arith) opened in
    ((end + (21 + length batch), more.0), more.1)
