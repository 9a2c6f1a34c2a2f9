-- Files that are read: one at rest, and one without its last batch.
use Rattle.std.proofs.Common.{◌≡◌, ◌+◌, ℕ, List, [], ◌∷◌, ◌++◌, length, refl, subst, arith}
use Rattle.batch_file.specs.Frames.{AreFrames, IsAtRest, IsReadable, header, recovered}
use Rattle.batch_file.specs.FramesLaws.{frames_before}
use Rattle.batch_file.proofs.Tearing.{at_rest_file}
use Rattle.batch_file.proofs.Walking.{rests}

pub at_rest_readable : {end room : ℕ} {last file : List ℕ} → IsAtRest end room last file → IsReadable file
at_rest_readable {end = end} {room = room} {last = last} {file = file} rest = at_rest_file end room last file rest

-- the batches before the last one of a file that is read are those of one that is read
pub front_readable : (file batch : List ℕ) (xs : List (List ℕ)) → recovered file ≡ xs ++ batch ∷ [] → IsReadable file → (front : List ℕ) × (recovered front ≡ xs) × IsReadable front
front_readable file batch xs is readable =
    let spells = readable.1 in
    let are = subst (λ (bs : List (List ℕ)). AreFrames header bs readable.0 spells.frames) is spells.are in
    let front = frames_before xs (batch ∷ []) header readable.0 spells.frames are in
    let whole = header ++ (front.1 ++ 0 ∷ []) in
    let rest = rests xs front.0 front.1 whole (16 + length front.1) 1 front.2 refl refl (omega arith) (omega arith) in
    (whole, rest.1, at_rest_file (16 + length front.1) 1 front.0 whole rest.0)
