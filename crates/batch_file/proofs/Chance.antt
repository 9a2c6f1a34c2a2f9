-- What a frame that nobody wrote would be.
use Rattle.std.proofs.Common.{◌≡◌, ◌≢◌, ◌⊎◌, inl, inr, ℕ, ◌+◌, ◌-◌, ◌^◌, ◌<◌, ◌≤◌, List, [], ◌∷◌, ◌++◌, length, take, drop, sym, ◌∙◌, ap, arith, append_assoc}
use Rattle.std.proofs.lemmas.List.{append_cancel_left, drop-drop}
use Rattle.batch_file.specs.Coincidences.{AreSameBeside, IsCoincidence}
use Rattle.batch_file.specs.Frames.{header, body, digest, sealed, zeros, recovered, IsAtRest}
use Rattle.batch_file.specs.FramesLaws.{Collision, digest_is, framed_is, same_list}
use Rattle.batch_file.proofs.Tearing.{outcome, there}
use Rattle.batch_file.proofs.Walking.{AreFrames-snoc}
use Rattle.batch_file.proofs.Zeros.{zeros_begin}

-- the digests of two batches behind the same one differ, or collide
other_digest : (last batch other : List ℕ) → other ≢ batch → (digest last other ≢ digest last batch) ⊎ Collision
other_digest last batch other differ =
    elim (same_list (digest last other) (digest last batch)) [
      | inr unlike ↦ inl unlike
      | inl same ↦ inr (record { one = last ++ body other; other = last ++ body batch; differ = λ is. differ (ap (λ (l : List ℕ). drop 4 l) (append_cancel_left last (body other) (body batch) is)); meet = same })
    ]

pub chance_is_coincidence : (end room : ℕ) (last old batch left : List ℕ) → IsAtRest end room last old → 21 + length batch ≤ room → AreSameBeside end (21 + length batch) old left
    → (recovered left ≡ recovered old) ⊎ (recovered left ≡ recovered old ++ batch ∷ [])
    ⊎ IsCoincidence last batch (take 16 (drop (end + 5) left))
chance_is_coincidence end room last old batch left r fits same =
    let short : length batch < 2 ^ 32 = omega (arith, r.few) in
    elim (outcome end room last old r batch short fits left same.0 same.1) [
      | inl none ↦ inl (framed_is (recovered old) last r.frames (drop end left) left r.are (there end room last old r left same.0) none)
      | inr (inl is) ↦
          inr (inl (framed_is (recovered old ++ batch ∷ []) (digest last batch) (r.frames ++ (255 ∷ sealed last batch)) (zeros (room - (21 + length batch))) left
          (AreFrames-snoc (recovered old) header last r.frames batch r.are short)
          (is ∙ append_assoc header r.frames (255 ∷ sealed last batch ++ zeros (room - (21 + length batch))) ∙ ap (λ (l : List ℕ). header ++ l) (sym (append_assoc r.frames (255 ∷ sealed last batch) (zeros (room - (21 + length batch))))))
          (zeros_begin (digest last batch) (room - (21 + length batch)))))
      | inr (inr other) ↦
          inr (inr (other.0, other.2, sym (ap (λ (l : List ℕ). take 16 l) (drop-drop 5 end left)) ∙ digest_is last other.0 other.1 (drop end left) other.3, other_digest last batch other.0 other.2))
    ]
