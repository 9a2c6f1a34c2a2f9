use Rattle.std.proofs.Common.{◌≡◌, ◌≢◌, ◌+◌, ◌∷◌, [], ◌++◌, List, ℕ, length, take, drop, inl, inr, refl, sym, subst, arith, length-drop}
use Rattle.batch_file.specs.Frames.{digest, first_at, size_at, zeros, HidesFrame, IsFrame}
use Rattle.batch_file.proofs.Reading.{length-framed}
use Rattle.batch_file.proofs.framing.hides_frame.Goals as goal

pub returns-then-bytes-lt21 : goal.returns-then-bytes-lt21
returns-then-bytes-lt21 c =
    let bytes = c.args.bytes.now in
    (λ so. absurd (cc), λ h. absurd (omega (arith, length-framed h.before h.batch h.more (drop h.at bytes) h.is, length-drop h.at bytes, c.if-bytes-lt21.true)))

pub returns-then-has_frame_behind : goal.returns-then-has_frame_behind
returns-then-has_frame_behind c =
    let bytes = c.args.bytes.now in
    let w = c.has_frame_behind.ensures.0 c.if-has_frame_behind.true in
    (λ so. record { before = take 16 (drop 5 bytes); at = w.1.0; batch = w.1.1; more = w.1.2; is = w.1.3; behind = inl (refl, w.0) }, λ h. refl)

pub returns : goal.returns
returns c =
    let bytes = c.args.bytes.now in
    let last = c.args.last.now in (
      λ so.
          let w = c.has_frame_due.ensures.0 so in
          record { before = digest last (first_at bytes); at = 21 + size_at (drop 1 bytes); batch = w.0; more = w.1; is = w.2; behind = inr (refl, refl) },
      λ h. elim h.behind [
        | inl told ↦
            let so = c.has_frame_behind.ensures.1 (subst (λ (l : List ℕ). l ≢ zeros 16) told.0 told.1, (h.at, h.batch, h.more, subst (λ (l : List ℕ). IsFrame l h.batch h.more (drop h.at bytes)) told.0 h.is)) in
            let fails = c.if-has_frame_behind.false in
            absurd (cc)
        | inr due ↦
            c.has_frame_due.ensures.1 (h.batch, h.more, subst (λ (k : ℕ). IsFrame (digest last (first_at bytes)) h.batch h.more (drop k bytes)) due.1 (subst (λ (l : List ℕ). IsFrame l h.batch h.more (drop h.at bytes)) due.0 h.is))
      ],
    )
