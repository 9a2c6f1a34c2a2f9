use Rattle.std.proofs.Common.{◌≡◌, ◌+◌, ◌-◌, ◌<◌, ◌≤◌, List, ℕ, length, take, drop, inl, inr, refl, subst, arith, length-drop}
use Rattle.std.proofs.lemmas.Bool.{cases_lt}
use Rattle.std.proofs.lemmas.List.{take_all}
use borrow.Author.Count.{below_more}
use Rattle.batch_file.specs.Frames.{IsFrame, IsNoFrame}
use Rattle.batch_file.specs.FramesLaws.{no_frame_in}
use Rattle.batch_file.proofs.framing.has_frame.Goals as goal

pub loop-at-preserved : goal.loop-at-preserved
loop-at-preserved c =
    let bytes = c.args.bytes.now in
    let at = c.loop-at.at in
    let all : take (length bytes - at) (drop at bytes) ≡ drop at bytes = take_all _ _ (omega (arith, length-drop at bytes)) in
    below_more (λ k. IsNoFrame c.args.before.now (drop k bytes)) at c.loop-at.invariant (subst (λ (l : List ℕ). IsNoFrame c.args.before.now l) all c.in_default.ensures.none)

pub returns-in-Some : goal.returns-in-Some
returns-in-Some c =
    let bytes = c.args.bytes.now in
    let at = c.loop-at.at in
    let batch = c.in-Some.field-0.now in
    let all : take (length bytes - at) (drop at bytes) ≡ drop at bytes = take_all _ _ (omega (arith, length-drop at bytes)) in
    let f : IsFrame c.args.before.now batch (drop (21 + length batch) (drop at bytes)) (drop at bytes) =
    subst (λ (l : List ℕ). IsFrame c.args.before.now batch (drop (21 + length batch) l) l) all c.in-Some.ensures.some in
    (λ so. (at, batch, drop (21 + length batch) (drop at bytes), f), λ w. refl)

pub returns : goal.returns
returns c =
    let bytes = c.args.bytes.now in (
      λ so. absurd (cc),
      λ w. absurd (elim (cases_lt w.0 (length bytes)) [
        | inl within ↦ c.loop-at.invariant w.0 (omega (arith, within)) w.1 w.2 w.3
        | inr behind ↦ no_frame_in c.args.before.now (drop w.0 bytes) (omega (arith, length-drop w.0 bytes, behind)) w.1 w.2 w.3
      ]),
    )
