use Rattle.std.proofs.Common.{◌≡◌, ◌≢◌, ◌∙◌, List, ℕ, take, drop, sym, subst}
use Rattle.std.proofs.lemmas.Bool.Decides.{Decides-eqb}
use Rattle.std.proofs.lemmas.Slice.Eq.{slice_eq-Decides}
use Rattle.batch_file.specs.Frames.{zeros}
use Rattle.batch_file.specs.Reads.{HasFrame}
use Rattle.batch_file.proofs.framing.has_frame_behind.Goals as goal

pub returns-then-eq : goal.returns-then-eq
returns-then-eq c =
    let told = slice_eq-Decides Decides-eqb c.digest_at-told.result (zeros 16) c.eq.result c.eq.ensures in
    (λ so. absurd (cc), λ w. absurd (w.0 (sym c.digest_at-told.ensures ∙ told.0 c.if-eq.true)))

pub returns : goal.returns
returns c =
    let bytes = c.args.bytes.now in
    let is = c.digest_at-told.ensures in
    let told = slice_eq-Decides Decides-eqb c.digest_at-told.result (zeros 16) c.eq.result c.eq.ensures in (
      λ so. (
        λ none. (let same = told.1 (is ∙ none) in let fails = c.if-eq.false in absurd (cc)),
        subst (λ (l : List ℕ). HasFrame l bytes) is (c.has_frame.ensures.0 so),
      ),
      λ w. c.has_frame.ensures.1 (subst (λ (l : List ℕ). HasFrame l bytes) (sym is) w.1),
    )
