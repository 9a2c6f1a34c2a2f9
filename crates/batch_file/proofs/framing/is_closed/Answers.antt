use Rattle.std.proofs.Common.{◌≡◌, ◌-◌, ◌∷◌, [], ◌++◌, List, ℕ, length, take, drop, inl, inr, refl}
use Rattle.std.proofs.lemmas.Bool.Decides.{Decides-eqb}
use Rattle.std.proofs.lemmas.Slice.Eq.{ends_is, starts_is}
use Rattle.batch_file.specs.Frames.{zeros, IsClosed}
use Rattle.batch_file.proofs.framing.is_closed.Goals as goal

pub returns-then-starts_with : goal.returns-then-starts_with
returns-then-starts_with c =
    let bytes = c.args.bytes.now in
    (λ so. inl (drop 1 bytes, (starts_is Decides-eqb bytes (0 ∷ []) c.starts_with.result c.starts_with.ensures.value).0 c.if-starts_with.true), λ closed. refl)

pub returns : goal.returns
returns c =
    let bytes = c.args.bytes.now in
    let starts = starts_is Decides-eqb bytes (0 ∷ []) c.starts_with.result c.starts_with.ensures.value in
    let ends = ends_is Decides-eqb bytes (zeros 16) c.ends_with.result c.ends_with.ensures.value in (
      λ so. inr (take (length bytes - 16) bytes, ends.0 so),
      λ closed. elim closed [
        | inl begun ↦ let so = starts.1 begun.0 begun.1 in let fails = c.if-starts_with.false in absurd (cc)
        | inr ended ↦ ends.1 ended.0 ended.1
      ],
    )
