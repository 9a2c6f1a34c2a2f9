use Rattle.std.proofs.Common.{ℕ, sym, ◌∙◌}
use Rattle.std.proofs.lemmas.Bool.{true≢false}
use Rattle.scalar.specs.Members.{InScalar}
use Rattle.scalar.proofs.scalar.Scalar.covers.Goals.{then-covers, else-covers, then-covers-2, else-covers-2}
use Rattle.scalar.proofs.scalar.Scalar.covers.Goals as goal

pub returns-then-covers-3-clause-members : goal.returns-then-covers-3-clause-members
returns-then-covers-3-clause-members c all x h = elim c.if-covers-2.branch as (λ _. InScalar c.args.self x) [
  | then-covers-2 v ↦ elim c.if-covers.branch as (λ _. InScalar c.args.self x) [
    | then-covers w ↦ record {
      unsigned = c.covers.ensures.members w.if-covers.true (λ (n : ℕ). n) x h.unsigned;
      signed = w.covers-then-covers.ensures.members (sym w.value-is ∙ v.if-covers-2.true) x h.signed;
      bits = v.covers-then-covers-2.ensures.members (sym v.value-is ∙ c.if-covers-3.true) x h.bits;
      half = c.covers-then-covers-3.ensures.members all x h.half;
    }
    | else-covers w ↦ absurd (true≢false (sym v.if-covers-2.true ∙ w.value-is ∙ w.if-covers.false))
  ]
  | else-covers-2 v ↦ absurd (true≢false (sym c.if-covers-3.true ∙ v.value-is ∙ v.if-covers-2.false))
]
