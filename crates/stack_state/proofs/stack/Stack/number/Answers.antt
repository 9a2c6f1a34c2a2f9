use Rattle.std.proofs.Common.{◌≡◌, ◌+◌, ◌≤◌, ◌/◌, ◌%◌, get_or, refl, sym, ap, ◌∙◌, subst, arith, ℕ}
use Rattle.stack_state.proofs.Names.{size_bytes, AmountFits, block_at, bytes_from, get_or_default}
use Rattle.stack_state.specs.declared.block.Block.TheVariants.{Unset}
use Rattle.stack_state.proofs.Loads.{part_number, size_some}
use Rattle.stack_state.proofs.stack.Stack.number.Goals as goal
use Rattle.stack_state.proofs.stack.Stack.number.Goals.{else-span-via-then-span+else-at-bytes-le8, else-span-via-else-span}

pub returns-then-at-bytes-le8 : goal.returns-then-at-bytes-le8
returns-then-at-bytes-le8 c =
    part_number c.args.self.now c.args.span c.args.size (get_or c.args.self.now.blocks (c.from-from.result / 8) c.index-self-from.result) c.part.result
    (ap (λ (i : ℕ). block_at c.args.self.now (i / 8)) (sym c.from-from.ensures) ∙ sym (get_or_default c.args.self.now.blocks (c.from-from.result / 8) c.index-self-from.result Unset (let l = c.type_inv.self in let s = (size_some c.args.size).0 in omega arith)))
    (record { certain = omega arith; within = omega arith })
    (λ exact w h. subst (AmountFits exact c.part.result) (same w) (c.part.ensures exact w h)) where
      same : (w : ℕ) → bytes_from (c.from.result % 8) c.bytes-then-at-bytes-le8.result w ≡ bytes_from (c.args.span.least % 8) (size_bytes c.args.size) w
      same w = ap (λ (i : ℕ). bytes_from (i % 8) c.bytes-then-at-bytes-le8.result w) c.from.ensures ∙ ap (λ (n : ℕ). bytes_from (c.args.span.least % 8) n w) c.bytes-then-at-bytes-le8.ensures

pub returns-else-span : goal.returns-else-span
returns-else-span c = record {
  number = c.number_of_size.result;
  is = refl;
  within = λ inside. absurd (no inside.certain inside.within);
  one = λ inside. absurd (no inside.certain inside.within);
  elsewhere = λ apart. c.number_of_size.ensures;
} where
  no : c.args.span.least ≡ c.args.span.greatest → c.args.span.least % 8 + size_bytes c.args.size ≤ 8 → ⊥
  no certain within = elim c.else-span.branch [ else-span-via-then-span+else-at-bytes-le8 w ↦ omega arith | else-span-via-else-span w ↦ omega arith ]
