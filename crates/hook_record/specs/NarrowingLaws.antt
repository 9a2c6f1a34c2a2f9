-- What is left of an ask never widens it.
use Rattle.std.proofs.Common.{◌≡◌, ℕ, ◌<◌, List, min, bit_and, sym, ◌∙◌, ap, arith}
use Rattle.std.proofs.lemmas.Bool.Decides.{nat_tests}
use Rattle.std.proofs.lemmas.Nat.Bits.{bit_at_and, same_from_bits}
use Rattle.hook_record.specs.declared.Ask.{Ask}
use Rattle.hook_record.specs.declared.Narrowed.TheVariants.{Allowed}
use Rattle.hook_record.specs.Record.{u32_at, u64_at, scope_offset, life_offset}
use Rattle.hook_record.specs.Narrowing.{left_of, met, narrowed, IsNarrowing}

left_of-Allowed : (s l scope life : ℕ)
    → left_of s l ≡ Allowed scope life → (s ≡ scope) × (0 < s) × (l ≡ life) × (0 < l)
left_of-Allowed s l scope life e = (grind (arith, nat_tests), grind (arith, nat_tests), grind (arith, nat_tests), grind (arith, nat_tests))

-- scopes met with an ask's are some of the ask's
and_within : (a b : ℕ) → bit_and (bit_and a b) a ≡ bit_and a b
and_within a b = same_from_bits _ _ (λ i. omega (arith, bit_at_and (bit_and a b) a i, bit_at_and a b i))

-- what is met with an ask is some of it
pub met_narrows : (ask : Ask) (s l scope life : ℕ) → met ask s l ≡ Allowed scope life → IsNarrowing ask scope life
met_narrows ask s l scope life e =
    let left = left_of-Allowed (bit_and ask.scope s) (min ask.life l) scope life e in
    record {
      within = ap (λ m. bit_and m ask.scope) (sym left.0) ∙ and_within ask.scope s ∙ left.0;
      some_scope = omega arith;
      no_longer = omega arith;
      some_life = omega arith;
    }

-- what a hook leaves of an ask is some of it
pub narrowed_narrows : (ask : Ask) (r0 : ℕ) (bytes : List ℕ) (scope life : ℕ)
    → narrowed ask r0 bytes ≡ Allowed scope life → IsNarrowing ask scope life
narrowed_narrows ask r0 bytes scope life e =
    met_narrows ask (u64_at bytes scope_offset) (u32_at bytes life_offset) scope life (grind (arith, nat_tests))
