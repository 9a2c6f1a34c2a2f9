use Rattle.std.proofs.Common.{◌≡◌, ◌≤◌, ◌++◌, ◌∷◌, [], ◌-◌, ◌+◌, ◌∙◌, List, ℕ, length, take, get_or, refl, sym, ap, arith}
use Rattle.std.proofs.lemmas.List.{take_more}
use Rattle.batch_file.specs.Frames.{without_zeros}
use Rattle.batch_file.proofs.Zeros.{ends_so, none_left, one_zero_less}
use Rattle.batch_file.proofs.framing.trimmed.Goals as goal

-- the last byte of so many, behind the others
last_one : (bytes : List ℕ) (size byte : ℕ) → 1 ≤ size → size ≤ length bytes → byte ≡ get_or bytes (size - 1) 0 → take size bytes ≡ take (size - 1) bytes ++ byte ∷ []
last_one bytes size byte some within is =
    let same : size ≡ size - 1 + 1 = omega arith in
    ap (λ (k : ℕ). take k bytes) same ∙ take_more bytes (size - 1) 0 (omega arith) ∙ ap (λ (b : ℕ). take (size - 1) bytes ++ b ∷ []) (sym is)

pub loop-size-preserved : goal.loop-size-preserved
loop-size-preserved c =
    let bytes = c.args.bytes.now in
    let size = c.loop-size.size in
    let was = c.loop-size.invariant in
    let one : take size bytes ≡ take (size - 1) bytes ++ 0 ∷ [] = last_one bytes size 0 (omega arith) was.within (sym c.if-byte-ne0.false) in
    record { within = omega (arith, was.within); same = sym (one_zero_less (take (size - 1) bytes)) ∙ ap (λ (l : List ℕ). without_zeros l) (sym one) ∙ was.same }

pub returns-then-byte-ne0 : goal.returns-then-byte-ne0
returns-then-byte-ne0 c =
    let bytes = c.args.bytes.now in
    let size = c.loop-size.size in
    let was = c.loop-size.invariant in
    let byte = get_or bytes (size - 1) 0 in
    let one : take size bytes ≡ take (size - 1) bytes ++ byte ∷ [] = last_one bytes size byte (omega arith) was.within refl in
    one ∙ sym (ends_so (take (size - 1) bytes) byte c.if-byte-ne0.true) ∙ ap (λ (l : List ℕ). without_zeros l) (sym one) ∙ was.same

pub returns : goal.returns
returns c = none_left c.args.bytes.now c.loop-size.size (omega arith) c.loop-size.invariant.same
