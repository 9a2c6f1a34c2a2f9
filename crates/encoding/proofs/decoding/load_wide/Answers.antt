use Rattle.std.proofs.Common.{◌≡◌, ◌∙◌, ap, pos, w32, FitsSigned, take, rules}
use Rattle.encoding.proofs.Names.{cast_signed, cast_unsigned, to_z-of_z, slot, slot_bytes}
use Rattle.encoding.proofs.Spellings.{wide_begins}
use Rattle.encoding.proofs.decoding.load_wide.Goals as goal

pub returns : goal.returns
returns c =
    let fits : FitsSigned w32 c.args.slot.imm = search rules in
    let low : c.from-2.result ≡ cast_unsigned w32 c.args.slot.imm = c.from-2.ensures ∙ c.cast_unsigned-lower.ensures ∙ ap (cast_unsigned w32) (to_z-of_z w32 c.args.slot.imm fits) in
    let second : slot_bytes (slot 0 0 0 (pos 0) (cast_signed w32 c.from.result)) ≡ take 8 c.args.behind.now = rw c.from.ensures (c.in_ok-upper.ensures.found ∙ c.in-Some.ensures.cases.same) in
    wide_begins c.args.slot c.args.behind.now c.in_ok-dst.dst c.from.result c.from-2.result c.requires c.in_ok-dst.ensures.0 (search rules) (search rules) fits low (search rules) second (search rules)
