use Rattle.std.proofs.Common.{refl, sym, ◌∙◌, pos, rules, arith}
use Rattle.std.specs.Int.{w64, w128}
use Rattle.reg_kind.proofs.Shifts.{first_none, first_some, moved_signed, shifts, plain, word_ends, number_ends}
use Rattle.reg_kind.proofs.span.Span.moved.Goals as goal

pub returns-in-Some : goal.returns-in-Some
returns-in-Some c =
    let low = plain w128 c.from.result (pos c.bounds-least.result.0) c.from.ensures (search rules) in
    let high = plain w128 c.from-2.result (pos c.bounds-least.result.1) c.from-2.ensures (search rules) in
    let ends = word_ends c.args.by c.bounds-least.result.0 c.bounds-least.result.1 c.bounds-least.ensures.least c.bounds-least.ensures.greatest c.bounds-least.ensures.single in
    let moved = sym c.in-Some.is ∙ rw (low, high) at c.moved_between.ensures in
    record {
      value = first_some _ _ c.in-Some.span (rw (c.bounds-least.ensures.value.0, c.bounds-least.ensures.value.1) at moved);
      right = shifts c.args.direction c.args.size c.args.self c.in-Some.span c.args.by pos (pos c.bounds-least.result.0) (pos c.bounds-least.result.1) (omega arith) (omega arith) ends moved;
    }

pub returns : goal.returns
returns c =
    let low = plain w128 c.from.result (pos c.bounds-least.result.0) c.from.ensures (search rules) in
    let high = plain w128 c.from-2.result (pos c.bounds-least.result.1) c.from-2.ensures (search rules) in
    let words = word_ends c.args.by c.bounds-least.result.0 c.bounds-least.result.1 c.bounds-least.ensures.least c.bounds-least.ensures.greatest c.bounds-least.ensures.single in
    let least = plain w64 c.signed_bounds-least.result.0 c.signed_bounds-least.result.0 refl (search rules) in
    let greatest = plain w64 c.signed_bounds-least.result.1 c.signed_bounds-least.result.1 refl (search rules) in
    let signed_low = plain w128 c.from-3.result c.signed_bounds-least.result.0 (c.from-3.ensures ∙ least) (search rules) in
    let signed_high = plain w128 c.from-4.result c.signed_bounds-least.result.1 (c.from-4.ensures ∙ greatest) (search rules) in
    let numbers = number_ends c.args.by c.signed_bounds-least.result.0 c.signed_bounds-least.result.1 c.signed_bounds-least.ensures.least c.signed_bounds-least.ensures.greatest c.signed_bounds-least.ensures.single in
    let none = sym c.in_default.is ∙ rw (low, high) at c.moved_between.ensures in
    let moved = rw (signed_low, signed_high) at c.moved_between-2.ensures in
    record {
      value = first_none _ _ c.moved_between-2.result (rw (c.bounds-least.ensures.value.0, c.bounds-least.ensures.value.1) at none) (rw (c.signed_bounds-least.ensures.value.0, c.signed_bounds-least.ensures.value.1) at moved);
      right = moved_signed c.args.direction c.args.size c.args.self c.args.by c.bounds-least.result.0 c.bounds-least.result.1 c.signed_bounds-least.result.0 c.signed_bounds-least.result.1 c.moved_between-2.result (omega arith) (omega arith) words numbers none moved;
    }
