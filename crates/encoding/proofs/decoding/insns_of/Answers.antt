use Rattle.std.proofs.Common.{◌≤◌, ◌∙◌, arith}
use Rattle.encoding.proofs.Names.{sum_by_push, slots_of, Fits}
use Rattle.encoding.proofs.Spellings.{cut_off, first_fault, goes_on, AllByRecursion-append}
use Rattle.encoding.proofs.Reading.{named_fault}
use Rattle.encoding.proofs.decoding.insns_of.Goals as goal

pub returns-in-Err-clause-fault : goal.returns-in-Err-clause-fault
returns-in-Err-clause-fault c =
    let here = c.from_bytes.ensures in
    let cut = cut_off _ _ _ _ c.from_bytes.result c.loop-first.invariant.so_far (here.bytes ∙ c.in-Some.ensures.cases.0) c.in-Some.ensures.cases.1 in
    rw c.at.ensures (first_fault _ _ c.loop-first.insns.items _ c.loop-first.at c.in-Err.fault c.requires c.loop-first.invariant.fit here.fields c.loop-first.invariant.slots cut (named_fault _ _ _ here.fields c.in-Err.ensures))

pub loop-first-preserved : goal.loop-first-preserved
loop-first-preserved c =
    let cut = cut_off _ _ _ _ c.from_bytes.result c.loop-first.invariant.so_far (c.from_bytes.ensures.bytes ∙ c.in-Some.ensures.cases.0) c.in-Some.ensures.cases.1 in
    let pushed = c.in_ok-push.ensures.items in
    let count = c.slots-count.ensures.value in
    let one : 1 ≤ c.slots-count.result = c.slots-count.ensures.one_or_two.0 in
    record {
      so_far = rw (pushed, c.split_at.ensures.back, count) (goes_on _ _ c.loop-first.insns.items c.in-Ok.insn _ cut c.in-Ok.ensures);
      fit = rw pushed (AllByRecursion-append Fits _ _ c.loop-first.invariant.fit (c.in-Ok.ensures.fit, tt));
      slots = rw pushed (omega (arith, sum_by_push slots_of c.loop-first.insns.items c.in-Ok.insn, c.loop-first.invariant.slots));
      room = omega (arith, c.split_at.ensures.back_len, c.in-Some.ensures.cases.2, c.loop-first.invariant.room);
    }
