use Rattle.std.proofs.Common.{◌≡◌, ℕ, List, ◌+◌, ◌-◌, length, take, drop, [], ◌∷◌, ◌++◌, refl, arith, length-append}
use Rattle.std.proofs.lemmas.Bool.{true≢false, false≢true}
use Rattle.std.proofs.lemmas.List.{take_all, length-drop, drop-drop}
use Rattle.heads.specs.Message.{Message, BeginsWithMessage, IsHopeless, MayTell}
use Rattle.heads.specs.Waiting.{Wants}
use Rattle.heads.specs.Front.{IsFoundWithin, IsWholeAt}
use Rattle.heads.specs.ReadingLaws.{reads_push, hopeless_has_none}
use Rattle.heads.specs.WaitingLaws.{waits_for_nothing, wants_unfinished}
use Rattle.heads.proofs.scan.scan_behind.Goals as goal

tail_is : (n : ℕ) (bytes : List ℕ) → take (length bytes - n) (drop n bytes) ≡ drop n bytes
tail_is n bytes = take_all _ _ (let l = length-drop n bytes in omega (arith, l))

pub front_of-requires : goal.front_of-requires
front_of-requires c = λ none. rw (tail_is c.requests.end c.args.bytes.now, c.requests.invariant.front none) c.requires

pub requests-preserved : goal.requests-preserved
requests-preserved c =
    let bytes = c.args.bytes.now in
    let end = c.requests.end in
    let f = c.in-Whole.found in
    let rest : List ℕ = drop end bytes in
    let whole : IsFoundWithin rest f × ((m : Message) × IsWholeAt rest f m) = rw (← tail_is end bytes) c.in-Whole.ensures in
    let here = length-drop end bytes in
    let fits = whole.0.end in
    let some = whole.0.some in
    let before = c.requests.invariant in
    let begins : BeginsWithMessage rest whole.1.0 (drop (end + f.end) bytes) = rw (← drop-drop f.end end bytes) whole.1.1.begins in
    let n = length-append before.messages (whole.1.0 ∷ []) in
    let count = before.count in
    let few = before.few in
    let old = before.end in
    record {
      messages = before.messages ++ whole.1.0 ∷ [];
      count = omega (arith, n, count);
      few = omega (arith, few, some);
      end = omega (arith, fits, here, old);
      front = λ e. absurd (omega (arith, e));
      reads = reads_push bytes before.messages rest whole.1.0 (drop (end + f.end) bytes) before.reads begins;
    }

pub returns-in-More : goal.returns-in-More
returns-in-More c =
    let bytes = c.args.bytes.now in
    let end = c.requests.end in
    let waits = c.in-More.waits in
    let wants : Wants (drop end bytes) waits = rw (← tail_is end bytes) c.in-More.ensures in
    let unfinished = wants_unfinished (drop end bytes) waits wants in
    let before = c.requests.invariant in
    record {
      messages = before.messages;
      count = before.count;
      end = before.end;
      reads = record { reads = before.reads; none = unfinished.none };
      hopeless = λ e. absurd (false≢true e);
      may = λ e. absurd (false≢true e);
      must = λ must. absurd (unfinished.untold must);
      nothing = λ e. absurd (false≢true e);
      short = λ e. unfinished.short;
      wants = λ e. wants;
      waiting = wants.waiting;
    }

pub returns-in-Faulty : goal.returns-in-Faulty
returns-in-Faulty c =
    let bytes = c.args.bytes.now in
    let end = c.requests.end in
    let rest : List ℕ = drop end bytes in
    let told : IsHopeless rest × MayTell rest = rw (← tail_is end bytes) c.in-Faulty.ensures in
    let before = c.requests.invariant in
    record {
      messages = before.messages;
      count = before.count;
      end = before.end;
      reads = record { reads = before.reads; none = hopeless_has_none rest told.0 };
      hopeless = λ e. told.0;
      may = λ e. told.1;
      must = λ must. refl;
      nothing = λ e. refl;
      short = λ e. absurd (true≢false e);
      wants = λ e. absurd (true≢false e);
      waiting = waits_for_nothing rest;
    }
