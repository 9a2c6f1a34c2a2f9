use Rattle.std.proofs.Common.{◌++◌, [], ◌∷◌, ◌∙◌, List, ℕ, drop, sym, ap, subst}
use Rattle.std.proofs.lemmas.Bool.Decides.{Decides-eqb}
use Rattle.std.proofs.lemmas.Slice.Eq.{starts_is}
use Rattle.batch_file.specs.Frames.{header}
use Rattle.batch_file.specs.declared.walk.Walk.{Walk}
use Rattle.batch_file.proofs.Going.{none_told, some_told}
use Rattle.file_copy.specs.Copies.{AreGathered, HasSeen}
use Rattle.file_copy.proofs.Copying.{aside_here, has_copied, seen_next, seen_on}
use Rattle.file_copy.proofs.placing.Gathered.copy.Goals as goal

pub begin-walk-requires : goal.begin-walk-requires
begin-walk-requires g c =
    let is = (starts_is Decides-eqb c.deref.result.now header c.starts_with.result c.starts_with.ensures.value).0 c.if-not-starts_with.false in
    (drop 16 c.deref.result.now, sym c.deref.ensures.value ∙ is)

pub frames-preserved : goal.frames-preserved
frames-preserved g c =
    let D = g.D.Device in
    let seen = D.seen c.args.device.now in
    let end = c.args.end in
    let was = c.frames.invariant in
    let there = c.read_on.ensures in
    let batches = was.read.0 in
    let batch = c.in-Some.batch.items in
    let mid = c.read_on.new.device in
    let new = c.put.new.device in
    let before = subst (λ (l : List ℕ). HasSeen D l batches c.frames.walk c.frames.at end c.frames.device) (sym was.seen) was.read.1 in
    let more = subst (λ (l : List ℕ). HasSeen D l batches c.read_on.new.walk c.read_on.new.at end mid) was.seen (c.in_ok-read_on.ensures.read batches before) in
    let step = some_told _ c.in_ok-found.found c.in-Some.batch c.in-Some.is c.in_ok-found.ensures.read in
    let one = seen_next D seen batches batch c.read_on.new.walk c.next.new.self c.read_on.new.at end mid more step in
    let truth = (c.put.ensures.aside mid (aside_here D mid (g.met.D.Device.only_now mid))).truth in
    let are = subst (λ o. AreGathered o batches c.frames.self) (sym there.next) was.read.2 in
    let added = subst (λ (b : List ℕ). AreGathered (D.next new) (batches ++ b ∷ []) c.put.new.self) c.deref-in-frames.ensures.value (c.in_ok-put.ensures.added batches are) in
    record {
      read = (batches ++ batch ∷ [], seen_on D seen (batches ++ batch ∷ []) c.next.new.self c.read_on.new.at end mid new one truth, added);
      last = c.in_ok-put.ensures.last;
      seen = c.put.ensures.seen ∙ there.seen ∙ was.seen;
      aside = λ file a. c.put.ensures.aside file (there.aside file (was.aside file a));
    }

pub returns-clause-copied : goal.returns-clause-copied
returns-clause-copied g c =
    let D = g.D.Device in
    let end = c.args.end in
    let was = c.frames.invariant in
    let there = c.read_on.ensures in
    let batches = was.read.0 in
    let mid = c.read_on.new.device in
    let before = subst (λ (l : List ℕ). HasSeen D l batches c.frames.walk c.frames.at end c.frames.device) (sym was.seen) was.read.1 in
    let more = subst (λ (l : List ℕ). HasSeen D l batches c.read_on.new.walk c.read_on.new.at end mid) was.seen (c.in_ok-read_on.ensures.read batches before) in
    let are = subst (λ o. AreGathered o batches c.frames.self) (sym there.next) was.read.2 in
    let same = none_told c.in_ok-found.found c.in_default.is c.in_ok-found.ensures.stays in
    has_copied D (D.seen c.args.device.now) batches c.read_on.new.walk c.read_on.new.at end mid c.frames.self more are (sym (ap (λ (w : Walk). w.end) same) ∙ c.if-walk-end.false)
