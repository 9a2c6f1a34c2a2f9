use Rattle.std.proofs.Common.{◌≡◌, ◌++◌, ◌∙◌, ℕ, List, None, refl, sym, ap, subst}
use Rattle.std.specs.Global.{Vec}
use Rattle.std.specs.Prelude.{⊤}
use Rattle.state_file.specs.Knowing.{IsKnown}
use Rattle.batch_file.specs.Frames.{header, last_of, lists}
use Rattle.state_keeper.proofs.Names.{LeavesOnly, end_of, IsOldOr, IsPutOn}
use Rattle.state_keeper.proofs.Kept.{keeper_of}
use Rattle.state_keeper.proofs.Put.{front_is, of_disk_by, put_on, untouched_by}
use Rattle.state_keeper.specs.Slicing.{to_go_if}
use Rattle.state_keeper.specs.Starting.{IsPut, front_in}
use Rattle.state_keeper.proofs.starting.settle.Goals as goal

pub put-requires-clause-readable : goal.put-requires-clause-readable
put-requires-clause-readable g c = (front_is (g.D.Device.seen c.args.device) c.args.origin c.args.prepared.front c.requires.front).1

pub put-requires-clause-end : goal.put-requires-clause-end
put-requires-clause-end g c =
    c.into_parts-server.ensures.end ∙ ap end_of (sym (front_is (g.D.Device.seen c.args.device) c.args.origin c.args.prepared.front c.requires.front).0)

pub put-requires-clause-last : goal.put-requires-clause-last
put-requires-clause-last g c =
    c.into_parts-server.ensures.last ∙ ap (last_of header) (sym (front_is (g.D.Device.seen c.args.device) c.args.origin c.args.prepared.front c.requires.front).0)

pub returns-in-Ok-clause-put : goal.returns-in-Ok-clause-put
returns-in-Ok-clause-put g c =
    let device = g.D.Device in
    let file = c.in-Ok.file in
    let parts = c.into_parts-server in
    let front = front_is (device.seen c.args.device) c.args.origin c.args.prepared.front c.requires.front in
    let same : c.deref.result.now ≡ parts.result.behind.items = cc c.deref.ensures.value in
    let whole = ap (λ (bs : List (List ℕ)). bs ++ lists c.deref.result.now) front.0 ∙ ap (λ (vs : List (Vec ℕ)). c.args.prepared.front ++ lists vs) same ∙ sym parts.ensures.batches in
    put_on device c.args.device (keeper_of file None None (to_go_if None file.end) parts.result.known) c.args.prepared.batches
    (subst (λ (bs : List (List ℕ)). IsPut device c.args.device bs file) whole c.in-Ok.ensures.put) parts.ensures.known refl refl

pub returns-in-Err-clause-lost : goal.returns-in-Err-clause-lost
returns-in-Err-clause-lost g c =
    let device = g.D.Device in
    let parts = c.into_parts-server in
    let front = front_is (device.seen c.args.device) c.args.origin c.args.prepared.front c.requires.front in
    let same : c.deref.result.now ≡ parts.result.behind.items = cc c.deref.ensures.value in
    let whole = ap (λ (bs : List (List ℕ)). bs ++ lists c.deref.result.now) front.0 ∙ ap (λ (vs : List (Vec ℕ)). c.args.prepared.front ++ lists vs) same ∙ sym parts.ensures.batches in
    subst (λ (bs : List (List ℕ)). LeavesOnly device.moment device.left_since c.args.device c.in-Err.field-0.device (IsOldOr device c.args.device bs)) whole c.in-Err.ensures.lost

pub invariant_of-result : goal.invariant_of-result
invariant_of-result g c = λ none.
    let device = g.D.Device in
    let parts = c.into_parts-server in
    let front = front_is (device.seen c.args.device) c.args.origin c.args.prepared.front c.requires.front in
    let same : c.deref.result.now ≡ parts.result.behind.items = cc c.deref.ensures.value in
    let whole = ap (λ (bs : List (List ℕ)). bs ++ lists c.deref.result.now) front.0 ∙ ap (λ (vs : List (Vec ℕ)). c.args.prepared.front ++ lists vs) same ∙ sym parts.ensures.batches in
    let put = c.in-Ok.ensures.put in
    (put.settled, λ true. subst (λ (bs : List (List ℕ)). IsKnown ⊤ bs parts.result.known) (sym (put.seen true ∙ whole)) parts.ensures.known, tt)

pub returns-in-Err-clause-untouched : goal.returns-in-Err-clause-untouched
returns-in-Err-clause-untouched g c = λ is. c.in-Err.ensures.untouched (untouched_by c.in-Err.field-0.fault c.from.result c.from.ensures is)

pub returns-in-Err-clause-refused : goal.returns-in-Err-clause-refused
returns-in-Err-clause-refused g c = of_disk_by c.in-Err.field-0.fault c.from.result c.from.ensures
