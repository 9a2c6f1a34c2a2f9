use Rattle.std.proofs.Common.{◌++◌, ◌∙◌, List, ℕ, ap, subst}
use Rattle.std.specs.Prelude.{option_map}
use Rattle.batch_file.specs.Frames.{lists}
use Rattle.file_copy.specs.Copies.{HasCopied}
use Rattle.file_copy.proofs.Copying.{aside_here, aside_on, copied_end, is_copied}
use Rattle.file_copy.proofs.placing.copy.Goals as goal

pub returns-in_err-copy-clause-aside : goal.returns-in_err-copy-clause-aside
returns-in_err-copy-clause-aside g c = λ file a.
    let D = g.D.Device in
    let begun = aside_on D file c.args.device.now c.begin_next.new.self a c.begin_next.ensures.beside c.begin_next.ensures.time c.begin_next.ensures.truth in
    c.copy.ensures.aside file begun

pub returns-in_err-put_all-clause-aside : goal.returns-in_err-put_all-clause-aside
returns-in_err-put_all-clause-aside g c = λ file a.
    let D = g.D.Device in
    let begun = aside_on D file c.args.device.now c.begin_next.new.self a c.begin_next.ensures.beside c.begin_next.ensures.time c.begin_next.ensures.truth in
    c.put_all.ensures.aside file (c.copy.ensures.aside file begun)

pub returns-in_err-extend_from_slice-clause-aside : goal.returns-in_err-extend_from_slice-clause-aside
returns-in_err-extend_from_slice-clause-aside g c = λ file a.
    let D = g.D.Device in
    let begun = aside_on D file c.args.device.now c.begin_next.new.self a c.begin_next.ensures.beside c.begin_next.ensures.time c.begin_next.ensures.truth in
    c.put_all.ensures.aside file (c.copy.ensures.aside file begun)

pub returns-in_err-add_to_next-clause-aside : goal.returns-in_err-add_to_next-clause-aside
returns-in_err-add_to_next-clause-aside g c = λ file a.
    let D = g.D.Device in
    let begun = aside_on D file c.args.device.now c.begin_next.new.self a c.begin_next.ensures.beside c.begin_next.ensures.time c.begin_next.ensures.truth in
    aside_on D file c.put_all.new.device c.add_to_next.new.self (c.put_all.ensures.aside file (c.copy.ensures.aside file begun)) c.add_to_next.ensures.beside c.add_to_next.ensures.time
    c.add_to_next.ensures.truth

pub returns-in_err-sync_next-clause-aside : goal.returns-in_err-sync_next-clause-aside
returns-in_err-sync_next-clause-aside g c = λ file a.
    let D = g.D.Device in
    let begun = aside_on D file c.args.device.now c.begin_next.new.self a c.begin_next.ensures.beside c.begin_next.ensures.time c.begin_next.ensures.truth in
    let added = aside_on D file c.put_all.new.device c.add_to_next.new.self (c.put_all.ensures.aside file (c.copy.ensures.aside file begun)) c.add_to_next.ensures.beside c.add_to_next.ensures.time
    c.add_to_next.ensures.truth in
    aside_on D file c.add_to_next.new.self c.sync_next.new.self added c.sync_next.ensures.beside c.sync_next.ensures.time c.sync_next.ensures.truth

pub returns-clause-aside : goal.returns-clause-aside
returns-clause-aside g c = λ file a.
    let D = g.D.Device in
    let begun = aside_on D file c.args.device.now c.begin_next.new.self a c.begin_next.ensures.beside c.begin_next.ensures.time c.begin_next.ensures.truth in
    let added = aside_on D file c.put_all.new.device c.add_to_next.new.self (c.put_all.ensures.aside file (c.copy.ensures.aside file begun)) c.add_to_next.ensures.beside c.add_to_next.ensures.time
    c.add_to_next.ensures.truth in
    aside_on D file c.add_to_next.new.self c.sync_next.new.self added c.sync_next.ensures.beside c.sync_next.ensures.time c.sync_next.ensures.truth

pub returns-clause-copied : goal.returns-clause-copied
returns-clause-copied g c =
    let D = g.D.Device in
    let seen = D.seen c.args.device.now in
    let end = c.args.end in
    let behind = lists c.args.behind.now in
    let was = c.copy.new.device in
    let put = c.put_all.new.device in
    let h = subst (λ (l : List ℕ). HasCopied D l end was c.copy.new.self) c.begin_next.ensures.beside.bytes c.in_ok-copy.ensures.copied in
    let are = c.in_ok-put_all.ensures.added h.batches h.are in
    let out = c.extend_from_slice.new.self.items in
    let added = c.in_ok-add_to_next.ensures.added ∙ ap (λ (l : List ℕ). option_map (λ w. w ++ l) (D.next put)) c.deref.ensures.value in
    let here = aside_here D was (g.met.D.Device.only_now was) in
    let truth = λ (told : D.reads_true c.sync_next.new.self). (c.put_all.ensures.aside was here).truth (c.add_to_next.ensures.truth (c.sync_next.ensures.truth told)) in
    is_copied D seen behind end was put c.sync_next.new.self c.copy.new.self c.put_all.new.self h are out (D.next c.add_to_next.new.self) c.in_ok-extend_from_slice.ensures.items added
    c.in_ok-sync_next.ensures.durable truth c.requires.readable c.requires.end

pub returns-clause-end : goal.returns-clause-end
returns-clause-end g c =
    let D = g.D.Device in
    let h = c.in_ok-copy.ensures.copied in
    let are = c.in_ok-put_all.ensures.added h.batches h.are in
    copied_end D (D.seen c.begin_next.new.self) (lists c.args.behind.now) c.args.end c.copy.new.device (D.next c.put_all.new.device) c.copy.new.self c.put_all.new.self h are

pub returns-in_err-begin_next-clause-aside : goal.returns-in_err-begin_next-clause-aside
returns-in_err-begin_next-clause-aside g c = λ file a.
    aside_on g.D.Device file c.args.device.now c.begin_next.new.self a c.begin_next.ensures.beside c.begin_next.ensures.time c.begin_next.ensures.truth
