use Rattle.std.proofs.Common.{◌≡◌, ◌<◌, ◌≤◌, ◌+◌, ◌∙◌, drop, length, ap, sym, arith}
use Rattle.std.specs.Prelude.{count_by, option_copied}
use Rattle.std.proofs.lemmas.List.{at_drop_all}
use Rattle.std.proofs.lemmas.List.Sums.{count_by-le-length}
use Rattle.shelf.specs.Shelved.{entries_in}
use Rattle.token_store.specs.Kin.{seated}
use Rattle.token_store.specs.RecordsParts.{is_open_of, open_in}
use Rattle.token_store.proofs.Keeping.{counted_on, open_counted}
use Rattle.token_store.proofs.Names.{kept_lives, kept_of}
use Rattle.token_store.proofs.tables.Tables.families_of.Goals as goal

pub loop-slot-init : goal.loop-slot-init
loop-slot-init c = omega arith

pub overflow_add-count : goal.overflow_add-count
overflow_add-count c =
    let p = open_in c.args.owner (kept_lives (kept_of c.args.self.now) c.args.moment) in
    let items = c.in-Some.slots.now.items in
    let len = c.len-slot-end.ensures in
    let fits = c.len-slot-end.type_inv in
    let so_far = c.loop-slot.invariant in
    let first = counted_on p items c.loop-slot.slot c.is_open_in.result (omega (arith, len)) (c.is_open_in.ensures ∙ ap p c.get.ensures) in
    let few = count_by-le-length p items in
    let is = c.from-count.ensures in
    omega (arith, so_far, first, few, is, len, fits)

pub loop-slot-preserved : goal.loop-slot-preserved
loop-slot-preserved c =
    let p = open_in c.args.owner (kept_lives (kept_of c.args.self.now) c.args.moment) in
    let items = c.in-Some.slots.now.items in
    let len = c.len-slot-end.ensures in
    let so_far = c.loop-slot.invariant in
    let first = counted_on p items c.loop-slot.slot c.is_open_in.result (omega (arith, len)) (c.is_open_in.ensures ∙ ap p c.get.ensures) in
    let is = c.from-count.ensures in
    omega (arith, so_far, first, is)

pub returns-clause-count : goal.returns-clause-count
returns-clause-count c =
    let lives = kept_lives (kept_of c.args.self.now) c.args.moment in
    let p = open_in c.args.owner lives in
    let items = c.in-Some.slots.now.items in
    let len = c.len-slot-end.ensures in
    let so_far = c.loop-slot.invariant in
    let none = at_drop_all (count_by p) items c.loop-slot.slot (omega (arith, len)) in
    let all : c.loop-slot.count ≡ count_by p items = omega (arith, so_far, none) in
    all ∙ open_counted c.args.owner lives items ∙ ap (count_by (is_open_of c.args.owner lives)) c.in-Some.ensures.all

pub returns-in_default-clause-count : goal.returns-in_default-clause-count
returns-in_default-clause-count c =
    let opened = count_by (is_open_of c.args.owner (kept_lives (kept_of c.args.self.now) c.args.moment)) in
    ap (λ o. opened (entries_in (seated (option_copied o)))) (sym c.in_default.is) ∙ ap opened c.slots.ensures.all
