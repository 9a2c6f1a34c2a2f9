use Rattle.std.proofs.Common.{◌≡◌, inl, inr, refl, rules}
use Rattle.std.specs.Prelude.{Err}
use Rattle.standby.proofs.Named.{all_read, last_bad, none_in, one_bad, one_read, split_at, split_none}
use Rattle.standby.proofs.addresses.addresses_of.Goals as goal

pub loop-url-preserved : goal.loop-url-preserved
loop-url-preserved g c =
    let split = split_at c.loop-url.rest.now c.split_once.result _ _ c.split_once.ensures.cases c.in-Some.is in
    let pushed = c.in_ok-push_member.ensures.pushed in
    record {
      text = search rules;
      read = one_read c.args.members.now c.loop-url.rest.now c.in-Some.url.now c.in-Some.more.now c.loop-url.found.items pushed.0 _ c.loop-url.invariant.read split.0 split.1
          pushed.1 pushed.2;
    }

pub returns-in_err-push_member-clause-refused : goal.returns-in_err-push_member-clause-refused
returns-in_err-push_member-clause-refused g c =
    let split = split_at c.loop-url.rest.now c.split_once.result _ _ c.split_once.ensures.cases c.in-Some.is in
    let fault = c.in_err-push_member.field-0.0 in
    let is : c.from_residual.result ≡ Err fault = search rules in
    rw is (inl (one_bad c.args.members.now c.loop-url.rest.now c.in-Some.url.now c.in-Some.more.now c.loop-url.found.items fault c.loop-url.invariant.read split.0 split.1
    c.in_err-push_member.ensures.refused))

pub returns-in_err-push_member-2-clause-refused : goal.returns-in_err-push_member-2-clause-refused
returns-in_err-push_member-2-clause-refused g c =
    let none = split_none c.loop-url.rest.now c.split_once.result c.split_once.ensures.cases c.in_default.is in
    let fault = c.in_err-push_member-2.field-0.0 in
    let is : c.from_residual-in_err-push_member-2.result ≡ Err fault = search rules in
    rw is (inl (last_bad c.args.members.now c.loop-url.rest.now c.loop-url.found.items fault c.loop-url.invariant.read none c.in_err-push_member-2.ensures.refused))

pub returns-then-is_empty-clause-refused : goal.returns-then-is_empty-clause-refused
returns-then-is_empty-clause-refused g c =
    let none = split_none c.loop-url.rest.now c.split_once.result c.split_once.ensures.cases c.in_default.is in
    let pushed = c.in_ok-push_member-2.ensures.pushed in
    let empty = none_in c.push_member-2.new.found c.is_empty.result c.is_empty.ensures c.if-is_empty.true in
    inr (refl, rw empty at (all_read c.args.members.now c.loop-url.rest.now c.loop-url.found.items pushed.0 c.push_member-2.new.found.items c.loop-url.invariant.read none pushed.1 pushed.2))

pub returns-clause-found : goal.returns-clause-found
returns-clause-found g c =
    let none = split_none c.loop-url.rest.now c.split_once.result c.split_once.ensures.cases c.in_default.is in
    let pushed = c.in_ok-push_member-2.ensures.pushed in
    all_read c.args.members.now c.loop-url.rest.now c.loop-url.found.items pushed.0 _ c.loop-url.invariant.read none pushed.1 pushed.2
