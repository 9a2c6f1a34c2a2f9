use Rattle.std.proofs.Common.{rules, Some, arith, [], ◌∷◌, ◌++◌, refl}
use Rattle.change_codec.specs.Keeping.{horizon_bound}
use Rattle.state_keeper.proofs.Names.{recovered, Until, Known}
use Rattle.state_keeper.proofs.Drafts.{until_held}
use Rattle.state_keeper.proofs.Kept.{HasMore, HasNow, holds_basis, keeper_of, keeps, keeps_basis, keeps_not, more_leaves, more_now, tells_basis}
use Rattle.state_keeper.proofs.Known.{known_horizon, known_still}
use Rattle.state_keeper.proofs.Lasting.{horizon_stands, horizon_tells, horizon_until}
use Rattle.state_keeper.proofs.Passed.{HasOneMore, begun_in, no_further, same_front, still_on_the_way}
use Rattle.state_keeper.specs.Slicing.{front_if, to_go_if}
use Rattle.state_keeper.proofs.keeper.StateKeeperKeeper.keep_moment.Goals as goal

pub invariant_of-self : goal.invariant_of-self
invariant_of-self g c = λ none.
    let device = g.D.Device in
    let known = c.self.inside.known in
    let was = recovered (device.seen c.self.inside.file.device) in
    let batch = c.horizon.result in
    let now : Known = record { rules = known.rules; shortened = known.shortened; until = c.horizon_at-until.result } in
    let more : HasOneMore device c.self.inside.file c.append.new.self batch =
    record { before = (c.self.invariant none).0; settled = c.in-Ok.ensures.settled; added = c.in-Ok.ensures.added; next = c.in-Ok.ensures.next; truth = c.in-Ok.ensures.truth } in
    let True = device.reads_true c.self.inside.file.device in (
      c.in-Ok.ensures.settled,
      known_still True (device.reads_true c.append.new.self.device) (was ++ batch ∷ []) _ now c.in-Ok.ensures.truth c.in-Ok.ensures.added
          (λ true. known_horizon was batch c.horizon_at-until.result known now c.horizon.ensures c.horizon_at-until.ensures.in_range (omega arith) refl refl refl ((c.self.invariant none).1 true)),
      still_on_the_way device c.self.inside.file c.append.new.self batch known.rules.items more c.self.inside.shortening (c.self.invariant none).2,
    )

pub returns-then-get-clause-told : goal.returns-then-get-clause-told
returns-then-get-clause-told g c =
    let device = g.D.Device in
    let file = c.self.inside.file in
    let s = c.self.inside.shortening in
    let is = c.self.invariant (search rules) in
    rw (← c.self.view_is) (until_held device (keeper_of file c.self.inside.fault (front_if device file s) (to_go_if s file.end) c.self.inside.known) c.self.inside.known c.args.now is.0 is.1
    (λ left may. g.met.D.Device.only_true file.device left may) (omega arith))

pub returns-in-Ok : goal.returns-in-Ok
returns-in-Ok g c =
    let device = g.D.Device in
    let file = c.self.inside.file in
    let s = c.self.inside.shortening in
    let batch = c.horizon.result in
    let until = c.horizon_at-until.result in
    let less = c.horizon_at-until.ensures.in_range in
    let is = c.self.invariant (search rules) in
    let old = keeper_of file c.self.inside.fault (front_if device file s) (to_go_if s file.end) c.self.inside.known in
    let new = keeper_of c.append.new.self c.self.inside.fault (front_if device c.append.new.self s) (to_go_if s c.append.new.self.end) (record c.self.inside.known { until = until }) in
    let more : HasOneMore device file c.append.new.self batch =
    record { before = is.0; settled = c.in-Ok.ensures.settled; added = c.in-Ok.ensures.added; next = c.in-Ok.ensures.next; truth = c.in-Ok.ensures.truth } in
    let now : HasNow device old new (HasMore batch) =
    more_now device old new batch (more_leaves device old new batch c.in-Ok.ensures.any_moment c.in-Ok.ensures.readable c.in-Ok.ensures.true_before) c.in-Ok.ensures.settled c.in-Ok.ensures.truth
    (λ left may. g.met.D.Device.only_true c.append.new.self.device left may) c.in-Ok.ensures.added
    (begun_in device file c.self.inside.known.rules.items s is.2)
    (same_front device file c.append.new.self batch c.self.inside.known.rules.items more s is.2) in
    let basis = keeps_basis device old new (HasMore batch) (horizon_bound c.args.now) now (λ some others same. rw same (horizon_tells (horizon_bound c.args.now) some batch until c.horizon.ensures less (let at = c.horizon_at-until.ensures.is in omega (arith, at)))) in
    rw (← c.self.view_is) (record {
      idle = λ le. absurd (let more = c.if-get.false in omega (arith, le, more));
      until = λ less. (let at = c.horizon_at-until.ensures.is in let later = c.horizon_at-until.ensures.later in omega (arith, at, later, less));
      kept = λ history. keeps device old new (HasMore batch) history history now (λ some others same. rw same (horizon_stands some batch until history c.horizon.ensures less));
      lost = tt;
      fails = tt;
      works = search rules;
      no_further = no_further device file c.append.new.self batch c.self.inside.known.rules.items more s is.2 (omega arith);
      told = holds_basis device old new (HasMore batch) (Until c.args.now) now
          (λ some others same. rw same (let told = horizon_until some batch until c.horizon.ensures less in let le = c.horizon_at-until.ensures.later in omega (arith, told, le)));
      basis = basis;
      meanwhile = basis.meanwhile;
    })

pub returns-in-Err : goal.returns-in-Err
returns-in-Err g c =
    let device = g.D.Device in
    let file = c.self.inside.file in
    let s = c.self.inside.shortening in
    let batch = c.horizon.result in
    let until = c.horizon_at-until.result in
    let old = keeper_of file c.self.inside.fault (front_if device file s) (to_go_if s file.end) c.self.inside.known in
    let new = keeper_of c.append.new.self (Some c.in-Err.refused) (front_if device c.append.new.self s) (to_go_if s c.append.new.self.end) c.self.inside.known in
    let is = c.self.invariant (search rules) in
    let any = more_leaves device old new batch c.in-Err.ensures.any_moment c.in-Err.ensures.readable c.in-Err.ensures.true_before in
    rw (← c.self.view_is) (record {
      idle = λ le. absurd (let more = c.if-get.false in omega (arith, le, more));
      until = tt;
      kept = tt;
      lost = λ history. keeps_not device old new (HasMore batch) history history any
          (λ some others same. rw same (horizon_stands some batch until history c.horizon.ensures c.horizon_at-until.ensures.in_range));
      fails = refl;
      works = tt;
      no_further = tt;
      told = tt;
      basis = tt;
      meanwhile = tells_basis device old new (HasMore batch) (horizon_bound c.args.now) any
          (λ some others same. rw same (horizon_tells (horizon_bound c.args.now) some batch until c.horizon.ensures c.horizon_at-until.ensures.in_range (let at = c.horizon_at-until.ensures.is in omega (arith, at))));
    })
