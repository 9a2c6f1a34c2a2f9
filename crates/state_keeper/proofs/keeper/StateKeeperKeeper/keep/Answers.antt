use Rattle.std.proofs.Common.{rules, Some, ◌≡◌, ◌≤◌, ◌<◌, ◌^◌, ◌∙◌, ◌+◌, ◌-◌, [], ◌∷◌, ◌++◌, ℕ, List, refl, sym, ap, arith}
use Rattle.std.specs.Prelude.{max}
use Rattle.change_codec.specs.Keeping.{horizon_bound}
use Rattle.state_keeper.proofs.Names.{frames_size, if◌then◌else◌, batch_spelling, recovered, tells_number, Known}
use Rattle.state_keeper.proofs.Ahead.{ahead_known, ahead_stands, ahead_tells}
use Rattle.state_keeper.proofs.Drafts.{until_held}
use Rattle.state_keeper.proofs.Kept.{HasMore, HasNow, LeadOn, keeper_of, keeps, keeps_basis, keeps_not, more_leaves, more_now, tells_basis}
use Rattle.state_keeper.proofs.Known.{known_still}
use Rattle.state_keeper.proofs.Passed.{HasOneMore, begun_in, no_further, same_front, still_on_the_way}
use Rattle.state_keeper.proofs.Put.{end_at}
use Rattle.state_keeper.specs.Passing.{IsKnownFile}
use Rattle.state_keeper.specs.Seen.{with_horizon}
use Rattle.state_keeper.specs.Slicing.{front_if, to_go_if}
use Rattle.state_keeper.proofs.keeper.StateKeeperKeeper.keep.Goals as goal

pub invariant_of-self-in-Ok-append : goal.invariant_of-self-in-Ok-append
invariant_of-self-in-Ok-append g c = λ none.
    let device = g.D.Device in
    let known = c.self.inside.known in
    let was = recovered (device.seen c.self.inside.file.device) in
    let batch = c.deref.result.now in
    let until = c.horizon_at-ahead.result in
    let is : batch ≡ with_horizon known.until until (batch_spelling c.args.batch.now.facts) =
    c.deref.ensures.value ∙ c.in-Ok.ensures ∙ ap (with_horizon known.until until) c.bytes.ensures.spelled in
    let frames = was ++ batch ∷ [] in
    let now : Known = record { rules = known.rules; shortened = c.size_behind-self-inside.result; until = c.later-self-inside.result } in
    let added = c.in-Ok-append.ensures.added in
    let end : c.append.new.self.end ≡ 16 + frames_size frames =
    end_at device c.append.new.self c.in-Ok-append.ensures.settled ∙ ap (λ (bs : List (List ℕ)). 16 + frames_size bs) added in
    let size : c.append.new.self.end - 16 ≡ frames_size frames = omega (arith, end) in
    let same : c.deref-in-Ok-append.result.now ≡ batch = c.deref-in-Ok-append.ensures.value ∙ sym c.deref.ensures.value in
    let sized : c.size_behind-self-inside.result ≡ (if tells_number batch then frames_size frames else known.shortened) =
    c.size_behind-self-inside.ensures ∙ ap (λ (b : List ℕ). if tells_number b then c.append.new.self.end - 16 else known.shortened) same
    ∙ ap (λ (n : ℕ). if tells_number batch then n else known.shortened) size in
    let more : HasOneMore device c.self.inside.file c.append.new.self batch =
    record { before = (c.self.invariant none).0; settled = c.in-Ok-append.ensures.settled; added = added; next = c.in-Ok-append.ensures.next; truth = c.in-Ok-append.ensures.truth } in
    let True = device.reads_true c.self.inside.file.device in (
      c.in-Ok-append.ensures.settled,
      known_still True (device.reads_true c.append.new.self.device) frames _ now c.in-Ok-append.ensures.truth added
          (λ true. ahead_known known.until until c.args.batch.now.facts c.bytes.ensures.fits c.horizon_at-ahead.ensures.in_range was batch is known now refl refl sized c.later-self-inside.ensures ((c.self.invariant none).1 true)),
      still_on_the_way device c.self.inside.file c.append.new.self batch known.rules.items more c.self.inside.shortening (c.self.invariant none).2,
    )

pub returns-in-Ok-append : goal.returns-in-Ok-append
returns-in-Ok-append g c =
    let device = g.D.Device in
    let file = c.self.inside.file in
    let s = c.self.inside.shortening in
    let known = c.self.inside.known in
    let batch = c.deref.result.now in
    let facts = c.args.batch.now.facts in
    let until = c.horizon_at-ahead.result in
    let less = c.horizon_at-ahead.ensures.in_range in
    let within : until ≤ horizon_bound c.args.now = (let at = c.horizon_at-ahead.ensures.is in omega (arith, at)) in
    let written : batch ≡ with_horizon known.until until (batch_spelling facts) =
    c.deref.ensures.value ∙ c.in-Ok.ensures ∙ ap (with_horizon known.until until) c.bytes.ensures.spelled in
    let is = c.self.invariant (search rules) in
    let old = keeper_of file c.self.inside.fault (front_if device file s) (to_go_if s file.end) known in
    let now : Known = record { rules = known.rules; shortened = c.size_behind-self-inside.result; until = c.later-self-inside.result } in
    let new = keeper_of c.append.new.self c.self.inside.fault (front_if device c.append.new.self s) (to_go_if s c.append.new.self.end) now in
    let more : HasOneMore device file c.append.new.self batch =
    record { before = is.0; settled = c.in-Ok-append.ensures.settled; added = c.in-Ok-append.ensures.added; next = c.in-Ok-append.ensures.next; truth = c.in-Ok-append.ensures.truth } in
    let has : HasNow device old new (HasMore batch) =
    more_now device old new batch (more_leaves device old new batch c.in-Ok-append.ensures.any_moment c.in-Ok-append.ensures.readable c.in-Ok-append.ensures.true_before) c.in-Ok-append.ensures.settled c.in-Ok-append.ensures.truth
    (λ left may. g.met.D.Device.only_true c.append.new.self.device left may) c.in-Ok-append.ensures.added
    (begun_in device file known.rules.items s is.2)
    (same_front device file c.append.new.self batch known.rules.items more s is.2) in
    let on : LeadOn device old new (HasMore batch) (horizon_bound c.args.now) =
    λ some others same. rw same (ahead_tells known.until until facts c.bytes.ensures.fits less some batch written (horizon_bound c.args.now) within) in
    let basis = keeps_basis device old new (HasMore batch) (horizon_bound c.args.now) has on in
    let kept = invariant_of-self-in-Ok-append g c (search rules) in
    rw (← c.self.view_is) (record {
      kept = λ before after happened. keeps device old new (HasMore batch) before after has
          (λ some others same. rw same (ahead_stands known.until until facts c.bytes.ensures.fits less some batch written before after happened));
      lost = tt;
      fails = tt;
      works = search rules;
      no_further = no_further device file c.append.new.self batch known.rules.items more s is.2 (omega arith);
      ahead = until_held device new now _ kept.0 kept.1
          (λ left may. g.met.D.Device.only_true c.append.new.self.device left may)
          (let at = c.horizon_at-ahead.ensures.is in let last = c.later-self-inside.ensures in omega (arith, at, last));
      until = c.later-self-inside.ensures ∙ ap (λ (moment : ℕ). max known.until moment) c.horizon_at-ahead.ensures.is;
      basis = basis;
      meanwhile = basis.meanwhile;
      sole = c.in-Ok-append.ensures.sole;
    })

pub returns-clause-lost : goal.returns-clause-lost
returns-clause-lost g c =
    let device = g.D.Device in
    let file = c.self.inside.file in
    let s = c.self.inside.shortening in
    let known = c.self.inside.known in
    let batch = c.deref.result.now in
    let facts = c.args.batch.now.facts in
    let until = c.horizon_at-ahead.result in
    let less = c.horizon_at-ahead.ensures.in_range in
    let written : batch ≡ with_horizon known.until until (batch_spelling facts) =
    c.deref.ensures.value ∙ c.in-Ok.ensures ∙ ap (with_horizon known.until until) c.bytes.ensures.spelled in
    let old = keeper_of file c.self.inside.fault (front_if device file s) (to_go_if s file.end) known in
    let new = keeper_of c.append.new.self (Some c.in-Err.fault) (front_if device c.append.new.self s) (to_go_if s c.append.new.self.end) known in
    let any = more_leaves device old new batch c.in-Err.ensures.any_moment c.in-Err.ensures.readable c.in-Err.ensures.true_before in
    rw (← c.self.view_is) (λ before after happened. keeps_not device old new (HasMore batch) before after any
    (λ some others same. rw same (ahead_stands known.until until facts c.bytes.ensures.fits less some batch written before after happened)))

pub returns-clause-meanwhile : goal.returns-clause-meanwhile
returns-clause-meanwhile g c =
    let device = g.D.Device in
    let file = c.self.inside.file in
    let s = c.self.inside.shortening in
    let known = c.self.inside.known in
    let batch = c.deref.result.now in
    let facts = c.args.batch.now.facts in
    let until = c.horizon_at-ahead.result in
    let less = c.horizon_at-ahead.ensures.in_range in
    let written : batch ≡ with_horizon known.until until (batch_spelling facts) =
    c.deref.ensures.value ∙ c.in-Ok.ensures ∙ ap (with_horizon known.until until) c.bytes.ensures.spelled in
    let old = keeper_of file c.self.inside.fault (front_if device file s) (to_go_if s file.end) known in
    let new = keeper_of c.append.new.self (Some c.in-Err.fault) (front_if device c.append.new.self s) (to_go_if s c.append.new.self.end) known in
    let any = more_leaves device old new batch c.in-Err.ensures.any_moment c.in-Err.ensures.readable c.in-Err.ensures.true_before in
    let within : until ≤ horizon_bound c.args.now = (let at = c.horizon_at-ahead.ensures.is in omega (arith, at)) in
    rw (← c.self.view_is) (tells_basis device old new (HasMore batch) (horizon_bound c.args.now) any
    (λ some others same. rw same (ahead_tells known.until until facts c.bytes.ensures.fits less some batch written (horizon_bound c.args.now) within)))
