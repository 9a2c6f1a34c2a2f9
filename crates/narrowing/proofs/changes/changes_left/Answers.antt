use Rattle.std.proofs.Common.{◌≤◌, ◌<◌, ◌+◌, ◌∙◌, List, Vec, Global, length, arith, ap, sym, subst}
use Rattle.std.proofs.lemmas.List.{length-set}
use Rattle.change_codec.specs.Spelling.{dated_facts}
use Rattle.change_codec.specs.declared.dated.DatedChange.{DatedChange}
use Rattle.consent.specs.History.{event_at}
use Rattle.narrowing.specs.Codes.{TellsCodes, beyond_by}
use Rattle.narrowing.specs.Left.{Under}
use Rattle.narrowing.proofs.Changing.{with_rest, all_left, left_by_codes, none_changed, one_left}
use Rattle.narrowing.proofs.changes.changes_left.Goals.{in-Some, in_default}
use Rattle.narrowing.proofs.changes.changes_left.Goals as goal

pub loop-place-preserved : goal.loop-place-preserved
loop-place-preserved c =
    let under : Under = record { rules = c.args.rules.now; owners = c.args.owners.now } in
    let beyond = beyond_by c.in_ok-codes.codes.entries in
    let items = c.loop-place.left.items in
    let place = c.loop-place.place in
    let x = c.index-dated.result.now in
    let within : place < length items = omega (arith, c.loop-place-test.true, c.loop-place.invariant.length) in
    elim c.match-in_place_of.branch [
      | in-Some w ↦
          let r : DatedChange = record { moment = x.moment; change = w.in-Some.change } in record {
            left = ap (λ (v : Vec DatedChange Global). with_rest under beyond v.items (place + 1)) w.left-is
                ∙ one_left under beyond items place x within c.index-dated.ensures r (ap (event_at x.moment) w.in-Some.ensures) ∙ c.loop-place.invariant.left;
            length = ap (λ (v : Vec DatedChange Global). length v.items) w.left-is ∙ length-set items place r ∙ c.loop-place.invariant.length;
          }
      | in_default w ↦ record {
        left = ap (λ (v : Vec DatedChange Global). with_rest under beyond v.items (place + 1)) w.left-is
            ∙ none_changed under beyond items place x within c.index-dated.ensures (ap (event_at x.moment) w.in_default.ensures) ∙ c.loop-place.invariant.left;
        length = ap (λ (v : Vec DatedChange Global). length v.items) w.left-is ∙ c.loop-place.invariant.length;
      }
    ]

pub returns : goal.returns
returns c =
    let under : Under = record { rules = c.args.rules.now; owners = c.args.owners.now } in
    let items = c.loop-place.left.items in
    let codes = c.in_ok-codes.codes.entries in
    let past : length items ≤ c.loop-place.place = omega (arith, c.loop-place-test.false, c.loop-place.invariant.length) in
    sym (all_left under (beyond_by codes) items c.loop-place.place past) ∙ c.loop-place.invariant.left
    ∙ left_by_codes under (dated_facts c.args.changes.items) codes
    (subst (λ (xs : List DatedChange). TellsCodes under (dated_facts xs) codes) c.as_slice.ensures.value c.in_ok-codes.ensures)
