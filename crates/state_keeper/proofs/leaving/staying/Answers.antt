use Rattle.std.proofs.Common.{◌≡◌, ◌+◌, ◌++◌, ◌∙◌, [], ◌∷◌, List, Bool, drop, sym, ap, arith}
use Rattle.std.specs.Prelude.{not}
use Rattle.std.proofs.lemmas.List.{drop_all}
use Rattle.shortening.specs.Shortened.{is_needless}
use Rattle.shortening.specs.Steps.{IsLeaving, keeps_of, picked}
use Rattle.shortening.specs.StepsLaws.{picked-goes, picked-stays}
use Rattle.state_keeper.proofs.Names.{Event, dated_fact, dated_facts, map-append}
use Rattle.state_keeper.proofs.Places.{one_at}
use Rattle.state_keeper.proofs.leaving.staying.Goals.{then-next+in_ok-extend_from_slice, else-next}
use Rattle.state_keeper.proofs.leaving.staying.Goals as goal

pub loop-at-init : goal.loop-at-init
loop-at-init c = record {
  asked = λ history later m is. is;
  stays = λ history later m is.
      ap (λ xs. dated_facts xs ++ picked (keeps_of m history (dated_facts c.args.changes.now ++ later)) (dated_facts c.args.changes.now ++ later)) c.new-stay.ensures.items;
}

pub loop-at-preserved : goal.loop-at-preserved
loop-at-preserved c =
    let ds = c.args.changes.now in
    let l = c.loop-at in
    let one = one_at l.at ds c.loop-at-test.true in
    let e = dated_fact one.0 in
    record {
      asked = λ history later m is.
          let behind = dated_facts (drop (l.at + 1) ds) ++ later in
          let keep : Bool = not (is_needless history m e.moment e.change behind) in
          let asked : IsLeaving l.leaving (keep ∷ keeps_of m history behind) = rw one.1.front at (l.invariant.asked history later m is) in
          c.next.ensures.rest keep (keeps_of m history behind) asked;
      stays = λ history later m is.
          let behind = dated_facts (drop (l.at + 1) ds) ++ later in
          let all = picked (keeps_of m history (dated_facts ds ++ later)) (dated_facts ds ++ later) in
          let so_far = dated_facts l.stay.items in
          let keep : Bool = not (is_needless history m e.moment e.change behind) in
          let stay : List Event = picked (keeps_of m history behind) behind in
          let asked : IsLeaving l.leaving (keep ∷ keeps_of m history behind) = rw one.1.front at (l.invariant.asked history later m is) in
          let whole : so_far ++ picked (keeps_of m history (e ∷ behind)) (e ∷ behind) ≡ all = rw one.1.front at (l.invariant.stays history later m is) in
          let answer = c.next.ensures.answer keep (keeps_of m history behind) asked in
          elim c.if-next.branch [
            | then-next+in_ok-extend_from_slice w ↦ rw w.stay-is
                (ap (λ xs. dated_facts xs ++ stay) (w.in_ok-extend_from_slice.ensures.items ∙ ap (λ xs. l.stay.items ++ xs) one.1.alone)
                ∙ ap (λ es. es ++ stay) (map-append dated_fact l.stay.items (one.0 ∷ []))
                ∙ picked-stays m history e behind so_far all whole (sym answer ∙ w.if-next.true))
            | else-next w ↦ rw w.stay-is (picked-goes m history e behind so_far all whole (sym answer ∙ w.if-next.false))
          ];
    }

pub returns-clause-picked : goal.returns-clause-picked
returns-clause-picked c = λ history later m is.
    let l = c.loop-at in
    let none : drop l.at c.args.changes.now ≡ [] = drop_all l.at c.args.changes.now (omega (arith, c.loop-at-test.false)) in
    sym (rw none at (l.invariant.stays history later m is))

pub returns-clause-rest : goal.returns-clause-rest
returns-clause-rest c = λ history later m is.
    let l = c.loop-at in
    let none : drop l.at c.args.changes.now ≡ [] = drop_all l.at c.args.changes.now (omega (arith, c.loop-at-test.false)) in
    rw none at (l.invariant.asked history later m is)
