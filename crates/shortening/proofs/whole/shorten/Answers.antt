use Rattle.std.proofs.Common.{◌≡◌, ◌+◌, ◌∷◌, ◌++◌, [], List, Bool, ap, sym, ◌∙◌, arith, drop}
use Rattle.std.specs.Prelude.{not}
use Rattle.std.proofs.lemmas.List.{append-nil, drop_all, map-append}
use Rattle.consent.specs.History.{Event}
use Rattle.change_codec.specs.Spelling.{dated_fact, dated_facts}
use Rattle.shortening.specs.Shortened.{is_needless, shortened}
use Rattle.shortening.specs.Steps.{IsLeaving, keeps_of, picked}
use Rattle.shortening.specs.StepsLaws.{picked_shortened, picked-stays, picked-goes}
use Rattle.shortening.proofs.Places.{one_at}
use Rattle.shortening.proofs.whole.shorten.Goals.{then-next+in_ok-extend_from_slice, else-next}
use Rattle.shortening.proofs.whole.shorten.Goals as goal

pub loop-at-init : goal.loop-at-init
loop-at-init c =
    let history = dated_facts c.args.changes.now in record {
      asked = c.in_ok-leaving.ensures;
      left_is = ap (λ xs. dated_facts xs ++ picked (keeps_of c.args.moment history history) history) c.new-left.ensures.items
          ∙ picked_shortened c.args.moment history;
    }

pub loop-at-preserved : goal.loop-at-preserved
loop-at-preserved c =
    let ds = c.args.changes.now in
    let history = dated_facts ds in
    let m = c.args.moment in
    let l = c.loop-at in
    let one = one_at l.at ds c.loop-at-test.true in
    let e = dated_fact one.0 in
    let later = dated_facts (drop (l.at + 1) ds) in
    let so_far = dated_facts l.left.items in
    let keep : Bool = not (is_needless history m e.moment e.change later) in
    let stay : List Event = picked (keeps_of m history later) later in
    let asked : IsLeaving l.leaving (keep ∷ keeps_of m history later) = rw one.1.front at l.invariant.asked in
    let whole : so_far ++ picked (keeps_of m history (e ∷ later)) (e ∷ later) ≡ shortened m history = rw one.1.front at l.invariant.left_is in
    let answer = c.next.ensures.answer keep (keeps_of m history later) asked in
    record {
      asked = c.next.ensures.rest keep (keeps_of m history later) asked;
      left_is = elim c.if-next.branch [
        | then-next+in_ok-extend_from_slice w ↦ rw w.left-is
            (ap (λ xs. dated_facts xs ++ stay) (w.in_ok-extend_from_slice.ensures.items ∙ ap (λ xs. l.left.items ++ xs) one.1.alone)
            ∙ ap (λ es. es ++ stay) (map-append dated_fact l.left.items (one.0 ∷ []))
            ∙ picked-stays m history e later so_far (shortened m history) whole (sym answer ∙ w.if-next.true))
        | else-next w ↦ rw w.left-is (picked-goes m history e later so_far (shortened m history) whole (sym answer ∙ w.if-next.false))
      ];
    }

pub returns : goal.returns
returns c =
    let l = c.loop-at in
    let ds = c.args.changes.now in
    let none : drop l.at ds ≡ [] = drop_all l.at ds (omega (arith, c.loop-at-test.false)) in
    sym (append-nil (dated_facts l.left.items)) ∙ (rw none at l.invariant.left_is)
