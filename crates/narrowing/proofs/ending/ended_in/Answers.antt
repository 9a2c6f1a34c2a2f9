use Rattle.std.proofs.Common.{◌≡◌, ℕ, List, refl, sym, subst}
use Rattle.batch_file.specs.Frames.{lists}
use Rattle.narrowing.proofs.Names.{FitsHistory, as_kept, KeptRecord, standing_fact, AreNarrower, rules_of}
use Rattle.narrowing.proofs.OfLeft.{ends_of}
use Rattle.narrowing.proofs.ending.ended_in.Goals as goal

pub returns-clause-ends : goal.returns-clause-ends
returns-clause-ends g c = λ left read torn.
    let told = c.in_ok-told.told in
    let account = c.in-Ok.ensures.told left read torn in
    ends_of g.H.HookHost c.in-Ok.account left c.args.host (record { rules = c.args.registry.now; owners = c.args.owners.now }) (standing_fact told) told.records.items c.ended_count.result refl
    (λ history fits. c.ended_count.ensures history (subst (λ (rs : List KeptRecord). FitsHistory (as_kept rs) history told.greatest) (sym c.as_slice.ensures.value) fits))
    (subst (λ (bs : List (List ℕ)). AreNarrower bs (rules_of c.args.registry.now)) (sym read) c.requires.narrower) account (c.in_ok-told.ensures left c.args.host account)
