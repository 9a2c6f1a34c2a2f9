use Rattle.std.proofs.Common.{[], ◌∷◌, sym, arith}
use Rattle.consent.specs.GrowthLaws.{greatest_family-append}
use Rattle.consent.specs.HistoryLaws.{last-joined}
use Rattle.change_codec.specs.Spelling.{dated_fact}
use Rattle.shortening.proofs.last_told.LastTold.note.Goals as goal

pub returns : goal.returns
returns c = λ events told.
    let e = dated_fact c.args.dated.now in
    let both = greatest_family-append events (e ∷ []) in
    let was = told.number in
    record {
      moment = sym (last-joined 0 events (e ∷ []));
      number = omega (arith, both, was, c.number_in.ensures);
    }
