use Rattle.std.proofs.Common.{refl}
use Rattle.endpoints.proofs.remaking.Remaking.new.Goals as goal

pub returns : goal.returns
returns g c =
    let store = c.new.ensures.list 0 in
    record {
      fits = record {
        rules_are = refl;
        greatest_is = c.new-3.ensures;
        store = store;
        consents = c.new-2.ensures;
        hosts = refl;
        right = tt;
        sound = record { stands = tt; in_order = refl; closed = refl; is_history = store.store.kept.is_history };
      };
    }
