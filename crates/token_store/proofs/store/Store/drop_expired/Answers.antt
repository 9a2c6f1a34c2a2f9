use Rattle.std.proofs.Common.{◌∙◌, List, arith}
use Rattle.token_store.proofs.Names.{Event, FitsHistory, kept_of}
use Rattle.token_store.proofs.Telling.{fits_same, all_unexpired}
use Rattle.token_store.proofs.store.Store.drop_expired.Goals as goal

pub returns : goal.returns
returns c =
    let t = c.self.inside.tables in
    let m = c.args.moment in
    let t' = c.drop_expired.new.self in
    let of = λ (history : List Event) (fits : FitsHistory (kept_of t) history m). fits_same (kept_of t) t' history m c.drop_expired.ensures.tied c.drop_expired.ensures.same fits in
    rw (← c.self.view_is) (record {
      fits = λ history fits. record { kept = of history fits.kept; last = c.drop_expired.ensures.last ∙ fits.last };
      kept = λ history fits. all_unexpired t' m c.drop_expired.ensures.tied c.drop_expired.ensures.live ∙ (of history fits.kept).count m (omega arith);
    })
