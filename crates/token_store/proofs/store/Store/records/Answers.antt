use Rattle.std.proofs.Common.{List, sym, subst}
use Rattle.token_store.proofs.Names.{IfOk-weaker, Kept, FitsHistory, kept_of}
use Rattle.token_store.proofs.Unexpired.{fits_unexpired}
use Rattle.token_store.proofs.store.Store.records.Goals as goal

pub returns : goal.returns
returns c = rw (← c.self.view_is) (IfOk-weaker c.kept_records.result _ _ (λ v is history fits.
    let m = c.args.moment in
    subst (λ (ks : List Kept). FitsHistory ks history m) (sym is) (fits_unexpired (kept_of c.self.inside.tables) history m fits.kept)) c.kept_records.ensures)
