use Rattle.std.proofs.Common.{inl, inr, ◌∙◌, List, arith}
use Rattle.std.proofs.lemmas.List.{length-map}
use Rattle.token_store.proofs.Names.{Event, FitsHistory, kept_in, kept_of, stand_entries}
use Rattle.token_store.proofs.Telling.{fits_same, all_unexpired}
use Rattle.token_store.proofs.store.Store.drop_some.Goals as goal

pub returns : goal.returns
returns c =
    let t = c.self.inside.tables in
    let m = c.args.moment in
    let t' = c.drop_some.new.self in
    let of = λ (history : List Event) (fits : FitsHistory (kept_of t) history m). fits_same (kept_of t) t' history m c.drop_some.ensures.tied c.drop_some.ensures.same fits in
    let len = length-map (stand_entries t.records) (kept_in t.families.entries) in
    let len' = length-map (stand_entries t'.records) (kept_in t'.families.entries) in
    rw (← c.self.view_is) (record {
      fits = λ history fits. record { kept = of history fits.kept; last = c.drop_some.ensures.last ∙ fits.last };
      kept = λ history fits. elim c.drop_some.ensures.live [
        | inl all ↦ inl (all_unexpired t' m c.drop_some.ensures.tied all ∙ (of history fits.kept).count m (omega arith))
        | inr fewer ↦ inr (omega (arith, fewer, len, len'))
      ];
    })
