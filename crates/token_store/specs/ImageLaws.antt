-- What is kept, from what is said of it. For proofs alone.
use Rattle.std.proofs.Common.{◌≡◌, List, [], ◌∷◌, map, refl, ap}
use Rattle.consent.specs.RecordFacts.{record_fact}
use Rattle.consent.specs.declared.kept_record.KeptRecord.{KeptRecord}
use Rattle.token_store.specs.Image.{as_kept, kept_record, kept_told}
use Rattle.token_store.specs.Kept.{Kept}

pub all_same : (rs : List KeptRecord) → map kept_told (map record_fact rs) ≡ as_kept rs
all_same [] = refl
all_same (r ∷ rs) = ap (λ (ks : List Kept). kept_record r ∷ ks) (all_same rs)
