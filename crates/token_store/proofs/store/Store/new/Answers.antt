use Rattle.std.proofs.Common.{ap}
use Rattle.token_store.proofs.Names.{family_numbered, shared_seen}
use Rattle.std.specs.Prelude.{option_map}
use Rattle.token_store.proofs.Telling.{fits_nothing}
use Rattle.token_store.proofs.store.Store.new.Goals as goal

pub returns : goal.returns
returns c = record {
  fits = λ moment. record { kept = rw c.new.ensures.empty (fits_nothing moment); last = c.new.ensures.last };
  list = λ moment. record {
    store = record { kept = rw c.new.ensures.empty (fits_nothing moment); last = c.new.ensures.last };
    families = λ n. ap (λ es. option_map shared_seen (family_numbered es n)) c.new.ensures.homeless;
    ended = λ n is. cc;
    none_coming = c.new.ensures.coming;
  };
}
