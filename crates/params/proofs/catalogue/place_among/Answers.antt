use Rattle.std.proofs.Common.{◌≡◌, ◌∙◌, ap, rules, tests, is_some, map, string_bytes}
use Rattle.params.proofs.Names.{bytes_eq, position_from_yields_List, YieldsList-from_slice, place_among, is_some-position_from}
use Rattle.std.proofs.lemmas.Iterator.Adapters.{position_from-zero}
use Rattle.params.proofs.Masks.{position_from-texts}
use Rattle.params.proofs.catalogue.place_among.Goals as goal

pub returns : goal.returns
returns c =
    let names = c.args.names.now in
    let place : c.position.result ≡ place_among c.args.name.now (map string_bytes names) =
    position_from_yields_List (λ known. bytes_eq c.args.name.now (string_bytes known)) _ _ c.position.result c.position.ensures.ran (YieldsList-from_slice names cc) (λ x b q k. search (rules, tests))
    ∙ position_from-zero _ names
    ∙ position_from-texts c.args.name.now 0 names
    in
    record {
      place = place;
      found = ap (λ o. is_some o) place ∙ is_some-position_from (bytes_eq c.args.name.now) 0 (map string_bytes names);
    }
