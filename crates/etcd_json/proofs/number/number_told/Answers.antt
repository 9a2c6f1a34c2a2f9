use Rattle.std.proofs.Common.{◌≡◌, true, ◌∙◌, rules}
use Rattle.std.specs.Char.{is_ascii_digit}
use Rattle.std.specs.List.{list_all}
use Rattle.etcd_json.proofs.Digits.{parsed}
use Rattle.etcd_json.proofs.number.number_told.Goals as goal

pub returns : goal.returns
returns c =
    let are : list_all is_ascii_digit c.args.text.now ≡ true = search rules in
    c.ok.ensures.value ∙ parsed c.args.text.now c.parse.result are c.parse.ensures.value.0
