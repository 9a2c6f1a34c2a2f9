use Rattle.std.proofs.Common.{ap, sym, ◌∙◌}
use Rattle.std.specs.Prelude.{Some, option_map}
use Rattle.answers.specs.Setting.{Setting}
use Rattle.answers.specs.Views.{setting_of}
use Rattle.token_endpoint.specs.Asks.{lineage_of}
use Rattle.token_endpoint.proofs.Asking.{code_presented, same_lineage}
use Rattle.token_endpoint.proofs.asks.presented_code.Goals as goal

pub returns : goal.returns
returns c = λ history host shows.
    let s : Setting = setting_of c.args.view.now history host in
    ap Some (c.lineage_of.ensures c.in-Some-digest_told.digest) ∙ ap (option_map lineage_of) (c.in-Some-own_code.ensures.value history shows)
    ∙ same_lineage history s.moment c.args.client c.in-Some-digest_told.digest
    ∙ sym (code_presented s c.args.params.now c.args.client c.in-Some.text.now c.in-Some-digest_told.digest (sym c.in-Some.ensures) (sym c.in-Some-digest_told.ensures))
