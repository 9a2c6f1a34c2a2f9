use Rattle.std.proofs.Common.{sym}
use Rattle.answers.specs.Setting.{Setting}
use Rattle.answers.specs.Views.{setting_of}
use Rattle.telling.proofs.Revoking.{none_live, other_live, own_live}
use Rattle.telling.proofs.facts.revoked.Goals as goal

pub returns-in_default-live_token : goal.returns-in_default-live_token
returns-in_default-live_token c = λ history host shows.
    let s : Setting = setting_of c.args.view.now history host in
    none_live s c.args.params.now c.args.client c.in-Some.text.now c.in-Some-digest_told.digest (sym c.in-Some.ensures) (sym c.in-Some-digest_told.ensures)
    (c.in_default-live_token.ensures history host shows)

pub returns-then-ne : goal.returns-then-ne
returns-then-ne c = λ history host shows.
    let s : Setting = setting_of c.args.view.now history host in
    other_live s c.args.params.now c.args.client c.in-Some.text.now c.in-Some-digest_told.digest c.in-Some-live_token.token _ (sym c.in-Some.ensures)
    (sym c.in-Some-digest_told.ensures) (c.in-Some-live_token.ensures history host shows) c.ne.ensures c.if-ne.true

pub returns : goal.returns
returns c = λ history host shows.
    let s : Setting = setting_of c.args.view.now history host in
    own_live s c.args.params.now c.args.client c.in-Some.text.now c.in-Some-digest_told.digest c.in-Some-live_token.token _ (sym c.in-Some.ensures)
    (sym c.in-Some-digest_told.ensures) (c.in-Some-live_token.ensures history host shows) c.ne.ensures c.if-ne.false
