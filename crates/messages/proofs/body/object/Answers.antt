use Rattle.std.proofs.Common.{refl, ◌∷◌, ◌++◌, [], ap, ◌∙◌, List}
use Rattle.std.specs.List.{flat_map}
use Rattle.json.specs.Token.{Token, begin_object, end_object}
use Rattle.messages.specs.Members.{member_tokens, members_of}
use Rattle.messages.specs.Reply.Body.{Told}
use Rattle.messages.proofs.Printing.{says, members_written}
use Rattle.messages.proofs.body.object.Goals as goal

pub returns : goal.returns
returns c =
    let members = c.args.members.now in
    let tokens = c.in_ok-members.ensures ∙ ap (λ (before : List Token). before ++ flat_map member_tokens members) c.in_ok-json.ensures in
    says (Told (members_of members)) _ _ c.finish.result refl
    (ap (λ (tokens : List Token). tokens ++ end_object ∷ []) tokens ∙ ap (λ (tokens : List Token). begin_object ∷ tokens) (members_written members))
    c.finish.ensures
