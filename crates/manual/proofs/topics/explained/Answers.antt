use Rattle.std.proofs.Common.{refl}
use Rattle.manual.specs.Words.{all_words, command_names}
use Rattle.manual.proofs.Saying.{said_by_either}
use Rattle.manual.proofs.topics.explained.Goals as goal

pub returns : goal.returns
unfolding all_words command_names
returns c =
    let said_2 = said_by_either _ _ c.args.name.now _ _ _ c.text_named.ensures c.text_named-2.ensures c.or.ensures in
    let said_3 = said_by_either _ _ c.args.name.now _ _ _ said_2 c.text_named-3.ensures c.or-2.ensures in
    let said_4 = said_by_either _ _ c.args.name.now _ _ _ said_3 c.text_named-4.ensures c.or-3.ensures in
    let said_5 = said_by_either _ _ c.args.name.now _ _ _ said_4 c.text_named-5.ensures c.or-4.ensures in
    let said_6 = said_by_either _ _ c.args.name.now _ _ _ said_5 c.text_named-6.ensures c.or-5.ensures in
    let said_7 = said_by_either _ _ c.args.name.now _ _ _ said_6 c.text_named-7.ensures c.or-6.ensures in
    let said_8 = said_by_either _ _ c.args.name.now _ _ _ said_7 c.text_named-8.ensures c.or-7.ensures in
    (_, refl, said_by_either _ _ c.args.name.now _ _ _ said_8 c.text_named-9.ensures c.or-8.ensures)
