-- One of two texts that is there.
use Rattle.std.proofs.Common.{◌≡◌, ◌≢◌, ◌++◌, ◌+◌, ℕ, List, Option, Some, None, arith, length, length-append, sym, ◌∙◌}
use Rattle.std.proofs.Math.ListN.{get_or-append}
use Rattle.std.proofs.lemmas.List.{get_or-append-add}
use Rattle.std.proofs.lemmas.List.Elements.{All-append}
use Rattle.std.specs.Option.{option_copied, option_or}
use Rattle.std.specs.Borrow.{Bor}
use Rattle.manual.specs.declared.topic.Topic.{Topic}
use Rattle.manual.specs.Topics.{IsTextOf, Say}

said_before : (some more : List Topic) (name text : List ℕ) → IsTextOf some name text → IsTextOf (some ++ more) name text
said_before some more name text is =
    let few = is.in_list in let both = length-append some more in
    record {
      place = is.place;
      topic = is.topic;
      in_list = omega (arith, few, both);
      here = is.here ∙ sym (get_or-append some more is.topic is.place few);
      named = is.named;
      text_is = is.text_is;
    }

said_behind : (some more : List Topic) (name text : List ℕ) → IsTextOf more name text → IsTextOf (some ++ more) name text
said_behind some more name text is =
    let few = is.in_list in let both = length-append some more in
    record {
      place = length some + is.place;
      topic = is.topic;
      in_list = omega (arith, few, both);
      here = is.here ∙ sym (get_or-append-add some more is.place is.topic);
      named = is.named;
      text_is = is.text_is;
    }

-- of two lists, the first that says something of a name
pub said_by_either : (some more : List Topic) (name : List ℕ) (first second either : Option (Bor (List ℕ))) →
    Say some name (option_copied first) → Say more name (option_copied second) → either ≡ option_or first second →
    Say (some ++ more) name (option_copied either)
said_by_either some more name (Some text) second either here there is_either = rw is_either (record { some = said_before some more name text.now here.some; none = tt })
said_by_either some more name None (Some text) either here there is_either = rw is_either (record { some = said_behind some more name text.now there.some; none = tt })
said_by_either some more name None None either here there is_either =
    rw is_either (record { some = tt; none = All-append (λ topic. topic.name.now ≢ name) some more here.none there.none })
