use Rattle.std.proofs.Common.{◌≡◌, map, rules}
use Rattle.std.specs.Prelude.{None, Some}
use Rattle.std.specs.String.{string_bytes}
use Rattle.start_words.specs.Options.{flag_named}
use Rattle.start_words.proofs.Reading.{flag_read, value_read}
use Rattle.start_words.proofs.options.Options.take_first.Goals as goal

pub returns-in-Some-clause-done : goal.returns-in-Some-clause-done
returns-in-Some-clause-done c =
    let is : flag_named c.args.word.now ≡ Some c.in-Some.flag = search rules in
    flag_read c.args.self.now c.take_flag.new.self c.args.word.now (map string_bytes c.args.behind.now) c.in-Some.flag is c.in_ok-take_flag.ensures.done

pub returns-clause-done : goal.returns-clause-done
returns-clause-done c =
    let is : flag_named c.args.word.now ≡ None = search rules in
    value_read c.args.self.now c.take.new.self c.args.word.now _ _ _ _ is c.in-Some-split_first.ensures.cases.0 c.as_str.ensures.value c.in_ok-take.ensures.done
