use Rattle.std.proofs.Common.{[]}
use Rattle.rules_codec.specs.Facts.{standing_fact}
use Rattle.state_file.specs.RunLaws.{was_run}
use Rattle.commands.proofs.state.lines_of.Goals as goal

pub returns : goal.returns
returns c =
    let bytes = c.args.bytes.now in
    let of = c.requires.of in
    let standing = standing_fact c.in_ok-standing.standing in
    let is = c.in_ok-standing.ensures bytes [] of in
    record {
      standing = standing;
      each = λ history lived. is.each history lived.stands lived.right (was_run bytes history lived);
      told = is.told;
      text_is = rw (of.batches, of.torn) at c.in_ok-text.ensures;
    }
