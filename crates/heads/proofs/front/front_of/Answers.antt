use Rattle.std.proofs.Common.{rules, ◌≡◌, length}
use Rattle.heads.proofs.Heads.{wants_first}
use Rattle.heads.proofs.front.front_of.Goals as goal

pub returns-then-is_empty : goal.returns-then-is_empty
returns-then-is_empty c =
    let empty : length c.args.bytes.now ≡ 0 = search rules in
    wants_first c.args.bytes.now empty
