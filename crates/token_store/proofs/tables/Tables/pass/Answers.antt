use Rattle.std.proofs.Common.{arith}
use Rattle.token_store.proofs.tables.Tables.pass.Goals as goal

pub returns-clause-tied : goal.returns-clause-tied
returns-clause-tied c =
    let was = c.requires.ties in
    let grown = c.max-self.ensures in
    record {
      standing = c.requires.standing;
      ties = record { once = was.once; homed = was.homed; lasting = was.lasting; counted = was.counted; owned = was.owned; below = λ n over. was.below n (omega (arith, grown, over)) };
    }
