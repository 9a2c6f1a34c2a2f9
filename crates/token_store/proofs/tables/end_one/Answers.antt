use Rattle.std.proofs.Common.{◌≡◌, Some, sym, arith}
use Rattle.token_store.proofs.Names.{family_numbered, HasEnded}
use Rattle.token_store.proofs.Families.{owned_ended}
use Rattle.token_store.proofs.tables.end_one.Goals as goal

pub returns-clause-owned : goal.returns-clause-owned
returns-clause-owned c = λ owned.
    let got = c.get.ensures.value in
    let same = c.copied.ensures in
    let found = c.in-Some.is in
    let there : family_numbered c.args.families.now.entries c.args.number ≡ Some c.in-Some.shared = grind (arith, got, same, found) in
    let set = c.set.ensures.here in
    let ended : HasEnded c.args.families.now.entries c.set.new.self.entries c.args.number = record { here = grind (arith, set, there); others = c.set.ensures.others } in
    owned_ended c.args.families.now.entries c.set.new.self.entries c.args.owners.now.keys c.strike_key.new.owners.keys c.args.number c.in-Some.shared _
    (sym c.key_of.ensures) there c.strike_key.ensures ended owned
