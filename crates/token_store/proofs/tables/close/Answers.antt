use Rattle.std.proofs.Common.{◌∙◌, ap, sym}
use Rattle.token_store.proofs.Names.{is_coded}
use Rattle.token_store.proofs.Tying.{owned_without}
use Rattle.token_store.proofs.tables.close.Goals as goal

pub returns-clause-owned : goal.returns-clause-owned
returns-clause-owned c = λ owned.
    owned_without c.args.families.now.entries c.take.new.self.entries c.args.owners.now.keys c.strike_key.new.owners.keys c.args.number c.in-Some.shared _
    (sym c.key_of.ensures) (sym c.take.ensures.value ∙ c.in-Some.is) owned c.strike_key.ensures
    (λ q. ap (is_coded q) c.take.ensures.closed.here) c.take.ensures.closed.others
