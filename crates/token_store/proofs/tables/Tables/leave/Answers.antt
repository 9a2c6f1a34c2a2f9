use Rattle.std.proofs.Common.{◌≡◌, ◌<◌, subst, arith}
use Rattle.token_store.proofs.Names.{held_of, nat_tests}
use Rattle.token_store.proofs.Leaving.{HasWithdrawn, withdrawn_none, withdrawn_more, makes_left}
use Rattle.token_store.proofs.tables.Tables.leave.Goals as goal

pub loop-done-init : goal.loop-done-init
loop-done-init c = record { inside = omega arith; tied = c.requires.tied; has = withdrawn_none (held_of c.args.self.now) c.args.moment c.args.owner }

pub loop-done-preserved : goal.loop-done-preserved
loop-done-preserved c =
    let was = c.loop-done.invariant in
    let less : c.loop-done.done < c.args.clients = (let test = c.loop-done-test.true in grind (arith, nat_tests, test)) in
    record {
      inside = omega (arith, less);
      tied = c.lower.ensures.tied;
      has = withdrawn_more (held_of c.args.self.now) (held_of c.loop-done.self) (held_of c.lower.new.self) c.args.moment c.args.owner c.loop-done.done was.has (rw (c.new.ensures, c.empty.ensures) at c.lower.ensures.alters);
    }

pub returns-clause-makes : goal.returns-clause-makes
returns-clause-makes c =
    let inside = c.loop-done.invariant.inside in
    let all : c.loop-done.done ≡ c.args.clients = (let test = c.loop-done-test.false in grind (arith, nat_tests, test, inside)) in
    makes_left (held_of c.args.self.now) (held_of c.loop-done.self) c.args.moment c.args.owner c.args.clients
    (subst (HasWithdrawn (held_of c.args.self.now) (held_of c.loop-done.self) c.args.moment c.args.owner) all c.loop-done.invariant.has)
