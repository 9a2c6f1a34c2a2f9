use Rattle.std.proofs.Common.{◌≡◌, ◌≤◌, ◌+◌, ◌-◌, ◌*◌, ◌%◌, length, refl, arith}
use Rattle.std.proofs.lemmas.Nat.{mod_below}
use Rattle.chains.specs.ChainedLaws.{few_left, no_more_left}
use Rattle.shelf.specs.Shelved.{due, pending}
use Rattle.shelf.proofs.Sorting.{came_moved}
use Rattle.shelf.proofs.Timing.{sorted_at, turned}
use Rattle.shelf.proofs.shelf.Shelf.turn.Goals as goal

pub returns-clause-shelved : goal.returns-clause-shelved
returns-clause-shelved g c =
    let old = c.args.self.now in
    let settled = c.requires.settled in
    turned g.R.Lasts.until g.R.Lasts.whose old _ (old.second % 65536) settled refl (mod_below old.second 65536 (omega arith)) refl refl refl refl refl c.move_all.ensures.shape
    (c.move_all.ensures.moved settled.stands.timer settled.stands.shelved.timed (sorted_at g.R.Lasts.until g.R.Lasts.whose old settled))

pub returns-clause-more : goal.returns-clause-more
returns-clause-more g c =
    let old = c.args.self.now in
    let settled = c.requires.settled in
    let t = settled.stands.timer in
    let shelved = settled.stands.shelved in
    let moved = c.move_all.ensures.moved t shelved.timed (sorted_at g.R.Lasts.until g.R.Lasts.whose old settled) in
    let all = shelved.all in
    let heads = c.move_all.ensures.shape.heads in
    let cells = c.move_all.ensures.shape.cells in
    let long = shelved.time_cells in
    let few = few_left moved pending (omega (arith, all, heads)) in
    let still = no_more_left shelved.timed moved due (omega (arith, all)) (omega (arith, all, heads)) (came_moved t (old.second % 65536) pending due (λ e. absurd (omega (arith, e)))) in
    omega (arith, few, still, heads, cells, long)
