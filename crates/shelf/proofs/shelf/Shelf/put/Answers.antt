use Rattle.std.proofs.Common.{◌≡◌, ◌≤◌, ◌∙◌, ap, subst, sym, arith}
use Rattle.std.specs.Map.{lookup}
use Rattle.std.specs.Str.{bytes_eq}
use Rattle.shelf.specs.Shelved.{Finds, entries_of}
use Rattle.std.specs.List.Sorted.{IsPermutation}
use Rattle.shelf.proofs.Keeping.{found_in_place, put_in_place, untaken}
use Rattle.shelf.proofs.Keyed.{digests}
use Rattle.shelf.proofs.shelf.Shelf.put.Goals as goal

pub fill-requires-clause-new : goal.fill-requires-clause-new
fill-requires-clause-new g c =
    let e = c.take-was.ensures in
    ap (λ es. lookup (bytes_eq c.args.digest.now) es) c.free_slot-slot.ensures.same
    ∙ untaken digests (entries_of c.args.self.now) (entries_of c.take-was.new.self) c.args.digest.now c.take-was.result c.requires.shelved.shelved.once (e.some, e.none)

pub returns-clause-puts : goal.returns-clause-puts
returns-clause-puts g c =
    let e = c.take-was.ensures in
    put_in_place digests (entries_of c.args.self.now) (entries_of c.take-was.new.self) (entries_of c.fill.new.self) c.args.digest.now c.args.kept c.take-was.result c.fill.ensures.shelved.shelved.once (e.some, e.none)
    (rw c.free_slot-slot.ensures.same at c.fill.ensures.put)

pub returns-clause-found : goal.returns-clause-found
returns-clause-found g c =
    let e = c.take-was.ensures in
    found_in_place digests (entries_of c.args.self.now) (entries_of c.take-was.new.self) (entries_of c.fill.new.self) c.args.digest.now c.args.kept c.take-was.result c.requires.shelved.shelved.once (e.some, e.none)
    (rw c.free_slot-slot.ensures.same at c.fill.ensures.found)
