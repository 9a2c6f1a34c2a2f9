use Rattle.std.proofs.Common.{refl, sym, subst}
use Rattle.batch_file.specs.declared.appending.RenewFault.{RenewFault}
use Rattle.batch_file.specs.Frames.{IsUnrenewed}
use Rattle.change_codec.specs.declared.keeper.ShortenFault.TheVariants as fault
use Rattle.state_keeper.proofs.Sliced.{puts_refused}
use Rattle.state_keeper.specs.Passing.{KeepsFile}
use Rattle.state_keeper.proofs.renewing.put.Goals as goal

pub returns-in-Ok : goal.returns-in-Ok
returns-in-Ok g c = (
  refl,
  λ ready. (
    record { settled = c.in-Ok.ensures.settled; placed = c.in-Ok.ensures.placed ready },
    record { any_moment = c.in-Ok.ensures.any_moment ready; readable = c.in-Ok.ensures.readable ready; truth = c.in-Ok.ensures.truth; true_before = c.in-Ok.ensures.true_before },
  ),
)

pub returns-in-Err-Memory : goal.returns-in-Err-Memory
returns-in-Err-Memory g c =
    let device = g.D.Device in
    let keeps : KeepsFile device c.args.file.now c.place.new.file = record {
      stands = c.in-Err-Memory.ensures.stands (subst (λ (f : RenewFault). IsUnrenewed f) (sym c.in-Err-Memory.field-0-is) tt);
      truth = c.in-Err-Memory.ensures.truth;
      true_before = c.in-Err-Memory.ensures.true_before;
    } in
    puts_refused device c.args.file.now c.place.new.file c.give_up.new.file fault.Memory c.give_up.result (λ is. absurd cc) c.give_up.ensures.is keeps c.give_up.ensures.gives_up c.args.shortening.now

pub returns-in-Err-Unplaced : goal.returns-in-Err-Unplaced
returns-in-Err-Unplaced g c =
    let device = g.D.Device in
    let keeps : KeepsFile device c.args.file.now c.place.new.file = record {
      stands = c.in-Err-Unplaced.ensures.stands (subst (λ (f : RenewFault). IsUnrenewed f) (sym c.in-Err-Unplaced.field-0-is) tt);
      truth = c.in-Err-Unplaced.ensures.truth;
      true_before = c.in-Err-Unplaced.ensures.true_before;
    } in
    puts_refused device c.args.file.now c.place.new.file c.give_up-in-Err-Unplaced.new.file fault.Unwritten c.give_up-in-Err-Unplaced.result (λ is. absurd cc) c.give_up-in-Err-Unplaced.ensures.is keeps c.give_up-in-Err-Unplaced.ensures.gives_up c.args.shortening.now

pub returns-in-Err-Displaced : goal.returns-in-Err-Displaced
returns-in-Err-Displaced g c = λ ready. record {
  any_moment = c.in-Err-Displaced.ensures.any_moment ready;
  readable = c.in-Err-Displaced.ensures.readable ready;
  truth = c.in-Err-Displaced.ensures.truth;
  true_before = c.in-Err-Displaced.ensures.true_before;
}

pub returns-in-Err-Failed : goal.returns-in-Err-Failed
returns-in-Err-Failed g c = λ ready. record {
  any_moment = c.in-Err-Failed.ensures.any_moment ready;
  readable = c.in-Err-Failed.ensures.readable ready;
  truth = c.in-Err-Failed.ensures.truth;
  true_before = c.in-Err-Failed.ensures.true_before;
}

pub give_up-requires : goal.give_up-requires
give_up-requires g c = (c.in-Err-Memory.ensures.stands (subst (λ (f : RenewFault). IsUnrenewed f) (sym c.in-Err-Memory.field-0-is) tt)).settled
