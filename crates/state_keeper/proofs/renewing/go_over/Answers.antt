use Rattle.state_keeper.proofs.Sliced.{ends_over, given_up, waited}
use Rattle.state_keeper.specs.Passing.{KeepsFile}
use Rattle.state_keeper.proofs.renewing.go_over.Goals as goal

pub returns-then-is_portion : goal.returns-then-is_portion
returns-then-is_portion g c =
    let device = g.D.Device in
    let keeps : KeepsFile device c.args.file.now c.go_on.new.file = record {
      stands = record { settled = c.go_on.ensures.settled; end = c.go_on.ensures.end; seen = c.go_on.ensures.seen; any_moment = c.go_on.ensures.any_moment };
      truth = c.go_on.ensures.truth;
      true_before = c.go_on.ensures.true_before;
    } in
    waited device c.args.file.now c.args.rules.now c.args.shortening.now c.go_on.new.file c.wait.new.file c.go_on.new.shortening c.wait.result keeps
    (c.in-Ok-On.ensures.on c.in-Ok-On.field-0-is) c.in-Ok-On.ensures.same (c.in-Ok-On.ensures.nearer c.in-Ok-On.field-0-is) c.in-Ok-On.ensures.slice c.wait.ensures

-- what was written is within a portion
pub returns-else-is_portion : goal.returns-else-is_portion
returns-else-is_portion g c = record {
  keeps = record {
    stands = record { settled = c.go_on.ensures.settled; end = c.go_on.ensures.end; seen = c.go_on.ensures.seen; any_moment = c.go_on.ensures.any_moment };
    truth = c.go_on.ensures.truth;
    true_before = c.go_on.ensures.true_before;
  };
  way = c.in-Ok-On.ensures.on c.in-Ok-On.field-0-is;
  same = c.in-Ok-On.ensures.same;
  nearer = c.in-Ok-On.ensures.nearer c.in-Ok-On.field-0-is;
  slice = c.in-Ok-On.ensures.slice;
  down = λ portion. (let no = c.if-is_portion.false in let told = c.is_portion.ensures in let first = c.written-before.ensures in let second = c.written.ensures in absurd (cc));
}

pub returns-in-Ok-Ready : goal.returns-in-Ok-Ready
returns-in-Ok-Ready g c = ends_over g.D.Device c.args.file.now c.args.rules.now c.args.shortening.now c.put.new.file c.go_on.new.shortening c.put.result (record {
  mid = c.go_on.new.file;
  now = c.go_on.new.shortening;
  keeps = record {
    stands = record { settled = c.go_on.ensures.settled; end = c.go_on.ensures.end; seen = c.go_on.ensures.seen; any_moment = c.go_on.ensures.any_moment };
    truth = c.go_on.ensures.truth;
    true_before = c.go_on.ensures.true_before;
  };
  ready = c.in-Ok-Ready.ensures.ready c.in-Ok-Ready.field-0-is;
  same = c.in-Ok-Ready.ensures.same;
  slice = c.in-Ok-Ready.ensures.slice;
  puts = c.put.ensures;
})

pub returns-in-Err : goal.returns-in-Err
returns-in-Err g c =
    let device = g.D.Device in
    let keeps : KeepsFile device c.args.file.now c.go_on.new.file = record {
      stands = record { settled = c.go_on.ensures.settled; end = c.go_on.ensures.end; seen = c.go_on.ensures.seen; any_moment = c.go_on.ensures.any_moment };
      truth = c.go_on.ensures.truth;
      true_before = c.go_on.ensures.true_before;
    } in
    given_up device c.args.file.now c.go_on.new.file c.give_up.new.file c.in-Err.fault c.give_up.result c.in-Err.ensures.refused c.give_up.ensures.is keeps c.give_up.ensures.gives_up
    c.args.rules.now c.args.shortening.now c.go_on.new.shortening
