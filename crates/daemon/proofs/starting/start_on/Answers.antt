use Rattle.std.proofs.Common.{◌≡◌, ◌∙◌, ap, map, subst, sym}
use Rattle.rules_codec.specs.Facts.{hook_fact}
use Rattle.lifetime.specs.PlansLaws.{front_of, planned_of}
use Rattle.daemon.proofs.Relived.{are_of}
use Rattle.daemon.proofs.starting.start_on.Goals as goal

pub live_told-first-requires-clause-faultless : goal.live_told-first-requires-clause-faultless
live_told-first-requires-clause-faultless g c = ap (λ d. g.S.File.Device.faults d) c.new-disk.ensures ∙ c.into_device.ensures.faultless

pub live_told-first-requires-clause-front : goal.live_told-first-requires-clause-front
live_told-first-requires-clause-front g c =
    front_of _ _ _ (λ over. ap (λ d. g.S.File.Device.seen d) c.new-disk.ensures ∙ c.into_device.ensures.seen over) c.plan_of-source.result.plan
    c.plan_of-source.ensures.over c.plan_of-source.ensures.front

pub returns-clause-lives : goal.returns-clause-lives
returns-clause-lives g c =
    let opened = c.into_device.ensures.opened in record {
      first = c.live_told-first.result;
      lives = (
        c.begin.new.random,
        record {
          file = c.new-disk.result;
          bytes = opened.0;
          is_opened = subst (λ d. g.S.DeviceSource.is_opened d opened.0) (sym c.new-disk.ensures) opened.1;
          means = c.means_of-means.result;
          fresh = c.means_of-means.ensures.fresh;
          seeded = rw c.means_of-means.ensures.drawn (c.in_ok-begun.ensures.drawn c.new-random.ensures);
          lines = c.live_told-first.result.journal;
          life = c.live_told-first.ensures.life opened.0 c.args.opened.candidate.registry (map hook_fact c.args.state.hooks.now)
              (planned_of _ opened.0 _ opened.2 c.args.opened.candidate.registry (map hook_fact c.args.state.hooks.now) c.plan_of-source.result.plan c.plan_of-source.ensures.over
              c.plan_of-source.ensures.made c.plan_of-source.ensures.refused);
        },
      );
      reloads = are_of c.args.opened.candidate _ _ c.means_of-means.ensures.reloads c.new-reloads.ensures.text
          (c.new-reloads.ensures.key ∙ c.operator_key.ensures) c.new-reloads.ensures.unwanted;
      told = c.live_told-first.ensures.told;
      lines = c.live_on-life.result.life.journal;
      onward = c.live_on-life.ensures;
    }
