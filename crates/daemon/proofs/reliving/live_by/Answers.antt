use Rattle.std.proofs.Common.{◌≡◌, ◌∙◌, [], ap, subst, sym}
use Rattle.lifetime.specs.PlansLaws.{front_of, planned_of}
use Rattle.ports.specs.Passing.{KeepsWaiting}
use Rattle.ports.specs.declared.seats.Ports.{Ports}
use Rattle.daemon.specs.declared.reloads.Reloads.{Reloads}
use Rattle.daemon.proofs.Relived.{are_of}
use Rattle.daemon.proofs.reliving.live_by.Goals as goal

pub live-requires-clause-faultless : goal.live-requires-clause-faultless
live-requires-clause-faultless g c = ap (λ d. g.S.File.Device.faults d) c.new-disk.ensures ∙ c.into_device.ensures.faultless

pub live-requires-clause-front : goal.live-requires-clause-front
live-requires-clause-front g c =
    front_of _ _ _ (λ over. ap (λ d. g.S.File.Device.seen d) c.new-disk.ensures ∙ c.into_device.ensures.seen over) c.plan_of-source.result.plan
    c.plan_of-source.ensures.over c.plan_of-source.ensures.front

pub returns-clause-lives : goal.returns-clause-lives
returns-clause-lives g c =
    let opened = c.into_device.ensures.opened in
    let seeded = c.generator.ensures in
    let asks = c.means_of-means.ensures.reloads in record {
      random = seeded.0;
      lives = record {
        file = c.new-disk.result;
        bytes = opened.0;
        is_opened = subst (λ d. g.S.DeviceSource.is_opened d opened.0) (sym c.new-disk.ensures) opened.1;
        means = c.means_of-means.result;
        fresh = c.means_of-means.ensures.fresh;
        seeded = rw c.means_of-means.ensures.drawn seeded.1;
        lines = c.live.result.journal;
        life = c.live.ensures.life opened.0 c.args.heir.candidate.registry []
            (planned_of _ opened.0 _ opened.2 c.args.heir.candidate.registry [] c.plan_of-source.result.plan c.plan_of-source.ensures.over c.plan_of-source.ensures.made c.plan_of-source.ensures.refused);
      };
      passed = subst (λ (ports : Ports). KeepsWaiting c.args.estate.ports ports) (sym c.means_of-means.ensures.ports) c.ask.ensures;
      reloads = are_of c.args.heir.candidate _ _ asks c.new-reloads.ensures.text
          (c.new-reloads.ensures.key ∙ c.operator_key.ensures) c.new-reloads.ensures.unwanted;
      text = ap (λ (r : Reloads _). r.text) asks ∙ c.new-reloads.ensures.text;
      config = ap (λ (r : Reloads _). r.config) asks ∙ c.new-reloads.ensures.config;
    }
