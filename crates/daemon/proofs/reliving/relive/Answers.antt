use Rattle.std.proofs.Common.{rules}
use Rattle.daemon.proofs.Relived.{relives_on}
use Rattle.daemon.specs.Reliving.{estate_of}
use Rattle.daemon.proofs.reliving.relive.Goals as goal

pub returns-clause-follows : goal.returns-clause-follows
returns-clause-follows g c = record {
  ended = c.is_for_reload.ensures.0 (search rules);
  wanted = c.in-Some.wanted;
  wanted_is = search rules;
  relives = relives_on _ _ _ _ c.estate_of.result (estate_of c.args.one.life) _ c.follow.result.life (search rules) c.follow.ensures;
}
