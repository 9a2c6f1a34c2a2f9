-- What is left of codes and tokens, under other rules.
use Rattle.clients.specs.RegistryRecord.{RegistryRecord}
use Rattle.consent.specs.History.{Grant}
use Rattle.consent.specs.declared.grant.Kind.{Kind}
use Rattle.consent.specs.declared.grant.Kind.TheVariants.{Code, Token}
use Rattle.narrowing.specs.Left.{life_under, scope_under}

abbrev pub left_by : RegistryRecord → Kind → Grant → Grant
left_by rules Code g = g
left_by rules (Token kind) g = record g { scope = scope_under rules g.client g.scope; life = life_under rules g.client kind g.scope g.life }

-- what is left of a code or token of a family that is not beyond the rules
abbrev pub left_grant : RegistryRecord → Grant → Grant
left_grant rules g = left_by rules g.kind g
