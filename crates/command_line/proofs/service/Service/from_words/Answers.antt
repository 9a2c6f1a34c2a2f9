use Rattle.std.proofs.Common.{ap, map, sym, ◌∙◌}
use Rattle.std.specs.String.{string_bytes}
use Rattle.command_line.proofs.Naming.{no_serve, no_start}
use Rattle.command_line.proofs.service.Service.from_words.Goals as goal

pub returns-in-None-clause-none : goal.returns-in-None-clause-none
returns-in-None-clause-none c =
    no_serve _ _ _ (ap (map string_bytes) c.in-Some.ensures.cases.0) (sym c.as_str.ensures.value ∙ c.in-serve.is) (rw c.in-None.is at c.in_ok-given-in-serve.ensures.none)

pub returns-in-None-2-clause-none : goal.returns-in-None-2-clause-none
returns-in-None-2-clause-none c =
    no_start _ _ _ (ap (map string_bytes) c.in-Some.ensures.cases.0) (sym c.as_str.ensures.value ∙ c.in-start.is) (rw c.in-None-2.is at c.in_ok-given-in-start.ensures.none)
