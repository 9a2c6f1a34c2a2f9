use Rattle.std.proofs.Common.{inl, inr}
use Rattle.command_line.proofs.Outcomes.{map_err, map_ok}
use Rattle.command_line.proofs.list_performing.ended_by.Goals as goal

pub returns-clause-done : goal.returns-clause-done
returns-clause-done g c =
    map_ok _ _ c.tried.result
    (λ ended would. record {
      registry = c.in_ok-registry.registry;
      held = c.in_ok-registry.ensures.found;
      bytes = would.0;
      plan = would.1.0;
      is = would.1.1;
      ended_is = would.1.2;
    }) c.tried.ensures.done

pub returns-clause-refused : goal.returns-clause-refused
returns-clause-refused g c =
    map_err _ _ c.tried.result (λ fault refuses. inr (inr (c.in_ok-registry.registry, c.in_ok-registry.ensures.found, refuses))) c.tried.ensures.refused
