use Rattle.std.proofs.Common.{◌≡◌, ◌↔◌, inl, inr, subst, sym, ℕ, List}
use Rattle.lifetime.proofs.Names.{TellsRules, WasLived, is_it, life_promises}
use Rattle.lifetime.proofs.Heirs.{found_heir, kept_heir}
use Rattle.lifetime.proofs.laws.lives_lose_nothing.Goals as goal

pub returns-clause-found : goal.returns-clause-found
returns-clause-found g c registries bytes history lived left found =
    found_heir (life_promises g.D.Device g.N.Sockets g.C.Clocks g.J.Journal) g.met.D.Device.only_now g.met.D.Device.only_true registries (inl bytes) history (λ first. first ≡ bytes) (λ first is. record {
      by = inl bytes;
      history = history;
      comes = is_it;
      told = λ rules. subst (λ (b : List ℕ). TellsRules bytes rules ↔ TellsRules b rules) (sym is) (λ told. told, λ told. told);
      lived = subst (λ (b : List ℕ). WasLived b history) (sym is) lived;
    }) left found

pub returns-clause-acknowledged : goal.returns-clause-acknowledged
returns-clause-acknowledged g c registries given begun before ending lived s kept here on is left found =
    let p = life_promises g.D.Device g.N.Sockets g.C.Clocks g.J.Journal in
    found_heir p g.met.D.Device.only_now g.met.D.Device.only_true registries (inr given.registry) kept (p.device.left_since ending.tools.keeper.file.device (p.device.moment s.keeper.file.device))
    (kept_heir p registries kept given begun before ending lived s here on is) left found
