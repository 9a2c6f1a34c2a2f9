use Rattle.std.proofs.Common.{rules, ◌≡◌, not, ap, ◌∙◌}
use Rattle.std.specs.Str.{bytes_eq}
use Rattle.std.proofs.lemmas.Fn.{filter_same}
use Rattle.hook_chain.specs.Chains.{Named, hook_names, without_name}
use Rattle.hook_chain.specs.ChainLaws.{named_of_contains, names_without, holds_without}
use Rattle.hook_chain.proofs.chain.ChainHookHost.drop_named.Goals as goal

pub invariant_of-self : goal.invariant_of-self
invariant_of-self c =
    let left : c.retain.new.self.items ≡ without_name c.args.name.now c.self.inside.hooks.items = filter_same _ (λ (h : Named). not (bytes_eq c.args.name.now h.name)) _ (λ x b f' k. search rules) _ _ c.retain.ensures.filtered in
    rw (left, c.retain.ensures.capacity) (holds_without c.args.name.now c.self.inside.hooks.items _ c.self.invariant)

pub returns-clause-done : goal.returns-clause-done
returns-clause-done c =
    let left : c.retain.new.self.items ≡ without_name c.args.name.now c.self.inside.hooks.items = filter_same _ (λ (h : Named). not (bytes_eq c.args.name.now h.name)) _ (λ x b f' k. search rules) _ _ c.retain.ensures.filtered in
    record { named = named_of_contains c.args.name.now c.args.self.now c.requires; left = left ∙ ap (without_name c.args.name.now) c.self.view_is }

pub returns-clause-alone : goal.returns-clause-alone
returns-clause-alone c =
    let left : c.retain.new.self.items ≡ without_name c.args.name.now c.self.inside.hooks.items = filter_same _ (λ (h : Named). not (bytes_eq c.args.name.now h.name)) _ (λ x b f' k. search rules) _ _ c.retain.ensures.filtered in
    ap hook_names (left ∙ ap (without_name c.args.name.now) c.self.view_is) ∙ names_without c.args.name.now c.args.self.now
