use Rattle.std.proofs.Common.{rules, ◌≡◌, not, ap, ◌∙◌}
use Rattle.state_file.proofs.Names.{bytes_eq, HookFact, without_hook}
use Rattle.std.proofs.lemmas.Fn.{filter_same}
use Rattle.state_file.proofs.hooks.SetHooks.remove.Goals as goal

pub returns : goal.returns
returns c =
    let left : c.retain.new.self.items ≡ without_hook c.args.name.now c.self.inside.hooks.items =
    filter_same _ (λ (h : HookFact). not (bytes_eq c.args.name.now h.name)) _ (λ x b f' k. search rules) _ _ c.retain.ensures.filtered in
    left ∙ ap (without_hook c.args.name.now) c.self.view_is
