use Rattle.metrics.specs.Text.{kept_text, single_text, state_text}
use Rattle.std.specs.Prelude.{codes}
use Rattle.metrics.proofs.Joined.{joined4}
use Rattle.metrics.proofs.page.Page.kept.Goals as goal

pub returns : goal.returns
unfolding kept_text
returns c =
    joined4 (single_text (codes "oauthd_codes_and_tokens") (codes "gauge") (codes "Codes and tokens in memory.") c.args.report.now.records) (single_text (codes "oauthd_consents") (codes "gauge") (codes "Consents that are kept.") c.args.report.now.consents) (single_text (codes "oauthd_hooks") (codes "gauge") (codes "Hooks.") c.args.report.now.hooks) (state_text c.args.report.now.state)
    c.args.self.now.text.items c.single.new.self.text.items c.single-2.new.self.text.items c.single-3.new.self.text.items c.state.new.self.text.items
    c.in_ok-single.ensures c.in_ok-single-2.ensures c.in_ok-single-3.ensures c.in_ok-state.ensures
