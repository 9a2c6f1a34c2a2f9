use Rattle.metrics.specs.Denied.{counted_in}
use Rattle.metrics.specs.Lines.{family_text}
use Rattle.metrics.specs.Text.{counted_line, denials_text, hook_line}
use Rattle.std.proofs.Common.{map}
use Rattle.std.specs.List.{flat_map}
use Rattle.std.specs.Prelude.{codes}
use Rattle.metrics.proofs.Joined.{joined3}
use Rattle.metrics.proofs.page.Page.denials.Goals as goal

pub returns : goal.returns
unfolding denials_text
returns c =
    rw (c.by.ensures, c.others.ensures) at (joined3 (family_text (codes "oauthd_denied_by_hook_total") (codes "counter") (codes "Grants that were denied, by the hook that did.")) (flat_map counted_line (map counted_in c.by.result.now)) (hook_line (codes "_others") c.others.result)
    c.args.self.now.text.items c.family.new.self.text.items c.denied_by_each.new.self.text.items c.denied_by.new.self.text.items
    c.in_ok-family.ensures c.in_ok-denied_by_each.ensures c.in_ok-denied_by.ensures)
