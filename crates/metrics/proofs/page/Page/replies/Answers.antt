use Rattle.metrics.specs.Lines.{family_text}
use Rattle.metrics.specs.Text.{replies_text, status_line}
use Rattle.std.specs.Prelude.{codes}
use Rattle.metrics.proofs.Joined.{joined9}
use Rattle.metrics.proofs.page.Page.replies.Goals as goal

pub returns : goal.returns
unfolding replies_text
returns c =
    joined9 (family_text (codes "oauthd_replies_total") (codes "counter") (codes "Replies, by their statuses.")) (status_line (codes "200") c.args.replied.now.ok) (status_line (codes "302") c.args.replied.now.found) (status_line (codes "400") c.args.replied.now.bad_request) (status_line (codes "401") c.args.replied.now.unauthorized) (status_line (codes "403") c.args.replied.now.forbidden) (status_line (codes "404") c.args.replied.now.not_found) (status_line (codes "405") c.args.replied.now.not_allowed) (status_line (codes "503") c.args.replied.now.unavailable)
    c.args.self.now.text.items c.family.new.self.text.items c.status.new.self.text.items c.status-2.new.self.text.items c.status-3.new.self.text.items c.status-4.new.self.text.items c.status-5.new.self.text.items c.status-6.new.self.text.items c.status-7.new.self.text.items c.status-8.new.self.text.items
    c.in_ok-family.ensures c.in_ok-status.ensures c.in_ok-status-2.ensures c.in_ok-status-3.ensures c.in_ok-status-4.ensures c.in_ok-status-5.ensures c.in_ok-status-6.ensures c.in_ok-status-7.ensures c.in_ok-status-8.ensures
