use Rattle.metrics.specs.Lines.{family_text}
use Rattle.metrics.specs.Text.{unavailable_text, why_line}
use Rattle.std.specs.Prelude.{codes}
use Rattle.metrics.proofs.Joined.{joined6}
use Rattle.metrics.proofs.page.Page.unavailable.Goals as goal

pub returns : goal.returns
unfolding unavailable_text
returns c =
    joined6 (family_text (codes "oauthd_unavailable_total") (codes "counter") (codes "Replies with status 503, by what was wanting.")) (why_line (codes "memory") c.args.wanted.now.memory) (why_line (codes "store_full") c.args.wanted.now.store_room) (why_line (codes "client_full") c.args.wanted.now.client_room) (why_line (codes "drawn_twice") c.args.wanted.now.fresh_draw) (why_line (codes "consents_full") c.args.wanted.now.consent_room)
    c.args.self.now.text.items c.family.new.self.text.items c.why.new.self.text.items c.why-2.new.self.text.items c.why-3.new.self.text.items c.why-4.new.self.text.items c.why-5.new.self.text.items
    c.in_ok-family.ensures c.in_ok-why.ensures c.in_ok-why-2.ensures c.in_ok-why-3.ensures c.in_ok-why-4.ensures c.in_ok-why-5.ensures
