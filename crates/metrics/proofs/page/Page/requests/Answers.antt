use Rattle.answers.specs.declared.endpoint.TheConstants.{ENDPOINTS}
use Rattle.metrics.specs.Lines.{family_text, labelled_line}
use Rattle.metrics.specs.Text.{request_line, requests_text}
use Rattle.std.specs.List.{flat_map}
use Rattle.std.specs.Prelude.{codes}
use Rattle.metrics.proofs.Joined.{joined3}
use Rattle.metrics.proofs.page.Page.requests.Goals as goal

pub returns : goal.returns
unfolding requests_text
returns c =
    joined3 (family_text (codes "oauthd_requests_total") (codes "counter") (codes "Requests that were answered, by their paths.")) (flat_map (request_line c.args.asked.now) ENDPOINTS) (labelled_line (codes "oauthd_requests_total") (codes "path") (codes "nowhere") c.args.asked.now.nowhere)
    c.args.self.now.text.items c.family.new.self.text.items c.requests_at.new.self.text.items c.labelled.new.self.text.items
    c.in_ok-family.ensures c.in_ok-requests_at.ensures c.in_ok-labelled.ensures
