use Rattle.std.proofs.Common.{◌∙◌, ap}
use Rattle.http_edge.specs.Sources.{wants_draws}
use Rattle.http_edge.proofs.Unread.{unread}
use Rattle.http_edge.proofs.wanting.unwanted_draws_are_unread.Goals as goal

pub returns : goal.returns
returns g c = λ asked none by request after draws same o. unread g.H.HookHost by request after draws (ap wants_draws same ∙ none) o
