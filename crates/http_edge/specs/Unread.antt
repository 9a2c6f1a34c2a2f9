-- Draws that nothing comes of.
use Rattle.std.specs.Prelude.{◌≡◌}
use Rattle.http_edge.specs.Names.{Hosting, Draws, Asked}
use Rattle.http_edge.specs.Answers.{Answerer, AnsweredRequest, IsOutcomeOfRequest}

-- an outcome of the request is one whatever draws it has
abbrev pub AreDrawsUnread : {H : Type 0} → Hosting H → Asked → Type 0
AreDrawsUnread {H = H} hosting asked =
    (by : Answerer H) (request : AnsweredRequest) (after : H) (draws : Draws) → request.asked ≡ asked →
    IsOutcomeOfRequest hosting by request after → IsOutcomeOfRequest hosting by (record request { draws = draws }) after
