-- All endpoints.
use Rattle.std.proofs.Common.{◌≡◌, ℕ, List, Bool, true, false, Option, Some, None, refl, sym, subst}
use Rattle.std.specs.Prelude.{not, cond}
use Rattle.std.specs.Str.{bytes_eq}
use Rattle.answers.specs.Outcomes as server
use Rattle.answers.specs.Paths.{path_at, method_at}
use Rattle.answers.specs.Setting.{Setting}
use Rattle.answers.specs.declared.endpoint.Endpoint.{Endpoint}
use Rattle.answers.specs.declared.endpoint.Endpoint.TheVariants as at
use Rattle.answers.specs.declared.endpoint.Document.TheVariants.{Hooks}
use Rattle.endpoints.specs.Replies.{outcome_at, request_outcome}
use Rattle.messages.specs.Asked.{Asked}
use Rattle.messages.specs.Target.{path_of}
use Rattle.registry_json.specs.Faults.{◌>>=◌}
use Rattle.endpoints.specs.Answer as page
use Rattle.endpoints.specs.Answer.{Outcome, need, check, end_of, ◌>>◌}
use Rattle.endpoints.specs.Answered.{on_page, IsAnswered, IsMadeSo, Answers}
use Rattle.endpoints.specs.Server.{Before, SeenServer, IsStep}
use Rattle.endpoints.specs.Steps.{Arrival, Steps}
use Rattle.hook_host.specs.declared.host.HookHost.{Ghosts as Hosting}
use Rattle.messages.specs.Written.{Written}
use Rattle.endpoints.proofs.AnswerPoints.{Ending, Ties, check_ties}
use Rattle.endpoints.proofs.AnswerGranting.{token_ties}
use Rattle.endpoints.proofs.AnswerEndings.{authorize_ties, consent_ties, revoke_ties, introspect_ties, install_ties, remove_ties, list_ties, end_ties}

module _ (no_memory : Bool) (s : Setting) (request : Asked) where
  -- an endpoint's row
  abbrev Row : Type 0
  Row = List ℕ × List ℕ × Ending

  abbrev row : Endpoint → Ending → Row
  row e points = (path_at e, method_at e, points)

  abbrev page_at : Option Row → Ending
  page_at o =
      need o (page.bare 404) >>= (λ (r : Row). check (bytes_eq request.method r.1) (page.bare 405) >> (check (not no_memory) (page.bare 503) >> r.2))

  abbrev server_at : Option Endpoint → server.Outcome
  server_at o =
      server.need o (server.bare 404) (λ e. server.point (not (bytes_eq request.method (method_at e))) (server.bare 405) (server.chosen no_memory (outcome_at e s request)))

  memory_ties : (b : Bool) (points : Ending) (o : server.Outcome) → Ties points o → Ties (check (not b) (page.bare 503) >> points) (server.chosen b o)
  memory_ties true points o same = refl
  memory_ties false points o same = same

  row_ties : (e : Endpoint) (points : Ending) → Ties points (outcome_at e s request) → Ties (page_at (Some (row e points))) (server_at (Some e))
  row_ties e points same =
      check_ties (bytes_eq request.method (method_at e)) _ _ (server.bare 405) _ refl (memory_ties no_memory points (outcome_at e s request) same)

  -- the row of an endpoint, or else those behind it
  either : (e : Endpoint) (points : Ending) → Ties points (outcome_at e s request) → (rows : Option Row) (endpoints : Option Endpoint) → Ties (page_at rows) (server_at endpoints) →
      Ties (page_at (cond (bytes_eq (path_of request.target) (path_at e)) (Some (row e points)) rows)) (server_at (cond (bytes_eq (path_of request.target) (path_at e)) (Some e) endpoints))
  either e points same rows endpoints later = by (bytes_eq (path_of request.target) (path_at e)) where
    by : (b : Bool) → Ties (page_at (cond b (Some (row e points)) rows)) (server_at (cond b (Some e) endpoints))
    by true = row_ties e points same
    by false = later

  answered_at : page.answer s request no_memory ≡ on_page (request_outcome no_memory s request)
  answered_at =
      either at.Authorize _ (authorize_ties s request) _ _
      (either at.GiveConsent _ (consent_ties s request) _ _
      (either at.IssueToken _ (token_ties s request) _ _
      (either at.RevokeToken _ (revoke_ties s request) _ _
      (either at.Introspect _ (introspect_ties s request) _ _
      (either at.InstallHook _ (install_ties s request) _ _
      (either at.RemoveHook _ (remove_ties s request) _ _
      (either at.EndOwner _ (end_ties s request) _ _
      (either (at.Read Hooks) _ (list_ties s request) None None refl))))))))

pub answered : IsAnswered
answered no_memory s request = answered_at no_memory s request

-- ONE REQUEST AT A SERVER

made_so : {H : Type 0} (hosting : Hosting H) (before : Before H) (o : server.Outcome) (outcome : Outcome) (reply : Written) (new : SeenServer H) →
    outcome ≡ on_page o → IsStep hosting before o reply new → IsMadeSo hosting before outcome reply new
made_so hosting before o outcome reply new same step =
    subst (λ (x : Outcome). IsMadeSo hosting before x reply new) (sym same)
    (record { reply_is = step.reply_is; fits = step.fits; hosts = step.hosts; noted = step.noted })

pub steps_are_answers : {H : Type 0} (hosting : Hosting H) (server new : SeenServer H) (arrival : Arrival) (reply : Written) →
    Steps hosting server arrival reply new → Answers hosting server arrival reply new
steps_are_answers hosting server new arrival reply steps outset history m fits =
    let it = steps outset history m fits in
    (it.0, it.1, it.2, made_so hosting _ _ _ reply new (answered it.0 _ arrival.asked) it.3)
