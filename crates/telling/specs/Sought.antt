-- Where it is looked for what a request shows.
use Rattle.std.specs.Prelude.{ℕ, Bool, true, false, ◌&&◌, Option, None, is_some, if◌then◌else◌}
use Rattle.answers.specs.Outcomes.{Outcome}
use Rattle.answers.specs.declared.endpoint.Endpoint.{Endpoint}
use Rattle.answers.specs.declared.endpoint.Endpoint.TheVariants.{IssueToken}
use Rattle.messages.specs.declared.error.ErrorName.{ErrorName}
use Rattle.telling.specs.Interests.{wanted_of}
use Rattle.telling.specs.Telling.{Shown, came_of, told_with, what_changed}
use Rattle.telling.specs.declared.interest.Interest.{Interest}
use Rattle.telling.specs.declared.interest.Interest.TheVariants.{Nothing, Denials, Everything}
use Rattle.telling.specs.declared.telling.Upshot.{Upshot}
use Rattle.telling.specs.declared.told.Told.{Told}

-- what came of a request: what is told of its reply, and what happened
abbrev pub upshot_of : Outcome → Upshot
upshot_of outcome = record { came = came_of outcome.reply; happened = what_changed outcome.changes }

-- hooks may be asked there, and nowhere else
abbrev pub asks_for_tokens : Endpoint → Bool
asks_for_tokens IssueToken = true
asks_for_tokens _ = false

-- of denials it is looked for only where a request for tokens is refused: InterestLaws shows that no other is one
abbrev pub is_sought : Interest → Endpoint → Option ErrorName → Bool
is_sought Nothing endpoint error = false
is_sought Denials endpoint error = asks_for_tokens endpoint && is_some error
is_sought Everything endpoint error = true

-- what is told of a request at the endpoint, by what it shows and what came of it
abbrev pub told_sought : Interest → ℕ → Endpoint → Shown → Upshot → Option Told
told_sought interest moment endpoint shown upshot =
    if is_sought interest endpoint upshot.came.error then wanted_of interest (told_with moment endpoint shown upshot.came upshot.happened) else None
