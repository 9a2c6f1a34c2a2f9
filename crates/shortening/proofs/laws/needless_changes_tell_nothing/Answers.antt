use Rattle.shortening.specs.HooksLaws.{hooks-after}
use Rattle.shortening.specs.ShortenedLaws.{shortened_tells}
use Rattle.shortening.specs.StandingLaws.{sound-shortened}
use Rattle.shortening.proofs.laws.needless_changes_tell_nothing.Goals as goal

pub returns-clause-tells : goal.returns-clause-tells
returns-clause-tells c = λ history m is. shortened_tells history m is

pub returns-clause-sound : goal.returns-clause-sound
returns-clause-sound c = λ list m sound. sound-shortened list m sound

pub returns-clause-hooks : goal.returns-clause-hooks
returns-clause-hooks c = λ history. hooks-after history
