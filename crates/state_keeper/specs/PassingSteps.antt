-- Where a slice of a shortening ends.
use Rattle.std.specs.Prelude.{◌≡◌, ℕ}
use Rattle.state_keeper.specs.declared.course.Course.{Course}
use Rattle.state_keeper.specs.declared.course.Draft.{Draft}
use Rattle.state_keeper.specs.declared.course.Shortening.{Shortening}
use Rattle.state_keeper.specs.declared.course.Stage.{Stage}
use Rattle.state_keeper.specs.declared.course.Stage.TheVariants as stage

-- all of the file was followed up to its end
abbrev pub IsAtEnd : Course → Stage → ℕ → Type 0
IsAtEnd course (stage.Following draft) end = course.at ≡ end
IsAtEnd course now end = ⊥

-- so it was, and what is left of the frames is told
abbrev pub IsEnded : Shortening → ℕ → Type 0
IsEnded s end = (draft : Draft) × (s.stage ≡ stage.Following draft) × (s.course.at ≡ end) × (s.shortened ≡ draft.shortened)
