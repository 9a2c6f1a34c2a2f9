use Rattle.verifier.proofs.Rows.{rows_sound}
use Rattle.verifier.proofs.laws.rows_are_sound.Goals as goal

pub returns : goal.returns
returns c = rows_sound
