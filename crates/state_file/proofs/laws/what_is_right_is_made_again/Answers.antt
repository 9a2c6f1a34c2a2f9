use Rattle.state_file.proofs.Right.{right_is_made}
use Rattle.state_file.proofs.laws.what_is_right_is_made_again.Goals as goal

pub returns : goal.returns
returns g c = λ left outset hooks facts told right refused. right_is_made g.H.HookHost outset left hooks facts told right refused
