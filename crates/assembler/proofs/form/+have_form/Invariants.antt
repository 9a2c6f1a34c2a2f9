use Rattle.std.proofs.Common.{length}
use Rattle.assembler.proofs.form.+have_form.Given as goal

abbrev pub decreases-have_form : goal.decreases-have_form
decreases-have_form l = length l.kinds.now
