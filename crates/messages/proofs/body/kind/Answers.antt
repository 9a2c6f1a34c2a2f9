use Rattle.std.proofs.Common.{append_assoc}
use Rattle.messages.proofs.body.kind.Goals as goal

pub returns-in_ok-text-in-Access : goal.returns-in_ok-text-in-Access
returns-in_ok-text-in-Access c = rw c.in-Access.is (rw c.in_ok-text-in-Access.ensures (simp append_assoc))
