use Rattle.std.proofs.Common.{◌≡◌, List, ℕ, Some, inr, rules, subst, sym}
use Rattle.std.specs.Option.{option_copied}
use Rattle.batch_file.specs.Frames.{IsReadable, RefusesHeader}
use Rattle.batch_file.specs.FramesLaws.{readable_is_kept}
use Rattle.commands.proofs.Refusing.{no_account}
use Rattle.commands.proofs.state.told_front.Goals as goal

pub returns : goal.returns
returns c =
    let bytes = c.in-Some.bytes.now in
    let front = c.deref.result.now in
    let there : option_copied c.args.file ≡ Some bytes = search rules in
    let readable : IsReadable front = subst (λ (l : List ℕ). IsReadable l) (sym c.deref.ensures.value) c.into_bytes-front.ensures.readable in
    inr (rw there (no_account c.args.path.now front (RefusesHeader bytes) c.in-Err-account_of.fault c.fault_of.result c.fault_of.ensures c.in-Err-account_of.ensures.refused
    (λ cause refuses. absurd (readable_is_kept front cause readable refuses))))
