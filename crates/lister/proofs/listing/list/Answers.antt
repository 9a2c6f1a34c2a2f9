use Rattle.std.proofs.Common.{◌≡◌, arith}
use Rattle.std.proofs.lemmas.Grind.{common_steps}
use Rattle.std.specs.String.{string_bytes}
use Rattle.assembly.specs.Text.{canonical_text}
use Rattle.lister.proofs.Lines.{canonical_text_says}
use Rattle.lister.proofs.listing.list.Goals as goal

pub returns-clause-said : goal.returns-clause-said
returns-clause-said c =
    let written : string_bytes c.loop-insn.text ≡ canonical_text c.args.program.now = grind (arith, common_steps) in
    rw written (canonical_text_says c.args.program.now c.insns-insn-items.ensures.program c.insns-insn-items.ensures.fit)
