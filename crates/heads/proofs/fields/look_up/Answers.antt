use Rattle.std.proofs.Common.{sym, subst, List}
use Rattle.std.proofs.lemmas.List.{take_more}
use Rattle.httparse.specs.declared.spans.HeaderSpan.{HeaderSpan}
use Rattle.heads.specs.PlacesParts.{AreLookups}
use Rattle.heads.proofs.Lookups.{nothing_found}
use Rattle.heads.proofs.fields.look_up.Goals as goal

pub loop-header-init : goal.loop-header-init
loop-header-init c = nothing_found c.args.bytes.now

pub loop-header-preserved : goal.loop-header-preserved
loop-header-preserved c =
    let here = take_more c.args.headers.now c.loop-header.header-index _ c.loop-header-test.true in
    subst (λ (headers : List HeaderSpan). AreLookups c.args.bytes.now headers c.note_all.new.found) (sym here) (c.note_all.ensures _ c.loop-header.invariant)
