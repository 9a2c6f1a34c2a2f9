use Rattle.std.proofs.Common.{◌≡◌, List, ℕ, Result, Ok, Err, IfOk, ap, subst, ◌∙◌, arith}
use Rattle.wire.specs.declared.fault.DecodeFault.{DecodeFault}
use Rattle.wire.specs.Reading.{IsBytes, GivesReading}
use Rattle.wire.specs.declared.fault.Fault.TheVariants.{Version}
use Rattle.wire.specs.Format.{Format}
use Rattle.wire.specs.Lists.{behind}
use Rattle.wire.specs.Whole.{all_at, all_takes, all_again}
use Rattle.wire.proofs.whole.decode.Goals as goal

is_spelled : {X A : Type 0} (f : Format A) (v : X → A) (bytes : List ℕ) (r : Result X DecodeFault) → IsBytes bytes → GivesReading v r (all_at f bytes) → IfOk r (λ x. bytes ≡ f.spell (v x))
is_spelled f v bytes (Ok x) fits given = (all_takes f bytes (v x) fits given).0
is_spelled f v bytes (Err e) fits given = tt

does_fit : {X A : Type 0} (f : Format A) (v : X → A) (bytes : List ℕ) (r : Result X DecodeFault) → IsBytes bytes → GivesReading v r (all_at f bytes) → IfOk r (λ x. f.Fits (v x))
does_fit f v bytes (Ok x) fits given = (all_takes f bytes (v x) fits given).1
does_fit f v bytes (Err e) fits given = tt

pub returns-clause-spelled : goal.returns-clause-spelled
returns-clause-spelled g c = is_spelled (behind c.args.layout Version g.T.Wire.format) g.T.Wire.value c.args.bytes.now c.read_all.result (λ i. omega (arith, c.type_inv.bytes i)) c.read_all.ensures

pub returns-clause-fits : goal.returns-clause-fits
returns-clause-fits g c = does_fit (behind c.args.layout Version g.T.Wire.format) g.T.Wire.value c.args.bytes.now c.read_all.result (λ i. omega (arith, c.type_inv.bytes i)) c.read_all.ensures

pub returns-clause-again : goal.returns-clause-again
returns-clause-again g c = λ v fits e. subst (λ f. GivesReading g.T.Wire.value c.read_all.result f) (ap (all_at (behind c.args.layout Version g.T.Wire.format)) e ∙ all_again (behind c.args.layout Version g.T.Wire.format) v fits) c.read_all.ensures
