use Rattle.std.proofs.Common.{◌≡◌, length, refl}
use Rattle.state_file.proofs.Names.{if◌then◌else◌, max, tells_number, unwrap_or}
use Rattle.state_file.specs.Standing.{horizon_in}
use Rattle.state_file.specs.declared.measures.Measures.{Measures}
use Rattle.state_file.proofs.Going.{measured}
use Rattle.state_file.proofs.measures.Measures.measure.Goals as goal

pub returns : goal.returns
returns c = λ batches was.
    let old = c.args.self.now in
    let new : Measures = record { until = c.later-self.result; size = c.saturating_add-self.result; shortened = c.size_behind-self.result } in
    let until : c.later-self.result ≡ max old.until (unwrap_or (horizon_in c.args.batch.now) 0) = cc in
    let shortened : c.size_behind-self.result ≡ (if tells_number c.args.batch.now then c.saturating_add-self.result else old.shortened) = cc in
    measured batches c.args.batch.now (length c.args.batch.now) old new refl until c.saturating_add-self.ensures shortened was
