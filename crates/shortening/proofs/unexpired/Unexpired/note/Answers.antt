use Rattle.std.proofs.Common.{◌∙◌, sym}
use Rattle.change_codec.specs.Spelling.{dated_fact}
use Rattle.shortening.proofs.Noting.{notes_none, notes_some}
use Rattle.shortening.proofs.unexpired.Unexpired.note.Goals as goal

pub returns-in_default : goal.returns-in_default
returns-in_default c = λ events notes.
    notes_none c.args.self.now events c.args.moment (dated_fact c.args.dated.now) (sym c.noted.ensures ∙ c.in_default.is) notes

pub returns : goal.returns
returns c = λ events notes.
    notes_some c.args.self.now c.add.new.self events c.args.moment (dated_fact c.args.dated.now) c.in-Some.one.0 c.in-Some.one.1
    (sym c.noted.ensures ∙ c.in-Some.is) c.in_ok-add.ensures.named c.in_ok-add.ensures.living notes
