use Rattle.answers.specs.FoundLaws.{all_named, all_found}
use Rattle.answers.proofs.view.View.at.Goals as goal

pub returns-clause-value : goal.returns-clause-value
returns-clause-value c = λ history shows.
    all_named history c.args.digest.now c.args.self.now.moment c.at.result (c.at.ensures history shows.store)

pub returns-clause-found : goal.returns-clause-found
returns-clause-found c = λ history shows.
    all_found history c.args.digest.now c.args.self.now.moment c.at.result (c.at.ensures history shows.store)
