use Rattle.std.proofs.Common.{rules}
use Rattle.start_words.proofs.options.Options.take.Goals as goal
use Rattle.start_words.proofs.options.Options.take.Goals.{in-Silence+in_ok-self-inside-in-Silence, in-Full+in_ok-self-inside-in-Full, in-Report+in_ok-self-inside-in-Report, in-Audit+in_ok-self-inside-in-Audit, in-State+in_ok-self-inside-in-State, in-List+in_ok-map_err-in-List, in-Hook+in_ok-hook-in-Hook+in_ok-push-in-Hook}

pub returns-clause-done : goal.returns-clause-done
returns-clause-done c =
    elim c.match-branch-2.branch [
      | in-Silence+in_ok-self-inside-in-Silence w ↦ search rules
      | in-Full+in_ok-self-inside-in-Full w ↦ search rules
      | in-Report+in_ok-self-inside-in-Report w ↦ search rules
      | in-Audit+in_ok-self-inside-in-Audit w ↦ search rules
      | in-State+in_ok-self-inside-in-State w ↦ search rules
      | in-List+in_ok-map_err-in-List w ↦ search rules
      | in-Hook+in_ok-hook-in-Hook+in_ok-push-in-Hook w ↦ search rules
    ]
