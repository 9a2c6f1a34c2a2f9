use Rattle.std.proofs.Common.{◌≡◌, ◌∙◌, Some, subst, sym}
use Rattle.hook_commands.specs.File.{File}
use Rattle.desk.specs.declared.candidate.Candidate.{Candidate}
use Rattle.commands.specs.Config.{HoldsRegistry}
use Rattle.commands.specs.NamedFiles.{bytes_in}
use Rattle.commands.proofs.config_file.candidate_in.Goals as goal

-- a candidate's text holds its registry
holds : (file : File) (candidate : Candidate) → file ≡ Some candidate.text.items → HoldsRegistry file candidate.registry
holds file candidate is = subst (λ (f : File). HoldsRegistry f candidate.registry) (sym is) candidate.said

pub returns-in-Ok-clause-found : goal.returns-in-Ok-clause-found
returns-in-Ok-clause-found c = holds (bytes_in c.args.file) c.in-Ok.candidate (sym c.text_in.ensures ∙ c.in-Ok.ensures.read)
