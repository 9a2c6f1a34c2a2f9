-- What the commands about hooks print for a machine, byte by byte: the code of a program, and its canonical text. What is
-- printed for people is told by values.
use Rattle.std.specs.Prelude.{ℕ, List, ◌++◌, codes, Option, Some, None}
use Rattle.hook_commands.specs.Names.{string_bytes, HookAnswer}
use Rattle.hook_commands.specs.declared.answer.HookAnswer.TheVariants as answers

-- the whole text that such an answer is printed as
abbrev pub hook_answer_text : HookAnswer → Option (List ℕ)
hook_answer_text (answers.Code hex) = Some (string_bytes hex ++ codes "\n")
hook_answer_text (answers.Listing text) = Some (string_bytes text)
hook_answer_text answer = None
