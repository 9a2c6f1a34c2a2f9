-- Hooks that are installed one after the other.
use Rattle.std.proofs.Common.{◌≡◌, ◌∙◌, List, [], ◌∷◌, ◌++◌, map, inr, ap, sym, subst, append_assoc}
use Rattle.command_line.proofs.Names.{map-append, HookFact, CommandFault, HookRead, AreFactsOf, hook_fact_of, in_file, IsFactOf, RefusesHooks, TakesHook, TakesHooks}
use Rattle.hook_chain.specs.Chains.{Named}
use Rattle.command_line.specs.declared.hook_files.HookCode.{HookCode}

-- what comes of the rest, from the hooks so far, comes of all
pub record LeadsHooks (all : List HookRead) (chain : List Named) (codes : List HookCode) (rest : List HookRead) : Type 0 where
  pub taken : (after : List Named) → TakesHooks chain (map in_file rest) after → TakesHooks [] (map in_file all) after
  pub coded : (more : List HookFact) → AreFactsOf (map in_file rest) more → AreFactsOf (map in_file all) (map hook_fact_of codes ++ more)
  pub refused : (fault : CommandFault) → RefusesHooks chain (map in_file rest) fault → RefusesHooks [] (map in_file all) fault

pub leads_all : (all : List HookRead) → LeadsHooks all [] [] all
leads_all all = record { taken = λ after takes. takes; coded = λ more are. are; refused = λ fault refuses. refuses }

-- the facts of the codes so far, and of one more
one_more : (codes : List HookCode) (code : HookCode) (more : List HookFact) → map hook_fact_of codes ++ hook_fact_of code ∷ more ≡ map hook_fact_of (codes ++ code ∷ []) ++ more
one_more codes code more =
    sym (append_assoc (map hook_fact_of codes) (hook_fact_of code ∷ []) more) ∙ ap (λ (facts : List HookFact). facts ++ more) (sym (map-append hook_fact_of codes (code ∷ [])))

-- one more of the hooks is taken
pub leads_on : (all : List HookRead) (chain between : List Named) (codes : List HookCode) (read : HookRead) (code : HookCode) (rest : List HookRead)
    → TakesHook chain (in_file read) between → IsFactOf (in_file read) (hook_fact_of code) → LeadsHooks all chain codes (read ∷ rest) → LeadsHooks all between (codes ++ code ∷ []) rest
leads_on all chain between codes read code rest takes is leads = record {
  taken = λ after more. leads.taken after (between, takes, more);
  coded = λ more are. subst (λ facts. AreFactsOf (map in_file all) facts) (one_more codes code more) (leads.coded (hook_fact_of code ∷ more) (is, are));
  refused = λ fault refuses. leads.refused fault (inr (between, takes, refuses));
}
