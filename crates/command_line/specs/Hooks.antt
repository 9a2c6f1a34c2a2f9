-- Hooks in files, installed one after the other before a server listens.
use Rattle.std.specs.Prelude.{◌≡◌, ◌≢◌, ◌⊎◌, ⊤, ℕ, List, [], ◌∷◌, None, map, option_map}
use Rattle.command_line.specs.Names.{HookSaid, hook_said, IsInstalled, Named, RefusesInstall, CommandFault, CannotRead, Hook, OutOfMemory, HookFact}
use Rattle.hook_host.specs.declared.fault.HookFault.{HookFault}
use Rattle.hook_host.specs.declared.fault.HookFault.TheVariants as memory
use Rattle.endpoints.specs.Layouts.{version_of}
use Rattle.command_line.specs.declared.hook_files.HookCode.{HookCode}
use Rattle.command_line.specs.declared.hook_files.HookRead.{HookRead}
use Rattle.hook_commands.specs.File.{File, HoldsCode}

-- what the words say of a hook, and what stands in its file
pub record HookInFile : Type 0 where
  pub said : HookSaid
  pub file : File

abbrev pub in_file : HookRead → HookInFile
in_file read = record { said = hook_said read.hook; file = option_map (λ v. v.items) read.bytes }

-- what the words say of each
abbrev pub said_of : List HookInFile → List HookSaid
said_of hooks = map (λ h. h.said) hooks

-- a hook's name, the version of its record, and the code in its file
pub record IsFactOf (hook : HookInFile) (fact : HookFact) : Type 0 where
  pub name : fact.name ≡ hook.said.name
  pub version : fact.version ≡ version_of hook.said.layout
  pub held : HoldsCode hook.file fact.code

-- those of each
abbrev pub AreFactsOf : List HookInFile → List HookFact → Type 0
AreFactsOf [] [] = ⊤
AreFactsOf (hook ∷ hooks) (fact ∷ facts) = IsFactOf hook fact × AreFactsOf hooks facts
AreFactsOf hooks facts = ⊥

abbrev pub hook_fact_of : HookCode → HookFact
hook_fact_of code = record { name = code.hook.name.now; version = version_of code.hook.layout; code = code.code.items }

-- a hook's code is installed under its name, behind the hooks before
pub record TakesHook (before : List Named) (hook : HookInFile) (after : List Named) : Type 0 where
  pub code : List ℕ
  pub held : HoldsCode hook.file code
  pub installed : IsInstalled before hook.said.name hook.said.layout code after

-- a hook's code is not installed, for this fault
pub record HasHookFault (before : List Named) (hook : HookInFile) (fault : HookFault) : Type 0 where
  pub code : List ℕ
  pub held : HoldsCode hook.file code
  pub refused : RefusesInstall before hook.said.name hook.said.layout code fault

-- why a hook is not taken: its file cannot be read, or its code is not installed
abbrev pub RefusesHook : List Named → HookInFile → CommandFault → Type 0
RefusesHook before hook (CannotRead path) = (hook.file ≡ None) × (path.now ≡ hook.said.path)
RefusesHook before hook (Hook name fault) = (fault ≢ memory.Memory) × (name.now ≡ hook.said.name) × HasHookFault before hook fault
RefusesHook before hook OutOfMemory = ⊤
RefusesHook before hook fault = ⊥

-- all are taken, in their order
abbrev pub TakesHooks : List Named → List HookInFile → List Named → Type 0
TakesHooks before [] after = after ≡ before
TakesHooks before (hook ∷ hooks) after = (between : List Named) × TakesHook before hook between × TakesHooks between hooks after

-- one is not taken, with this fault, and those before it are
abbrev pub RefusesHooks : List Named → List HookInFile → CommandFault → Type 0
RefusesHooks before [] fault = ⊥
RefusesHooks before (hook ∷ hooks) fault =
    RefusesHook before hook fault ⊎ ((between : List Named) × TakesHook before hook between × RefusesHooks between hooks fault)
