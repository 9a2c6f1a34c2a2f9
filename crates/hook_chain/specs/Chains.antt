-- Chains of hooks: what they hold, and what installing and removing does to them.
use Rattle.std.specs.Prelude.{◌≡◌, ◌≢◌, ◌⊎◌, ◌<◌, ◌≤◌, ℕ, List, [], ◌∷◌, ◌++◌, Bool, true, false, map, filter, length, not}
use Rattle.std.specs.List.{list_any}
use Rattle.std.specs.Str.{bytes_eq}
use Rattle.insn.specs.declared.instruction.Insn.{Insn}
use Rattle.insn.specs.declared.layout.Layout.{Layout}
use Rattle.insn.specs.declared.fault.InsnFault.TheVariants as insn
use Rattle.insn.specs.declared.verify_fault.VerifyFault.{VerifyFault}
use Rattle.encoding.specs.Spelling.{Spells, FirstInsnFault}
use Rattle.insn.specs.Step.{Safe}
use Rattle.verifier.specs.Verdicts.{Checked, IsVerdict}
use Rattle.hook_host.specs.declared.fault.HookFault.{HookFault}
use Rattle.hook_host.specs.declared.fault.HookFault.TheVariants as fault
use Rattle.hook_host.specs.Names.{IsHookName, AreHookNames, hook_limit}

-- a hook under its name
pub record Named : Type 0 where
  pub name : List ℕ
  pub hook : Checked

abbrev pub hook_names : List Named → List (List ℕ)
hook_names hooks = map (λ h. h.name) hooks

abbrev pub hooks_of : List Named → List Checked
hooks_of hooks = map (λ h. h.hook) hooks

-- a hook has the name
abbrev pub has_name : List Named → List ℕ → Bool
has_name hooks name = list_any (λ h. bytes_eq name h.name) hooks

-- the hooks but those of a name
abbrev pub without_name : List ℕ → List Named → List Named
without_name name hooks = filter (λ h. not (bytes_eq name h.name)) hooks

-- the hooks have names, and where there is one, there is room for as many as may be
pub record HoldsAll (hooks : List Named) (capacity : ℕ) : Type 0 where
  pub names : AreHookNames (hook_names hooks)
  pub room : (hooks ≡ []) ⊎ (hook_limit ≤ capacity)

-- a name that is a hook's, that no hook has yet, and for which there is room
pub record HasPlace (hooks : List Named) (name : List ℕ) : Type 0 where
  pub named : IsHookName name
  pub new : has_name hooks name ≡ false
  pub room : length hooks < hook_limit

-- the code spells a program that is safe on the records of the layout
pub record IsAcceptedCode (layout : Layout) (code : List ℕ) (hook : Checked) : Type 0 where
  pub spelled : Spells code hook.program
  pub layout_is : hook.layout ≡ layout
  pub safe : Safe hook.layout hook.program

-- the code is accepted, and stands under the name behind the others
pub record IsInstalled (old : List Named) (name : List ℕ) (layout : Layout) (code : List ℕ) (new : List Named) : Type 0 where
  pub place : HasPlace old name
  pub hook : Checked
  pub accepted : IsAcceptedCode layout code hook
  pub last : new ≡ old ++ record { name = name; hook = hook } ∷ []

-- the hook is accepted for the name, and stands alone
pub record Accepts (hooks : List Named) (name : List ℕ) (layout : Layout) (code : List ℕ) (checked : List Named) : Type 0 where
  pub place : HasPlace hooks name
  pub hook : Checked
  pub accepted : IsAcceptedCode layout code hook
  pub alone : checked ≡ record { name = name; hook = hook } ∷ []

-- the hook of the name is gone, and the others stay in their order
pub record IsRemoved (old : List Named) (name : List ℕ) (new : List Named) : Type 0 where
  pub named : has_name old name ≡ true
  pub left : new ≡ without_name name old

-- the code spells a program that is not accepted, for this fault
pub record IsNotAccepted (layout : Layout) (code : List ℕ) (fault : VerifyFault) : Type 0 where
  pub program : List Insn
  pub spelled : Spells code program
  pub verdict : IsVerdict layout program fault

-- why a name has no place: the first of these
abbrev pub HasNoPlace : List Named → List ℕ → HookFault → Type 0
HasNoPlace hooks name fault.BadName = ¬ IsHookName name
HasNoPlace hooks name fault.NameTaken = IsHookName name × (has_name hooks name ≡ true)
HasNoPlace hooks name fault.Full = IsHookName name × (has_name hooks name ≡ false) × (length hooks ≡ hook_limit)
HasNoPlace hooks name fault = ⊥

-- why code is not taken: it is no program, or one that is not accepted; memory may be wanted for both
abbrev pub IsNotTaken : Layout → List ℕ → HookFault → Type 0
IsNotTaken layout code (fault.Insn f) = (f ≢ insn.Memory) × FirstInsnFault code f
IsNotTaken layout code (fault.Verify f) = IsNotAccepted layout code f
IsNotTaken layout code fault.Memory = Unit {0}
IsNotTaken layout code fault = ⊥

-- why a hook is not installed: its name has no place, or else its code is not taken
abbrev pub RefusesInstall : List Named → List ℕ → Layout → List ℕ → HookFault → Type 0
RefusesInstall hooks name layout code fault = HasNoPlace hooks name fault ⊎ (HasPlace hooks name × IsNotTaken layout code fault)

-- why a hook is not removed: none has the name
abbrev pub RefusesRemove : List Named → List ℕ → HookFault → Type 0
RefusesRemove hooks name fault.Unknown = has_name hooks name ≡ false
RefusesRemove hooks name fault = ⊥
