-- Which calls a server makes to learn what became of one, and what it makes of what is told.
use Rattle.std.specs.Prelude.{◌≡◌, ◌≤◌, ℕ, zero, suc, List, ◌∷◌, Option, Result, Ok, Err, IfErr, OnErr, OnOk, ok_or}
use Rattle.etcd_cluster.specs.Calls.{AskedHead, Called, Sent}
use Rattle.etcd_cluster.specs.Stands.{ChangeFact}
use Rattle.etcd_cluster.specs.Worlds.{IsHeadOf, version_found}
use Rattle.etcd_cluster.specs.declared.change.Answer.{Answer}
use Rattle.etcd_cluster.specs.declared.change.Answer.TheVariants.{Done, NotDone}
use Rattle.etcd_cluster.specs.declared.change.CallFault.{CallFault}
use Rattle.etcd_cluster.specs.declared.change.CallFault.TheVariants.{Refused, Unclear}
use Rattle.etcd_cluster.specs.declared.change.Standing.{Standing}
use Rattle.etcd_cluster.specs.declared.settling.SettleFault.{SettleFault}
use Rattle.etcd_cluster.specs.declared.settling.SettleFault.TheVariants as settle

-- so often the one call, on top of the others
abbrev pub again : ℕ → Called → List Called → List Called
again zero call calls = calls
again (suc n) call calls = call ∷ again n call calls

-- The same was asked until something was told, no more than so many times more: what is told at last is on top.
pub record AsksAgain {A : Type 0} (more : ℕ) (call : Result A CallFault → Called) (told : Result A CallFault) (old new : List Called) : Type 0 where
  pub times : ℕ
  pub few : times ≤ more
  pub all : told ≡ Err Unclear → times ≡ more
  pub calls : new ≡ call told ∷ again times (call (Err Unclear)) old

-- WHAT IT MAKES OF IT

abbrev pub fault_told : CallFault → SettleFault
fault_told Unclear = settle.Unclear
fault_told Refused = settle.Refused

-- A change is done where that was told, or where its own head was; overtaken, where another head was; else it is not clear.
abbrev pub settled_by : ChangeFact → Result Answer CallFault → Result ℕ SettleFault
settled_by change (Ok (Done version)) = Ok version
settled_by change (Ok (NotDone found)) = ok_or (version_found change found) settle.Overtaken
settled_by change (Err fault) = Err (fault_told fault)

-- It was sent until it was told what became of it, or too often; and nothing else was.
pub record IsSettled (more : ℕ) (change : ChangeFact) (result : Result ℕ SettleFault) (old new : List Called) : Type 0 where
  pub told : Result Answer CallFault
  pub asked : AsksAgain more (Sent change) told old new
  pub by : result ≡ settled_by change told

-- why a head is not confirmed
abbrev pub unconfirmed_by : Result (Option Standing) CallFault → SettleFault
unconfirmed_by (Ok told) = settle.Overtaken
unconfirmed_by (Err fault) = fault_told fault

-- It is, where a head of that version was told, and only there.
pub record Confirms {A : Type 0} (version : ℕ) (told : Result (Option Standing) CallFault) (result : Result A SettleFault) : Type 0 where
  pub is : OnOk result (IsHeadOf version told)
  pub not : OnErr result (IsHeadOf version told → ⊥)
  pub why : IfErr result (λ fault. fault ≡ unconfirmed_by told)

pub record IsConfirmed {A : Type 0} (more version : ℕ) (result : Result A SettleFault) (old new : List Called) : Type 0 where
  pub told : Result (Option Standing) CallFault
  pub asked : AsksAgain more AskedHead told old new
  pub by : Confirms version told result
