-- What becomes of who asks for a reload.
use Rattle.std.specs.Prelude.{◌≡◌, ◌⊎◌, ℕ, List, ◌∷◌, Bool, true, false, Option, Some, None, IsSome, IfSome, option_map, codes, length}
use Rattle.clients.specs.Registry.{is_key_of}
use Rattle.clients.specs.RegistryRecord.{RegistryRecord}
use Rattle.messages.specs.Written.{in_writing, reply_bytes}
use Rattle.state_file.specs.Comparing.{AreAsWide}
use Rattle.state_file.specs.Telling.{rules_of}
use Rattle.state_file.specs.declared.fault.StateFault.{StateFault}
use Rattle.desk.specs.Beside.{MayBeNarrowed}
use Rattle.desk.specs.Replies.{IsGrantedReply, IsNotBegunReply, IsRefusalReply, IsStateReply, IsUnavailable, refused_for}
use Rattle.desk.specs.declared.not_begun.NotBegun.{NotBegun}
use Rattle.desk.specs.declared.reply.Refusal.TheVariants as refusal
use Rattle.desk.specs.declared.reply.Reloaded.{Reloaded}
use Rattle.daemon.specs.Calls.{Logged, Replied}
use Rattle.daemon.specs.declared.reloads.Heirs.{Heirs}
use Rattle.daemon.specs.declared.reloads.Reloads.{Reloads}
use Rattle.daemon.specs.declared.reloads.Wanted.{Wanted}
use Rattle.daemon.specs.declared.resumption.Resumption.{Resumption}

-- a registry keeps the names of another one
abbrev pub KeepsNames : RegistryRecord → RegistryRecord → Type 0
KeepsNames told now = AreAsWide (rules_of told) (rules_of now) ⊎ MayBeNarrowed (rules_of told) (rules_of now)

-- the former one goes by the registry that this text says, and the next one by one that keeps its names
pub record AreHeirs {R : Type 0} (text : List ℕ) (heirs : Heirs R) : Type 0 where
  pub former : heirs.former.candidate.text.items ≡ text
  pub named : KeepsNames heirs.former.candidate.registry heirs.next.candidate.registry

-- the text of the registry by which the server goes stays, and with it the operator's key, and the path of its file
pub record KeepsServing {R : Type 0} (old new : Reloads R) : Type 0 where
  pub config : new.config ≡ old.config
  pub key : new.key ≡ old.key
  pub text : new.text ≡ old.text

-- a reload but for whether the loop was told
abbrev pub untold_of : {R : Type 0} → Wanted R → Wanted R
untold_of wanted = record wanted { told = false }

-- the operator's key was sent, of which this is the digest
abbrev pub IsSent : List ℕ → Type 0
IsSent key = (text : List ℕ) × (is_key_of text key ≡ true)

-- none was under way, and one begins by the operator's key, by heirs of the registry by which the server goes
pub record Begins {R : Type 0} (old new : Reloads R) : Type 0 where
  pub first : old.wanted ≡ None
  pub sent : IsSent old.key
  pub heirs : IfSome new.wanted (λ wanted. AreHeirs old.text.items wanted.heirs)

-- a reload that is under way stays so, by whoever asked for it; and none begins but so
abbrev pub KeepsWanted : {R : Type 0} → Reloads R → Reloads R → Type 0
KeepsWanted old new = (option_map untold_of new.wanted ≡ option_map untold_of old.wanted) ⊎ Begins old new

-- It is refused, and that is replied, if memory is had for it: nothing else is another.
pub record Replies {R : Type 0} (IsSo : List ℕ → Type 0) (old new : Reloads R) : Type 0 where
  pub reply : Option (List ℕ)
  pub so : IfSome reply IsSo
  pub noted : new.log.calls ≡ Replied reply ∷ old.log.calls
  pub same : new ≡ record old { log = new.log }

-- It is under way: asked for with the operator's key, where the server has a file of its state, and no other one is.
pub record BeginsReload {R : Type 0} (with_key : Bool) (old new : Reloads R) : Type 0 where
  pub key : with_key ≡ true
  pub path : IsSome old.config
  pub first : old.wanted ≡ None
  pub wanted : Wanted R
  pub untold : wanted.told ≡ false
  pub heirs : AreHeirs old.text.items wanted.heirs
  pub same : new ≡ record old { wanted = Some wanted }

-- the server has no file of its state
abbrev pub IsNoState : List ℕ → Type 0
IsNoState bytes = bytes ≡ reply_bytes (in_writing (refused_for (codes "NoState") None))

-- by whether the operator's key was sent: it is refused, where it was not; by name, where the server has no file of its state; where another
-- one is under way; or for the registry's file, or beside the registry by which the server goes; or it is under way
pub data IsAsked {R : Type 0} (with_key : Bool) (old new : Reloads R) : Type 0 where
  no_key : with_key ≡ false → Replies (IsRefusalReply refusal.NoKey) old new → IsAsked with_key old new
  no_state : with_key ≡ true → old.config ≡ None → Replies IsNoState old new → IsAsked with_key old new
  not_now : with_key ≡ true → IsSome old.config → IsSome old.wanted → Replies IsUnavailable old new → IsAsked with_key old new
  not_begun : with_key ≡ true → IsSome old.config → old.wanted ≡ None → (why : NotBegun) → Replies (IsNotBegunReply why) old new → IsAsked with_key old new
  begins : BeginsReload with_key old new → IsAsked with_key old new

-- how many clients and owners a registry has
abbrev pub reloaded_by : RegistryRecord → Reloaded
reloaded_by registry = record { clients = length registry.clients; owners = length registry.owners }

-- who asked was told that it is made, and of which registry; and nobody is to be told any more
pub record IsGranted (old : Resumption) (done : Bool) (new : Resumption) : Type 0 where
  pub done_is : done ≡ true
  pub reply : Option (List ℕ)
  pub granted : IfSome reply (IsGrantedReply old.reloaded)
  pub noted : IsSome old.asker → new.log.calls ≡ Replied reply ∷ old.log.calls
  pub nobody : old.asker ≡ None → new.log ≡ old.log
  pub asker_is : new.asker ≡ None

-- he was told that it is refused, and why
pub record IsRefusedTo (fault : StateFault) (old new : Resumption) : Type 0 where
  pub reply : Option (List ℕ)
  pub refused : IfSome reply (IsStateReply fault)
  pub noted : IsSome old.asker → new.log.calls ≡ Replied reply ∷ old.log.calls
  pub asker_is : new.asker ≡ None
