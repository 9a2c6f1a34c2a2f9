-- When a server fits a history, and what one request does.
use Rattle.std.specs.Prelude.{◌≡◌, ℕ, List, [], Option, Some, None}
use Rattle.endpoints.specs.Names.{Hosting, RegistryRecord, Event, with_changes, KeptConsents, FitsConsents, Happened, Held, FitsStore, Written, in_writing, Outcome}
use Rattle.endpoints.specs.Hosts.{HostRun}
use Rattle.endpoints.specs.Bounded.{AllRight}

-- a server as it is seen
pub record SeenServer (H : Type 0) : Type 0 where
  pub rules : RegistryRecord
  pub host : H
  pub store : Held
  pub consents : KeptConsents
  -- the greatest moment that a request was handed
  pub greatest : ℕ
  -- what has happened and was not kept yet, where it is noted
  pub unkept : Option (List Event)
  -- what is ready to be noted next, without memory
  pub prepared : Option (List Event)

-- what a server begins with: its rules, and its host before all that happens
pub record Outset (H : Type 0) : Type 0 where
  pub rules : RegistryRecord
  pub first : H

abbrev pub outset_of : {H : Type 0} → RegistryRecord → H → Outset H
outset_of rules first = record { rules = rules; first = first }

-- From its greatest moment on the server answers as the history says, under the outset's rules, and its host comes from the
-- first one by the history's hooks.
pub record FitsServer {H : Type 0} (hosting : Hosting H) (server : SeenServer H) (outset : Outset H) (history : List Event) (m : ℕ) : Type 0 where
  pub rules_are : server.rules ≡ outset.rules
  pub greatest_is : server.greatest ≡ m
  pub store : FitsStore server.store history m
  pub consents : FitsConsents server.consents history
  pub hosts : HostRun hosting outset.first history server.host
  -- what the bounds of all tokens follow from
  pub right : AllRight outset.rules [] history

-- the facts lead from the history that was kept last to this one; where none is kept, there are none
abbrev pub AreUnkept : Option (List Event) → Option (List Event) → List Event → Type 0
AreUnkept None None history = Unit {0}
AreUnkept (Some facts) (Some kept) history = Happened kept facts history
AreUnkept facts kept history = ⊥

-- what the server has noted leads from the history that was kept last to this one
abbrev pub Notes : {H : Type 0} → SeenServer H → Option (List Event) → List Event → Type 0
Notes server kept history = AreUnkept server.unkept kept history

-- whatever was kept last: where what was noted led to the one history, it now leads to the other
abbrev pub AreNoted : {H : Type 0} → SeenServer H → SeenServer H → List Event → List Event → Type 0
AreNoted old new before after = (kept : Option (List Event)) → Notes old kept before → Notes new kept after

-- just these facts are noted now: all else is as it was, but for what is ready to be noted
abbrev pub NowNotes : {H : Type 0} → SeenServer H → SeenServer H → Option (List Event) → Type 0
NowNotes old new unkept = new ≡ record old { unkept = unkept; prepared = new.prepared }

-- what is before a step: the server, a history that it fits, and the moment of the step
pub record Before (H : Type 0) : Type 0 where
  pub server : SeenServer H
  pub outset : Outset H
  pub history : List Event
  pub moment : ℕ

-- the reply is the outcome's, the server fits the history with the outcome's changes, its host comes from the one before by
-- these, and just these are noted
pub record IsStep {H : Type 0} (hosting : Hosting H) (before : Before H) (outcome : Outcome) (reply : Written) (new : SeenServer H) : Type 0 where
  pub reply_is : reply ≡ in_writing outcome.reply
  pub fits : FitsServer hosting new before.outset (with_changes before.history before.moment outcome.changes) before.moment
  pub hosts : HostRun hosting before.server.host (with_changes [] before.moment outcome.changes) new.host
  pub noted : AreNoted before.server new before.history (with_changes before.history before.moment outcome.changes)
