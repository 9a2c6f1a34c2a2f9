-- What a host of hooks says to a server, and how it comes from the first one.
use Rattle.std.specs.Prelude.{◌≡◌, List, [], ◌∷◌, Option, Some, None}
use Rattle.endpoints.specs.Names.{HookFault, Hosting, Event, Spent, HostSays}
use Rattle.endpoints.specs.Layouts.{layout_of}
use Rattle.consent.specs.History.{Change}
use Rattle.consent.specs.History.Change.{Consented, CodeGiven, Issued, FamilyEnded, HookSet, HookGone, Numbered}

-- what a host says, with this fault for the change that is asked for
abbrev pub says_with : {H : Type 0} → Hosting H → H → Option HookFault → HostSays
says_with hosting host fault = record { answer = hosting.answer host; names = hosting.names host; fault = fault }

-- THE HOST'S OWN FAULTS

-- the host has this fault for the change
abbrev pub HostRefuses : {H : Type 0} → Hosting H → H → Change → HookFault → Type 0
HostRefuses hosting host (HookSet name version code) fault = hosting.refuses_install host name (layout_of version) code fault
HostRefuses hosting host (HookGone name) fault = hosting.refuses_remove host name fault
HostRefuses hosting host _ fault = ⊥

-- the fault, if any, is one that the host has for the change, if any
abbrev pub IsHostFault : {H : Type 0} → Hosting H → H → Option Change → Option HookFault → Type 0
IsHostFault hosting host change None = Unit {0}
IsHostFault hosting host None (Some fault) = ⊥
IsHostFault hosting host (Some change) (Some fault) = HostRefuses hosting host change fault

-- THE HOST'S HISTORY

-- one event's step of the host
abbrev pub HostStep : {H : Type 0} → Hosting H → H → Change → H → Type 0
HostStep hosting old (HookSet name version code) new = hosting.installs old name (layout_of version) code new
HostStep hosting old (HookGone name) new = hosting.removes old name new
HostStep hosting old (Consented owner client mask) new = new ≡ old
HostStep hosting old (CodeGiven family code digest) new = new ≡ old
HostStep hosting old (Issued family parties token) new = new ≡ old
HostStep hosting old (Spent digest) new = new ≡ old
HostStep hosting old (FamilyEnded family) new = new ≡ old
HostStep hosting old (Numbered last) new = new ≡ old

-- all events' steps, in their order
abbrev pub HostRun : {H : Type 0} → Hosting H → H → List Event → H → Type 0
HostRun hosting first [] now = now ≡ first
HostRun {H = H} hosting first (e ∷ later) now = (mid : H) × HostStep hosting first e.change mid × HostRun hosting mid later now
