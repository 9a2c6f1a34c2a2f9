-- What becomes of connections that were handed on.
use Rattle.std.specs.Prelude.{◌≡◌, ◌+◌, ◌<◌, ℕ, Some, slice_get, vec_len}
use Rattle.std.specs.Vec.{vec_capacity}
use Rattle.outside.specs.Calls.{Call, Passed, Tried}
use Rattle.ports.specs.declared.seats.Ports.{Ports}
use Rattle.ports.specs.declared.seats.Seated.{Seated}

-- the connection at a place, if there is one, is one of them, where there is room for it
abbrev pub HandsOn : ℕ → Ports → Ports → Type 0
HandsOn place old new = (seated : Seated) → slice_get old.streams.items place ≡ Some (Some seated) → vec_len old.passed < vec_capacity old.passed →
    vec_len new.passed ≡ vec_len old.passed + 1

-- as long as there are any, one of them is accepted
abbrev pub TakesOne : Ports → Ports → Type 0
TakesOne old new = 0 < vec_len old.passed → vec_len new.passed + 1 ≡ vec_len old.passed

-- all of them wait still
abbrev pub KeepsWaiting : Ports → Ports → Type 0
KeepsWaiting old new = new.passed ≡ old.passed

-- by what was called for: none is lost but by an accept
abbrev pub KeepsPassed : Call → Ports → Ports → Type 0
KeepsPassed (Passed k) old new = HandsOn k old new
KeepsPassed (Tried k came) old new = TakesOne old new
KeepsPassed call old new = KeepsWaiting old new
