-- Calls on an edge, and what came of them.
use Rattle.std.specs.Prelude.{◌≡◌, ⊤, ℕ, List, [], ◌∷◌, Bool, length, take}
use Rattle.headline.specs.Names.{Hosting, Mishap, World, Connection, Happening, Opened, Came, HasEnded, Taken, Forgotten, Happens, connection_at, piece_of, untaken, Journey, led_on, EdgeCall, Take}
use Rattle.headline.specs.Names.{Forget, Upshot, Done, Refused}
use Rattle.http_edge.specs.Refusals.{IsEventRefusal}
use Rattle.http_edge.specs.declared.event.Event.TheVariants as event
use Rattle.http_edge.specs.declared.fault.EdgeFault.{EdgeFault}
use Rattle.http_edge.specs.declared.fault.EdgeFault.TheVariants.{Memory}
use Rattle.headline.specs.declared.call.EdgeCall.TheVariants.{Event}
use Rattle.telling.specs.declared.told.Told.{Told}

-- the call, by which these bytes were taken, is what happened, whatever was free in it
abbrev pub IsHappening : EdgeCall → List ℕ → Happening → Type 0
IsHappening (Event (event.Open c)) bytes e = e ≡ Opened c
IsHappening (Event (event.Bytes c piece moment draws)) bytes e =
    (mishaps : List Mishap) × (closes : Bool) × (tellings : List Told)
    × (e ≡ Came (record { piece = piece_of c piece.now moment; draws = draws.now; mishaps = mishaps; closes = closes; tellings = tellings }))
IsHappening (Event (event.End c)) bytes e = e ≡ HasEnded c
IsHappening (Take c most) bytes e = e ≡ Taken c (length bytes)
IsHappening (Forget c) bytes e = e ≡ Forgotten c

-- why the call is refused, where these connections are
abbrev pub IsCause : EdgeFault → List Connection → EdgeCall → Type 0
IsCause fault connections (Event e) = IsEventRefusal fault connections e
IsCause Memory connections (Take c most) = ⊤
IsCause fault connections call = ⊥

-- what the call takes: the first bytes that were not taken yet, as many as may be
abbrev pub bytes_for : List Connection → EdgeCall → List ℕ
bytes_for connections (Event e) = []
bytes_for connections (Take c most) = take most (untaken (connection_at connections c))
bytes_for connections (Forget c) = []

-- From the one journey to the other the calls had these upshots, each in its turn: one that was refused has its cause in the
-- world where it was made, and nothing happened; one that was done took its bytes there, happened, and led to the next world.
abbrev pub Lead : {H : Type 0} → Hosting H → Journey H → List EdgeCall → List Upshot → Journey H → Type 0
Lead hosting old [] [] new = new ≡ old
Lead hosting old (call ∷ calls) (Refused fault ∷ upshots) new =
    IsCause fault old.world.connections call × Lead hosting old calls upshots new
Lead hosting old (call ∷ calls) (Done bytes ∷ upshots) new =
    (bytes.items ≡ bytes_for old.world.connections call)
    × (e : Happening) × IsHappening call bytes.items e
    × (middle : World) × Happens hosting old.outset old.world e middle
    × Lead hosting (led_on old (e ∷ []) middle) calls upshots new
Lead hosting old calls upshots new = ⊥
