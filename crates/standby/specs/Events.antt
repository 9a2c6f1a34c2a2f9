-- What who waits to lead told those who came.
use Rattle.std.specs.Prelude.{◌≡◌, ◌==◌, ◌+◌, ℕ, List, [], ◌∷◌, codes, if◌then◌else◌, slice_index}
use Rattle.std.specs.Str.{bytes_eq}

-- These bytes were told to somebody, or so many milliseconds were waited.
pub data Event : Type 0 where
  Told : (bytes : List ℕ) → Event
  Waited : (time : ℕ) → Event

-- it is noted by its kind and a time, or by bytes
abbrev pub with_event : List ℕ → List ℕ → List Event → List Event
with_event numbers bytes events = (if slice_index numbers 0 == 0 then Told bytes else Waited (slice_index numbers 1)) ∷ events

-- what is told: that nobody serves there
abbrev pub refusal : List ℕ
refusal = codes "HTTP/1.1 503 Service Unavailable\r\nCache-Control: no-store\r\nContent-Length: 0\r\nConnection: close\r\n\r\n"

-- what else was told, the last first
abbrev pub told_else : List Event → List (List ℕ)
told_else [] = []
told_else (Told bytes ∷ before) = if bytes_eq bytes refusal then told_else before else bytes ∷ told_else before
told_else (Waited time ∷ before) = told_else before

-- how often was waited
abbrev pub waits : List Event → ℕ
waits [] = 0
waits (Told bytes ∷ before) = waits before
waits (Waited time ∷ before) = waits before + 1
