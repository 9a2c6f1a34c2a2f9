-- Where the values of fields lie.
use Rattle.std.specs.Prelude.{ℕ, List, Option, Some, None, option_map, ⊤}
use Rattle.httparse.specs.Spans.{span_bytes, IsWithin}
use Rattle.httparse.specs.declared.spans.Span.{Span}

abbrev pub IsOptionWithin : ℕ → Option Span → Type 0
IsOptionWithin n None = ⊤
IsOptionWithin n (Some span) = IsWithin n span

-- the bytes at the place, where there is one
abbrev pub bytes_at_place : List ℕ → Option Span → Option (List ℕ)
bytes_at_place bytes place = option_map (span_bytes bytes) place
