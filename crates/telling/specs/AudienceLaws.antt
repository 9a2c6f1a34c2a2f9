-- What is heard, one after the other.
use Rattle.std.proofs.Common.{◌≡◌, List, [], ◌∷◌, ◌++◌, Option, refl, ap, sym, ◌∙◌}
use Rattle.telling.specs.Audience.{Audience, heard_by, heard_if, heard_some}
use Rattle.telling.specs.Interests.{wanted_of}
use Rattle.telling.specs.declared.told.Told.{Told}

-- nothing is heard of nothing
pub none_heard : (audience : Audience) → heard_by audience [] ≡ audience
none_heard audience = refl

by_push : (a : Audience) (tolds : List Told) (told : Told) → heard_by a (tolds ++ told ∷ []) ≡ heard_if (heard_by a tolds) told
by_push a [] told = refl
by_push a (x ∷ tolds) told = by_push (heard_if a x) tolds told

-- one more is told of, where it is wanted
pub heard_next : (a : Audience) (tolds : List Told) (said : Option Told) (told : Told) →
    said ≡ wanted_of (heard_by a tolds).interest told → heard_some (heard_by a tolds) said ≡ heard_by a (tolds ++ told ∷ [])
heard_next a tolds said told is = ap (heard_some (heard_by a tolds)) is ∙ sym (by_push a tolds told)
