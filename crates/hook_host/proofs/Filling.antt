-- What entries keep, once there is one more, and what one keeps.
use Rattle.std.proofs.Common.{◌≡◌, ℕ, List, [], ◌∷◌, ◌++◌, length, map, take, ap, ◌∙◌}
use Rattle.std.proofs.lemmas.List.{map-append}
use Rattle.std.proofs.Math.Seq.{take-append_seam}
use Rattle.hook_host.specs.Verdicts.{Verdict, verdict_in}
use Rattle.hook_host.specs.declared.entry.Entry.{Entry}

pub one_more : (entries : List Entry) (entry : Entry) (verdict : Verdict) → verdict_in entry ≡ verdict →
    map verdict_in (entries ++ entry ∷ []) ≡ map verdict_in entries ++ verdict ∷ []
one_more entries entry verdict is = map-append verdict_in entries (entry ∷ []) ∙ ap (λ (v : Verdict). map verdict_in entries ++ v ∷ []) is

-- a name is in front
pub front : (name behind : List ℕ) → take (length name) (name ++ behind) ≡ name
front name behind = take-append_seam name behind
