use Rattle.std.proofs.Common.{rules, ◌≡◌, ◌∙◌, ◌++◌, ◌∷◌, ℕ, List, [], refl, sym, ap, subst, append_assoc, Vec}
use Rattle.std.specs.declared.alloc.Global.{Global}
use Rattle.std.specs.Prelude.{⊤}
use Rattle.state_file.proofs.Names.{frames_size, if◌then◌else◌, lists, map_push, tells_number}
use Rattle.state_file.specs.Knowing.{IsKnown}
use Rattle.state_file.specs.declared.known.Known.{Known}
use Rattle.state_file.specs.KnownLaws.{known_changes}
use Rattle.state_file.proofs.preparing.add_noted.Goals as goal

pub returns-clause-known : goal.returns-clause-known
returns-clause-known g c = λ front end before.
    let known = c.args.known.now in
    let bytes = c.bytes-bytes.result.now in
    let old = lists c.args.behind.now.items in
    let same : c.in_ok-to_vec.field-0.items ≡ bytes = search rules in
    let pushed : lists c.push.new.self.items ≡ old ++ bytes ∷ [] =
    ap (λ (l : List (Vec ℕ Global)). lists l) c.in_ok-push.ensures.items ∙ map_push _ c.args.behind.now.items c.in_ok-to_vec.field-0 ∙ ap (λ (b : List ℕ). old ++ b ∷ []) same in
    let all : front ++ lists c.push.new.self.items ≡ (front ++ old) ++ bytes ∷ [] = ap (λ (bs : List (List ℕ)). front ++ bs) pushed ∙ sym (append_assoc front old (bytes ∷ [])) in
    let now : Known = record { rules = known.rules; shortened = c.in-Some-shortened_behind.shortened; until = known.until } in
    let slice : front ++ lists c.as_slice.result.now ≡ (front ++ old) ++ bytes ∷ [] = ap (λ (l : List (Vec ℕ Global)). front ++ lists l) c.as_slice.ensures.value ∙ all in
    let sized : now.shortened ≡ (if tells_number bytes then frames_size ((front ++ old) ++ bytes ∷ []) else known.shortened) =
    c.in-Some-shortened_behind.ensures front end ∙ ap (λ (bs : List (List ℕ)). if tells_number bytes then frames_size bs else known.shortened) slice in
    subst (λ (bs : List (List ℕ)). IsKnown ⊤ bs now) (sym all)
    (known_changes ⊤ (front ++ old) bytes c.in-Some.batch.now.facts known now c.bytes-bytes.ensures.spelled c.bytes-bytes.ensures.fits refl sized refl before)
