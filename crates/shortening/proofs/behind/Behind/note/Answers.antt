use Rattle.std.proofs.Common.{◌≡◌, ◌∙◌, cond, true, refl, ap, List, ℕ}
use Rattle.std.specs.HashSet.{contains_text}
use Rattle.std.specs.Str.{bytes_eq}
use Rattle.std.specs.String.{string_bytes}
use Rattle.std.proofs.lemmas.Map.Text.{hash_set_updates_text}
use Rattle.shortening.proofs.Backwards.{behind_gone}
use Rattle.shortening.proofs.behind.Behind.note.Goals as goal

pub returns-in_ok-insert-in-HookGone : goal.returns-in_ok-insert-in-HookGone
returns-in_ok-insert-in-HookGone c = λ stays later same behind.
    let name = c.in-HookGone.name.now in
    let old = c.args.self.now in
    let key = c.in_ok-name-in-HookGone.name in
    let takes : (q : List ℕ) → contains_text c.insert.new.self q ≡ cond (bytes_eq name q) true (contains_text old.gone q) = λ q.
    hash_set_updates_text (string_bytes key) old.gone c.insert.new.self true c.in_ok-insert-in-HookGone.ensures.updates q
    ∙ ap (λ bs. cond (bytes_eq bs q) true (contains_text old.gone q)) c.in_ok-name-in-HookGone.ensures.ok in
    rw c.in-HookGone.is
    (behind_gone stays old (record { superseded = old.superseded; kept = old.kept; gone = c.insert.new.self }) later c.args.dated.now.moment name takes refl refl behind)
