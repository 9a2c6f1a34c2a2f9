use Rattle.std.proofs.Common.{◌≡◌, ◌++◌, ◌∙◌, List, ℕ, ap, rules, sym, take}
use Rattle.std.proofs.Math.Seq.{take-add}
use Rattle.batch_file.proofs.source.BytesByteSource.read_some.Goals as goal

pub returns-clause-told : goal.returns-clause-told
returns-clause-told c =
    let all = c.args.self.now.all.now in
    let at = c.args.self.now.at in
    let size = c.min-size.result in
    let same : c.in_ok-bytes.bytes.items ≡ take size c.behind-ahead.result.now = search rules in
    take-add at size all ∙ ap (λ (l : List ℕ). take at all ++ take size l) (sym c.behind-ahead.ensures) ∙ ap (λ (l : List ℕ). take at all ++ l) (sym same)
