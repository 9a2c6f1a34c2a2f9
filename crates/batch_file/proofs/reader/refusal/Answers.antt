use Rattle.std.proofs.Common.{◌≡◌, ◌++◌, ℕ, List, inr, length, rules, subst}
use Rattle.batch_file.specs.Frames.{IsVersion}
use Rattle.batch_file.specs.Reads.{Begins}
use Rattle.batch_file.proofs.Going.{IsAll, all_skipped, all_told, no_version, other_version}
use Rattle.batch_file.proofs.reader.refusal.Goals as goal
use Rattle.batch_file.proofs.reader.refusal.Goals.{then-not-front+in-Ok, else-not-front}

pub returns-in-Some-clause-refused : goal.returns-in-Some-clause-refused
returns-in-Some-clause-refused g c =
    let S = g.S.ByteSource in
    let front = c.args.front.now.bytes.items in
    let size = c.if-not-front.size in
    let len : c.len-size.result ≡ length front = search rules in
    let there : IsAll (S.told c.if-not-front.source) front size × S.is_over c.if-not-front.source =
    elim c.if-not-front.branch [
      | then-not-front+in-Ok w ↦
          let rest = w.in-Ok.ensures.read in
          (all_skipped (S.told c.args.source.now) _ rest.0 front c.len-size.result w.in-Ok.all size c.requires.told (rw w.source-is rest.1) rest.2 w.size-is len (c.requires.enough w.if-not-front.true), rw w.source-is w.in-Ok.ensures.over)
      | else-not-front w ↦
          (rw w.source-is (all_told _ front c.len-size.result size c.requires.told w.size-is len), rw w.source-is (c.requires.over w.if-not-front.false))
    ] in
    let so = subst (λ (l : List ℕ). (more : List ℕ) → Begins l more size → IsVersion c.in-Some.version (l ++ more)) c.deref.ensures.value c.in-Some.ensures.some in
    inr (there.1, other_version (S.told c.if-not-front.source) front there.0.more size there.0.begins there.0.is c.requires.other c.in-Some.version (so there.0.more there.0.begins))

pub returns-in-None-clause-refused : goal.returns-in-None-clause-refused
returns-in-None-clause-refused g c =
    let S = g.S.ByteSource in
    let front = c.args.front.now.bytes.items in
    let size = c.if-not-front.size in
    let len : c.len-size.result ≡ length front = search rules in
    let there : IsAll (S.told c.if-not-front.source) front size × S.is_over c.if-not-front.source =
    elim c.if-not-front.branch [
      | then-not-front+in-Ok w ↦
          let rest = w.in-Ok.ensures.read in
          (all_skipped (S.told c.args.source.now) _ rest.0 front c.len-size.result w.in-Ok.all size c.requires.told (rw w.source-is rest.1) rest.2 w.size-is len (c.requires.enough w.if-not-front.true), rw w.source-is w.in-Ok.ensures.over)
      | else-not-front w ↦
          (rw w.source-is (all_told _ front c.len-size.result size c.requires.told w.size-is len), rw w.source-is (c.requires.over w.if-not-front.false))
    ] in
    let none = subst (λ (l : List ℕ). (more : List ℕ) → Begins l more size → (version : ℕ) → IsVersion version (l ++ more) → ⊥) c.deref.ensures.value c.in-None.ensures.none in
    inr (there.1, no_version (S.told c.if-not-front.source) front there.0.more size there.0.begins there.0.is (none there.0.more there.0.begins))
