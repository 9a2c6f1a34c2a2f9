use Rattle.std.proofs.Common.{◌≡◌, ◌++◌, ◌∙◌, ◌+◌, ◌≤◌, List, ℕ, [], inr, refl, sym, ap, subst, arith, rules, length}
use Rattle.std.proofs.lemmas.List.{append-nil}
use Rattle.std.specs.Prelude.{Bool, IsTrue}
use Rattle.batch_file.specs.Frames.{most_room, without_zeros, IsDamaged, IsNoFrame, IsTorn}
use Rattle.batch_file.specs.Readers.{ahead}
use Rattle.batch_file.specs.ReadersParts.{IsEnd}
use Rattle.batch_file.proofs.Going.{ends_there, is_damaged, is_damaged_there, no_both, nothing_more, read_over, too_long}
use Rattle.batch_file.proofs.reader.FrameReader.read_end.Goals as goal

pub returns-then-not-self-clause-refused : goal.returns-then-not-self-clause-refused
returns-then-not-self-clause-refused g c = inr (λ batches h.
    let S = g.S.ByteSource in
    let now = c.fill.new.self in
    let gone = c.in_ok-go_over.ensures.read batches h in
    let all = c.in_ok-fill.ensures.read (batches ++ gone.0) gone.2 in
    let spent : IsTrue now.spent = subst (λ (b : Bool). IsTrue b) (sym c.in_ok-fill.ensures.same.spent) c.in_ok-go_over.ensures.spent in
    let rest = c.in_ok-more.ensures.read.0 in
    let enough = c.in_ok-fill.ensures.enough c.if-not-self.true in
    let long : most_room + 1 ≤ length (ahead now.walk) = omega (arith, enough) in
    let no_frame = all.spent spent rest (λ was. absurd (no_both now.over was c.if-not-self.true)) in
    let damaged = is_damaged (batches ++ gone.0) (S.told now.source) rest now.walk now.walk.number all.walked refl no_frame (too_long now.walk.last (ahead now.walk) rest long) in
    (c.in_ok-more.ensures.over, subst (λ (l : List ℕ). IsDamaged now.walk.number l) (sym c.in_ok-more.ensures.read.1) damaged))

pub returns-then-not-is_end-clause-refused : goal.returns-then-not-is_end-clause-refused
returns-then-not-is_end-clause-refused g c = inr (λ batches h.
    let S = g.S.ByteSource in
    let now = c.fill.new.self in
    let gone = c.in_ok-go_over.ensures.read batches h in
    let all = c.in_ok-fill.ensures.read (batches ++ gone.0) gone.2 in
    let spent : IsTrue now.spent = subst (λ (b : Bool). IsTrue b) (sym c.in_ok-fill.ensures.same.spent) c.in_ok-go_over.ensures.spent in
    let behind = c.in_ok-more.ensures.read in
    let told_is : S.told c.skip.new.source ≡ S.told now.source = nothing_more (S.told now.source) _ behind.0 c.in_ok-more.more behind.1 behind.2 c.if-more-gt0.false in
    let no_end : IsTorn now.walk.last (ahead now.walk) → ⊥ = λ ends. c.is_end.ensures.no c.if-not-is_end.true (subst (λ (l : List ℕ). IsTorn now.walk.last l) (sym c.ahead-ahead.ensures) ends) in
    let damaged = is_damaged_there (batches ++ gone.0) (S.told now.source) now.walk all.walked (all.spent spent [] (λ was. refl)) no_end in
    (c.in_ok-more.ensures.over, subst (λ (l : List ℕ). IsDamaged now.walk.number l) (sym told_is) damaged))

pub returns-clause-read : goal.returns-clause-read
returns-clause-read g c = λ batches h.
    let S = g.S.ByteSource in
    let now = c.fill.new.self in
    let gone = c.in_ok-go_over.ensures.read batches h in
    let all = c.in_ok-fill.ensures.read (batches ++ gone.0) gone.2 in
    let behind = c.in_ok-more.ensures.read in
    let told_is : S.told c.skip.new.source ≡ S.told now.source = nothing_more (S.told now.source) _ behind.0 c.in_ok-more.more behind.1 behind.2 c.if-more-gt0.false in
    let is = c.ahead-ahead.ensures in
    let spent : IsTrue now.spent = subst (λ (b : Bool). IsTrue b) (sym c.in_ok-fill.ensures.same.spent) c.in_ok-go_over.ensures.spent in
    let none : IsNoFrame now.walk.last (ahead now.walk) = subst (λ (l : List ℕ). IsNoFrame now.walk.last l) (append-nil (ahead now.walk)) (all.spent spent [] (λ was. refl)) in
    let ends = subst (λ (l : List ℕ). IsNoFrame now.walk.last l → IsTorn now.walk.last l) is (c.is_end.ensures.yes c.if-not-is_end.false) none in
    let same : c.in_ok-to_vec.field-0.items ≡ c.trimmed.result.now = search rules in
    let torn_is = same ∙ c.trimmed.ensures ∙ ap (λ (l : List ℕ). without_zeros l) is in
    let end = ends_there (batches ++ gone.0) (S.told now.source) c.in_ok-to_vec.field-0.items now.walk all.walked ends torn_is in
    let is_end = subst (λ (l : List ℕ). IsEnd l (batches ++ gone.0) now.walk.end c.in_ok-to_vec.field-0.items) (sym told_is) end in
    (gone.0, gone.1, read_over S.told S.is_over (batches ++ gone.0) now _ all told_is refl refl refl c.in_ok-more.ensures.over, is_end)
