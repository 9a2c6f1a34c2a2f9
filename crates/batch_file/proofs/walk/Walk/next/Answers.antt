use Rattle.std.proofs.Common.{◌≡◌, ◌+◌, ◌∙◌, List, ℕ, length, take, drop, refl, sym, ap, subst, arith, rules}
use Rattle.batch_file.specs.Frames.{digest, IsFrame, IsNoFrame}
use Rattle.batch_file.specs.FramesLaws.{digest_is}
use Rattle.batch_file.specs.Readers.{ahead}
use Rattle.batch_file.proofs.Going.{gone_over}
use Rattle.batch_file.proofs.walk.Walk.next.Goals as goal

pub returns-in_default-clause-none : goal.returns-in_default-clause-none
returns-in_default-clause-none c = subst (λ (l : List ℕ). IsNoFrame c.args.self.now.last l) c.ahead.ensures c.in_default.ensures.none

pub returns-clause-read : goal.returns-clause-read
returns-clause-read c = λ batches told h.
    let old = c.args.self.now in
    let batch = c.in-Some.batch.now in
    let same : c.in_ok-batch.batch.items ≡ batch = search rules in
    let f : IsFrame old.last batch (drop (21 + length batch) (ahead old)) (ahead old) = subst (λ (l : List ℕ). IsFrame old.last batch (drop (21 + length batch) l) l) c.ahead.ensures c.in-Some.ensures.some in
    let is : c.digest_at-last.result ≡ digest old.last batch = c.digest_at-last.ensures ∙ ap (λ (l : List ℕ). take 16 (drop 5 l)) c.ahead-2.ensures ∙ digest_is old.last batch _ (ahead old) f in
    let len : c.len.result ≡ length batch = search rules in
    let len_2 : c.len-2.result ≡ length batch = search rules in
    gone_over batches told batch c.in_ok-batch.batch.items old _ h f refl (ap (λ (k : ℕ). old.at + (21 + k)) len) (ap (λ (k : ℕ). old.end + (21 + k)) len_2) refl is same

pub returns-clause-last : goal.returns-clause-last
returns-clause-last c =
    let old = c.args.self.now in
    let batch = c.in-Some.batch.now in
    let same : c.in_ok-batch.batch.items ≡ batch = search rules in
    let f : IsFrame old.last batch (drop (21 + length batch) (ahead old)) (ahead old) = subst (λ (l : List ℕ). IsFrame old.last batch (drop (21 + length batch) l) l) c.ahead.ensures c.in-Some.ensures.some in
    let is : c.digest_at-last.result ≡ digest old.last batch = c.digest_at-last.ensures ∙ ap (λ (l : List ℕ). take 16 (drop 5 l)) c.ahead-2.ensures ∙ digest_is old.last batch _ (ahead old) f in
    (is ∙ ap (λ (l : List ℕ). digest old.last l) (sym same), omega (arith, f.short, ap length same))
