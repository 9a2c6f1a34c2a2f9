use Rattle.std.proofs.Common.{rules, ◌≡◌, ◌++◌, ◌∙◌, ℕ, List, length, true, sym, ap, subst, arith}
use Rattle.http_edge.proofs.Names.{IsTrue, waiting-append}
use Rattle.heads.specs.Waiting.{still_waits, IsWaiting}
use Rattle.http_edge.proofs.rest.Rest.wait.Goals as goal

pub invariant_of-self-2 : goal.invariant_of-self-2
invariant_of-self-2 c =
    let bytes : List ℕ = c.self.inside.bytes.items in
    let piece = c.args.piece.now in
    let waits = c.self.inside.waits in
    let all : c.put.new.bytes.items ≡ bytes ++ piece = search rules in
    let on : c.still_waits.result ≡ true = search rules in
    let len : c.len.result ≡ length bytes = search rules in
    let same : c.still_waits.result ≡ still_waits waits c.len.result piece = c.still_waits.ensures in
    let still : IsTrue (still_waits waits (length bytes) piece) = ap (λ n. still_waits waits n piece) (sym len) ∙ sym same ∙ on in
    let size = ap length all in
    let short = (c.self.invariant.1 piece still).short in
    (omega (arith, size, short), subst (λ (l : List ℕ). IsWaiting l waits) (sym all) (waiting-append bytes piece waits c.self.invariant.1 still))
