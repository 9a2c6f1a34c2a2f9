use Rattle.std.proofs.Common.{◌≡◌, ◌∙◌, ◌++◌, Bool, true, sym, subst, arith}
use Rattle.state_file.proofs.Names.{if◌then◌else◌, frames_size, lists, tells_number}
use Rattle.state_file.specs.LengthLaws.{frames_size-append}
use Rattle.state_file.proofs.sizes.shortened_behind.Goals as goal

pub returns-in-Some : goal.returns-in-Some
returns-in-Some c = λ front is.
    let behind = lists c.args.behind.now in
    let yes : tells_number c.args.batch.now ≡ true = sym c.tells_number.ensures ∙ c.if-not-tells_number.false in
    let both = frames_size-append front behind in
    let all = c.in-Some.ensures in
    let less = c.saturating_sub.ensures in
    subst (λ (b : Bool). c.saturating_sub.result ≡ (if b then frames_size (front ++ behind) else c.args.before)) (sym yes) (omega (arith, is, both, all, less))
