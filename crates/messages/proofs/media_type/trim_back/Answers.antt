use Rattle.std.proofs.Common.{◌≡◌, ◌<◌, ◌-◌, length, take, false, get_or, arith, ap, rules}
use Rattle.std.specs.List.{suffix_len}
use Rattle.std.proofs.lemmas.List.Sums.{suffix_len_is}
use Rattle.messages.specs.MediaType.{is_space}
use Rattle.messages.proofs.media_type.trim_back.Goals as goal
use Rattle.messages.proofs.media_type.trim_back.Goals.{then-loop-end-test+else-text-end-eq32, else-loop-end-test}

pub returns : goal.returns
returns c =
    let text = c.args.text.now in
    let end = c.loop-end.end in
    let inside = c.loop-end.invariant.inside in
    let stops : 0 < end → is_space (get_or text (end - 1) 0) ≡ false =
    elim c.loop-end-test.branch [
      | then-loop-end-test+else-text-end-eq32 w ↦ λ some. search rules
      | else-loop-end-test w ↦ λ some. (let none = w.loop-end-test.false in absurd (omega (arith, none, some)))
    ] in
    let spaces : suffix_len is_space text ≡ length text - end = suffix_len_is is_space text end 0 inside c.loop-end.invariant.spaces stops in
    let same : end ≡ length text - suffix_len is_space text = omega (arith, spaces, inside) in
    ap (λ n. take n text) same
