use Rattle.std.proofs.Common.{◌≡◌, List, ℕ, ◌-◌, length, drop, take, arith, rules, ◌∙◌, ap, length-drop}
use Rattle.std.proofs.lemmas.List.{take_all}
use Rattle.batch_file.specs.Frames.{without_zeros}
use Rattle.batch_file.proofs.Walking.{found_batches, found_end, found_readable, found_whole}
use Rattle.batch_file.proofs.framing.read_batches.Goals as goal

pub of-requires : goal.of-requires
of-requires c = (found_whole _ _ _ c.args.bytes.now c.in_ok-whole.whole.items c.in_ok-found.ensures.found c.in_ok-whole.ensures).0

pub returns-clause-batches : goal.returns-clause-batches
returns-clause-batches c = found_batches _ _ _ c.args.bytes.now c.in_ok-found.ensures.found

pub returns-clause-frames : goal.returns-clause-frames
returns-clause-frames c =
    c.of.ensures ∙ (found_whole _ _ _ c.args.bytes.now c.in_ok-whole.whole.items c.in_ok-found.ensures.found c.in_ok-whole.ensures).1

pub returns-clause-torn : goal.returns-clause-torn
returns-clause-torn c =
    let bytes = c.args.bytes.now in
    let end = c.in_ok-found.found.end in
    let all : take (length bytes - end) (drop end bytes) ≡ drop end bytes = take_all _ _ (omega (arith, length-drop end bytes)) in
    let same : c.in_ok-to_vec.field-0.items ≡ c.trimmed.result.now = search rules in
    same ∙ c.trimmed.ensures ∙ ap (λ (l : List ℕ). without_zeros l) (all ∙ ap (λ (k : ℕ). drop k bytes) (found_end _ _ end bytes c.in_ok-found.ensures.found))

pub returns-clause-readable : goal.returns-clause-readable
returns-clause-readable c = found_readable _ _ _ c.args.bytes.now c.in_ok-found.ensures.found
