use Rattle.std.proofs.Common.{◌≡◌, ◌+◌, ◌-◌, ◌∙◌, List, ℕ, length, take, drop, refl, sym, ap, subst, arith, length-drop}
use Rattle.std.proofs.lemmas.List.{take_all}
use Rattle.batch_file.specs.Frames.{digest, first_at, size_at, IsFrame}
use Rattle.batch_file.specs.FramesLaws.{no_frame_in}
use Rattle.batch_file.proofs.Picking.{told_is}
use Rattle.batch_file.proofs.framing.has_frame_due.Goals as goal

due_is : (last bytes made : List ℕ) (size n : ℕ) → made ≡ digest last (take n (drop 21 bytes)) → n ≡ size → size ≡ size_at (drop 1 bytes) → made ≡ digest last (first_at bytes)
due_is last bytes made size n is n_is says = is ∙ ap (λ (k : ℕ). digest last (take k (drop 21 bytes))) (n_is ∙ says)

rest_is : (bytes : List ℕ) (size : ℕ) → size ≡ size_at (drop 1 bytes) → take (length bytes - (21 + size)) (drop (21 + size) bytes) ≡ drop (21 + size_at (drop 1 bytes)) bytes
rest_is bytes size says = take_all _ _ (omega (arith, length-drop (21 + size) bytes)) ∙ ap (λ (k : ℕ). drop (21 + k) bytes) says

pub returns-then-size-bytes : goal.returns-then-size-bytes
returns-then-size-bytes c =
    let bytes = c.args.bytes.now in
    let size = c.from_be_bytes-size.result in
    let says : size ≡ size_at (drop 1 bytes) = c.from_be_bytes-size.ensures ∙ sym (told_is bytes (omega arith)) in
    (λ so. absurd (cc), λ w. absurd (no_frame_in (digest c.args.last.now (first_at bytes)) (drop (21 + size_at (drop 1 bytes)) bytes) (omega (arith, length-drop (21 + size_at (drop 1 bytes)) bytes, says, c.if-size-bytes.true)) w.0 w.1 w.2))

pub returns-in_default : goal.returns-in_default
returns-in_default c =
    let bytes = c.args.bytes.now in
    let last = c.args.last.now in
    let size = c.from_be_bytes-size.result in
    let says : size ≡ size_at (drop 1 bytes) = c.from_be_bytes-size.ensures ∙ sym (told_is bytes (omega arith)) in
    let due = due_is last bytes c.head_of.result.digest size (21 + size - 21) c.head_of.ensures.digest (omega arith) says in
    (λ so. absurd (cc), λ w. absurd (c.in_default.ensures.none w.0 w.1 (subst (λ (l : List ℕ). IsFrame c.head_of.result.digest w.0 w.1 l) (sym (rest_is bytes size says)) (subst (λ (l : List ℕ). IsFrame l w.0 w.1 (drop (21 + size_at (drop 1 bytes)) bytes)) (sym due) w.2))))

pub returns : goal.returns
returns c =
    let bytes = c.args.bytes.now in
    let last = c.args.last.now in
    let size = c.from_be_bytes-size.result in
    let batch = c.in-Some.field-0.now in
    let says : size ≡ size_at (drop 1 bytes) = c.from_be_bytes-size.ensures ∙ sym (told_is bytes (omega arith)) in
    let due = due_is last bytes c.head_of.result.digest size (21 + size - 21) c.head_of.ensures.digest (omega arith) says in
    let rest = rest_is bytes size says in
    let f : IsFrame (digest last (first_at bytes)) batch (drop (21 + length batch) (drop (21 + size_at (drop 1 bytes)) bytes)) (drop (21 + size_at (drop 1 bytes)) bytes) =
    subst (λ (l : List ℕ). IsFrame l batch (drop (21 + length batch) (drop (21 + size_at (drop 1 bytes)) bytes)) (drop (21 + size_at (drop 1 bytes)) bytes)) due
    (subst (λ (l : List ℕ). IsFrame c.head_of.result.digest batch (drop (21 + length batch) l) l) rest c.in-Some.ensures.some) in
    (λ so. (batch, drop (21 + length batch) (drop (21 + size_at (drop 1 bytes)) bytes), f), λ w. refl)
