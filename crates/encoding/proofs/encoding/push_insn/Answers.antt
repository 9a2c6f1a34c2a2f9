use Rattle.std.proofs.Common.{◌≡◌, ℕ, List, [], ◌∷◌, ◌++◌, ap, sym, ◌∙◌, append_assoc, append-nil}
use Rattle.encoding.proofs.Names.{Slot, slot_bytes, slots}
use Rattle.encoding.proofs.encoding.push_insn.Goals as goal

-- bytes behind others, and then more behind them
twice : (old first second : List ℕ) → (old ++ first) ++ second ≡ old ++ (first ++ (second ++ []))
twice old first second = append_assoc old first second ∙ ap (λ (l : List ℕ). old ++ (first ++ l)) (sym (append-nil second))

pub returns-in_ok-extend_from_slice-2 : goal.returns-in_ok-extend_from_slice-2
returns-in_ok-extend_from_slice-2 c =
    let whole : slots c.args.insn ≡ c.first_slot.result ∷ c.in-Some.second ∷ [] = c.in-Some.ensures.value ∙ ap (λ (s : Slot). s ∷ c.in-Some.second ∷ []) (sym c.first_slot.ensures.value) in
    rw (whole, c.in_ok-extend_from_slice-2.ensures.items, c.in_ok-extend_from_slice.ensures.items, c.to_bytes.ensures, c.to_bytes-in-Some.ensures) (twice c.args.bytes.now.items (slot_bytes c.first_slot.result) (slot_bytes c.in-Some.second))
