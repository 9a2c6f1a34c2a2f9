-- What is told of some cases.
use Rattle.std.proofs.Common.{◌≡◌, ℕ, ◌+◌, ◌<◌, ◌++◌, List, [], ◌∷◌, Box, Global, map, refl, sym, ap, ◌∙◌, get_or, take, length}
use Rattle.hook_commands.specs.Names.{Layout, Known}
use Rattle.std.specs.Box.{box_value}
use Rattle.std.proofs.lemmas.List.{map-append, take_more}
use Rattle.insn.specs.declared.instruction.Insn.{Insn}
use Rattle.hook_commands.specs.declared.why.ReadTold.{ReadTold}
use Rattle.hook_commands.specs.Explanations.{AreCasesTold, IsReadTold}

told_behind : (layout : Layout) (i : Insn) (cases : List Known) (told : List ReadTold) (known : Known) (one : ReadTold) → AreCasesTold layout i cases told → IsReadTold layout i known one → AreCasesTold layout i (cases ++ known ∷ []) (told ++ one ∷ [])
told_behind layout i [] told known one so e = (one, [], ap (λ (ts : List ReadTold). ts ++ one ∷ []) so, e, refl)
told_behind layout i (k ∷ ks) told known one so e =
    (so.0, so.1 ++ one ∷ [], ap (λ (ts : List ReadTold). ts ++ one ∷ []) so.2, so.3, told_behind layout i ks so.1 known one so.4 e)

-- what is told of one case more
pub told_more : (layout : Layout) (i : Insn) (cases : List (Box Known Global)) (n : ℕ) (known : Box Known Global) (told : List ReadTold) (one : ReadTold) → n < length cases → known ≡ get_or cases n known
    → AreCasesTold layout i (map box_value (take n cases)) told → IsReadTold layout i known.value one → AreCasesTold layout i (map box_value (take (n + 1) cases)) (told ++ one ∷ [])
told_more layout i cases n known told one lt is so e =
    let longer : map box_value (take (n + 1) cases) ≡ map box_value (take n cases) ++ known.value ∷ [] =
    ap (map box_value) (take_more cases n known lt) ∙ map-append box_value (take n cases) (get_or cases n known ∷ [])
    ∙ ap (λ (b : Box Known Global). map box_value (take n cases) ++ b.value ∷ []) (sym is) in
    rw longer (told_behind layout i (map box_value (take n cases)) told known.value one so e)
