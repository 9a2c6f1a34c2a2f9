use Rattle.std.proofs.Common.{◌≡◌, ◌∙◌, ℕ, ◌+◌, map, take, drop, Option, Some, arith, ap, sym}
use Rattle.machine.proofs.Names.{to_z-of_z, Byte, size_bytes, ◌>>=◌, pointer_at, value_in, access_place, loaded, passed, value_at, state_of}
use Rattle.std.specs.List.{drop-map, take-map}
use Rattle.insn.specs.declared.state.Pointer.{Pointer}
use Rattle.insn.specs.declared.state.Value.TheVariants.{Address}
use Rattle.insn.specs.OutcomeLaws.{passed_then, passed_value}
use Rattle.machine.proofs.Writing.{same_part}
use Rattle.machine.proofs.frame.Frame.read.Goals as goal

pub returns-in-Record : goal.returns-in-Record
returns-in-Record c =
    let n = size_bytes c.args.size in
    let s = state_of c.args.self.now c.args.bytes.now in
    let place = pointer_at c.args.pointer.region c.in_ok-at.at in
    let found : passed (access_place c.args.layout (Address c.args.pointer) c.args.offset c.args.size) ≡ Some place = grind (arith, to_z-of_z, c.access_place.ensures.value, c.in_ok-at.was) in
    let there : passed (loaded c.args.layout s (Address c.args.pointer) c.args.offset c.args.size) ≡ passed (value_at s place c.args.size) =
    passed_then (access_place c.args.layout (Address c.args.pointer) c.args.offset c.args.size) (λ q. value_at s q c.args.size) ∙ ap (λ (o : Option Pointer). o >>= λ q. passed (value_at s q c.args.size)) found in
    rw (there, passed_value s place c.args.size, c.in-Record.is)
    (c.read_bytes.ensures ∙ ap value_in (ap (map Byte) (same_part c.in_ok-at.at _ n c.args.bytes.now (ap (λ (k : ℕ). c.in_ok-at.at + k) c.bytes.ensures)) ∙ sym (ap (take n) (drop-map Byte c.in_ok-at.at c.args.bytes.now) ∙ take-map Byte n (drop c.in_ok-at.at c.args.bytes.now))))

pub returns-in-Stack : goal.returns-in-Stack
returns-in-Stack c =
    let n = size_bytes c.args.size in
    let s = state_of c.args.self.now c.args.bytes.now in
    let place = pointer_at c.args.pointer.region c.in_ok-at.at in
    let found : passed (access_place c.args.layout (Address c.args.pointer) c.args.offset c.args.size) ≡ Some place = grind (arith, to_z-of_z, c.access_place.ensures.value, c.in_ok-at.was) in
    let there : passed (loaded c.args.layout s (Address c.args.pointer) c.args.offset c.args.size) ≡ passed (value_at s place c.args.size) =
    passed_then (access_place c.args.layout (Address c.args.pointer) c.args.offset c.args.size) (λ q. value_at s q c.args.size) ∙ ap (λ (o : Option Pointer). o >>= λ q. passed (value_at s q c.args.size)) found in
    rw (there, passed_value s place c.args.size, c.in-Stack.is) (c.value.ensures ∙ ap value_in (same_part c.in_ok-at.at _ n c.args.self.now.stack (ap (λ (k : ℕ). c.in_ok-at.at + k) c.bytes.ensures)))
