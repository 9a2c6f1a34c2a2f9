use Rattle.std.proofs.Common.{◌≡◌, ℕ, ◌+◌, ◌-◌, ◌≤◌, List, length, map, arith, rules, ap, ◌∙◌}
use Rattle.machine.proofs.Names.{length-map, Byte, size_bytes, low_bytes, record_size, STACK_SIZE, state_of}
use Rattle.insn.specs.declared.state.Cell.{Cell}
use Rattle.insn.specs.MemoryLaws.{length-low_bytes}
use Rattle.machine.proofs.Writing.{low_in_part, part_written}
use Rattle.machine.proofs.frame.Frame.put_number.Goals as goal

pub returns-in-Record : goal.returns-in-Record
returns-in-Record c =
    let n = size_bytes c.args.size in
    let inside : c.args.at + n ≤ record_size c.args.layout = rw c.in-Record.is at c.requires.inside in
    let fits : c.args.at + n ≤ length c.args.bytes.now = omega (arith, inside, c.requires.record) in
    let same : c.fill_bytes.new.bytes ≡ low_bytes n c.args.number = c.fill_bytes.ensures ∙ low_in_part c.args.at _ n c.args.number c.args.bytes.now (ap (λ (k : ℕ). c.args.at + k) c.bytes.ensures) fits in
    rw c.in-Record.is (ap (state_of c.args.self.now) (part_written c.args.at _ c.args.bytes.now _ _ same (omega (arith, length-low_bytes n c.args.number, c.bytes.ensures))))

pub returns-in-Stack : goal.returns-in-Stack
returns-in-Stack c =
    let n = size_bytes c.args.size in
    let fits : c.args.at + n ≤ length c.args.self.now.stack = let inside : c.args.at + n ≤ STACK_SIZE = rw c.in-Stack.is at c.requires.inside in let long : length c.args.self.now.stack ≡ STACK_SIZE = search rules in omega (arith, inside, long) in
    let same : c.fill_cells.new.cells ≡ map Byte (low_bytes n c.args.number) = c.fill_cells.ensures ∙ ap (map Byte) (low_in_part c.args.at _ n c.args.number c.args.self.now.stack (ap (λ (k : ℕ). c.args.at + k) c.bytes.ensures) fits) in
    let long : length (map Byte (low_bytes n c.args.number)) ≡ c.args.at + c.bytes.result - c.args.at = omega (arith, length-map (low_bytes n c.args.number) (λ b. Byte b), length-low_bytes n c.args.number, c.bytes.ensures) in
    rw c.in-Stack.is (ap (λ (cells : List Cell). state_of (record { registers = c.args.self.now.registers; stack = cells }) c.args.bytes.now) (part_written c.args.at _ c.args.self.now.stack _ _ same long))
