use Rattle.hook_commands.proofs.asking.hex_of.Goals as goal

pub returns-in-V1 : goal.returns-in-V1
returns-in-V1 c = rw c.in-V1.is (rw c.write.ensures.bytes at c.encode.ensures)

pub returns-in-V2 : goal.returns-in-V2
returns-in-V2 c = rw c.in-V2.is (rw c.write_v2.ensures.bytes at c.encode-in-V2.ensures)
