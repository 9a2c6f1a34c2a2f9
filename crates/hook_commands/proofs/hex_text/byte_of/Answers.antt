use Rattle.std.proofs.Common.{rules}
use Rattle.hook_commands.proofs.HexReading.{decoded_pair}
use Rattle.hook_commands.proofs.hex_text.byte_of.Goals as goal

pub returns-in_err-byte : goal.returns-in_err-byte
returns-in_err-byte c = let d = decoded_pair c.args.high c.args.low _ c.from_hex.ensures in search rules

pub returns : goal.returns
returns c = let d = decoded_pair c.args.high c.args.low _ c.from_hex.ensures in search rules
