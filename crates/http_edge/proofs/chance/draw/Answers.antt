use Rattle.std.proofs.Common.{arith}
use Rattle.http_edge.proofs.Words.{drawn}
use Rattle.http_edge.proofs.chance.draw.Goals as goal

pub returns : goal.returns
returns c =
    let draws = drawn _ _ _ _ _ (omega (arith, c.get_word_pos-place.ensures.value, c.get_word_pos-place.ensures.bound)) c.fill_bytes_via_u32.ensures c.fill_bytes_via_u32-2.ensures in
    record { value = draws.0; after = draws.1 }
