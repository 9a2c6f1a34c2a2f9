use Rattle.std.proofs.Common.{◌≡◌, true, arith}
use Rattle.known_bits.proofs.Names.{seen, word_result_fits, W32, is_told}
use Rattle.known_bits.proofs.Results.{by_whole, cut_has, cut_exact, divided}
use Rattle.known_bits.proofs.Moving.{is_shift, shift_moves, known_amount}
use Rattle.known_bits.proofs.bits.KnownBits.result.Goals as goal

pub returns-in-Add-clause-sound : goal.returns-in-Add-clause-sound
returns-in-Add-clause-sound c x y hx hy =
    let low : is_told c.args.op W32 ≡ true = grind arith in
    rw (by_whole c.args.op low c.args.width x y hx.word hy.word)
    (cut_has c.args.width c.whole.result c.in_width.result _ c.in_width.ensures.value c.in_width.ensures.mask (c.whole.ensures.sound x y hx hy))

pub returns-in-Add-clause-exact : goal.returns-in-Add-clause-exact
returns-in-Add-clause-exact c exact =
    let low : is_told c.args.op W32 ≡ true = grind arith in
    cut_exact c.args.op c.args.width c.args.a c.args.b c.whole.result c.in_width.result c.in_width.ensures.mask
    (by_whole c.args.op low c.args.width) (c.whole.ensures.exact low exact)

pub returns-in-Div-clause-sound : goal.returns-in-Div-clause-sound
returns-in-Div-clause-sound c x y hx hy =
    let x' = cut_has c.args.width c.args.a c.in_width-in-Div.result x c.in_width-in-Div.ensures.value c.in_width-in-Div.ensures.mask hx in
    let y' = cut_has c.args.width c.args.b c.in_width-in-Div-2.result y c.in_width-in-Div-2.ensures.value c.in_width-in-Div-2.ensures.mask hy in
    rw (divided c.args.op c.in-Div.is c.args.width x y hx.word hy.word)
    (cut_has c.args.width c.whole-in-Div.result c.in_width-in-Div-3.result _ c.in_width-in-Div-3.ensures.value c.in_width-in-Div-3.ensures.mask
    (c.whole-in-Div.ensures.sound (seen c.args.width x) (seen c.args.width y) x' y'))

pub returns-in-Sdiv-clause-sound : goal.returns-in-Sdiv-clause-sound
returns-in-Sdiv-clause-sound c x y hx hy = c.all_of.ensures _ (word_result_fits c.args.width c.args.op x y hx.word hy.word)

pub shifted-requires : goal.shifted-requires
shifted-requires c =
    let shift : is_shift c.args.op ≡ true = grind arith in
    shift_moves c.args.op shift c.args.width

pub returns-in-Lsh-clause-exact : goal.returns-in-Lsh-clause-exact
returns-in-Lsh-clause-exact c exact =
    let shift : is_shift c.args.op ≡ true = grind arith in
    c.shifted.ensures.exact (known_amount c.args.op shift c.args.b exact)
