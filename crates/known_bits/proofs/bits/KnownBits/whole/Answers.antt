use Rattle.known_bits.proofs.Names.{W64, word_result_fits, And, Or}
use Rattle.known_bits.proofs.Witnesses.{and_grows, or_grows, grown_sound, grown_exact, xor_sound, xor_exact, right_exact}
use Rattle.known_bits.proofs.bits.KnownBits.whole.Goals as goal

pub returns-in-Sdiv-clause-sound : goal.returns-in-Sdiv-clause-sound
returns-in-Sdiv-clause-sound c x y hx hy = c.any.ensures _ (word_result_fits W64 c.args.op x y hx.word hy.word)

pub returns-in-Or : goal.returns-in-Or
returns-in-Or c =
    let mask = rw (c.greatest.ensures, c.greatest-in-Or.ensures) at c.between.ensures.mask in
    rw c.in-Or.is (record { sound = grown_sound Or c.args.a c.args.b c.between.result or_grows c.between.ensures.value mask; exact = λ low told. grown_exact Or c.args.a c.args.b c.between.result mask })

pub returns-in-And : goal.returns-in-And
returns-in-And c =
    let mask = rw (c.greatest-in-And.ensures, c.greatest-in-And-2.ensures) at c.between-in-And.ensures.mask in
    rw c.in-And.is (record { sound = grown_sound And c.args.a c.args.b c.between-in-And.result and_grows c.between-in-And.ensures.value mask; exact = λ low told. grown_exact And c.args.a c.args.b c.between-in-And.result mask })

pub returns-in-Xor : goal.returns-in-Xor
returns-in-Xor c = rw c.in-Xor.is (record {
  sound = xor_sound c.args.a c.args.b c.outside.result c.outside.ensures.mask c.outside.ensures.value;
  exact = λ low told. xor_exact c.args.a c.args.b c.outside.result c.outside.ensures.mask;
})

pub returns-in-Mov-clause-exact : goal.returns-in-Mov-clause-exact
returns-in-Mov-clause-exact c low exact =
    rw c.in-Mov.is (right_exact c.args.a c.args.b)
