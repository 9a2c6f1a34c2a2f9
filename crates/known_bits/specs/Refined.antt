-- Words that are left where two are equal.
use Rattle.std.specs.Prelude.{◌≡◌, ◌^◌, ℕ, Bool}
use Rattle.insn.specs.declared.operation.Width.{Width}
use Rattle.insn.specs.declared.operation.Cond.{Cond}
use Rattle.insn.specs.Word.{seen, word_holds}
use Rattle.range.specs.Domain.{IsSingle}
use Rattle.known_bits.specs.declared.bits.KnownBits.{KnownBits}
use Rattle.known_bits.specs.Members.{HasBits}

-- a word of one has a word of the other that a width sees alike
pub record HasPartner (w : Width) (b : KnownBits) (x : ℕ) : Type 0 where
  pub partner : ℕ
  pub there : HasBits b partner
  pub alike : seen w partner ≡ seen w x

-- each word that is left was there, and has a partner
pub record IsTight (w : Width) (a b : KnownBits) (r : KnownBits × KnownBits) : Type 0 where
  pub left : (x : ℕ) → HasBits r.0 x → HasBits a x × HasPartner w b x
  pub right : (y : ℕ) → HasBits r.1 y → HasBits b y × HasPartner w a y

-- single words for which a condition does not have an answer
pub record IsUnanswered (c : Cond) (w : Width) (taken : Bool) (a b : KnownBits) (x y : ℕ) : Type 0 where
  pub left : IsSingle HasBits a x
  pub right : IsSingle HasBits b y
  pub other : word_holds w c x y ≡ taken → ⊥

-- known bits of one word, in which a width sees one bit
pub record IsOneBit (w : Width) (b : KnownBits) (k : ℕ) : Type 0 where
  pub known : b.mask ≡ 0
  pub one : seen w b.value ≡ 2 ^ k

-- with a known right word, a condition has an answer for each left word that is left
abbrev pub IsDecided : Cond → Width → Bool → KnownBits → KnownBits × KnownBits → Type 0
IsDecided c w taken b r = (x : ℕ) → HasBits r.0 x → word_holds w c x b.value ≡ taken
