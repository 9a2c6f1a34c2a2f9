-- What a link leaves of what is known of its two registers, and a home and its register of each other.
use Rattle.std.specs.Prelude.{◌≡◌, ◌⊎◌, ℕ, true}
use Rattle.std.specs.Int.{w64, bit_not}
use Rattle.links.specs.Names.{BinOp, Add, Sub, And, Eq, Width, W64, Scalar, InScalar, ShowsOne, Kind, Bits, Lowest, Shifted, Masked, Relation, Sum, Difference, Link}
use Rattle.range.specs.Domain.{IsSingleResult, IsSoundResult}
use Rattle.scalar.specs.Narrowed.{AreNarrowed, LiesInLeastSum}
use Rattle.reg_kind.specs.declared.reg.Reg.TheVariants as kind

-- what an operation gives of two sets
pub record IsGivenBy (op : BinOp) (w : Width) (a b c : Scalar) : Type 0 where
  pub sound : IsSoundResult InScalar op w a b c
  pub single : IsSingleResult ShowsOne op w a b c
  pub least : LiesInLeastSum op w a b c

-- the numbers of a link's register, by those of the other one and the constant
abbrev pub IsDerived : Relation → Width → Scalar → Scalar → Scalar → Type 0
IsDerived Sum w of plus derived = IsGivenBy Add w of plus derived
IsDerived Difference w of plus derived = IsGivenBy Sub w plus of derived

-- those of the other one, by those of the link's register and the constant
abbrev pub IsTraced : Relation → Width → Scalar → Scalar → Scalar → Type 0
IsTraced Sum w register plus traced = IsGivenBy Sub w register plus traced
IsTraced Difference w register plus traced = IsGivenBy Sub w plus register traced

-- a set narrowed to what may equal a number of another in a width
abbrev pub IsNarrowedTo : Width → Scalar → Scalar → Scalar → Type 0
IsNarrowedTo w a other new = (rest : Scalar) × AreNarrowed (record { cond = Eq; width = w; taken = true }) a other (new, rest)

-- what a link that tells the bits of a width leaves of two sets: of the second what may equal a number that is derived from
-- the first, and then of the first what may equal one that is traced from that
pub record AreLowestNarrowed (link : Link) (w : Width) (a b : Scalar) (r : Scalar × Scalar) : Type 0 where
  pub plus : Scalar
  pub is_plus : ShowsOne plus link.plus
  pub derived : Scalar
  pub is_derived : IsDerived link.relation w a plus derived
  pub second : IsNarrowedTo w b derived r.1
  pub traced : Scalar
  pub is_traced : IsTraced link.relation w r.1 plus traced
  pub first : IsNarrowedTo w a traced r.0

-- the numbers that have some numbers' bits inside a mask, and others' outside
pub record IsMixed (m : ℕ) (inside outside mixed : Scalar) : Type 0 where
  pub mask : Scalar
  pub is_mask : ShowsOne mask m
  pub rest : Scalar
  pub is_rest : ShowsOne rest (bit_not w64 m)
  pub low : Scalar
  pub is_low : IsGivenBy And W64 inside mask low
  pub high : Scalar
  pub is_high : IsGivenBy And W64 outside rest high
  pub is_sum : IsGivenBy Add W64 low high mixed

-- of the first is left what has inside a mask the bits of a number that is traced from the second
pub record IsOtherNarrowed (m : ℕ) (traced a b : Scalar) (r : Scalar × Scalar) : Type 0 where
  pub mixed : Scalar
  pub is_mixed : IsMixed m traced a mixed
  pub other : IsNarrowedTo W64 a mixed r.0
  pub own : r.1 ≡ b

-- where such numbers may have none of these bits, or all: of the second is left what may equal one that is derived from such as have
-- inside the mask the bits of the first
pub record IsOwnNarrowed (link : Link) (m : ℕ) (plus traced a b : Scalar) (r : Scalar × Scalar) : Type 0 where
  pub none : InScalar traced 0
  pub all : InScalar traced m
  pub back : Scalar
  pub is_back : IsMixed m a traced back
  pub derived : Scalar
  pub is_derived : IsDerived link.relation W64 back plus derived
  pub own : IsNarrowedTo W64 b derived r.1
  pub other : r.0 ≡ a

-- what a link leaves that tells the bits of a mask
pub record AreMaskNarrowed (link : Link) (m : ℕ) (a b : Scalar) (r : Scalar × Scalar) : Type 0 where
  pub plus : Scalar
  pub is_plus : ShowsOne plus link.plus
  pub traced : Scalar
  pub is_traced : IsTraced link.relation W64 b plus traced
  pub one : IsOtherNarrowed m traced a b r ⊎ IsOwnNarrowed link m plus traced a b r

-- what a link leaves: both as they are, while its bits are shifted
abbrev pub AreNarrowedIn : Bits → Link → Scalar → Scalar → Scalar × Scalar → Type 0
AreNarrowedIn (Masked m) link a b r = AreMaskNarrowed link m a b r
AreNarrowedIn (Lowest w) link a b r = AreLowestNarrowed link w a b r
AreNarrowedIn Shifted link a b r = r ≡ (a, b)

abbrev pub AreLinkNarrowed : Link → Scalar → Scalar → Scalar × Scalar → Type 0
AreLinkNarrowed link a b r = AreNarrowedIn link.bits link a b r

-- registers of which one holds no number stay as they are
abbrev pub IsLinkNarrowed : Link → Kind → Kind → Kind × Kind → Type 0
IsLinkNarrowed link (kind.Number a) (kind.Number b) r = (c : Scalar) × (d : Scalar) × (r ≡ (kind.Number c, kind.Number d)) × AreLinkNarrowed link a b (c, d)
IsLinkNarrowed link a b r = r ≡ (a, b)

-- of the number that stands whole in a block, and of a register's, what both may be: first of the register's what may equal one
-- of the block's, and then the other way round
abbrev pub AreSameNarrowed : Scalar → Scalar → Scalar × Scalar → Type 0
AreSameNarrowed stored held r = IsNarrowedTo W64 held stored r.1 × IsNarrowedTo W64 stored r.1 r.0
