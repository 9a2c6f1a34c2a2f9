-- Lists of three and of seven.
use Rattle.std.proofs.Common.{◌≡◌, ◌<◌, ◌≤◌, List, [], ◌∷◌, length, get_or, map, arith}

-- three items, and what each is read as
pub map-three : {X Y : Type 0} (f : X → Y) (xs : List X) (a b c : X) (p q r : Y) → 3 ≤ length xs → length xs < 4
    → a ≡ get_or xs 0 a → b ≡ get_or xs 1 b → c ≡ get_or xs 2 c → p ≡ f a → q ≡ f b → r ≡ f c
    → map f xs ≡ p ∷ q ∷ r ∷ []
map-three f (x ∷ y ∷ z ∷ []) a b c p q r at_least below first second third at_first at_second at_third = cc
map-three f xs a b c p q r at_least below first second third at_first at_second at_third = absurd (omega arith)

-- the same of seven
pub map-seven : {X Y : Type 0} (f : X → Y) (xs : List X) (a b c d e g h : X) (p q r s t u v : Y) → 7 ≤ length xs → length xs < 8
    → a ≡ get_or xs 0 a → b ≡ get_or xs 1 b → c ≡ get_or xs 2 c → d ≡ get_or xs 3 d → e ≡ get_or xs 4 e → g ≡ get_or xs 5 g → h ≡ get_or xs 6 h
    → p ≡ f a → q ≡ f b → r ≡ f c → s ≡ f d → t ≡ f e → u ≡ f g → v ≡ f h
    → map f xs ≡ p ∷ q ∷ r ∷ s ∷ t ∷ u ∷ v ∷ []
map-seven f (x0 ∷ x1 ∷ x2 ∷ x3 ∷ x4 ∷ x5 ∷ x6 ∷ []) a b c d e g h p q r s t u v at_least below first second third fourth fifth sixth seventh at_first at_second at_third at_fourth at_fifth at_sixth at_seventh = cc
map-seven f xs a b c d e g h p q r s t u v at_least below first second third fourth fifth sixth seventh at_first at_second at_third at_fourth at_fifth at_sixth at_seventh = absurd (omega arith)
