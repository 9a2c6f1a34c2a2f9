-- A connection among others.
use Rattle.std.proofs.Common.{◌≡◌, ◌≢◌, ◌≤◌, inl, inr, ℕ, List, [], ◌∷◌, ◌++◌, Some, None, Bool, true, false, length, refl, sym, arith}
use Rattle.http_edge.proofs.Names.{◌==◌, eqb_tells, nat_tests, find-passes, Connection, connection_at, with_connection, without_connection, fresh, untaken, SeenLane, lane_at, output_in}
use Rattle.http_edge.proofs.Names.{ShowsConnections}
use Rattle.http_edge.proofs.Showing.{shows_at}

-- what holds of a number that is another one and of one that is not
pub by_number : (c d : ℕ) (P : Bool → Type 0) → (c ≡ d → P true) → (d ≢ c → P false) → P (c == d)
by_number c d P same apart = elim (eqb_tells c d) [ inl p ↦ rw p.0 (same p.1) | inr p ↦ rw p.0 (apart (λ e. p.1 (sym e))) ]

pub same_connection : (a b : Connection) → Some a ≡ Some b → a ≡ b
same_connection a b e = cc

-- one that is found has the number
pub found_number : (ks : List Connection) (c : ℕ) (k : Connection) → connection_at ks c ≡ Some k → (k.number == c) ≡ true
found_number ks c k e = find-passes (λ x. x.number == c) ks k e

-- one that was put in its place is found
pub found_put : (ks : List Connection) (c : ℕ) (k new : Connection) → connection_at ks c ≡ Some k → new.number ≡ k.number → connection_at (with_connection c new ks) c ≡ Some new
found_put [] c k new e same = absurd (cc)
found_put (x ∷ xs) c k new e same = let rest = found_put xs c k new in grind (arith, nat_tests, rest)

-- so is one that was opened
pub found_fresh : (ks : List Connection) (c : ℕ) → connection_at ks c ≡ None → connection_at (ks ++ fresh c ∷ []) c ≡ Some (fresh c)
found_fresh [] c e = grind (arith, nat_tests)
found_fresh (x ∷ xs) c e = let rest = found_fresh xs c in grind (arith, rest)

-- one that was forgotten is not
pub found_gone : (ks : List Connection) (c : ℕ) → connection_at (without_connection c ks) c ≡ None
found_gone [] c = refl
found_gone (x ∷ xs) c = let rest = found_gone xs c in grind (arith, rest)

-- its lane shows it
pub shown : (lanes : List SeenLane) (ks : List Connection) (c : ℕ) (k : Connection) → ShowsConnections lanes ks → connection_at ks c ≡ Some k →
    (k.taken ≤ length k.output) × (output_in (lane_at lanes c) ≡ untaken (Some k))
shown lanes ks c k s e = let at = shows_at lanes ks c s in grind (arith, at)

-- OTHERS

pub no_other : (n c d : ℕ) → (n == c) ≡ true → d ≢ c → (n == d) ≡ false
no_other n c d is other = grind (arith, nat_tests)

pub put_other : (ks : List Connection) (c d : ℕ) (new : Connection) → (new.number == c) ≡ true → d ≢ c → connection_at (with_connection c new ks) d ≡ connection_at ks d
put_other [] c d new is other = refl
put_other (x ∷ xs) c d new is other = let rest = put_other xs c d new is other in grind (arith, nat_tests, rest)

pub added_other : (ks : List Connection) (c d : ℕ) → d ≢ c → connection_at (ks ++ fresh c ∷ []) d ≡ connection_at ks d
added_other [] c d other = grind (arith, nat_tests)
added_other (x ∷ xs) c d other = let rest = added_other xs c d other in grind (arith, rest)

pub without_other : (ks : List Connection) (c d : ℕ) → d ≢ c → connection_at (without_connection c ks) d ≡ connection_at ks d
without_other [] c d other = refl
without_other (x ∷ xs) c d other = let rest = without_other xs c d other in grind (arith, nat_tests, rest)
