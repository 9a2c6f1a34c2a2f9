-- Lanes show connections.
use Rattle.std.proofs.Common.{◌≡◌, inl, inr, ℕ, List, [], ◌∷◌, ◌++◌, Option, Some, None, true, false, not, cond, length, refl, sym, ap, arith}
use Rattle.http_edge.proofs.Names.{◌==◌, ◌⊎◌, Connection, connection_at, with_connection, without_connection, untaken, IsHeld, SeenLane, lane_at, output_in, rest_in, ShowsConnection}
use Rattle.http_edge.proofs.Names.{ShowsConnections, with_lane, without_lane}

-- the numbers are the same
same_test : (lane : SeenLane) (k : Connection) (c : ℕ) → ShowsConnection lane k → (k.number == c) ≡ (lane.number == c)
same_test lane k c s = ap (λ n. n == c) (sym s.number)

-- either there is neither, or the one shows the other
abbrev pub AreShown : Option SeenLane → Option Connection → Type 0
AreShown lane connection =
    ((lane ≡ None) × (connection ≡ None)) ⊎ ((l : SeenLane) × (k : Connection) × (lane ≡ Some l) × (connection ≡ Some k) × ShowsConnection l k)

pub shows_at : (lanes : List SeenLane) (ks : List Connection) (c : ℕ) → ShowsConnections lanes ks → AreShown (lane_at lanes c) (connection_at ks c)
shows_at [] [] c s = inl (refl, refl)
shows_at (x ∷ xs) (k ∷ ks) c s =
    rw (same_test x k c s.0) (elim (x.number == c) as (λ b. AreShown (cond b (Some x) (lane_at xs c)) (cond b (Some k) (connection_at ks c))) [
      | true ↦ inr (x, k, refl, refl, s.0)
      | false ↦ shows_at xs ks c s.1
    ])
shows_at lanes ks c s = absurd s

pub shows_here : (lanes : List SeenLane) (ks : List Connection) (c : ℕ) (lane : SeenLane) → ShowsConnections lanes ks → lane_at lanes c ≡ Some lane →
    (k : Connection) × (connection_at ks c ≡ Some k) × ShowsConnection lane k
shows_here lanes ks c lane s e = elim (shows_at lanes ks c s) [
  | inl none ↦ absurd (cc)
  | inr at ↦ (at.1, at.3, (let same : at.0 ≡ lane = cc in rw same at at.4))
]

pub shows_none : (lanes : List SeenLane) (ks : List Connection) (c : ℕ) → ShowsConnections lanes ks → lane_at lanes c ≡ None → connection_at ks c ≡ None
shows_none lanes ks c s e = let at = shows_at lanes ks c s in grind (arith, at)

-- one lane is other, and so is its connection
pub shows_put : (lanes : List SeenLane) (ks : List Connection) (c : ℕ) (lane : SeenLane) (k : Connection) → ShowsConnections lanes ks → ShowsConnection lane k →
    ShowsConnections (with_lane c lane lanes) (with_connection c k ks)
shows_put [] [] c lane k s new = tt
shows_put (x ∷ xs) (y ∷ ys) c lane k s new =
    rw (same_test x y c s.0) (elim (x.number == c) as (λ b. ShowsConnections (cond b (lane ∷ xs) (x ∷ with_lane c lane xs)) (cond b (k ∷ ys) (y ∷ with_connection c k ys))) [
      | true ↦ (new, s.1)
      | false ↦ (s.0, shows_put xs ys c lane k s.1 new)
    ])
shows_put lanes ks c lane k s new = absurd s

pub shows_without : (lanes : List SeenLane) (ks : List Connection) (c : ℕ) → ShowsConnections lanes ks → ShowsConnections (without_lane c lanes) (without_connection c ks)
shows_without [] [] c s = tt
shows_without (x ∷ xs) (y ∷ ys) c s =
    let rest = shows_without xs ys c s.1 in
    rw (same_test x y c s.0) (elim (x.number == c) as (λ b. ShowsConnections (cond (not b) (x ∷ without_lane c xs) (without_lane c xs)) (cond (not b) (y ∷ without_connection c ys) (without_connection c ys))) [
      | true ↦ rest
      | false ↦ (s.0, rest)
    ])
shows_without lanes ks c s = absurd s

pub shows_added : (lanes : List SeenLane) (ks : List Connection) (lane : SeenLane) (k : Connection) → ShowsConnections lanes ks → ShowsConnection lane k →
    ShowsConnections (lanes ++ lane ∷ []) (ks ++ k ∷ [])
shows_added [] [] lane k s new = (new, tt)
shows_added (x ∷ xs) (y ∷ ys) lane k s new = (s.0, shows_added xs ys lane k s.1 new)
shows_added lanes ks lane k s new = absurd s

pub shows_length : (lanes : List SeenLane) (ks : List Connection) → ShowsConnections lanes ks → length lanes ≡ length ks
shows_length [] [] s = refl
shows_length (x ∷ xs) (y ∷ ys) s = let rest = shows_length xs ys s.1 in omega (arith, rest)
shows_length lanes ks s = absurd s

-- what is kept of one is what is known of it
pub shows_output : (lanes : List SeenLane) (ks : List Connection) (c : ℕ) → ShowsConnections lanes ks → output_in (lane_at lanes c) ≡ untaken (connection_at ks c)
shows_output lanes ks c s = let at = shows_at lanes ks c s in grind (arith, at)

pub shows_held : (lanes : List SeenLane) (ks : List Connection) (c : ℕ) → ShowsConnections lanes ks → IsHeld (connection_at ks c) (length (rest_in (lane_at lanes c)))
shows_held lanes ks c s = elim (shows_at lanes ks c s) [
  | inl none ↦ rw (none.0, none.1) refl
  | inr at ↦ rw (at.2, at.3) ((λ is_open. (at.0.rest, at.4.rest is_open, refl)), (λ closed. ap length (at.4.nothing_held closed)))
]
