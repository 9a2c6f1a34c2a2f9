-- What holds at each point of an outcome holds of the outcome.
use Rattle.std.proofs.Common.{◌≡◌, ℕ, List, Bool, true, false, Option, Some, None, eqb, refl, sym, ◌∙◌, arith}
use Rattle.endpoints.proofs.Names.{option_map, same_Some, eq-eqb, false≢true, has_room, has_client_room, records_of, is_taken, Setting, Outcome, point, need, unavailable, unless_taken, bare}
use Rattle.std.specs.Prelude.{not, option_and_then}
use Rattle.answers.specs.Outcomes.{chosen}

-- so it is of two outcomes that have their points in common
module _ (P : Outcome → Outcome → Type 0) where
  pub both_point : (b : Bool) (here later later' : Outcome) → (b ≡ true → P here here) → (b ≡ false → P later later') →
      P (point b here later) (point b here later')
  both_point true here later later' a z = a refl
  both_point false here later later' a z = z refl

  pub both_unless : (b : Bool) (here later later' : Outcome) → P here here → (b ≡ true → P later later') →
      P (point (not b) here later) (point (not b) here later')
  both_unless true here later later' a z = z refl
  both_unless false here later later' a z = a

  pub both_need : {A : Type 0} (o : Option A) (without : Outcome) (later later' : A → Outcome) →
      P without without → ((x : A) → o ≡ Some x → P (later x) (later' x)) → P (need o without later) (need o without later')
  both_need None without later later' a z = a
  both_need (Some x) without later later' a z = z x refl

  pub both_untaken : (s : Setting) (client : ℕ) (digests : List (List ℕ)) (given given' : Outcome) → P unavailable unavailable →
      (is_taken s.history s.moment digests ≡ false → P given given') → P (unless_taken s client digests given) (unless_taken s client digests given')
  both_untaken s client digests given given' a z =
      both_unless (has_room s.rules.limits.records s.history s.moment digests) unavailable _ _ a (λ _.
      both_unless (has_client_room (records_of s.rules client) s.history client s.moment digests) unavailable _ _ a (λ _.
      both_point (is_taken s.history s.moment digests) unavailable given given' (λ _. a) z))

  pub both_chosen : (refused : Bool) (o o' : Outcome) → P unavailable unavailable → P o o' → P (chosen refused o) (chosen refused o')
  both_chosen true o o' a z = a
  both_chosen false o o' a z = z

module _ (P : Outcome → Type 0) where
  pub at_point : (b : Bool) (here later : Outcome) → (b ≡ true → P here) → (b ≡ false → P later) → P (point b here later)
  at_point b here later = both_point (λ o _. P o) b here later later

  pub at_unless : (b : Bool) (here later : Outcome) → P here → (b ≡ true → P later) → P (point (not b) here later)
  at_unless b here later = both_unless (λ o _. P o) b here later later

  pub at_need : {A : Type 0} (o : Option A) (without : Outcome) (later : A → Outcome) →
      P without → ((x : A) → o ≡ Some x → P (later x)) → P (need o without later)
  at_need {A = A} o without later = both_need (λ o _. P o) {A = A} o without later later

  pub at_chosen : (refused : Bool) (o : Outcome) → P unavailable → P o → P (chosen refused o)
  at_chosen refused o = both_chosen (λ p _. P p) refused o o

-- what is mapped to something is something
pub option_map_some : {A B P : Type 0} (f : A → B) (o : Option A) (y : B) → option_map f o ≡ Some y → ((x : A) → o ≡ Some x → f x ≡ y → P) → P
option_map_some f None y e k = absurd (cc)
option_map_some f (Some x) y e k = k x refl (same_Some (f x) y e)

-- what is found through what is there
pub through : {A B : Type 0} (f : A → Option B) (o : Option A) (y : B) → option_and_then f o ≡ Some y → (x : A) × (o ≡ Some x) × (f x ≡ Some y)
through f None y e = absurd (cc)
through f (Some x) y e = (x, refl, e)

-- numbers that a test tells apart are not equal
pub other : (a b : ℕ) → eqb a b ≡ false → a ≡ b → ⊥
other a b apart same = false≢true (sym apart ∙ eq-eqb a b same)

-- what is granted at an endpoint is its own outcome
pub granted_at : (b refused : Bool) (o : Outcome) → (point b (bare 405) (chosen refused o)).reply.status ≡ 200 →
    (point b (bare 405) (chosen refused o)) ≡ o
granted_at b refused o e = grind (arith, e)

pub same_some : {A : Type 0} (x y : A) (o : Option A) → o ≡ Some x → o ≡ Some y → x ≡ y
same_some x y o a b = cc
