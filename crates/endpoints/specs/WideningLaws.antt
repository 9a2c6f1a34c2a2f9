-- What is right under rules is right under wider ones.
use Rattle.std.proofs.Common.{◌≡◌, ℕ, List, [], ◌∷◌, ◌++◌, true, Option, refl, ap, ◌-◌, zero, suc, arith}
use Rattle.endpoints.specs.Names.{option_map_or, Hosting, ClientRecord, RegistryRecord, is_within-trans, Event, is_within}
use Rattle.std.specs.Prelude.{◌==◌, is_some, slice_get}
use Rattle.std.specs.Int.Bits.{and_zero_l}
use Rattle.consent.specs.History.{Change}
use Rattle.consent.specs.History.Change.{CodeGiven, Issued}
use Rattle.endpoints.specs.Bounded.{IsRightChange, AllRight, MayHave, allowed_to}
use Rattle.endpoints.specs.Server.{SeenServer, FitsServer, outset_of}
use Rattle.endpoints.specs.Widening.{AreWider, IsWider}

-- what a client may be allowed, if there is one
abbrev allowance : Option ClientRecord → ℕ
allowance client = option_map_or (λ (c : ClientRecord). c.allowed) client 0

nothing_within : (mask : ℕ) → is_within 0 mask ≡ true
nothing_within mask = ap (λ (n : ℕ). n == 0) (and_zero_l mask)

wider_at : (old new : List ClientRecord) (i : ℕ) → AreWider old new → is_within (allowance (slice_get old i)) (allowance (slice_get new i)) ≡ true
wider_at [] new i are = nothing_within (allowance (slice_get new i))
wider_at (c ∷ cs) [] i are = absurd are
wider_at (c ∷ cs) (d ∷ ds) zero are = are.1
wider_at (c ∷ cs) (d ∷ ds) (suc i) are = wider_at cs ds i are.2

-- a client that is there stays
there_at : (old new : List ClientRecord) (i : ℕ) → AreWider old new → is_some (slice_get old i) ≡ true → is_some (slice_get new i) ≡ true
there_at [] new i are is = absurd (cc)
there_at (c ∷ cs) [] i are is = absurd are
there_at (c ∷ cs) (d ∷ ds) zero are is = refl
there_at (c ∷ cs) (d ∷ ds) (suc i) are is = there_at cs ds i are.2 is

module _ (old new : RegistryRecord) (wider : IsWider old new) where
  allowed_wider : (scope client : ℕ) → is_within scope (allowed_to old client) ≡ true → is_within scope (allowed_to new client) ≡ true
  allowed_wider scope client within =
      let none = nothing_within 0 in
      let there = wider_at old.clients new.clients (client - 1) wider.clients in
      is_within-trans scope (allowed_to old client) (allowed_to new client) within (grind (arith, none, there))

  may_have-wider : (scope client : ℕ) → MayHave old client scope → MayHave new client scope
  may_have-wider scope client may =
      let there = there_at old.clients new.clients (client - 1) wider.clients in
      let is = may.is_client in
      record { is_client = grind (arith, there, is); within = allowed_wider scope client may.within }

  right_wider : (before : List Event) (change : Change) → IsRightChange old before change → IsRightChange new before change
  right_wider before (CodeGiven family code digest) right = (may_have-wider code.scope code.client right.0, right.1)
  right_wider before (Issued family parties token) right =
      let longer = wider.lives token.kind in let within = right.1 in (may_have-wider token.scope parties.client right.0, omega (arith, within, longer), right.2)
  right_wider before _ right = tt

  -- so it is of a whole history
  pub all_right-wider : (before later : List Event) → AllRight old before later → AllRight new before later
  all_right-wider before [] all = tt
  all_right-wider before (e ∷ later) all = (right_wider before e.change all.0, all_right-wider (before ++ e ∷ []) later all.1)

  -- and a server under wider rules fits what it fitted
  pub fits_server-wider : {H : Type 0} (hosting : Hosting H) (server : SeenServer H) (first : H) (history : List Event) (m : ℕ) →
      FitsServer hosting server (outset_of old first) history m → FitsServer hosting (record server { rules = new }) (outset_of new first) history m
  fits_server-wider hosting server first history m fits = record {
    rules_are = refl;
    greatest_is = fits.greatest_is;
    store = fits.store;
    consents = fits.consents;
    hosts = fits.hosts;
    right = all_right-wider [] history fits.right;
  }
