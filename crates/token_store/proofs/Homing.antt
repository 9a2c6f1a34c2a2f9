-- Whether a family that a token is issued in has records.
use Rattle.std.proofs.Common.{◌≡◌, refl, ◌⊎◌, inl, inr, ◌<◌, ◌∙◌, ap, ℕ, List, Bool, true, false, Option, None, arith}
use Rattle.std.specs.Prelude.{◌||◌, is_some}
use Rattle.token_store.proofs.Names.{Event, is_new, is_home, parties_of, Shared, Tables, kept_of, shared_at, FitsStore, to_keep, held_of, room_of, IsTied, host_of, Waits, IsExpected, IsPeopled, stand_entries}
use Rattle.token_store.proofs.Names.{nat_tests}
use Rattle.std.specs.Prelude.{option_map}
use Rattle.consent.specs.RecordFacts.{KindFact}
use Rattle.consent.specs.declared.change.Home.{Home}
use Rattle.token_store.proofs.Dropping.{kept_counted}
use Rattle.token_store.proofs.Issuing.{IsShared, host_named}
use Rattle.token_store.proofs.Living.{shared_of}

-- it waits, or has records
pub waits_of : (t : Tables) (family : ℕ) (s : Shared) → IsExpected (room_of t) family s None ⊎ IsPeopled (room_of t) family → is_some t.coming ≡ true → Waits t.families.entries family s
waits_of t family s (inl e) there = e.waits
waits_of t family s (inr p) there = absurd (let none = p.is in grind (arith, none, there))

pub peopled_of : (t : Tables) (family : ℕ) (s : Shared) (texts : Option KindFact) → IsExpected (room_of t) family s texts ⊎ IsPeopled (room_of t) family → is_some t.coming ≡ false → 0 < (shared_at t.families.entries family).count
peopled_of t family s texts (inl e) none = absurd (let some = e.is in grind (arith, some, none))
peopled_of t family s texts (inr p) none = p.some

module _ (t : Tables) (history : List Event) (m : ℕ) (tied : IsTied t) (fits : FitsStore (held_of t) history m) where
  -- a new family has no records
  pub bare_new : (family : ℕ) → is_new history family ≡ true → (shared_at t.families.entries family).count ≡ 0
  bare_new family new =
      let last = fits.last in
      let none = tied.ties.below family (grind (arith, nat_tests, new, last)) in
      let count = tied.ties.counted family in
      omega (arith, none, count)

  -- and a home has some, and shares whose it is
  pub home_has : (home : Home) → is_home history m home.family (parties_of home) ≡ true →
      (0 < (shared_at t.families.entries home.family).count) × IsShared history home.family (parties_of home) (shared_at t.families.entries home.family)
  home_has home is =
      let host = host_of history m home.family (parties_of home) is in
      let g = host.grant in
      let its = host.is_host in
      let named = host_named history m home.family (parties_of home) (kept_of t) fits.kept host in
      let of : g.family ≡ home.family = grind (arith, nat_tests, its) in
      let whose : (g.client ≡ (parties_of home).client) × (g.owner ≡ (parties_of home).owner) = grind (arith, nat_tests, its) in
      let kept = fits.kept.answers g.digest m (omega arith) ∙ ap (option_map (to_keep history g.digest m)) named in
      let some = kept_counted t.families.entries (stand_entries t.records) g.digest m (to_keep history g.digest m g) tied.ties.once tied.ties.counted kept in
      let shared = shared_of t.families.entries (stand_entries t.records) history m g.digest g tied.ties.once fits.kept named in
      let both : (0 < (shared_at t.families.entries g.family).count) × IsShared history g.family (parties_of home) (shared_at t.families.entries g.family) =
      (some, record { client = shared.client ∙ whose.0; owner = shared.owner ∙ whose.1; terms = shared.terms; ended = shared.ended }) in
      rw of at both

  -- one without records is new, where a token may be issued in it
  pub new_bare : (home : Home) → (is_new history home.family || is_home history m home.family (parties_of home)) ≡ true →
      (shared_at t.families.entries home.family).count ≡ 0 → is_new history home.family ≡ true
  new_bare home can bare = by (is_new history home.family) refl (is_home history m home.family (parties_of home)) refl can
    where
      by : (new : Bool) → is_new history home.family ≡ new → (is : Bool) → is_home history m home.family (parties_of home) ≡ is → (new || is) ≡ true → is_new history home.family ≡ true
      by true new is is_it h = new
      by false new true is_it h = absurd (let some = (home_has home is_it).0 in omega (arith, some, bare))
      by false new false is_it h = cc

  -- and one with records is a home
  pub shared_peopled : (home : Home) → (is_new history home.family || is_home history m home.family (parties_of home)) ≡ true →
      0 < (shared_at t.families.entries home.family).count → IsShared history home.family (parties_of home) (shared_at t.families.entries home.family)
  shared_peopled home can some = by (is_new history home.family) refl (is_home history m home.family (parties_of home)) refl can
    where
      by : (new : Bool) → is_new history home.family ≡ new → (is : Bool) → is_home history m home.family (parties_of home) ≡ is → (new || is) ≡ true →
          IsShared history home.family (parties_of home) (shared_at t.families.entries home.family)
      by true new is is_it h = absurd (let none = bare_new home.family new in omega (arith, some, none))
      by false new true is_it h = (home_has home is_it).1
      by false new false is_it h = cc
