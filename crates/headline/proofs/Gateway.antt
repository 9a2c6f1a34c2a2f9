-- Who speaks for an owner bears its own key, or the gateway's with its number.
use Rattle.std.proofs.Common.{◌≡◌, ◌⊎◌, inl, inr, ◌<◌, ◌+◌, ℕ, List, [], ◌∷◌, ◌++◌, true, Option, Some, None, get_or, length, refl, ap, ◌∙◌, arith}
use Rattle.headline.proofs.Names.{RegistryRecord, Asked, owner_of_key}
use Rattle.std.proofs.lemmas.Bool.{eqb-true}
use Rattle.std.specs.Prelude.{if◌then◌else◌}
use Rattle.std.specs.List.{after_first, before_first, position_or_len}
use Rattle.std.specs.Option.{option_or}
use Rattle.std.proofs.lemmas.List.{length-drop}
use Rattle.std.proofs.lemmas.List.Sums.{passes_at_first, split_at_first}
use Rattle.clients.specs.Gateway.{gateway_owner, is_gateway_key, is_space, number_in}
use Rattle.clients.specs.Owners.{own_owner, owner_with}
use Rattle.endpoints.proofs.Walking.{through}
use Rattle.headline.specs.Bearers.{BearsOwnerKey}

-- a text with something behind its first space is what stands before that, and what stands behind it
parts_are : (sent : List ℕ) → 0 < length (after_first is_space sent) → sent ≡ before_first is_space sent ++ 32 ∷ after_first is_space sent
parts_are sent some =
    let at = position_or_len is_space sent in
    let long = length-drop (at + 1) sent in
    let inside : at < length sent = omega (arith, long, some) in
    let space : get_or sent at 0 ≡ 32 = eqb-true (get_or sent at 0) 32 (passes_at_first is_space sent 0 inside) in
    split_at_first is_space sent 0 inside ∙ ap (λ (b : ℕ). before_first is_space sent ++ b ∷ after_first is_space sent) space

-- a number has digits
has_digits : (text : List ℕ) (owner : ℕ) → number_in text ≡ Some owner → 0 < length text
has_digits [] owner e = absurd cc
has_digits (b ∷ bs) owner e = omega arith

-- the key before the space is the gateway's
by_gateway : (rules : RegistryRecord) (key number : List ℕ) (owner : ℕ) →
    (if is_gateway_key key rules then number_in number else None) ≡ Some owner → (is_gateway_key key rules ≡ true) × (number_in number ≡ Some owner)
by_gateway rules key number owner e = (grind (arith, e), grind (arith, e))

module _ (rules : RegistryRecord) (asked : Asked) (owner : ℕ) where
  named : (sent : List ℕ) → asked.owner_key ≡ Some sent → gateway_owner sent rules ≡ Some owner → BearsOwnerKey rules asked owner
  named sent is e =
      let key = before_first is_space sent in
      let number = after_first is_space sent in
      let both = by_gateway rules key number owner e in
      inr (key, number, is ∙ ap (λ s. Some s) (parts_are sent (has_digits number owner both.1)), both.0, both.1)

  spoken : (sent : List ℕ) → asked.owner_key ≡ Some sent → (own : Option ℕ) → own_owner sent rules.owners ≡ own →
      option_or own (gateway_owner sent rules) ≡ Some owner → BearsOwnerKey rules asked owner
  spoken sent is (Some number) own e = inl (sent, is, own ∙ e)
  spoken sent is None own e = named sent is e

  -- who speaks for an owner bears such a key
  pub bears_owner_key : owner_of_key rules asked ≡ Some owner → BearsOwnerKey rules asked owner
  bears_owner_key e =
      let at = through (λ key. owner_with key rules) asked.owner_key owner e in
      spoken at.0 at.1 (own_owner at.0 rules.owners) refl at.2
