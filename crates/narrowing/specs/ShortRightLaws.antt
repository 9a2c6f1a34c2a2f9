-- A list that is right is so without what no longer matters.
use Rattle.std.proofs.Common.{◌≡◌, ℕ, List, [], ◌∷◌, ◌++◌, false, Option, None, Some, inl, inr, refl, ap, sym, ◌∙◌}
use Rattle.std.specs.Prelude.{◌⊎◌, option_map, unwrap_or}
use Rattle.clients.specs.RegistryRecord.{RegistryRecord}
use Rattle.consent.specs.History.{Event, Change, Grant, grant_by, is_code, is_within, opener}
use Rattle.consent.specs.History.Change.{CodeGiven, Issued}
use Rattle.consent.specs.declared.parties.Parties.{Parties}
use Rattle.endpoints.specs.Bounded.{AllRight, IsOfCode, IsOwn, IsRightChange, is_of_code}
use Rattle.shortening.specs.Lists.{CodesOpen}
use Rattle.shortening.specs.Rightness.{AreRight, AsksLittle, KeepsHome}
use Rattle.shortening.specs.RightnessLaws.{shortened_right}
use Rattle.shortening.specs.Shortened.{shortened}

same_code : (o : Option Grant) → unwrap_or (option_map (λ g. is_code g.kind) o) false ≡ is_of_code o
same_code None = refl
same_code (Some g) = refl

module _ (rules : RegistryRecord) where
  home_kept : (before left : List Event) (family scope : ℕ) (parties : Parties) → KeepsHome before left family →
      (IsOwn before family parties.owner ⊎ IsOfCode before family parties.client parties.owner scope) →
      (IsOwn left family parties.owner ⊎ IsOfCode left family parties.client parties.owner scope)
  home_kept before left family scope parties keeps (inl own) =
      inl (record {
        no_owner = own.no_owner;
        no_code = sym (same_code (opener left family)) ∙ keeps.no_code (same_code (opener before family) ∙ own.no_code);
      })
  home_kept before left family scope parties keeps (inr of) = inr (of.0, keeps.terms ∙ of.1, of.2, keeps.unended of.3)

  other_right : (before : List Event) (moment : ℕ) (change : Change) → grant_by moment change ≡ None → IsRightChange rules before change
  other_right before moment (CodeGiven f code digest) none = cc
  other_right before moment (Issued f parties token) none = cc
  other_right before moment _ none = tt

  -- the rules ask little
  rules_ask : AsksLittle (IsRightChange rules)
  rules_ask = record {
    code = λ before left family code digest same right. (right.0, ap (is_within code.scope) same ∙ right.1);
    token = λ before left family parties token keeps right. (right.0, right.1, home_kept before left family token.scope parties keeps right.2);
    other = other_right;
  }

  as_right : (before es : List Event) → AllRight rules before es → AreRight (IsRightChange rules) before es
  as_right before [] all = tt
  as_right before (e ∷ es) all = (all.0, as_right (before ++ e ∷ []) es all.1)

  right_as : (before es : List Event) → AreRight (IsRightChange rules) before es → AllRight rules before es
  right_as before [] all = tt
  right_as before (e ∷ es) all = (all.0, right_as (before ++ e ∷ []) es all.1)

  pub shortened_stays_right : (list : List Event) (m : ℕ) → CodesOpen list → AllRight rules [] list → AllRight rules [] (shortened m list)
  shortened_stays_right list m opens all =
      right_as [] (shortened m list) (shortened_right list m (IsRightChange rules) rules_ask opens (as_right [] list all))
