-- A store that fits what happened fits each list that tells the same from the moment on, and the other way round.
use Rattle.std.proofs.Common.{◌≡◌, ◌≤◌, ℕ, List, Option, Some, None, refl, ap, sym, ◌∙◌}
use Rattle.std.specs.Prelude.{option_map}
use Rattle.consent.specs.History.{Event, Grant, grant_at, greatest_family, IsHistory}
use Rattle.token_store.specs.Kept.{Kept, Held}
use Rattle.token_store.specs.Fits.{to_keep, FitsHistory, FitsStore}
use Rattle.shortening.specs.Shortened.{TellsAlike}
use Rattle.shortening.specs.AlikeLaws.{grant_at-alike, named_family-alike, unexpired_count-alike}

module _ (history left : List Event) (m : ℕ) (alike : TellsAlike history left m) where
  keep_alike : (digest : List ℕ) (t : ℕ) → m ≤ t → (o : Option Grant) → grant_at history digest t ≡ o →
      option_map (to_keep left digest t) o ≡ option_map (to_keep history digest t) o
  keep_alike digest t le None at = refl
  keep_alike digest t le (Some g) at =
      let family = named_family-alike history left m alike digest t g le at in
      let terms = family.terms in let ended = family.ended in let spent = alike.spent digest t le in cc

  kept_alike : (digest : List ℕ) (t : ℕ) → m ≤ t →
      option_map (to_keep left digest t) (grant_at left digest t) ≡ option_map (to_keep history digest t) (grant_at history digest t)
  kept_alike digest t le =
      ap (option_map (to_keep left digest t)) (grant_at-alike history left m alike digest t le) ∙ keep_alike digest t le (grant_at history digest t) refl

  -- a store that fits what happened fits the list
  pub fits_list : (kept : List Kept) → IsHistory left m → FitsHistory kept history m → FitsHistory kept left m
  fits_list kept is fits = record {
    answers = λ digest t le. fits.answers digest t le ∙ sym (kept_alike digest t le);
    count = λ t le. fits.count t le ∙ sym (unexpired_count-alike history left m alike t le);
    once = fits.once;
    is_history = is;
  }

  -- and one that fits the list, as one that is made of it, fits what happened
  pub fits_happened : (kept : List Kept) → IsHistory history m → FitsHistory kept left m → FitsHistory kept history m
  fits_happened kept is fits = record {
    answers = λ digest t le. fits.answers digest t le ∙ kept_alike digest t le;
    count = λ t le. fits.count t le ∙ unexpired_count-alike history left m alike t le;
    once = fits.once;
    is_history = is;
  }

  -- where the list has the greatest number of a family, the store is as a whole
  pub store_fits_list : (store : Held) → IsHistory left m → greatest_family left ≡ greatest_family history → FitsStore store history m → FitsStore store left m
  store_fits_list store is same fits = record { kept = fits_list store.kept is fits.kept; last = fits.last ∙ sym same }

  pub store_fits_happened : (store : Held) → IsHistory history m → greatest_family left ≡ greatest_family history → FitsStore store left m → FitsStore store history m
  store_fits_happened store is same fits = record { kept = fits_happened store.kept is fits.kept; last = fits.last ∙ same }
