-- What is kept of a history ends under other rules as it ends in the history.
use Rattle.std.proofs.Common.{◌≡◌, ℕ, List, Some, true, ap, ◌∙◌, arith}
use Rattle.std.specs.Prelude.{is_some, count_by, not, ◌&&◌}
use Rattle.std.specs.Str.{bytes_eq}
use Rattle.std.proofs.lemmas.Bool.{and_parts}
use Rattle.std.proofs.lemmas.Slice.Eq.{bytes_eq-Decides}
use Rattle.consent.specs.ListLaws.{find-passes}
use Rattle.consent.specs.History.{Event, Grant, grants, grant_at, is_named, is_unexpired, is_good, IsHistory}
use Rattle.token_store.specs.Kept.{Kept}
use Rattle.token_store.specs.Fits.{FitsHistory, to_keep}
use Rattle.narrowing.specs.Left.{Under, ended_count, ends_under, is_beyond_rules, left_under}
use Rattle.narrowing.specs.EndedParts.{ends_kept, is_kept_left}
use Rattle.narrowing.specs.LeftLaws.{grant_at_left}
use Rattle.narrowing.specs.ListsLaws.{counts-alike}

module _ (under : Under) (history : List Event) (m : ℕ) where
  -- something of it is left as it is kept where something is in the history
  left_alike : (digest : List ℕ) (g : Grant) → IsHistory history m → grant_at history digest m ≡ Some g →
      is_kept_left under m (to_keep history digest m g) ≡ is_some (grant_at (left_under under history) digest m)
  left_alike digest g is at =
      let said : bytes_eq digest g.digest ≡ true = (and_parts _ _ (find-passes (is_named digest m) (grants history) g at)).0 in
      let found = grant_at_left under (is_beyond_rules under history) history digest m (is.single digest) in
      grind (arith, found, at, said)

  -- so it ends as it is kept where it ends in the history
  ends_alike : (digest : List ℕ) (g : Grant) → IsHistory history m → grant_at history digest m ≡ Some g →
      ends_kept under m (to_keep history digest m g) ≡ ends_under under history m g
  ends_alike digest g is at =
      let said : bytes_eq digest g.digest ≡ true = (and_parts _ _ (find-passes (is_named digest m) (grants history) g at)).0 in
      let same : digest ≡ g.digest = (bytes_eq-Decides digest g.digest).0 said in
      ap (λ b. is_unexpired m g && is_good history digest m g && not b) (left_alike digest g is at)
      ∙ ap (λ (d : List ℕ). is_unexpired m g && is_good history d m g && not (is_some (grant_at (left_under under history) d m))) same

pub ended_count-kept : (under : Under) (kept : List Kept) (history : List Event) (m : ℕ) → FitsHistory kept history m →
    count_by (ends_kept under m) kept ≡ ended_count under history m
ended_count-kept under kept history m fits =
    counts-alike (λ (k : Kept). k.grant.digest) (λ (k : Kept). is_unexpired m k.grant) (λ (g : Grant). g.digest) (λ (g : Grant). is_unexpired m g)
    (λ digest g. to_keep history digest m g) (ends_kept under m) (ends_under under history m)
    (record { live_only_x = λ k is. (and_parts _ _ (and_parts _ _ is).0).0; live_only_y = λ g is. (and_parts _ _ (and_parts _ _ is).0).0 }) kept (grants history)
    (record {
      finds = λ digest. fits.answers digest m (omega arith);
      once_x = fits.once;
      once_y = fits.is_history.single;
      counted = λ digest g at. ends_alike under history m digest g fits.is_history at;
    })
