-- Live tokens, as they are told.
use Rattle.std.proofs.Common.{◌≡◌, ap, cond, refl, ℕ, List, Bool, true, false, Option, None, Some, arith}
use Rattle.std.specs.Prelude.{not, option_map}
use Rattle.answers.specs.Live.{live_of}
use Rattle.answers.specs.Texts.{where_passes}
use Rattle.consent.specs.History.{Event, Grant, grant_at, is_code, is_good, is_spent, where_good}
use Rattle.consent.specs.Seen.{told_as, told_at}
use Rattle.consent.specs.SeenLaws.{told_token}

-- of a live token all is told
pub live_as_told : (history : List Event) (m : ℕ) (digest : List ℕ) →
    where_passes (λ g. not (is_code g.kind)) (where_good history digest m (told_at history digest m)) ≡ live_of history m (Some digest)
live_as_told history m digest = by (grant_at history digest m)
  where
    spent : Bool
    spent = is_spent history digest m

    some : (g : Grant) (code good : Bool) → is_code g.kind ≡ code → is_good history digest m g ≡ good →
        where_passes (λ g. not (is_code g.kind)) (where_good history digest m (Some (told_as spent g))) ≡ where_passes (λ g. not (is_code g.kind)) (where_good history digest m (Some g))
    some g true true is good = rw (good, is) refl
    some g true false is bad = rw bad refl
    some g false good is its = ap (λ (x : Grant). where_passes (λ (g : Grant). not (is_code g.kind)) (cond {A = Option Grant} (is_good history digest m g) (Some x) None)) (told_token spent g is)

    by : (o : Option Grant) → where_passes (λ g. not (is_code g.kind)) (where_good history digest m (option_map (told_as spent) o)) ≡ where_passes (λ g. not (is_code g.kind)) (where_good history digest m o)
    by None = refl
    by (Some g) = some g (is_code g.kind) (is_good history digest m g) refl refl
