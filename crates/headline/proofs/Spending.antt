-- Of the codes and tokens of a digest, in a history and whatever comes after it.
use Rattle.std.proofs.Common.{◌≡◌, ℕ, List, [], ◌∷◌, ◌++◌, Bool, true, false, Some, None, arith, refl, sym, ap, ◌∙◌, append_assoc, append-nil}
use Rattle.headline.proofs.Names.{find, list_any, list_any-append, Grant, grants, grant_at, is_named, spends, is_spent, has_ended, ends, is_good, live_grant, grant_at-append, has_ended-before}
use Rattle.std.specs.Str.{bytes_eq}
use Rattle.consent.specs.History.{Event}

-- the code or token has the digest
abbrev pub has_digest : List ℕ → Grant → Bool
has_digest digest g = bytes_eq digest g.digest

none_has : (digest : List ℕ) (t : ℕ) (gs : List Grant) → list_any (has_digest digest) gs ≡ false → find (is_named digest t) gs ≡ None
none_has digest t [] e = refl
none_has digest t (g ∷ gs) e = let rest = none_has digest t gs in grind (arith, e, rest)

-- where nothing is given under the digest since, it names what it named
pub grant_at-still : (history more : List Event) (digest : List ℕ) (t : ℕ) (g : Grant) →
    list_any (has_digest digest) (grants more) ≡ false → grant_at (history ++ more) digest t ≡ Some g → grant_at history digest t ≡ Some g
grant_at-still history more digest t g e at =
    let whole = grant_at-append history more digest t in
    let none = none_has digest t (grants more) e in
    grind (arith, whole, none, at)

-- what is spent later is spent
pub is_spent-by : (history more : List Event) (digest : List ℕ) (t : ℕ) (g : Grant) → grant_at history digest t ≡ Some g →
    list_any (λ x. spends digest x.change) more ≡ true → is_spent (history ++ more) digest t ≡ true
is_spent-by [] more digest t g at e = absurd (cc)
is_spent-by (x ∷ later) more digest t g at e =
    let whole = grant_at-append (x ∷ []) later digest t in
    let spent = list_any-append (λ y. spends digest y.change) later more in
    let rest = is_spent-by later more digest t g in
    grind (arith, whole, spent, rest, at, e)

-- a family that has ended stays ended
pub ended_stays : (history more : List Event) (family : ℕ) → has_ended (history ++ more) family ≡ false → has_ended history family ≡ false
ended_stays history [] family e = ap (λ h. has_ended h family) (sym (append-nil history)) ∙ e
ended_stays history (x ∷ more) family e =
    has_ended-before history x family
    (ended_stays (history ++ x ∷ []) more family (ap (λ h. has_ended h family) (append_assoc history (x ∷ []) more) ∙ e))

-- and it has ended with its end
pub ended_by : (history : List Event) (e : Event) (family : ℕ) → ends family e.change ≡ true → has_ended (history ++ e ∷ []) family ≡ true
ended_by [] e family is = grind (arith, is)
ended_by (x ∷ later) e family is = let rest = ended_by later e family is in grind (arith, rest)

-- what is live is there, and good
pub live_good : (history : List Event) (digest : List ℕ) (t : ℕ) (g : Grant) → live_grant history digest t ≡ Some g →
    (grant_at history digest t ≡ Some g) × (is_good history digest t g ≡ true)
live_good history digest t g live = (grind (arith, live), grind (arith, live))

-- and its family has not ended
pub live_is : (history : List Event) (digest : List ℕ) (t : ℕ) (g : Grant) → live_grant history digest t ≡ Some g →
    (grant_at history digest t ≡ Some g) × (has_ended history g.family ≡ false)
live_is history digest t g live =
    let good = live_good history digest t g live in
    let fact = good.1 in
    (good.0, grind (arith, fact))
