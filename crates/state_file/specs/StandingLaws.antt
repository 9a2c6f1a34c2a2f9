-- What batches stand for once there are more of them. For proofs alone.
use Rattle.std.proofs.Common.{◌≡◌, ◌≤◌, ◌∙◌, ℕ, zero, suc, max, List, [], ◌∷◌, ◌++◌, refl, sym, ap, subst, append_assoc, arith}
use Rattle.state_file.specs.Names.{Event, HaveSpelling, batch_spelling}
use Rattle.std.proofs.lemmas.List.{append-nil}
use Rattle.std.specs.Prelude.{IsSome, drop}
use Rattle.change_codec.specs.SpellingLaws.{one_list}
use Rattle.consent.specs.History.{Happened, event_at, greatest_family, last_moment}
use Rattle.consent.specs.History.Change.{Numbered}
use Rattle.consent.specs.HistoryLaws.{Happened-none, last-joined}
use Rattle.consent.specs.GrowthLaws.{greatest_family-append}
use Rattle.shortening.specs.Standing.{IsLeftOf}
use Rattle.shortening.specs.StandingLaws.{left-grown, left-renewed, greatest-renewed, last-numbered}
use Rattle.shortening.specs.Shortened.{shortened}
use Rattle.state_file.specs.Renewing.{IsShortened, left_numbered}
use Rattle.state_file.specs.Standing.{AreBehind, AreTold, IsTold, StandFor, horizon, horizon_in, until_of}

-- the changes of some batches, and of those behind them
pub AreTold-joined : (batches more : List (List ℕ)) (facts others : List Event) → AreTold batches facts → AreTold more others →
    AreTold (batches ++ more) (facts ++ others)
AreTold-joined [] more facts others told then = subst (λ (ds : List Event). AreTold more ds) (sym (ap (λ (ds : List Event). ds ++ others) told)) then
AreTold-joined (batch ∷ batches) more facts others told then = (
  told.0,
  told.1 ++ others,
  told.2,
  AreTold-joined batches more told.1 others told.3 then,
  ap (λ (ds : List Event). ds ++ others) told.4 ∙ append_assoc told.0 told.1 others,
)

-- the other way round
pub AreTold-split : (batches more : List (List ℕ)) (facts : List Event) → AreTold (batches ++ more) facts →
    (front back : List Event) × AreTold batches front × AreTold more back × (facts ≡ front ++ back)
AreTold-split [] more facts told = ([], facts, refl, told, refl)
AreTold-split (batch ∷ batches) more facts told =
    let rest = AreTold-split batches more told.1 told.3 in
    (told.0 ++ rest.0, rest.1, (told.0, rest.0, told.2, rest.2, refl), rest.3, told.4 ∙ ap (λ (ds : List Event). told.0 ++ ds) rest.4 ∙ sym (append_assoc told.0 rest.0 rest.1))

-- one batch of changes, of rules, or a horizon
pub AreTold-changes : (facts : List Event) → HaveSpelling facts → AreTold (batch_spelling facts ∷ []) facts
AreTold-changes facts fit = (facts, [], (fit, refl), refl, sym (append-nil facts))

pub AreTold-rules : (fields : List ℕ) → AreTold ((0 ∷ fields) ∷ []) []
AreTold-rules fields = ([], [], refl, refl, refl)

pub AreTold-horizon : (until : ℕ) → IsSome (horizon_in (horizon until)) → AreTold (horizon until ∷ []) []
AreTold-horizon until is = ([], [], (is, refl), refl, refl)

-- and a horizon with changes behind it
pub AreTold-behind : (until : ℕ) (facts : List Event) → IsSome (horizon_in (horizon until ++ batch_spelling facts)) → HaveSpelling facts →
    AreTold ((horizon until ++ batch_spelling facts) ∷ []) facts
AreTold-behind until facts is fit = (facts, [], (is, (fit, refl)), refl, sym (append-nil facts))

-- behind a horizon is one list
is_one_behind : (bytes : List ℕ) (some others : List Event) → AreBehind bytes some → AreBehind bytes others → some ≡ others
is_one_behind [] some others a b = a ∙ sym b
is_one_behind (byte ∷ bytes) some others a b = one_list some others a.0 b.0 (sym a.1 ∙ b.1)

-- the batches tell one list
is_one : (batch : List ℕ) (some others : List Event) → IsTold batch some → IsTold batch others → some ≡ others
is_one (zero ∷ rules) some others a b = a ∙ sym b
is_one (suc (suc (suc zero)) ∷ bytes) some others a b = is_one_behind (drop 8 bytes) some others a.1 b.1
is_one _ some others a b = one_list some others a.0 b.0 (sym a.1 ∙ b.1)

pub one_told : (batches : List (List ℕ)) (some others : List Event) → AreTold batches some → AreTold batches others → some ≡ others
one_told [] some others a b = a ∙ sym b
one_told (batch ∷ batches) some others a b =
    let first : a.0 ≡ b.0 = is_one batch a.0 b.0 a.2 b.2 in
    let later : a.1 ≡ b.1 = one_told batches a.1 b.1 a.3 b.3 in
    a.4 ∙ ap (λ (ds : List Event). ds ++ a.1) first ∙ ap (λ (ds : List Event). b.0 ++ ds) later ∙ sym b.4

-- what the batches stood for, with what happened then
pub StandFor-joined : (batches more : List (List ℕ)) (before after : List Event) (facts : List Event) → StandFor batches before →
    AreTold more facts → Happened before facts after → StandFor (batches ++ more) after
StandFor-joined batches more before after facts stands told happened =
    subst (λ (h : List Event). StandFor (batches ++ more) h) (sym happened.leads) (record {
      facts = stands.facts ++ facts;
      told = AreTold-joined batches more stands.facts facts stands.told told;
      left =
          subst (λ (m : ℕ). IsLeftOf (stands.facts ++ facts) (before ++ facts) m) (sym (last-joined 0 before facts))
          (left-grown stands.facts before (last_moment 0 before) facts stands.left (record { follow = happened.follow; in_order = happened.in_order }));
      moment = last-joined 0 stands.facts facts ∙ ap (λ (m : ℕ). last_moment m facts) stands.moment ∙ sym (last-joined 0 before facts);
      number =
          greatest_family-append stands.facts facts ∙ ap (λ (n : ℕ). max n (greatest_family facts)) stands.number
          ∙ sym (greatest_family-append before facts);
    })

-- batches without changes more, as rules or horizons
pub StandFor-beside : (batches more : List (List ℕ)) (history : List Event) → AreTold more [] → StandFor batches history → StandFor (batches ++ more) history
StandFor-beside batches more history told stands = StandFor-joined batches more history history [] stands told (Happened-none history)

-- batches that tell what is left stand for each history for which the others do
pub StandFor-shortened : (old new : List (List ℕ)) (history : List Event) → IsShortened old new → StandFor old history → StandFor new history
StandFor-shortened old new history short stands =
    let m : ℕ = last_moment 0 history in
    let at : last_moment 0 stands.facts ≡ m = stands.moment in
    record {
      facts = left_numbered stands.facts;
      told = short.left stands.facts stands.told;
      left =
          subst (λ (n : ℕ). IsLeftOf (shortened n stands.facts ++ numbered n stands.facts ∷ []) history m) (sym at)
          (left-renewed stands.facts history m stands.left stands.number);
      moment = last-numbered (shortened (last_moment 0 stands.facts) stands.facts) history (last_moment 0 stands.facts) (greatest_family stands.facts) ∙ at;
      number =
          subst (λ (n : ℕ). greatest_family (shortened n stands.facts ++ numbered n stands.facts ∷ []) ≡ greatest_family history) (sym at)
          (greatest-renewed stands.facts history m stands.left stands.number);
    }
  where
    numbered : ℕ → List Event → Event
    numbered n facts = event_at n (Numbered (greatest_family facts))

-- HORIZONS

pub until_of-append : (batches more : List (List ℕ)) → until_of (batches ++ more) ≡ max (until_of batches) (until_of more)
until_of-append [] more = omega arith
until_of-append (batch ∷ batches) more = let later = until_of-append batches more in omega (arith, later)

-- more batches tell no earlier moment
pub until_of-more : (batches more : List (List ℕ)) → until_of batches ≤ until_of (batches ++ more)
until_of-more batches more = let e = until_of-append batches more in omega (arith, e)
