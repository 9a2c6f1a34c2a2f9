-- The questions of a history are those of the repository.
use Rattle.std.proofs.Common.{◌≡◌, ℕ, ◌∷◌, [], List, Option, Some, None, refl, ap, arith, map, if◌then◌else◌, ◌==◌}
use Rattle.std.specs.Prelude.{filter_map, is_some, not, ◌||◌, ◌+◌, is_none, bit_and}
use Rattle.std.specs.Option.{option_or}
use Rattle.std.specs.List.{list_any}
use Rattle.consent.specs.History as old
use Rattle.consent.specs.History.{Event, Change}
use Rattle.consent.specs.History.Change.{Consented, CodeGiven, Issued, Spent, FamilyEnded, HookSet, HookGone, Numbered}
use Rattle.endpoints.specs.Answer as page

-- what happened, without the moments
abbrev pub changes : List Event → List Change
changes h = map (λ e. e.change) h

pub spent_agrees : (h : List Event) (m : ℕ) (d : List ℕ) → page.is_spent h m d ≡ old.is_spent h d m
spent_agrees [] m d = refl
spent_agrees (e ∷ h) m d = ap (λ b. if old.gives d m e then list_any (λ x. old.spends d x.change) h else b) (spent_agrees h m d)

any_lowers : (h : List Event) (c o s : ℕ) →
    list_any (λ scope. not (bit_and s scope == s)) (filter_map (old.consent_of o c) (changes h))
    ≡ list_any (λ e. old.lowers (record { client = c; owner = o; scope = s }) e.change) h
any_lowers [] c o s = refl
any_lowers (e ∷ h) c o s = step e.change (any_lowers h c o s) where
  step : (ch : Change) →
      list_any (λ scope. not (bit_and s scope == s)) (filter_map (old.consent_of o c) (changes h))
      ≡ list_any (λ e. old.lowers (record { client = c; owner = o; scope = s }) e.change) h →
      list_any (λ scope. not (bit_and s scope == s)) (filter_map (old.consent_of o c) (ch ∷ changes h))
      ≡ (old.lowers (record { client = c; owner = o; scope = s }) ch || list_any (λ e. old.lowers (record { client = c; owner = o; scope = s }) e.change) h)
  step (Consented p q k) ih = grind (arith, ih)
  step _ ih = grind (arith, ih)

pub ended_agrees : (h : List Event) (f : ℕ) → page.has_ended (changes h) f ≡ old.has_ended h f
ended_agrees [] f = refl
ended_agrees (e ∷ h) f = step e.change (ended_agrees h f) where
  step : (ch : Change) → page.has_ended (changes h) f ≡ old.has_ended h f →
      page.has_ended (ch ∷ changes h) f ≡ old.ends f ch || old.is_lowered f ch h || old.has_ended h f
  step (CodeGiven g code d) ih = grind (arith, ih, any_lowers h code.client code.owner code.scope)
  step (FamilyEnded g) ih = grind (arith, ih)
  step _ ih = grind (arith, ih)

any_consent : (h : List Event) (o c : ℕ) → list_any (λ x. is_some (old.consent_of o c x)) (changes h) ≡ is_some (old.last_consent h o c)
any_consent [] o c = refl
any_consent (e ∷ h) o c = step e.change (any_consent h o c) where
  step : (ch : Change) → list_any (λ x. is_some (old.consent_of o c x)) (changes h) ≡ is_some (old.last_consent h o c) →
      (is_some (old.consent_of o c ch) || list_any (λ x. is_some (old.consent_of o c x)) (changes h))
      ≡ is_some (option_or (old.last_consent h o c) (old.consent_of o c ch))
  step (Consented p q k) ih = grind (arith, ih)
  step _ ih = grind (arith, ih)

pub count_agrees : (h : List Event) → page.consent_count (changes h) ≡ old.consents_kept h
count_agrees [] = refl
count_agrees (e ∷ h) = step e.change (count_agrees h) where
  step : (ch : Change) → page.consent_count (changes h) ≡ old.consents_kept h →
      page.consent_count (ch ∷ changes h) ≡ old.kept_by ch h + old.consents_kept h
  step (Consented p q k) ih = grind (arith, ih, any_consent h p q)
  step _ ih = grind (arith, ih)

none_some : (o : Option old.Grant) → is_none o ≡ not (is_some o)
none_some None = refl
none_some (Some g) = refl

pub fresh_agrees : (h : List Event) (m : ℕ) (ds : List (List ℕ)) → page.are_fresh h m ds ≡ not (old.is_taken h m ds)
fresh_agrees h m [] = refl
fresh_agrees h m (d ∷ ds) = grind (arith, fresh_agrees h m ds, none_some (old.grant_at h d m))
