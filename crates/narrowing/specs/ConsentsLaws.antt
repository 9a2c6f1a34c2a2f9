-- How many consents are kept follows of what each owner consents to. For proofs alone.
use Rattle.std.proofs.Common.{◌≡◌, ◌≤◌, ◌+◌, ◌⊎◌, ⊎_elim, inl, inr, cond, ℕ, List, [], ◌∷◌, Bool, true, false, Option, Some, None, refl, sym, ap, subst, ◌∙◌, arith}
use Rattle.std.specs.Prelude.{◌==◌, ◌&&◌, ◌||◌, find, count_by, option_map, is_some, if◌then◌else◌}
use Rattle.std.specs.List.{cons_option}
use Rattle.std.specs.Option.{option_map_or}
use Rattle.std.specs.Str.{bytes_eq}
use Rattle.std.proofs.lemmas.Bool.Decides.{nat_tests}
use Rattle.std.proofs.lemmas.Slice.Eq.{bytes_eq-Decides}
use Rattle.consent.specs.History.{Event, Change, consented_scope, consents_kept, kept_by, last_consent}
use Rattle.consent.specs.History.Change.{Consented}
use Rattle.consent.specs.ListLaws.{count_by-cons, count_by-none}
use Rattle.consent.specs.declared.kept_consent.KeptConsent.{KeptConsent}
use Rattle.narrowing.specs.ListsLaws.{counts-alike}

-- the consent that is kept, where the change is one to something, and no later one is of the same two
abbrev entry_of : Change → List Event → Option KeptConsent
entry_of (Consented owner client mask) later =
    if (mask == 0) || is_some (last_consent later owner client) then None else Some (record { owner = owner; client = client; mask = mask })
entry_of _ later = None

abbrev entries_of : List Event → List KeptConsent
entries_of [] = []
entries_of (e ∷ later) = cons_option (entry_of e.change later) (entries_of later)

abbrev key : KeptConsent → List ℕ
key c = c.owner ∷ c.client ∷ []

abbrev always : KeptConsent → Bool
always c = true

abbrev is_of : List ℕ → KeptConsent → Bool
is_of two c = bytes_eq two (key c) && true

-- what is kept of the two
abbrev kept : ℕ → ℕ → ℕ → Option KeptConsent
kept owner client mask = if mask == 0 then None else Some (record { owner = owner; client = client; mask = mask })

count_option : (p : KeptConsent → Bool) (o : Option KeptConsent) (cs : List KeptConsent) → count_by p (cons_option o cs) ≡ cond {A = ℕ} (option_map_or p o false) 1 0 + count_by p cs
count_option p None cs = omega arith
count_option p (Some c) cs = count_by-cons p c cs

kept_entry : (change : Change) (later : List Event) → cond {A = ℕ} (option_map_or always (entry_of change later) false) 1 0 ≡ kept_by change later
kept_entry (Consented owner client mask) later = by ((mask == 0) || is_some (last_consent later owner client))
  where
    by : (b : Bool) →
        cond {A = ℕ} (option_map_or always (if b then None else Some (record { owner = owner; client = client; mask = mask })) false) 1 0 ≡ (if b then 0 else 1)
    by true = refl
    by false = refl
kept_entry _ later = refl

counted : (es : List Event) → count_by always (entries_of es) ≡ consents_kept es
counted [] = refl
counted (e ∷ later) =
    count_option always (entry_of e.change later) (entries_of later)
    ∙ ap (λ (n : ℕ). n + count_by always (entries_of later)) (kept_entry e.change later)
    ∙ ap (λ (n : ℕ). kept_by e.change later + n) (counted later)

found : (es : List Event) (owner client : ℕ) → find (is_of (owner ∷ client ∷ [])) (entries_of es) ≡ kept owner client (consented_scope es owner client)
found [] owner client = refl
found (e ∷ later) owner client = let more = found later owner client in grind (arith, nat_tests, more)

few : (es : List Event) (owner client : ℕ) → count_by (is_of (owner ∷ client ∷ [])) (entries_of es) ≤ (if is_some (last_consent es owner client) then 1 else 0)
few [] owner client = omega arith
few (e ∷ later) owner client =
    let here = count_option (is_of (owner ∷ client ∷ [])) (entry_of e.change later) (entries_of later) in
    let more = few later owner client in grind (arith, nat_tests, here, more)

-- two numbers, or nobody's key
two_or_none : (two : List ℕ) → ((owner : ℕ) × (client : ℕ) × (two ≡ owner ∷ client ∷ [])) ⊎ ((c : KeptConsent) → is_of two c ≡ false)
two_or_none [] = inr (λ c. refl)
two_or_none (a ∷ []) = inr (λ c. grind arith)
two_or_none (a ∷ b ∷ []) = inl (a, b, refl)
two_or_none (a ∷ b ∷ c ∷ rest) = inr (λ c. grind arith)

unfound : (two : List ℕ) → ((c : KeptConsent) → is_of two c ≡ false) → (es : List Event) → find (is_of two) (entries_of es) ≡ None
unfound two never [] = refl
unfound two never (e ∷ later) = by (entry_of e.change later) (unfound two never later)
  where
    by : (o : Option KeptConsent) → find (is_of two) (entries_of later) ≡ None → find (is_of two) (cons_option o (entries_of later)) ≡ None
    by None more = more
    by (Some c) more = ap (λ b. cond b (Some c) (find (is_of two) (entries_of later))) (never c) ∙ more

once : (es : List Event) (two : List ℕ) → count_by (is_of two) (entries_of es) ≤ 1
once es two =
    ⊎_elim (λ pair. subst (λ (t : List ℕ). count_by (is_of t) (entries_of es) ≤ 1) (sym pair.2) (at pair.0 pair.1))
    (λ never. let none = count_by-none (is_of two) (entries_of es) (unfound two never es) in omega (arith, none)) (two_or_none two)
  where
    at : (owner client : ℕ) → count_by (is_of (owner ∷ client ∷ [])) (entries_of es) ≤ 1
    at owner client = let f = few es owner client in grind (arith, f)

self : (o : Option KeptConsent) → option_map (λ c. c) o ≡ o
self None = refl
self (Some c) = refl

module _ (some others : List Event) (same : (owner client : ℕ) → consented_scope some owner client ≡ consented_scope others owner client) where
  finds : (two : List ℕ) → find (is_of two) (entries_of some) ≡ option_map (λ c. c) (find (is_of two) (entries_of others))
  finds two =
      ⊎_elim (λ pair. subst (λ (t : List ℕ). find (is_of t) (entries_of some) ≡ option_map (λ c. c) (find (is_of t) (entries_of others))) (sym pair.2)
      (found some pair.0 pair.1 ∙ ap (kept pair.0 pair.1) (same pair.0 pair.1) ∙ sym (found others pair.0 pair.1) ∙ sym (self _)))
      (λ never. unfound two never some ∙ sym (ap (option_map (λ (c : KeptConsent). c)) (unfound two never others))) (two_or_none two)

  pub same_kept : consents_kept some ≡ consents_kept others
  same_kept =
      sym (counted some)
      ∙ counts-alike key always key always (λ _ c. c) always always (record { live_only_x = λ c is. refl; live_only_y = λ c is. refl }) (entries_of some) (entries_of others)
      (record { finds = finds; once_x = once some; once_y = once others; counted = λ two c at. refl })
      ∙ counted others
