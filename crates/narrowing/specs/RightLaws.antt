-- What is left of a right history under other rules is right under them, and the host came through it as it did.
use Rattle.std.proofs.Common.{◌≡◌, ◌≤◌, ◌⊎◌, inl, inr, ℕ, List, [], ◌∷◌, ◌++◌, Bool, true, false, cond, Some, refl, ap, sym, subst, ◌∙◌, append_assoc, arith}
use Rattle.std.specs.Prelude.{◌==◌, min, find, count_by, option_map, bit_and}
use Rattle.std.specs.List.{cons_option}
use Rattle.std.proofs.lemmas.Bool.{eqb-true, eq-eqb, and_from}
use Rattle.std.proofs.lemmas.List.{map-append}
use Rattle.std.proofs.lemmas.List.Elements.{filter_map-append}
use Rattle.std.proofs.lemmas.Nat.{and_assoc}
use Rattle.std.proofs.lemmas.Nat.Bits.{same_from_bits, bit_at_and}
use Rattle.std.specs.Int.{bit_at}
use Rattle.hook_host.specs.declared.host.HookHost.{Ghosts as Hosting}
use Rattle.clients.specs.RegistryRecord.{RegistryRecord}
use Rattle.consent.specs.CoveredLaws.{is_within-trans, is_within-self}
use Rattle.consent.specs.ListLaws.{count_by-cons}
use Rattle.consent.specs.History.{Event, Change, Grant, event_at, grant_of, grants, is_code, is_code_of, is_within, terms_of, IsHistory}
use Rattle.consent.specs.History.Change.{CodeGiven, Issued, FamilyEnded}
use Rattle.consent.specs.Facts.{GivenCode}
use Rattle.consent.specs.declared.change.NewToken.{NewToken}
use Rattle.consent.specs.declared.parties.Parties.{Parties}
use Rattle.endpoints.specs.Bounded.{IsRightChange, AllRight, IsOwn, IsOfCode, allowed_to}
use Rattle.endpoints.specs.Hosts.{HostRun, HostStep}
use Rattle.rules_beside.specs.Beside.{is_former}
use Rattle.narrowing.specs.FormerLaws.{no_formers_before}
use Rattle.narrowing.specs.Left.{Under, do_go_beyond, is_beyond_rules, scope_under, left_of, left_event, left_under, KeepsClients, token_under}
use Rattle.narrowing.specs.LeftLaws.{left_events, consented_left, no_code_left, code_terms_left, ended_left}

-- SCOPES AND LIVES

met_within : (scope mask : ℕ) → is_within (bit_and scope mask) mask ≡ true
met_within scope mask =
    eq-eqb (bit_and (bit_and scope mask) mask) (bit_and scope mask)
    (and_assoc mask scope mask ∙ ap (bit_and scope) (eqb-true (bit_and mask mask) mask (is_within-self mask)))

met_below : (scope mask : ℕ) → is_within (bit_and scope mask) scope ≡ true
met_below scope mask =
    eq-eqb (bit_and (bit_and scope mask) scope) (bit_and scope mask)
    (same_from_bits (bit_and (bit_and scope mask) scope) (bit_and scope mask) (λ i. bit_at_and (bit_and scope mask) scope i
    ∙ ap (λ n. min n (bit_at scope i)) (bit_at_and scope mask i) ∙ (least (bit_at scope i) (bit_at mask i) ∙ sym (bit_at_and scope mask i))))
  where
    least : (m n : ℕ) → min (min m n) m ≡ min m n
    least m n = omega arith

-- THE ONE THAT IS FOUND

one_there : {X : Type 0} (p : X → Bool) (xs ys : List X) (x : X) → p x ≡ true → 1 ≤ count_by p (xs ++ x ∷ ys)
one_there p [] ys x is = let c = count_by-cons p x ys in grind (arith, c, is)
one_there p (y ∷ xs) ys x is = let c = count_by-cons p y (xs ++ x ∷ ys) in let more = one_there p xs ys x is in omega (arith, c, more)

find-only : {X : Type 0} (p : X → Bool) (xs ys : List X) (x : X) → p x ≡ true → count_by p (xs ++ x ∷ ys) ≤ 1 → find p (xs ++ x ∷ ys) ≡ Some x
find-only p [] ys x is one = ap (λ b. cond b (Some x) (find p ys)) is
find-only p (y ∷ xs) ys x is one =
    let c = count_by-cons p y (xs ++ x ∷ ys) in
    let there = one_there p xs ys x is in
    let more = find-only p xs ys x is in grind (arith, c, there, more, one)

-- RIGHT CHANGES

module _ (old : RegistryRecord) (new : Under) (clients : KeepsClients old new.rules) (history : List Event)
    (one_code : (family : ℕ) → count_by (is_code_of family) (grants history) ≤ 1) where
  abbrev beyond : ℕ → Bool
  beyond family = is_beyond_rules new history family

  abbrev left : List Event → List Event
  left es = left_events new beyond es

  -- a code of a family that stays is within what its client may be allowed
  code_within : (before later : List Event) (e : Event) (g : Grant) → history ≡ before ++ e ∷ later → grant_of e ≡ Some g → is_code g.kind ≡ true →
      beyond g.family ≡ false → (is_within g.scope (allowed_to new.rules g.client) ≡ true) × (is_former new.owners g.owner ≡ false)
  code_within before later e g whole gives_it code stays =
      let are = ap grants whole ∙ filter_map-append grant_of before (e ∷ later) ∙ ap (λ o. grants before ++ cons_option o (grants later)) gives_it in
      let here = and_from (is_code g.kind) (g.family == g.family) code (eq-eqb g.family g.family refl) in
      let one = subst (λ (gs : List Grant). count_by (is_code_of g.family) gs ≤ 1) are (one_code g.family) in
      let found = ap (find (is_code_of g.family)) are ∙ find-only (is_code_of g.family) (grants before) (grants later) g here one in
      let within = sym (ap (λ o. do_go_beyond new (option_map terms_of o)) found) ∙ stays in (grind (arith, within), grind (arith, within))

  abbrev IsHome : List Event → ℕ → ℕ → ℕ → ℕ → Type 0
  IsHome before family client owner scope = IsOwn before family owner ⊎ IsOfCode before family client owner scope

  home_left : (before later : List Event) (family client owner scope less : ℕ) → history ≡ before ++ later → beyond family ≡ false → is_within less scope ≡ true →
      IsHome before family client owner scope → IsHome (left before) family client owner less
  home_left before later family client owner scope less whole stays lower (inl own) =
      inl (record { no_owner = own.no_owner; no_code = no_code_left new beyond family stays before own.no_code })
  home_left before later family client owner scope less whole stays lower (inr of) =
      let free = no_formers_before new family history before later whole (one_code family) stays in
      inr (
        of.0,
        code_terms_left new beyond family stays before ∙ of.1,
        is_within-trans less scope of.0 lower of.2,
        ended_left new beyond family stays before free ∙ of.3,
      )

  right_code : (b : Bool) (before : List Event) (f : ℕ) (code : GivenCode) (digest : List ℕ) → beyond f ≡ b →
      (beyond f ≡ false → (is_within code.scope (allowed_to new.rules code.client) ≡ true) × (is_former new.owners code.owner ≡ false)) →
      IsRightChange old before (CodeGiven f code digest) → IsRightChange new.rules (left before) (cond b (FamilyEnded f) (CodeGiven f code digest))
  right_code true before f code digest is within right = tt
  right_code false before f code digest is within right = (
    record { is_client = clients code.client right.0.is_client; within = (within is).0 },
    (let consented = consented_left new beyond before code.owner code.client in let here = (within is).1 in grind (arith, consented, here, right.1)),
  )

  right_token : (b : Bool) (before later : List Event) (f : ℕ) (parties : Parties) (token : NewToken) → history ≡ before ++ later → beyond f ≡ b →
      IsRightChange old before (Issued f parties token) →
      IsRightChange new.rules (left before) (cond b (FamilyEnded f) (Issued f parties (token_under new.rules parties.client token)))
  right_token true before later f parties token whole is right = tt
  right_token false before later f parties token whole is right = (
    record { is_client = clients parties.client right.0.is_client; within = met_within token.scope (allowed_to new.rules parties.client) },
    grind arith,
    home_left before later f parties.client parties.owner token.scope (scope_under new.rules parties.client token.scope) whole is
        (met_below token.scope (allowed_to new.rules parties.client)) right.2,
  )

  right_left : (before later : List Event) (e : Event) → history ≡ before ++ e ∷ later → IsRightChange old before e.change →
      IsRightChange new.rules (left before) (left_of new beyond e.change)
  right_left before later e whole right = by e.moment e.change whole right
    where
      by : (moment : ℕ) (change : Change) → history ≡ before ++ event_at moment change ∷ later → IsRightChange old before change →
          IsRightChange new.rules (left before) (left_of new beyond change)
      by moment (CodeGiven f code digest) whole right =
          right_code (beyond f) before f code digest refl
          (code_within before later (event_at moment (CodeGiven f code digest)) _ whole refl refl) right
      by moment (Issued f parties token) whole right = right_token (beyond f) before (event_at moment (Issued f parties token) ∷ later) f parties token whole refl right
      by moment _ whole right = tt

  all_left : (before later : List Event) → history ≡ before ++ later → AllRight old before later → AllRight new.rules (left before) (left later)
  all_left before [] whole all = tt
  all_left before (e ∷ later) whole all = (
    right_left before later e whole all.0,
    subst (λ (b : List Event). AllRight new.rules b (left later)) (map-append (left_event new beyond) before (e ∷ []))
        (all_left (before ++ e ∷ []) later (whole ∙ sym (append_assoc before (e ∷ []) later)) all.1),
  )

pub all_right-left : (old : RegistryRecord) (new : Under) (history : List Event) (moment : ℕ) → KeepsClients old new.rules → IsHistory history moment →
    AllRight old [] history → AllRight new.rules [] (left_under new history)
all_right-left old new history moment clients is all = all_left old new clients history is.one_code [] history refl all

-- THE HOST

module _ {H : Type 0} (hosting : Hosting H) (under : Under) (beyond : ℕ → Bool) where
  gone_step : (b : Bool) (f : ℕ) (change : Change) (old now : H) → HostStep hosting old (FamilyEnded f) now →
      HostStep hosting old change now → HostStep hosting old (cond b (FamilyEnded f) change) now
  gone_step true f change old now gone step = gone
  gone_step false f change old now gone step = step

  host_step : (change : Change) (old now : H) → HostStep hosting old change now → HostStep hosting old (left_of under beyond change) now
  host_step (CodeGiven f code digest) old now step =
      gone_step (beyond f) f (CodeGiven f code digest) old now step step
  host_step (Issued f parties token) old now step =
      gone_step (beyond f) f (Issued f parties (token_under under.rules parties.client token)) old now step step
  host_step _ old now step = step

  -- it came through what is left
  pub host_run-left : (es : List Event) (first now : H) → HostRun hosting first es now → HostRun hosting first (left_events under beyond es) now
  host_run-left [] first now run = run
  host_run-left (e ∷ es) first now run = (run.0, host_step e.change first run.0 run.1, host_run-left es run.0 now run.2)
