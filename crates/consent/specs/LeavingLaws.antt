-- What a history says once an owner has withdrawn its consents.
use Rattle.std.proofs.Common.{◌≡◌, ◌≢◌, ◌≤◌, ◌<◌, ◌+◌, ℕ, zero, suc, List, [], ◌∷◌, ◌++◌, Some, Bool, true, false, refl, sym, ap, subst, ◌∙◌, append_assoc, arith}
use Rattle.std.specs.Prelude.{◌==◌, ◌||◌, count_by, map}
use Rattle.std.specs.List.{list_any, range_with_len}
use Rattle.std.proofs.lemmas.Bool.Decides.{nat_tests}
use Rattle.std.proofs.lemmas.List.{append-nil}
use Rattle.std.specs.Int.Bits.{and_zero_r}
use Rattle.consent.specs.History.{Event, Change, event_at, grants, is_code_of, Terms, code_terms, has_ended, consented_scope, with_change, with_changes}
use Rattle.consent.specs.History.Change.{Consented}
use Rattle.consent.specs.GrowthLaws.{grants-push_none, code_terms-push_none, consented_scope-push, has_ended-before, has_ended-push, with_changes-cons}

-- the owner withdraws its consent from these clients
abbrev pub withdrawn : ℕ → List ℕ → List Change
withdrawn owner clients = map (λ client. Consented owner client 0) clients

-- the number is one of those from `a` on, so many
pub in_range : (a n k : ℕ) → a ≤ k → k < a + n → list_any (λ c. c == k) (range_with_len a n) ≡ true
in_range a zero k least most = absurd (omega (arith, least, most))
in_range a (suc n) k least most = by_test (a == k) refl (λ more. in_range (a + 1) n k more (omega (arith, most)))
  where
    by_test : (b : Bool) → (a == k) ≡ b → (a + 1 ≤ k → list_any (λ c. c == k) (range_with_len (a + 1) n) ≡ true) →
        (b || list_any (λ c. c == k) (range_with_len (a + 1) n)) ≡ true
    by_test true is later = refl
    by_test false is later = later (grind (arith, nat_tests, is, least))

-- CODES AND TOKENS

-- they stay as they are
pub grants-withdrawn : (history : List Event) (m owner : ℕ) (clients : List ℕ) → grants (with_changes history m (withdrawn owner clients)) ≡ grants history
grants-withdrawn history m owner [] = ap grants (append-nil history)
grants-withdrawn history m owner (client ∷ clients) =
    let c = Consented owner client 0 in
    ap grants (with_changes-cons history m c (withdrawn owner clients))
    ∙ grants-withdrawn (with_change history m c) m owner clients
    ∙ grants-push_none history (event_at m c) refl

-- CONSENTS

-- to none of the clients the owner consents anything, nor to one to which it had not
pub consented-withdrawn : (history : List Event) (m owner client : ℕ) (clients : List ℕ) →
    ((consented_scope history owner client == 0) || list_any (λ c. c == client) clients) ≡ true →
    consented_scope (with_changes history m (withdrawn owner clients)) owner client ≡ 0
consented-withdrawn history m owner client [] none =
    ap (λ h. consented_scope h owner client) (append-nil history) ∙ grind (arith, nat_tests, none)
consented-withdrawn history m owner client (c ∷ cs) none =
    let pushed = consented_scope-push history m owner c 0 owner client in
    ap (λ h. consented_scope h owner client) (with_changes-cons history m (Consented owner c 0) (withdrawn owner cs))
    ∙ consented-withdrawn (with_change history m (Consented owner c 0)) m owner client cs (grind (arith, nat_tests, pushed, none))

-- FAMILIES

-- what has ended stays so
pub ended-stays : (history more : List Event) (family : ℕ) → has_ended history family ≡ true → has_ended (history ++ more) family ≡ true
ended-stays history [] family ended = ap (λ h. has_ended h family) (append-nil history) ∙ ended
ended-stays history (e ∷ more) family ended =
    ap (λ h. has_ended h family) (sym (append_assoc history (e ∷ []) more))
    ∙ ended-stays (history ++ e ∷ []) more family (let before = has_ended-before history e family in grind (arith, before, ended))

-- a family ends where the owner of its code withdraws its consent from the client of it, unless the code is for no scope
lowered : (history : List Event) (m owner family client : ℕ) (terms : Terms) → count_by (is_code_of family) (grants history) ≤ 1 →
    code_terms history family ≡ Some terms → terms.owner ≡ owner → terms.scope ≢ 0 → (client == terms.client) ≡ true →
    has_ended (with_change history m (Consented owner client 0)) family ≡ true
lowered history m owner family client terms one is his some same =
    let pushed = has_ended-push history (event_at m (Consented owner client 0)) family one in
    let none = and_zero_r terms.scope in
    grind (arith, nat_tests, pushed, is, his, some, same, none)

-- so each family does whose code is for some scope, and of one of the clients
pub ended-withdrawn : (history : List Event) (m owner family : ℕ) (terms : Terms) (clients : List ℕ) →
    count_by (is_code_of family) (grants history) ≤ 1 → code_terms history family ≡ Some terms → terms.owner ≡ owner → terms.scope ≢ 0 →
    list_any (λ c. c == terms.client) clients ≡ true → has_ended (with_changes history m (withdrawn owner clients)) family ≡ true
ended-withdrawn history m owner family terms [] one is his some there = absurd cc
ended-withdrawn history m owner family terms (c ∷ cs) one is his some there =
    let e = event_at m (Consented owner c 0) in
    ap (λ h. has_ended h family) (with_changes-cons history m (Consented owner c 0) (withdrawn owner cs))
    ∙ by_test (c == terms.client) refl (λ other.
    ended-withdrawn (with_change history m (Consented owner c 0)) m owner family terms cs
    (subst (λ gs. count_by (is_code_of family) gs ≤ 1) (sym (grants-push_none history e refl)) one)
    (code_terms-push_none history e family refl ∙ is) his some (grind (arith, there, other)))
  where
    by_test : (b : Bool) → (c == terms.client) ≡ b →
        ((c == terms.client) ≡ false → has_ended (with_changes (with_change history m (Consented owner c 0)) m (withdrawn owner cs)) family ≡ true) →
        has_ended (with_changes (with_change history m (Consented owner c 0)) m (withdrawn owner cs)) family ≡ true
    by_test true same later =
        ended-stays (with_change history m (Consented owner c 0)) (map (event_at m) (withdrawn owner cs)) family
        (lowered history m owner family c terms one is his some same)
    by_test false other later = later other
