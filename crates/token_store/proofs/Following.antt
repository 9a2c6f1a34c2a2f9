-- A store that changes what it keeps fits the history with the event that the change is for.
use Rattle.std.proofs.Common.{◌≡◌, ◌≤◌, ℕ, List, [], ◌∷◌, ◌++◌, Option, Some, None, Bool, true, false, cond, eqb, refl, ap, ◌∙◌, sym, arith}
use Rattle.token_store.proofs.Names.{◌||◌, find, count_by, bytes_eq, bytes_eq-Decides, find-passes, find-map, Event, Grant, grant_of, grants, grant_at, is_named, is_unexpired, is_spent}
use Rattle.token_store.proofs.Names.{has_ended, code_terms, is_beyond, with_change, event_at, spends, grant_at-push_none, unexpired_count-push_none, code_terms-push_none, is_spent-push}
use Rattle.token_store.proofs.Names.{is_spent-push_other, has_ended-push, has_ended-push_other, grant_at-now, is_history-push_none, Kept, RecordChange, changed, FitsHistory, to_keep}
use Rattle.token_store.proofs.Names.{may_end, nat_tests}
use Rattle.std.specs.Prelude.{option_map, map}
use Rattle.consent.specs.History.{Change}
use Rattle.consent.specs.History.Change.{Consented, Spent, FamilyEnded}
use Rattle.token_store.proofs.Looking.{count-map}

-- a change that keeps what the test is of leaves what is found
find-changed : (f : Kept → Kept) (p : Grant → Bool) (ks : List Kept) → ((k : Kept) → p (f k).grant ≡ p k.grant) → find (λ k. p k.grant) (map f ks) ≡ option_map f (find (λ k. p k.grant) ks)
find-changed f p ks keeps = find-map f (λ k. p k.grant) ks ∙ ap (λ q. option_map f (find q ks)) (λ i k. keeps k i)

-- and what is counted
count-changed : (f : Kept → Kept) (p : Grant → Bool) (ks : List Kept) → ((k : Kept) → p (f k).grant ≡ p k.grant) → count_by (λ k. p k.grant) (map f ks) ≡ count_by (λ k. p k.grant) ks
count-changed f p ks keeps = count-map f (λ k. p k.grant) ks ∙ ap (λ q. count_by q ks) (λ i k. keeps k i)

-- the change keeps names, and how long they are good
record KeepsNames (f : Kept → Kept) : Type 0 where
  names : (k : Kept) (d : List ℕ) (t : ℕ) → is_named d t (f k).grant ≡ is_named d t k.grant
  lives : (k : Kept) (t : ℕ) → is_unexpired t (f k).grant ≡ is_unexpired t k.grant

changed-names : (change : RecordChange) → KeepsNames (changed change)
changed-names change = record { names = λ k d t. grind arith; lives = λ k t. grind arith }

-- where the change does to each record what the event does to its grant
fits_changed : (kept : List Kept) (history : List Event) (moment : ℕ) (e : Event) (f : Kept → Kept) → KeepsNames f →
    e.moment ≤ moment → grant_of e ≡ None →
    ((d : List ℕ) (t : ℕ) (g : Grant) → moment ≤ t → grant_at history d t ≡ Some g → f (to_keep history d t g) ≡ to_keep (history ++ e ∷ []) d t g) →
    FitsHistory kept history moment → FitsHistory (map f kept) (history ++ e ∷ []) moment
fits_changed kept history moment e f keeps now none same fits = record {
  answers = λ d t le.
      find-changed f (is_named d t) kept (λ k. keeps.names k d t) ∙ ap (option_map f) (fits.answers d t le)
      ∙ all_changed (to_keep history d t) (to_keep (history ++ e ∷ []) d t) (grant_at history d t) (λ g at. same d t g le at)
      ∙ ap (option_map (to_keep (history ++ e ∷ []) d t)) (sym (grant_at-push_none history e d t none));
  count = λ t le. count-changed f (is_unexpired t) kept (λ k. keeps.lives k t) ∙ fits.count t le ∙ sym (unexpired_count-push_none history e t none);
  once = λ d. rw (count-changed f (is_named d moment) kept (λ k. keeps.names k d moment)) (fits.once d);
  is_history = is_history-push_none history e moment now none fits.is_history;
}
  where
    all_changed : (k k' : Grant → Kept) (o : Option Grant) → ((g : Grant) → o ≡ Some g → f (k g) ≡ k' g) → option_map f (option_map k o) ≡ option_map k' o
    all_changed k k' None same = refl
    all_changed k k' (Some g) same = ap (λ x. Some x) (same g refl)

-- SPENDING

-- of what digests name, that of the digest alone is changed
spent_test : (kept : List Kept) (history : List Event) (moment : ℕ) (digest d : List ℕ) (t : ℕ) (h : Grant) →
    FitsHistory kept history moment → moment ≤ t → grant_at history d t ≡ Some h →
    is_named digest moment h ≡ bytes_eq d digest
spent_test kept history moment digest d t h fits le found =
    let named = find-passes (is_named d t) (grants history) h found in
    let own = (bytes_eq-Decides d h.digest).0 in
    let other = (bytes_eq-Decides digest h.digest).0 in
    let is = (bytes_eq-Decides d digest).0 in
    let same = (bytes_eq-Decides d digest).1 in
    let now : d ≡ digest → is_named digest moment h ≡ true =
    λ e. find-passes (is_named digest moment) (grants history) h (grant_at-now history digest moment t h fits.is_history le (ap (λ x. grant_at history x t) (sym e) ∙ found)) in
    grind (arith, named, own, other, is, same, now)

-- the spent one is changed
pub fits_spent : (kept : List Kept) (history : List Event) (moment : ℕ) (digest : List ℕ) →
    FitsHistory kept history moment →
    FitsHistory (map (changed (RecordChange.Spent digest moment)) kept) (with_change history moment (Spent digest)) moment
fits_spent kept history moment digest fits =
    let e : Event = record { moment = moment; change = Spent digest } in
    let m = RecordChange.Spent digest moment in
    fits_changed kept history moment e (changed m) (changed-names m) (omega arith) refl (λ d t h le found.
    let test = spent_test kept history moment digest d t h fits le found in
    let spent = is_spent-push history e d t in
    let ended = has_ended-push_other history e h.family refl in
    let terms = code_terms-push_none history e h.family refl in
    grind (arith, test, spent, ended, terms, found)) fits

-- ENDING

ended_seen : (history : List Event) (e : Event) (d : List ℕ) (t : ℕ) (h : Grant) (b : Bool) → grant_of e ≡ None → is_spent (history ++ e ∷ []) d t ≡ is_spent history d t →
    has_ended (history ++ e ∷ []) h.family ≡ (has_ended history h.family || b) →
    cond {A = Kept} b (record (to_keep history d t h) { ended = true }) (to_keep history d t h) ≡ to_keep (history ++ e ∷ []) d t h
ended_seen history e d t h b none spent ended = let terms = code_terms-push_none history e h.family none in grind (arith, spent, ended, terms)

-- those of the ended family are changed
pub fits_ended : (kept : List Kept) (history : List Event) (moment family : ℕ) → FitsHistory kept history moment →
    FitsHistory (map (changed (RecordChange.Ended family)) kept) (with_change history moment (FamilyEnded family)) moment
fits_ended kept history moment family fits =
    let e : Event = record { moment = moment; change = FamilyEnded family } in
    let m = RecordChange.Ended family in
    fits_changed kept history moment e (changed m) (changed-names m) (omega arith) refl (λ d t h le found.
    let pushed = has_ended-push history e h.family (fits.is_history.one_code h.family) in
    ended_seen history e d t h (eqb h.family family) refl (is_spent-push_other history e d t refl) (grind (arith, nat_tests, pushed))) fits

-- those of the families whose code goes beyond the consent are changed
pub fits_consented : (kept : List Kept) (history : List Event) (moment owner client mask : ℕ) →
    FitsHistory kept history moment →
    FitsHistory (map (changed (RecordChange.Lowered owner client mask)) kept) (with_change history moment (Consented owner client mask)) moment
fits_consented kept history moment owner client mask fits =
    let e : Event = record { moment = moment; change = Consented owner client mask } in
    let m = RecordChange.Lowered owner client mask in
    fits_changed kept history moment e (changed m) (changed-names m) (omega arith) refl (λ d t h le found.
    ended_seen history e d t h (is_beyond (Consented owner client mask) (code_terms history h.family)) refl (is_spent-push_other history e d t refl)
    (has_ended-push history e h.family (fits.is_history.one_code h.family))) fits

-- HOOKS

map_same : (ks : List Kept) → map (λ k. k) ks ≡ ks
map_same [] = refl
map_same (k ∷ ks) = λ i. k ∷ map_same ks i

-- what gives nothing, ends nothing and spends nothing changes no answer
pub fits_unmoved : (kept : List Kept) (history : List Event) (moment : ℕ) (change : Change) → grant_of (event_at moment change) ≡ None → may_end change ≡ false →
    ((digest : List ℕ) → spends digest change ≡ false) → FitsHistory kept history moment → FitsHistory kept (with_change history moment change) moment
fits_unmoved kept history moment change none lasting unspent fits =
    let e : Event = event_at moment change in
    rw (← map_same kept) (fits_changed kept history moment e (λ k. k) (record { names = λ k d t. refl; lives = λ k t. refl }) (omega arith) none (λ d t h le found.
    let terms = code_terms-push_none history e h.family none in
    let spent = is_spent-push_other history e d t (unspent d) in
    let ended = has_ended-push_other history e h.family lasting in
    grind (arith, terms, spent, ended)) fits)
