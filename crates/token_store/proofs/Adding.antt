-- A store that keeps one code or token more fits the history in which it is given.
use Rattle.std.proofs.Common.{◌≡◌, ◌≤◌, ℕ, List, [], ◌∷◌, ◌++◌, Option, Some, None, false, cond, refl, ap, ◌∙◌, sym, arith}
use Rattle.token_store.proofs.Names.{count_by, option_or, find-append, bytes_eq-Decides, count_by-none, Event, Grant, grant_of, grant_at, is_named, is_unexpired, spends, has_ended, code_terms}
use Rattle.token_store.proofs.Names.{IsHistory, CanFollow, terms_of, with_change, may_end, grant_at-push, unexpired_count-push, is_spent-push_other, is_spent-unnamed, has_ended-push_other}
use Rattle.token_store.proofs.Names.{code_terms-push}
use Rattle.token_store.proofs.Names.{grant_at-old, code_terms-new, has_ended-new, is_history-push, Kept, kept_at, FitsHistory, to_keep, nat_tests, code_kept}
use Rattle.std.specs.Prelude.{option_map}
use Rattle.consent.specs.History.{is_spent}
use Rattle.consent.specs.SeenLaws.{told_unspent}
use Rattle.token_store.proofs.Looking.{count-push}
use Rattle.consent.specs.Facts.{code_of}
use Rattle.consent.specs.History.Change.{CodeGiven}
use Rattle.consent.specs.declared.change.CodeFacts.{CodeFacts}

-- where the history names nothing, nothing is kept
pub unkept : (kept : List Kept) (history : List Event) (moment : ℕ) (digest : List ℕ) → FitsHistory kept history moment → grant_at history digest moment ≡ None → kept_at kept digest moment ≡ None
unkept kept history moment digest fits none = fits.answers digest moment (omega arith) ∙ ap (option_map (to_keep history digest moment)) none

-- the event gives the code or token, and does nothing else to what is kept
pub record Gives (history : List Event) (moment : ℕ) (e : Event) (g : Grant) : Type 0 where
  pub gives_it : grant_of e ≡ Some g
  pub ends_none : may_end e.change ≡ false
  pub spends_none : (digest : List ℕ) → spends digest e.change ≡ false
  -- the older ones' families have the terms of before
  pub same_terms : (digest : List ℕ) (t : ℕ) (h : Grant) → grant_at history digest t ≡ Some h → code_terms (history ++ e ∷ []) h.family ≡ code_terms history h.family
  pub untaken : grant_at history g.digest moment ≡ None
  pub is_history : IsHistory (history ++ e ∷ []) moment

-- what is to be kept of the new one
abbrev pub new_kept : List Event → Grant → Kept
new_kept history g = record { grant = g; terms = code_terms history g.family; spent = false; ended = has_ended history g.family }

-- it is to be kept so, if it is unspent
kept_new : (history : List Event) (digest : List ℕ) (t : ℕ) (g : Grant) → is_spent history digest t ≡ false → to_keep history digest t g ≡ new_kept history g
kept_new history digest t g unspent = rw unspent (ap (λ (x : Grant). record (new_kept history g) { grant = x }) (told_unspent g))

-- the store fits the history with the event
pub fits_given : (kept : List Kept) (history : List Event) (moment : ℕ) (e : Event) (g : Grant) (k : Kept) →
    Gives history moment e g → k ≡ new_kept (history ++ e ∷ []) g → FitsHistory kept history moment → FitsHistory (kept ++ k ∷ []) (history ++ e ∷ []) moment
fits_given kept history moment e g k gives is_kept fits = record {
  answers = λ d t le. find-append (λ x. is_named d t x.grant) kept (k ∷ []) ∙ given_cases d t le (grant_at history d t) refl;
  count = λ t le. (let one = count-push (λ x. is_unexpired t x.grant) kept k in
      let before = fits.count t le in
      let after = unexpired_count-push history e g t gives.gives_it in
      grind (arith, one, before, after, is_kept));
  once = λ d. (let one = count-push (λ x. is_named d moment x.grant) kept k in
      let few = fits.once d in
      let is = (bytes_eq-Decides d g.digest).0 in
      let none : d ≡ g.digest → count_by (λ x. is_named d moment x.grant) kept ≡ 0 =
      λ same. count_by-none (λ x. is_named d moment x.grant) kept (ap (λ x. kept_at kept x moment) same ∙ unkept kept history moment g.digest fits gives.untaken) in
      grind (arith, one, few, is, none, is_kept));
  is_history = gives.is_history;
}
  where
    given_cases : (d : List ℕ) (t : ℕ) → moment ≤ t → (o : Option Grant) → grant_at history d t ≡ o →
        option_or (kept_at kept d t) (cond (is_named d t k.grant) (Some k) None) ≡ option_map (to_keep (history ++ e ∷ []) d t) (grant_at (history ++ e ∷ []) d t)
    given_cases d t le (Some h) at =
        let before = fits.answers d t le in
        let pushed = grant_at-push history e g d t gives.gives_it in
        let terms = gives.same_terms d t h at in
        let spent = is_spent-push_other history e d t (gives.spends_none d) in
        let ended = has_ended-push_other history e h.family gives.ends_none in
        grind (arith, before, pushed, terms, spent, ended, at)
    given_cases d t le None at =
        let before = fits.answers d t le in
        let pushed = grant_at-push history e g d t gives.gives_it in
        let spent = is_spent-push_other history e d t (gives.spends_none d) in
        let unspent = is_spent-unnamed history d t at in
        let new = kept_new (history ++ e ∷ []) d t g (spent ∙ unspent) in
        grind (arith, before, pushed, new, is_kept, at)

-- A NEW CODE

-- the store fits the history with a code of a new family
pub fits_opened : (kept : List Kept) (history : List Event) (moment family : ℕ) (facts : CodeFacts) (digest : List ℕ) →
    CanFollow history moment (CodeGiven family (code_of facts) digest) → FitsHistory kept history moment →
    FitsHistory (kept ++ code_kept family digest facts moment ∷ []) (with_change history moment (CodeGiven family (code_of facts) digest)) moment
fits_opened kept history moment family facts digest can fits =
    let e : Event = record { moment = moment; change = CodeGiven family (code_of facts) digest } in
    let g : Grant = (code_kept family digest facts moment).grant in
    let fresh = code_terms-new history family can.0 in
    let pushed = code_terms-push history e g family refl in
    let open_yet : has_ended (history ++ e ∷ []) family ≡ false = has_ended-push_other history e family refl ∙ has_ended-new history family can.0 in
    let terms : code_terms (history ++ e ∷ []) family ≡ Some (terms_of g) = grind (arith, nat_tests, pushed, fresh) in
    let gives : Gives history moment e g = record {
      gives_it = refl;
      ends_none = refl;
      spends_none = λ d. refl;
      same_terms = λ d t h at. (let other = grant_at-old history d t h family can.0 at in
          let older = code_terms-push history e g h.family refl in grind (arith, nat_tests, other, older));
      untaken = can.1;
      is_history = is_history-push history moment (CodeGiven family (code_of facts) digest) fits.is_history can;
    } in
    fits_given kept history moment e g (code_kept family digest facts moment) gives (sym (rw (terms, open_yet) refl)) fits
