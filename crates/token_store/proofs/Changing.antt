-- What the store fits as a change is made.
use Rattle.std.proofs.Common.{◌≡◌, ℕ, List, [], ◌∷◌, ◌++◌, None, append-nil, ap, sym, subst, arith}
use Rattle.std.specs.Prelude.{max, unwrap_or}
use Rattle.token_store.proofs.Names.{Event, grant_at, greatest_family, greatest_family-append, family_of, with_change, with_changes-cons, change_of, changes_of, Made, Kept, Held, kept_at}
use Rattle.token_store.proofs.Names.{FitsHistory, FitsStore, MakesChanges, kept_of, IsTied, TellsSame, MakesChange, Tables}
use Rattle.token_store.proofs.Adding.{unkept}
use Rattle.token_store.proofs.Telling.{fits_same}

-- WHAT IS PUT

-- what is put is seen as this, and fits as this does
pub fits_put : (kept : List Kept) (k x : Kept) (t' : Tables) (history history' : List Event) (m : ℕ) (digest : List ℕ) → x ≡ k →
    (kept_at kept digest m ≡ None → TellsSame (kept ++ x ∷ []) (kept_of t') m) → FitsHistory kept history m → grant_at history digest m ≡ None → IsTied t' →
    FitsHistory (kept ++ k ∷ []) history' m → FitsHistory (kept_of t') history' m
fits_put kept k x t' history history' m digest is keeps fits none tied =
    fits_same (kept ++ k ∷ []) t' history' m tied (subst (λ (y : Kept). TellsSame (kept ++ y ∷ []) (kept_of t') m) is (keeps (unkept kept history m digest fits none)))

-- NUMBERS

-- the greatest number with one event more
pub last_pushed : (last : ℕ) (history : List Event) (e : Event) → last ≡ greatest_family history →
    max last (unwrap_or (family_of e.change) 0) ≡ greatest_family (history ++ e ∷ [])
last_pushed last history e is = let pushed = greatest_family-append history (e ∷ []) in omega (arith, pushed, is)

-- and where the event is of none
pub last_pushed_none : (last : ℕ) (history : List Event) (e : Event) → last ≡ greatest_family history → family_of e.change ≡ None →
    last ≡ greatest_family (history ++ e ∷ [])
last_pushed_none last history e is none =
    let pushed = last_pushed last history e is in
    let zero = ap (λ o. unwrap_or o 0) none in
    omega (arith, pushed, zero)

-- CHANGES

-- a change, and those after it
pub makes_first : (old mid new : Held) (m : ℕ) (c : Made) (cs : List Made) → MakesChange old mid m c → MakesChanges mid new m cs → MakesChanges old new m (c ∷ cs)
makes_first old mid new m c cs one more history fits follows =
    subst (λ h. FitsStore new h m) (sym (with_changes-cons history m (change_of c) (changes_of cs)))
    (more (with_change history m (change_of c)) (one history fits follows.0) follows.1)

-- and none
pub makes_none : (held : Held) (m : ℕ) → MakesChanges held held m []
makes_none held m history fits follows = rw (append-nil history) fits
