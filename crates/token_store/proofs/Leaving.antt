-- What the store fits as an owner leaves.
use Rattle.std.proofs.Common.{◌≡◌, ◌+◌, ℕ, zero, suc, List, [], ◌∷◌, ◌++◌, refl, ap, ◌∙◌, sym, subst, append_assoc, append-nil, arith}
use Rattle.std.specs.Prelude.{map}
use Rattle.std.specs.List.{range_with_len}
use Rattle.token_store.proofs.Names.{Event, event_at, map-append, with_change, with_changes, changes_of, told, Held, FitsStore, MakesChanges, records_of}
use Rattle.consent.specs.Changes.{as_list}
use Rattle.consent.specs.History.{withdrawals}
use Rattle.consent.specs.History as history
use Rattle.consent.specs.declared.change.Change.TheVariants as given
use Rattle.consent.specs.declared.change.Changes.TheVariants.{Left}
use Rattle.token_store.specs.FitsParts.{Alters}
use Rattle.token_store.specs.Kept.{Room}
use Rattle.token_store.specs.Room.{HasRoomFor, IsReady}

-- what fitted a history fits it with the owner's consents to nothing, to each client up to the number
abbrev pub HasWithdrawn : (old new : Held) → (m owner clients : ℕ) → Type 0
HasWithdrawn old new m owner clients = (h : List Event) → FitsStore old h m → FitsStore new (with_changes h m (withdrawals owner clients)) m

pub withdrawn_none : (held : Held) (m owner : ℕ) → HasWithdrawn held held m owner 0
withdrawn_none held m owner h fits = rw (append-nil h) fits

-- one number more
range_more : (a n j : ℕ) → a + n ≡ j → range_with_len a (suc n) ≡ range_with_len a n ++ j ∷ []
range_more a zero j at = let same : a ≡ j = omega (arith, at) in ap (λ k. k ∷ []) same
range_more a (suc n) j at = ap (λ ks. a ∷ ks) (range_more (a + 1) n j (omega (arith, at)))

abbrev withdrawal : ℕ → ℕ → history.Change
withdrawal owner client = told.Consented owner client 0

one_more : (h : List Event) (m owner n : ℕ) →
    with_changes h m (withdrawals owner (n + 1)) ≡ with_change (with_changes h m (withdrawals owner n)) m (told.Consented owner (n + 1) 0)
one_more h m owner n =
    (let on : n + 1 ≡ suc n = omega arith in ap (λ k. h ++ map (event_at m) (map (withdrawal owner) (range_with_len 1 k))) on)
    ∙ ap (λ ns. h ++ map (event_at m) (map (withdrawal owner) ns)) (range_more 1 n (n + 1) (omega arith))
    ∙ ap (λ cs. h ++ map (event_at m) cs) (map-append (withdrawal owner) (range_with_len 1 n) ((n + 1) ∷ []))
    ∙ ap (λ es. h ++ es) (map-append (event_at m) (withdrawals owner n) (withdrawal owner (n + 1) ∷ []))
    ∙ sym (append_assoc h (map (event_at m) (withdrawals owner n)) (event_at m (withdrawal owner (n + 1)) ∷ []))

pub withdrawn_more : (old mid new : Held) (m owner n : ℕ) → HasWithdrawn old mid m owner n → Alters mid new m (given.Consented owner (n + 1) 0) →
    HasWithdrawn old new m owner (n + 1)
withdrawn_more old mid new m owner n before alters h fits =
    subst (λ (x : List Event). FitsStore new x m) (sym (one_more h m owner n)) (alters (with_changes h m (withdrawals owner n)) (before h fits))

told_all : (owner : ℕ) (ns : List ℕ) → changes_of (map (λ client. given.Consented owner client 0) ns) ≡ map (withdrawal owner) ns
told_all owner [] = refl
told_all owner (n ∷ ns) = ap (λ cs. withdrawal owner n ∷ cs) (told_all owner ns)

pub makes_left : (old new : Held) (m owner clients : ℕ) → HasWithdrawn old new m owner clients → MakesChanges old new m (as_list (Left owner clients))
makes_left old new m owner clients has h fits follows =
    subst (λ (cs : List history.Change). FitsStore new (with_changes h m cs) m) (sym (told_all owner (range_with_len 1 clients))) (has h fits)

-- which give nothing
pub none_by : (owner : ℕ) (ns : List ℕ) → 0 ≡ records_of (map (λ client. given.Consented owner client 0) ns)
none_by owner [] = refl
none_by owner (n ∷ ns) = let more = none_by owner ns in omega (arith, more)

-- and wait for nothing
none_ready : (room : Room) (owner : ℕ) (ns : List ℕ) → IsReady room (map (λ client. given.Consented owner client 0) ns)
none_ready room owner [] = tt
none_ready room owner (n ∷ ns) = tt

pub left_room : (room : Room) (owner clients : ℕ) → HasRoomFor room (as_list (Left owner clients))
left_room room owner clients = record {
  spare = (let none = none_by owner (range_with_len 1 clients) in omega (arith, none));
  ready = none_ready room owner (range_with_len 1 clients);
}
