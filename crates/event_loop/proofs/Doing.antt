-- Calls that were done after others.
use Rattle.std.proofs.Common.{suc, ◌≡◌, ◌≢◌, ◌⊎◌, inl, inr, ◌<◌, ℕ, List, Option, None, Some, refl, sym, ◌∙◌, arith, [], ◌∷◌}
use Rattle.event_loop.proofs.Names.{Place, Closes, leaves, same_Some, Promises, LoopState, Call, CallKind, Keeping, Looking, Shortening, IsDone, done_since, Served, DoneMore, DoneAfter, LeadsOn, Running, Standing, standing}
use Rattle.event_loop.proofs.Names.{state_of}
use Rattle.outside.specs.Calls.{waits}
use Rattle.outside.specs.Calls as call

-- nothing
pub none_more : (calls : List Call) → DoneAfter calls calls
none_more calls = record { more = record { waits = refl; grows = omega arith; keeps = λ kind t. t }; alone = λ t. t }

-- one that is neither a wait nor for a slice
pub one_more : (earlier later : List Call) → waits later ≡ waits earlier → done_since later ≡ suc (done_since earlier) → ((kind : CallKind) → IsDone kind earlier → IsDone kind later) →
    (IsDone Shortening later → IsDone Shortening earlier) → DoneAfter earlier later
one_more earlier later same more keeps alone = record { more = record { waits = same; grows = omega (arith, more); keeps = keeps }; alone = alone }

more_then : (a b c : List Call) → DoneMore a b → DoneMore b c → DoneMore a c
more_then a b c one two = record { waits = two.waits ∙ one.waits; grows = omega (arith, one.grows, two.grows); keeps = λ kind t. two.keeps kind (one.keeps kind t) }

pub done_then : (a b c : List Call) → DoneAfter a b → DoneAfter b c → DoneAfter a c
done_then a b c one two = record { more = more_then a b c one.more two.more; alone = λ t. one.alone (two.alone t) }

-- what is done among one call more and others is done among these, unless that is of the kind
pub not_of_kind : {P : Type 0} (kind : CallKind) (calls : List Call) → (P → ⊥) → P ⊎ IsDone kind calls → IsDone kind calls
not_of_kind kind calls not (inl is) = absurd (not is)
not_of_kind kind calls not (inr is) = is

-- a call of one kind is of no other
pub not_another : (kind other : CallKind) (calls : List Call) → other ≢ kind → ¬ (IsDone other calls) → ¬ ((Some kind ≡ Some other) ⊎ IsDone other calls)
not_another kind other calls differs not (inl is) = differs (sym (same_Some kind other is))
not_another kind other calls differs not (inr is) = not is

-- nor is one of no kind
pub not_without : (other : CallKind) (calls : List Call) → ¬ (IsDone other calls) → ¬ ((None ≡ Some other) ⊎ IsDone other calls)
not_without other calls not (inl is) = absurd (cc)
not_without other calls not (inr is) = not is

-- one that is asked of the keeper
pub asks_more : (calls : List Call) → DoneAfter calls (call.Confirmed ∷ calls)
asks_more calls = record { more = record { waits = refl; grows = omega arith; keeps = λ kind t. inr t }; alone = not_of_kind Shortening calls (λ is. absurd (cc)) }

pub tends_more : (due : Option ℕ) (calls : List Call) → DoneMore calls (call.Tended due ∷ calls)
tends_more due calls = record { waits = refl; grows = omega arith; keeps = λ kind t. inr t }

-- where a call was made of a kind that is no keeping and no look, something was done
pub done_some : (kind : CallKind) (calls : List Call) → Keeping ≢ kind → ((n : ℕ) → Looking n ≢ kind) → IsDone kind calls → 0 < done_since calls
done_some kind [] differs no_look t = absurd t
done_some kind (call.Waited limit room found ∷ earlier) differs no_look t = absurd t
done_some kind (call.Looked n room came ∷ earlier) differs no_look (inl is) = absurd (no_look n (same_Some (Looking n) kind is))
done_some kind (call.Looked n room came ∷ earlier) differs no_look (inr t) = done_some kind earlier differs no_look t
done_some kind (call.Kept ∷ earlier) differs no_look (inl is) = absurd (differs (same_Some Keeping kind is))
done_some kind (call.Kept ∷ earlier) differs no_look (inr t) = done_some kind earlier differs no_look t
done_some kind (call.Confirmed ∷ earlier) differs no_look (inl is) = absurd (cc)
done_some kind (call.Confirmed ∷ earlier) differs no_look (inr t) = done_some kind earlier differs no_look t
done_some kind (call.Tended due ∷ earlier) differs no_look (inl is) = absurd (cc)
done_some kind (call.Tended due ∷ earlier) differs no_look (inr t) = done_some kind earlier differs no_look t
done_some kind calls differs no_look t = omega arith

module _ {N C J K H : Type 0} (p : Promises N C J K H) where
  -- a close is one more
  pub closes_done : (k : ℕ) (place : Place) (s s' : LoopState N C J K H) → Closes p k place s s' → DoneAfter s.calls s'.calls
  closes_done k place s s' (leaves n e on noted done noting) = one_more _ _ refl refl (λ kind t. inr t) (not_of_kind _ _ (λ is. absurd (cc)))

  -- so something was done
  pub closes_some : (k : ℕ) (place : Place) (s s' : LoopState N C J K H) → Closes p k place s s' → 0 < done_since s'.calls
  closes_some k place s s' (leaves n e on noted done noting) = omega arith

  -- and it is of no kind
  pub closes_alone : (k : ℕ) (place : Place) (s s' : LoopState N C J K H) → Closes p k place s s' → (other : CallKind) → ¬ (IsDone other s.calls) → ¬ (IsDone other s'.calls)
  closes_alone k place s s' (leaves n e on noted done noting) other not (inl is) = absurd (cc)
  closes_alone k place s s' (leaves n e on noted done noting) other not (inr is) = not is

  -- steps lead on, one part after another
  abbrev pub on_then : (first : LoopState N C J K H) (before : Standing N C J K H) (mid after : Running N C J K H) (x : LeadsOn p first before mid) → LeadsOn p first (standing mid before.found x.next) after → LeadsOn p first before after
  on_then first before mid after x y = record { next = y.next; served = y.served; done = done_then _ _ _ x.done y.done; within = λ was. y.within (x.within was) }

  -- nothing was done
  abbrev pub on_still : (first : LoopState N C J K H) (before : Standing N C J K H) → Served p first (state_of before.now before.found before.past) → LeadsOn p first before before.now
  on_still first before served = record { next = before.past; served = served; done = none_more before.past.calls; within = λ was. was }
