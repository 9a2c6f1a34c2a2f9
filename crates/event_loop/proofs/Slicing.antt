-- How a slice leads on.
use Rattle.std.proofs.Common.{◌≡◌, ◌⊎◌, inl, inr, ◌<◌, ◌-◌, ℕ, List, ◌∷◌, Option, None, Some, true, false, refl, sym, ap, subst, arith, nat_le}
use Rattle.event_loop.proofs.Names.{IsAllKept, Keeps, KeepsBasis, Promises, LoopState, Service, Ready, Tools, Call, Shortening, IsDone, IsKeptShort, Served, goes, shortens, is_short, no_slice, Past, DoneMore, GoesShorter, standing, running, state_of}
use Rattle.event_loop.proofs.Names.{TellsRefusal, is_long_ago}
use Rattle.outside.specs.Calls as call
use Rattle.change_codec.specs.declared.keeper.Length.{Length}
use Rattle.change_codec.specs.declared.keeper.Length.TheVariants.{Short, Long}
use Rattle.event_loop.proofs.Doing.{none_more}

-- a slice is no wait
slice_more : (calls : List Call) → DoneMore calls (call.Shortened ∷ calls)
slice_more calls = record { waits = refl; grows = omega arith; keeps = λ kind t. inr t }

-- what was just now is not long ago
just_now : (n : ℕ) → is_long_ago (Some n) n 60 ≡ false
just_now n = ap (nat_le 60) (let none : n - n ≡ 0 = omega arith in none)

module _ {N C J K H : Type 0} (p : Promises N C J K H) (first : LoopState N C J K H) (found : List Ready) (past : Past H) (service : Service) (tools : Tools N C J K H)
    (served : Served p first (state_of (running service tools) found past)) where
  -- nothing was tried
  pub not_tried : IsKeptShort p (state_of (running service tools) found past) → GoesShorter p first (standing (running service tools) found past) None (running service tools)
  not_tried short = record {
    calls = past.calls;
    served = served;
    done = (none_more past.calls).more;
    sliced = λ is. absurd (cc);
    rests = λ other. short;
    short = λ is. absurd (cc);
    tended = refl;
  }

  module _ (keeper : K) (all : IsAllKept past.journey.world) (kept : Keeps p.keeping.crashes past.journey.world.history past.journey.world.history tools.keeper keeper)
      (basis : KeepsBasis p.keeping.crashes 0 tools.keeper keeper) (until : p.keeping.kept_until keeper ≡ p.keeping.kept_until tools.keeper) where
    -- less is to be gone over than before, or it was shortened
    abbrev IsNearer : Type 0
    IsNearer =
        ((p.keeping.to_go keeper < p.keeping.to_go tools.keeper) × (p.keeping.size keeper ≡ p.keeping.size tools.keeper)) ⊎ p.keeping.shortens tools.keeper keeper

    -- the keeper went on by a slice
    sliced : p.keeping.is_long tools.keeper → ¬ (IsDone Shortening past.calls) → p.keeping.slices tools.keeper keeper → IsNearer →
        Served p first (state_of (running service (record tools { keeper = keeper })) found (record past { calls = call.Shortened ∷ past.calls }))
    sliced long undone slice nearer = goes served (shortens keeper all long undone kept basis until slice nearer)

    -- or it was called, and told how long what it keeps is
    pub went_on : (length : Length) (service' : Service) → ¬ (IsDone Shortening past.calls) → (keeper ≡ tools.keeper) ⊎ p.keeping.is_long tools.keeper →
        (p.keeping.is_long tools.keeper → p.keeping.slices tools.keeper keeper) → (p.keeping.is_long tools.keeper → IsNearer) →
        (length ≡ Short → ¬ (p.keeping.is_long keeper)) → (length ≡ Long → p.keeping.is_long keeper) →
        (length ≡ Short → service' ≡ record service { refused = None }) → (length ≡ Long → service' ≡ service) →
        GoesShorter p first (standing (running service tools) found past) (Some length) (running service' (record tools { keeper = keeper }))
    went_on Long service' undone left slice nearer short long is_done is_same =
        let before : p.keeping.is_long tools.keeper = elim left [ inl same ↦ subst p.keeping.is_long same (long refl) | inr was ↦ was ] in
        subst (λ (s : Service). GoesShorter p first (standing (running service tools) found past) (Some Long) (running s (record tools { keeper = keeper }))) (sym (is_same refl)) (record {
          calls = call.Shortened ∷ past.calls;
          served = sliced before undone (slice before) (nearer before);
          done = slice_more past.calls;
          sliced = λ is. inl refl;
          rests = λ other. absurd (other refl);
          short = λ is. absurd (cc);
          tended = refl;
        })
    went_on Short service' undone left slice nearer short long is_done is_same =
        subst (λ (s : Service). GoesShorter p first (standing (running service tools) found past) (Some Short) (running s (record tools { keeper = keeper }))) (sym (is_done refl))
        (elim left [
          | inl same ↦ record {
            calls = past.calls;
            served = goes (subst (λ k. Served p first (state_of (running service (record tools { keeper = k })) found past)) (sym same) served) (is_short (short refl));
            done = (none_more past.calls).more;
            sliced = λ is. absurd (cc);
            rests = λ other still is. absurd (short refl is);
            short = λ is. short refl;
            tended = refl;
          }
          | inr was ↦ record {
            calls = call.Shortened ∷ past.calls;
            served = goes (sliced was undone (slice was) (nearer was)) (is_short (short refl));
            done = slice_more past.calls;
            sliced = λ is. absurd (cc);
            rests = λ other still is. absurd (short refl is);
            short = λ is. short refl;
            tended = refl;
          }
        ])

    -- or it refused
    pub refused : (journal : J) (service' : Service) → p.keeping.is_long tools.keeper → is_long_ago service.refused service.times.steady 60 ≡ true →
        p.keeping.size keeper ≡ p.keeping.size tools.keeper → TellsRefusal p.journal service.refused tools.journal journal → service' ≡ record service { refused = Some service.times.steady } →
        GoesShorter p first (standing (running service tools) found past) None (running service' (record tools { journal = journal; keeper = keeper }))
    refused journal service' long ago size told is =
        subst (λ (s : Service). GoesShorter p first (standing (running service tools) found past) None (running s (record tools { journal = journal; keeper = keeper }))) (sym is) (record {
          calls = past.calls;
          served = goes served (no_slice keeper journal all long ago kept basis until size told);
          done = (none_more past.calls).more;
          sliced = λ is. absurd (cc);
          rests = λ other still is. just_now service.times.steady;
          short = λ is. absurd (cc);
          tended = refl;
        })
