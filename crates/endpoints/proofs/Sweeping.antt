-- What a step leaves is swept.
use Rattle.std.proofs.Common.{◌≡◌, ◌⊎◌, inl, inr, ◌+◌, ◌≤◌, ℕ, List, length, max, ap, sym, ◌∙◌, arith, subst}
use Rattle.endpoints.proofs.Names.{Event, unexpired_count, Hosting, FitsStore, Held, SeenServer, Outset, FitsServer, IsSwept, Sweeps}
use Rattle.endpoints.specs.Telling.{Heeded, StepsTelling}
use Rattle.telling.specs.declared.telling.Stepped.{Stepped}
use Rattle.endpoints.proofs.Answering.{swept_step}

module _ {H : Type 0} (hosting : Hosting H) where
  pub swept_steps : (old mid : SeenServer H) (kept : Held) (heeded : Heeded) (stepped : Stepped) →
      ((history : List Event) → FitsStore mid.store history mid.greatest → FitsStore kept history mid.greatest) →
      StepsTelling hosting old heeded stepped mid → StepsTelling hosting old heeded stepped (record mid { store = kept })
  swept_steps old mid kept heeded stepped dropped steps outset history m fits =
      let s = steps outset history m fits in
      (s.0, s.1, s.2, swept_step hosting (record { server = old; outset = outset; history = history; moment = max m heeded.arrival.moment }) mid kept _ stepped.reply dropped s.3, s.4)

  -- what is kept is as much as is unexpired of one history, and so of each
  swept_each : (mid : SeenServer H) (kept : Held) (outset : Outset H) (after : List Event) (n : ℕ) →
      ((history : List Event) → FitsStore mid.store history mid.greatest → FitsStore kept history mid.greatest) →
      FitsStore mid.store after mid.greatest → length kept.kept ≡ unexpired_count after mid.greatest → IsSwept hosting (record mid { store = kept })
  swept_each mid kept outset after n dropped there all other_outset history m fits' =
      let here : FitsStore kept after mid.greatest = dropped after there in
      let other : FitsStore kept history mid.greatest = subst (λ (n : ℕ). FitsStore kept history n) (sym fits'.greatest_is) fits'.store in
      all ∙ sym (here.kept.count mid.greatest (omega arith)) ∙ other.kept.count mid.greatest (omega arith)
      ∙ ap (unexpired_count history) fits'.greatest_is

  swept_or : (mid : SeenServer H) (kept : Held) (outset : Outset H) (after : List Event) (n before : ℕ) →
      ((history : List Event) → FitsStore mid.store history mid.greatest → FitsStore kept history mid.greatest) →
      ((history : List Event) → FitsStore mid.store history mid.greatest →
      (length kept.kept ≡ unexpired_count history mid.greatest) ⊎ length kept.kept + 62 ≤ before) →
      FitsServer hosting mid outset after n → IsSwept hosting (record mid { store = kept }) ⊎ length kept.kept + 62 ≤ before
  swept_or mid kept outset after n before dropped few fits =
      let there : FitsStore mid.store after mid.greatest = subst (λ (n : ℕ). FitsStore mid.store after n) (sym fits.greatest_is) fits.store in
      elim (few after there) [
        | inl all ↦ inl (swept_each mid kept outset after n dropped there all)
        | inr fewer ↦ inr fewer
      ]

  pub sweeps : (old mid : SeenServer H) (kept : Held) (heeded : Heeded) (stepped : Stepped) →
      ((history : List Event) → FitsStore mid.store history mid.greatest → FitsStore kept history mid.greatest) →
      ((history : List Event) → FitsStore mid.store history mid.greatest →
      (length kept.kept ≡ unexpired_count history mid.greatest) ⊎ length kept.kept + 62 ≤ length old.store.kept) →
      StepsTelling hosting old heeded stepped mid → Sweeps hosting old (record mid { store = kept })
  sweeps old mid kept heeded stepped dropped few steps outset history m fits =
      let s = steps outset history m fits in swept_or mid kept outset _ (max m heeded.arrival.moment) (length old.store.kept) dropped few s.3.fits
