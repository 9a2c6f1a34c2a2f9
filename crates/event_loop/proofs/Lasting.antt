-- What crashes leave, one keeper after another.
use Rattle.std.proofs.Common.{◌≡◌, ◌⊎◌, inl, inr, ◌≤◌, ℕ, List, refl, sym, subst, arith}
use Rattle.change_codec.specs.Keeping.{IsWithin, NoLater}
use Rattle.event_loop.proofs.Names.{Event, Crashes, Basis, HoldsBasis, KeepsBasis, Leaves, LeavesEither, TellsBasis}

-- a basis within a limit is within an earlier one
within_more : (basis : Basis) (least limit : ℕ) → least ≤ limit → IsWithin limit basis → IsWithin least basis
within_more (NoLater moment) least limit le within = omega (arith, le, within)
within_more basis least limit le within = tt

module _ {K : Type 0} (crashes : Crashes K) where
  -- what one at some moment from the one keeper's on leaves: what one before the other's left, or what is so
  abbrev pub LeavesMore : (mid new : K) (P : List ℕ → Type 0) → Type 0
  LeavesMore mid new P = (t : ℕ) (c : List ℕ) → t ≤ crashes.moment mid → crashes.left_since new t c → crashes.left_since mid t c ⊎ P c

  -- it leaves so up to a later keeper
  pub leaves_then : (old mid new : K) (P Q : List ℕ → Type 0) → Leaves crashes old mid P → crashes.moment mid ≤ crashes.moment new → LeavesMore mid new Q →
      ((c : List ℕ) → P c → Q c) → Leaves crashes old new Q
  leaves_then old mid new P Q one later more still = record {
    later = omega (arith, one.later, later);
    each = λ c left. elim (more (crashes.moment old) c one.later left) [
      | inl then ↦ still c (one.each c then)
      | inr now ↦ now
    ];
    earlier = λ t c le left. elim (more t c (omega (arith, le, one.later)) left) [
      | inl then ↦ elim (one.earlier t c le then) [
        | inl before ↦ inl before
        | inr was ↦ inr (still c was)
      ]
      | inr now ↦ inr now
    ];
  }

  -- up to one that is the same
  pub leaves_same : (old mid new : K) (P Q : List ℕ → Type 0) → Leaves crashes old mid P → new ≡ mid → ((c : List ℕ) → P c → Q c) → Leaves crashes old new Q
  leaves_same old mid new P Q one same still =
      subst (λ k. Leaves crashes old k Q) (sym same) (leaves_then old mid mid P Q one (omega arith) (λ t c le left. inl left) still)

  -- up to one that was given what leads from the one history to the other
  pub leaves_either : (old mid new : K) (before after : List Event) (P Q : List ℕ → Type 0) → Leaves crashes old mid P → LeavesEither crashes before after mid new →
      ((c : List ℕ) → crashes.stands_for c before → Q c) → ((c : List ℕ) → crashes.stands_for c after → Q c) → ((c : List ℕ) → P c → Q c) → Leaves crashes old new Q
  leaves_either old mid new before after P Q one either was now still =
      leaves_then old mid new P Q one either.later (λ t c le left. elim (either.earlier t c le left) [
        | inl then ↦ inl then
        | inr stands ↦ elim stands [
          | inl first ↦ inr (was c first)
          | inr second ↦ inr (now c second)
        ]
      ]) still

  -- a basis that was told is told still
  pub tells_then : (one_limit other_limit limit : ℕ) (old mid new : K) → one_limit ≤ limit → other_limit ≤ limit →
      KeepsBasis crashes one_limit old mid → TellsBasis crashes other_limit mid new → TellsBasis crashes limit old new
  tells_then one_limit other_limit limit old mid new le le' one two = record {
    later = (let first = one.meanwhile.later in omega (arith, first, two.later));
    earlier = λ basis t c within held le_t left.
        let first = one.meanwhile.later in
        elim (two.earlier basis t c (within_more basis other_limit limit le' within) (one.holds basis (within_more basis one_limit limit le within) held) (omega (arith, le_t, first)) left) [
          | inl then ↦ one.meanwhile.earlier basis t c (within_more basis one_limit limit le within) held le_t then
          | inr told ↦ inr told
        ];
  }

  pub keeps_then : (one_limit other_limit limit : ℕ) (old mid new : K) → one_limit ≤ limit → other_limit ≤ limit →
      KeepsBasis crashes one_limit old mid → KeepsBasis crashes other_limit mid new → KeepsBasis crashes limit old new
  keeps_then one_limit other_limit limit old mid new le le' one two = record {
    holds = λ basis within held.
        two.holds basis (within_more basis other_limit limit le' within) (one.holds basis (within_more basis one_limit limit le within) held);
    meanwhile = tells_then one_limit other_limit limit old mid new le le' one two.meanwhile;
  }

  pub keeps_same : (limit : ℕ) (old new : K) → new ≡ old → KeepsBasis crashes limit old new
  keeps_same limit old new same = subst (λ k. KeepsBasis crashes limit old k) (sym same) (record {
    holds = λ basis within held. held;
    meanwhile = record { later = omega arith; earlier = λ basis t c within held le left. inl left };
  })

  -- what is kept within a limit is so within a later one
  pub keeps_within : (least limit : ℕ) (old new : K) → least ≤ limit → KeepsBasis crashes least old new → KeepsBasis crashes limit old new
  keeps_within least limit old new le keeps = keeps_then 0 least limit old old new (omega arith) le (keeps_same 0 old old refl) keeps

  pub tells_within : (least limit : ℕ) (old new : K) → least ≤ limit → TellsBasis crashes least old new → TellsBasis crashes limit old new
  tells_within least limit old new le tells = tells_then 0 least limit old old new (omega arith) le (keeps_same 0 old old refl) tells

  module _ (only_now : (keeper : K) (c : List ℕ) → crashes.left_since keeper (crashes.moment keeper) c → crashes.may_leave keeper c) where
    -- at first it leaves what it may leave now
    pub leaves_now : (keeper : K) (P : List ℕ → Type 0) → ((c : List ℕ) → crashes.may_leave keeper c → P c) → Leaves crashes keeper keeper P
    leaves_now keeper P now = record { later = omega arith; each = λ c left. now c (only_now keeper c left); earlier = λ t c le left. inl left }

    -- each crash tells a basis that was held
    pub leaves_told : (limit : ℕ) (old new : K) (basis : Basis) → IsWithin limit basis → TellsBasis crashes limit old new → HoldsBasis crashes old basis →
        Leaves crashes old new (λ c. crashes.tells c basis)
    leaves_told limit old new basis within tells held =
        leaves_then old old new _ _ (leaves_now old (λ c. crashes.tells c basis) held) tells.later (λ t c le left. tells.earlier basis t c within held le left) (λ c told. told)
