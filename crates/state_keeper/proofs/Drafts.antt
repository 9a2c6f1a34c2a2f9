-- What a draft tells, and what is known of it.
use Rattle.std.proofs.Common.{◌≡◌, ◌≤◌, inl, inr, ℕ, List, ◌++◌, Option, None, Some, refl, sym, ap, ◌∙◌, subst, arith}
use Rattle.state_keeper.proofs.Names.{Event, RulesFact, IsDraft, AreDrafted, IsKnown, Known, AreTold, AreTold-joined, AreTold-split, Tell, last_rules, left_numbered, shortened_size, until_of}
use Rattle.state_keeper.proofs.Names.{until_of-append, Device, HoldsBasis, IsOnDisk, SeenKeeper, Until, file_crashes, recovered}
use Rattle.std.specs.Option.{option_or}
use Rattle.std.specs.Prelude.{⊤}
use Rattle.state_keeper.specs.Passing.{IsKnownFile}
use Rattle.state_file.specs.TellingLaws.{last_rules-append}

module _ {front whole draft : List (List ℕ)} (is : IsDraft front whole draft) where
  -- the moment is the same
  pub draft_until : until_of draft ≡ until_of whole
  draft_until =
      let here = ap until_of is.draft_is ∙ until_of-append is.left is.tail in
      let there = ap until_of is.whole_is ∙ until_of-append front is.tail in
      let same = is.short.until in
      omega (arith, here, there, same)

  rules_by : (rules : RulesFact) (behind : Option (List ℕ)) → last_rules is.tail ≡ behind → Tell whole rules → Tell draft rules
  rules_by rules None none tell =
      let of : Tell front rules = (tell.0, sym (ap last_rules is.whole_is ∙ last_rules-append front is.tail ∙ ap (λ (o : Option (List ℕ)). option_or o (last_rules front)) none) ∙ tell.1, tell.2) in
      let left = is.short.tell rules of in
      (left.0, ap last_rules is.draft_is ∙ last_rules-append is.left is.tail ∙ ap (λ (o : Option (List ℕ)). option_or o (last_rules is.left)) none ∙ left.1, left.2)
  rules_by rules (Some batch) some tell =
      let there : last_rules whole ≡ Some batch = ap last_rules is.whole_is ∙ last_rules-append front is.tail ∙ ap (λ (o : Option (List ℕ)). option_or o (last_rules front)) some in
      let here : last_rules draft ≡ Some batch = ap last_rules is.draft_is ∙ last_rules-append is.left is.tail ∙ ap (λ (o : Option (List ℕ)). option_or o (last_rules is.left)) some in
      (tell.0, here ∙ sym there ∙ tell.1, tell.2)

  -- and so are the rules
  pub draft_tell : (rules : RulesFact) → Tell whole rules → Tell draft rules
  draft_tell rules = rules_by rules (last_rules is.tail) refl

  -- it tells a list, where the whole does
  pub draft_told : (facts : List Event) → AreTold whole facts → (list : List Event) × AreTold draft list
  draft_told facts told =
      let parts = AreTold-split front is.tail facts (subst (λ (bs : List (List ℕ)). AreTold bs facts) is.whole_is told) in (
        left_numbered parts.0 ++ parts.1,
        subst (λ (bs : List (List ℕ)). AreTold bs (left_numbered parts.0 ++ parts.1)) (sym is.draft_is)
            (AreTold-joined is.left is.tail (left_numbered parts.0) parts.1 (is.short.left parts.0 parts.2) parts.3),
      )

pub drafted_until : (front : Option (List (List ℕ))) (whole draft : List (List ℕ)) → AreDrafted front whole draft → until_of draft ≡ until_of whole
drafted_until None whole draft none = absurd none
drafted_until (Some f) whole draft is = draft_until is

-- a moment that is not beyond the horizons is told whatever a crash leaves
pub until_held : {D : Type 0} (device : Device D) (keeper : SeenKeeper D) (known : Known) (moment : ℕ) → IsOnDisk device.seen device.may_leave device.faults keeper.file →
    IsKnownFile device keeper.file known → ((c : List ℕ) → device.may_leave keeper.file.device c → device.reads_true keeper.file.device) →
    moment ≤ known.until → HoldsBasis (file_crashes device) keeper (Until moment)
until_held device keeper known moment settled is true le c (inl left) =
    let same = ap (λ (file : List ℕ). until_of (recovered file)) (settled.durable c left) in let until = (is (true c left)).until_is tt in omega (arith, same, until, le)
until_held device keeper known moment settled is true le c (inr (t, inl here)) =
    let same = ap (λ (file : List ℕ). until_of (recovered file)) here in let until = (is t).until_is tt in omega (arith, same, until, le)
until_held device keeper known moment settled is true le c (inr (t, inr draft)) =
    let same = drafted_until keeper.front (recovered (device.seen keeper.file.device)) (recovered c) draft.1 in let until = (is t).until_is tt in omega (arith, same, until, le)

draft_of : (front : Option (List (List ℕ))) (whole draft : List (List ℕ)) → AreDrafted front whole draft → (f : List (List ℕ)) × IsDraft f whole draft
draft_of None whole draft none = absurd none
draft_of (Some f) whole draft is = (f, is)

-- where a draft stands in the place of the whole
module _ (True Now : Type 0) (front : Option (List (List ℕ))) (whole draft : List (List ℕ)) (known now : Known) (truth : Now → True) (is : True → IsKnown ⊤ whole known)
    (drafted : Now → AreDrafted front whole draft) where
  pub known_placed : now.rules ≡ known.rules → now.until ≡ known.until → now.shortened ≡ shortened_size draft → Now → IsKnown ⊤ draft now
  known_placed rules until size t =
      let was = is (truth t) in
      let drafts = (draft_of front whole draft (drafted t)).1 in
      let told = was.told tt in
      let are = was.rules_are tt in
      record {
        told = λ _. draft_told drafts told.0 told.1;
        rules_begin = rw rules was.rules_begin;
        rules_few = rw rules was.rules_few;
        rules_are = λ _. (are.0, draft_tell drafts are.0 are.1, rw rules are.2);
        shortened_is = size;
        until_is = λ _. until ∙ was.until_is tt ∙ sym (draft_until drafts);
      }
