-- What a keeper holds once its file has a batch more, or stands as it was, or another stands in its place.
use Rattle.std.proofs.Common.{◌≡◌, ◌⊎◌, ⊎_elim, ◌≤◌, inl, inr, ℕ, List, [], ◌∷◌, ◌++◌, Option, None, Some, refl, sym, ap, ◌∙◌, subst, append_assoc, arith}
use Rattle.std.proofs.lemmas.List.{append_cancel_left}
use Rattle.state_keeper.proofs.Names.{LeavesOnly, recovered, IsOnDisk, BatchFile, Device, Event, Until, HoldsBasis, KeepsBasis, TellsBasis, RulesFact, SeenKeeper}
use Rattle.state_keeper.proofs.Names.{file_crashes, StandFor, until_of, AreDrafted, IsDraft, append-nil, Known, Tell}
use Rattle.batch_file.specs.Frames.{IsOldOrNew, IsBeforeOrAfter, IsReadable}
use Rattle.change_codec.specs.Keeping.{Basis, IsWithin, NoLater, Readable, Rules, Holds, Keeps, KeepsNot, LeavesEither, StandsForEither}
use Rattle.state_file.specs.Knowing.{LeftTells, TellBasis}
use Rattle.state_keeper.specs.Seen.{MayBe}
use Rattle.state_file.specs.Renewing.{IsShortened}
use Rattle.state_file.specs.StandingLaws.{StandFor-shortened}
use Rattle.batch_file.specs.CrashesLaws.{both, then, weaker}
use Rattle.state_keeper.proofs.Fronts.{at_rest_readable, front_readable}
use Rattle.batch_file.specs.declared.appending.BatchFault.{BatchFault}

-- what the old batches tell within the limit, the new ones do
abbrev pub TellOn : ℕ → List (List ℕ) → List (List ℕ) → Type 0
TellOn limit old new = (basis : Basis) → IsWithin limit basis → TellBasis old basis → TellBasis new basis

pub tell_on : (limit : ℕ) (old new : List (List ℕ)) → until_of old ≤ until_of new → ((moment : ℕ) → limit ≤ moment → until_of old ≤ moment → until_of new ≤ moment) →
    ((rules : RulesFact) → Tell old rules → Tell new rules) → TellOn limit old new
tell_on limit old new le no_later leads (Until moment) within told = omega (arith, le, told)
tell_on limit old new le no_later leads (NoLater moment) within told = no_later moment within told
tell_on limit old new le no_later leads (Rules rules) within told = leads rules told
tell_on limit old new le no_later leads Readable within told = tt

-- what the bytes tell their batches do, and the other way round where they can be read
batches_tell : (basis : Basis) (c : List ℕ) → LeftTells c basis → TellBasis (recovered c) basis
batches_tell (Until moment) c told = told
batches_tell (NoLater moment) c told = told
batches_tell (Rules rules) c told = told
batches_tell Readable c told = tt

left_tells : (basis : Basis) (c : List ℕ) → TellBasis (recovered c) basis → LeftTells c Readable → LeftTells c basis
left_tells (Until moment) c told reads = told
left_tells (NoLater moment) c told reads = told
left_tells (Rules rules) c told reads = told
left_tells Readable c told reads = reads

abbrev pub keeper_of : {D : Type 0} → BatchFile D → Option BatchFault → Option (List (List ℕ)) → ℕ → Known → SeenKeeper D
keeper_of file fault front to_go known = record { file = file; fault = fault; front = front; to_go = to_go; known = known }

module _ {D : Type 0} (device : Device D) (old : SeenKeeper D) where
  -- the batches that stood there
  abbrev pub was : List (List ℕ)
  was = recovered (device.seen old.file.device)

  -- a file of these batches, or of a draft of them
  abbrev pub IsHeld : List ℕ → Type 0
  IsHeld c = (recovered c ≡ was) ⊎ (IsReadable c × AreDrafted old.front was (recovered c))

  -- what is so of all that the keeper's file may be is so of the batches of such a file
  pub held : (P : List (List ℕ) → Type 0) → ((c : List ℕ) → MayBe device old c → P (recovered c)) → device.reads_true old.file.device → (c : List ℕ) → IsHeld c → P (recovered c)
  held P all true c (inl same) = subst P (sym same) (all (device.seen old.file.device) (inr (true, inl refl)))
  held P all true c (inr draft) = all c (inr (true, inr draft))

-- which batches are led to from others
abbrev pub Leading : Type 1
Leading = List (List ℕ) → List (List ℕ) → Type 0

module _ {D : Type 0} (device : Device D) (old new : SeenKeeper D) (Leads : Leading) where
  -- batches that the old ones, or a draft of them, lead to
  abbrev pub IsLed : List (List ℕ) → Type 0
  IsLed bs = (d : List ℕ) × IsHeld device old d × Leads (recovered d) bs

  -- a file of the old batches, or of a draft of them, or of what these lead to, where what was read is true; and it can be read
  abbrev pub IsHeldOrLed : List ℕ → Type 0
  IsHeldOrLed c = device.reads_true old.file.device × (IsHeld device old c ⊎ IsLed (recovered c)) × LeftTells c Readable

  -- a crash meanwhile left such a file
  abbrev pub LeavesHeld : Type 0
  LeavesHeld = LeavesOnly device.moment device.left_since old.file.device new.file.device IsHeldOrLed

  -- and the new keeper's is one that they lead to
  pub record HasNow : Type 0 where
    pub leaves : LeavesHeld
    pub now : (c : List ℕ) → MayBe device new c → device.reads_true old.file.device × IsLed (recovered c) × LeftTells c Readable

  -- what they lead to stands for the one history if they did for the other
  abbrev pub LeadOver : List Event → List Event → Type 0
  LeadOver before after = (some others : List (List ℕ)) → Leads some others → StandFor some before → StandFor others after

  -- and tells what they told within the limit
  abbrev pub LeadOn : ℕ → Type 0
  LeadOn limit = (some others : List (List ℕ)) → Leads some others → TellOn limit some others

  -- what was left meanwhile stands for the one history or for the other
  leaves_either : (before after : List Event) → LeavesHeld → LeadOver before after → Holds (file_crashes device) old before → LeavesEither (file_crashes device) before after old new
  leaves_either before after leaves leads holds = record {
    later = leaves.later;
    each = λ c left. each c (leaves.each c left);
    earlier = λ t c le left. ⊎_elim (λ was. inl was) (λ is. inr (each c is)) (leaves.before t c le left);
  }
    where
      each : (c : List ℕ) → IsHeldOrLed c → StandsForEither (file_crashes device) before after c
      each c is = ⊎_elim (λ same. inl (held device old (λ bs. StandFor bs before) holds is.0 c same))
          (λ led. inr (leads (recovered led.0) (recovered c) led.2 (held device old (λ bs. StandFor bs before) holds is.0 led.0 led.1))) is.1

  pub keeps_not : (before after : List Event) → LeavesHeld → LeadOver before after → KeepsNot (file_crashes device) before after old new
  keeps_not before after leaves leads = record { meanwhile = leaves_either before after leaves leads }

  pub keeps : (before after : List Event) → HasNow → LeadOver before after → Keeps (file_crashes device) before after old new
  keeps before after now leads = record {
    holds = λ holds c may. let is = now.now c may in leads (recovered is.1.0) (recovered c) is.1.2 (held device old (λ bs. StandFor bs before) holds is.0 is.1.0 is.1.1);
    meanwhile = leaves_either before after now.leaves leads;
  }

  -- WHAT IS TOLD

  pub tells_basis : (limit : ℕ) → LeavesHeld → LeadOn limit → TellsBasis (file_crashes device) limit old new
  tells_basis limit leaves on = record {
    later = leaves.later;
    earlier = λ basis t c within holds early left. ⊎_elim (λ was. inl was) (λ is. inr (left_tells basis c (tells basis c within holds is) is.2)) (leaves.before t c early left);
  }
    where
      tells : (basis : Basis) (c : List ℕ) → IsWithin limit basis → HoldsBasis (file_crashes device) old basis → IsHeldOrLed c → TellBasis (recovered c) basis
      tells basis c within holds is =
          let each : (d : List ℕ) → MayBe device old d → TellBasis (recovered d) basis = λ d may. batches_tell basis d (holds d may) in
          ⊎_elim (λ same. held device old (λ bs. TellBasis bs basis) each is.0 c same)
          (λ led. on (recovered led.0) (recovered c) led.2 basis within (held device old (λ bs. TellBasis bs basis) each is.0 led.0 led.1)) is.1

  -- all that they lead to tells it
  pub holds_basis : (basis : Basis) → HasNow → ((some others : List (List ℕ)) → Leads some others → TellBasis others basis) → HoldsBasis (file_crashes device) new basis
  holds_basis basis now told c may = let is = now.now c may in left_tells basis c (told (recovered is.1.0) (recovered c) is.1.2) is.2

  pub keeps_basis : (limit : ℕ) → HasNow → LeadOn limit → KeepsBasis (file_crashes device) limit old new
  keeps_basis limit now on = record {
    holds = λ basis within holds c may. let is = now.now c may in
        left_tells basis c
        (on (recovered is.1.0) (recovered c) is.1.2 basis within
        (held device old (λ bs. TellBasis bs basis) (λ d left. batches_tell basis d (holds d left)) is.0 is.1.0 is.1.1)) is.2;
    meanwhile = tells_basis limit now.leaves on;
  }

-- DRAFTS

-- the batches begin with what the file had when the shortening began, if one is on the way
abbrev pub IsBegunIn : List (List ℕ) → Option (List (List ℕ)) → Type 0
IsBegunIn whole None = Unit {0}
IsBegunIn whole (Some front) = (tail : List (List ℕ)) × (whole ≡ front ++ tail)

-- a draft of batches with one more is one of them, with one more
pub draft_before : (front : Option (List (List ℕ))) (whole more draft : List (List ℕ)) → IsBegunIn whole front → AreDrafted front (whole ++ more) draft →
    (bs : List (List ℕ)) × AreDrafted front whole bs × (draft ≡ bs ++ more)
draft_before None whole more draft begun is = absurd is
draft_before (Some front) whole more draft begun is =
    let same : front ++ is.tail ≡ front ++ (begun.0 ++ more) = sym is.whole_is ∙ ap (λ (bs : List (List ℕ)). bs ++ more) begun.1 ∙ append_assoc front begun.0 more in
    let behind : is.tail ≡ begun.0 ++ more = append_cancel_left front is.tail (begun.0 ++ more) same in (
      is.left ++ begun.0,
      record { left = is.left; tail = begun.0; short = is.short; whole_is = begun.1; draft_is = refl },
      is.draft_is ∙ ap (λ (bs : List (List ℕ)). is.left ++ bs) behind ∙ sym (append_assoc is.left begun.0 more),
    )

-- ONE BATCH MORE

-- a batch stands behind the others
abbrev pub HasMore : List ℕ → Leading
HasMore batch old new = new ≡ old ++ batch ∷ []

module _ {D : Type 0} (device : Device D) (old new : SeenKeeper D) (batch : List ℕ) where
  pub more_leaves :
      LeavesOnly device.moment device.left_since old.file.device new.file.device (IsBeforeOrAfter (was device old) batch) →
      LeavesOnly device.moment device.left_since old.file.device new.file.device IsReadable →
      LeavesOnly device.moment device.left_since old.file.device new.file.device (λ _. device.reads_true old.file.device) →
      LeavesHeld device old new (HasMore batch)
  more_leaves leaves readable trues =
      weaker (both (both leaves readable) trues)
      (λ c is. (is.1, ⊎_elim (λ same. inl (inl same)) (λ now. inr (device.seen old.file.device, inl refl, now)) is.0.0, is.0.1))

  pub more_now : LeavesHeld device old new (HasMore batch) → IsOnDisk device.seen device.may_leave device.faults new.file →
      (device.reads_true new.file.device → device.reads_true old.file.device) → ((c : List ℕ) → device.may_leave new.file.device c → device.reads_true new.file.device) →
      recovered (device.seen new.file.device) ≡ was device old ++ batch ∷ [] → IsBegunIn (was device old) old.front → new.front ≡ old.front → HasNow device old new (HasMore batch)
  more_now leaves settled truth true are begun fronts = record { leaves = leaves; now = now }
    where
      here : (c : List ℕ) → c ≡ device.seen new.file.device → IsLed device old new (HasMore batch) (recovered c)
      here c is = (device.seen old.file.device, inl refl, ap recovered is ∙ are)

      drafts : (c : List ℕ) → IsReadable c × AreDrafted new.front (recovered (device.seen new.file.device)) (recovered c) → IsLed device old new (HasMore batch) (recovered c)
      drafts c (readable, draft) =
          let of : AreDrafted old.front (was device old ++ batch ∷ []) (recovered c) =
          subst (λ (f : Option (List (List ℕ))). AreDrafted f (was device old ++ batch ∷ []) (recovered c)) fronts
          (subst (λ (bs : List (List ℕ)). AreDrafted new.front bs (recovered c)) are draft) in
          let before = draft_before old.front (was device old) (batch ∷ []) (recovered c) begun of in
          let file = front_readable c batch before.0 before.2 readable in (
            file.0,
            inr (file.2, subst (λ (bs : List (List ℕ)). AreDrafted old.front (was device old) bs) (sym file.1) before.1),
            before.2 ∙ ap (λ (bs : List (List ℕ)). bs ++ batch ∷ []) (sym file.1),
          )

      reads : (c : List ℕ) → c ≡ device.seen new.file.device → LeftTells c Readable
      reads c is = subst (λ (file : List ℕ). IsReadable file) (sym is) (at_rest_readable settled.at_rest)

      now : (c : List ℕ) → MayBe device new c → device.reads_true old.file.device × IsLed device old new (HasMore batch) (recovered c) × LeftTells c Readable
      now c (inl left) = (truth (true c left), here c (settled.durable c left), reads c (settled.durable c left))
      now c (inr is) = (truth is.0, ⊎_elim (here c) (drafts c) is.1, ⊎_elim (reads c) (λ draft. draft.0) is.1)

-- WHERE THE FILE STANDS AS IT WAS

-- just the same
abbrev pub IsSame : Leading
IsSame old new = new ≡ old

-- the same, or what is left of them
abbrev pub IsSameOrLeft : Leading
IsSameOrLeft old new = (new ≡ old) ⊎ IsShortened old new

pub same_stand : (history : List Event) (some others : List (List ℕ)) → IsSame some others → StandFor some history → StandFor others history
same_stand history some others same stands = subst (λ (bs : List (List ℕ)). StandFor bs history) (sym same) stands

pub same_tell : (limit : ℕ) (some others : List (List ℕ)) → IsSame some others → TellOn limit some others
same_tell limit some others same basis within told = subst (λ (bs : List (List ℕ)). TellBasis bs basis) (sym same) told

pub left_stand : (history : List Event) (some others : List (List ℕ)) → IsSameOrLeft some others → StandFor some history → StandFor others history
left_stand history some others (inl same) stands = same_stand history some others same stands
left_stand history some others (inr short) stands = StandFor-shortened some others history short stands

pub left_tell : (limit : ℕ) (some others : List (List ℕ)) → IsSameOrLeft some others → TellOn limit some others
left_tell limit some others (inl same) basis within told = same_tell limit some others same basis within told
left_tell limit some others (inr short) basis within told =
    tell_on limit some others (let same = short.until in omega (arith, same)) (λ moment le was. (let same = short.until in omega (arith, same, was))) short.tell basis within told

-- A file that stands as it was, and was perhaps read.
pub record StaysIn {D : Type 0} (device : Device D) (old new : BatchFile D) : Type 0 where
  pub settled : IsOnDisk device.seen device.may_leave device.faults new
  pub seen : device.seen new.device ≡ device.seen old.device
  pub leaves : LeavesOnly device.moment device.left_since old.device new.device (λ left. left ≡ device.seen old.device)
  pub trues : LeavesOnly device.moment device.left_since old.device new.device (λ _. device.reads_true old.device)
  pub truth : device.reads_true new.device → device.reads_true old.device
  pub true : (c : List ℕ) → device.may_leave new.device c → device.reads_true new.device

-- no call was made
pub stays_unread : {D : Type 0} (device : Device D) (file : BatchFile D) → IsOnDisk device.seen device.may_leave device.faults file →
    ((c : List ℕ) → device.left_since file.device (device.moment file.device) c → device.may_leave file.device c) →
    ((c : List ℕ) → device.may_leave file.device c → device.reads_true file.device) → StaysIn device file file
stays_unread device file settled only_now true = record {
  settled = settled;
  seen = refl;
  leaves = record { later = omega arith; each = λ c left. settled.durable c (only_now c left); before = λ t c le left. inl left };
  trues = record { later = omega arith; each = λ c left. true c (only_now c left); before = λ t c le left. inl left };
  truth = λ t. t;
  true = true;
}

-- and then another call
pub stays_then : {D : Type 0} (device : Device D) (old mid new : BatchFile D) → StaysIn device old mid → StaysIn device mid new → StaysIn device old new
stays_then device old mid new first second = record {
  settled = second.settled;
  seen = second.seen ∙ first.seen;
  leaves = then first.leaves second.leaves (λ c is. is) (λ c is. is ∙ first.seen);
  trues = then first.trues second.trues (λ c is. is) (λ c is. first.truth is);
  truth = λ t. first.truth (second.truth t);
  true = second.true;
}

-- it can be read
reads_still : {D : Type 0} (device : Device D) (old new : BatchFile D) → StaysIn device old new → (c : List ℕ) → c ≡ device.seen old.device → LeftTells c Readable
reads_still device old new stays c is = subst (λ (file : List ℕ). IsReadable file) (stays.seen ∙ sym is) (at_rest_readable stays.settled.at_rest)

module _ {D : Type 0} (device : Device D) (old new : SeenKeeper D) (stays : StaysIn device old.file new.file) where
  stays_reads : (c : List ℕ) → c ≡ device.seen old.file.device → LeftTells c Readable
  stays_reads = reads_still device old.file new.file stays

  stays_leaves : (Leads : Leading) → LeavesHeld device old new Leads
  stays_leaves Leads = weaker (both stays.leaves stays.trues) (λ c is. (is.1, inl (inl (ap recovered is.0)), stays_reads c is.0))

  stays_now : (Leads : Leading) → ((bs : List (List ℕ)) → Leads bs bs) →
      ((c : List ℕ) → IsReadable c × AreDrafted new.front (was device old) (recovered c) → IsLed device old new Leads (recovered c)) → HasNow device old new Leads
  stays_now Leads same drafts = record { leaves = stays_leaves Leads; now = now }
    where
      here : (c : List ℕ) → c ≡ device.seen new.file.device → IsLed device old new Leads (recovered c)
      here c is = (device.seen old.file.device, inl refl, subst (λ (bs : List (List ℕ)). Leads (was device old) bs) (sym (ap recovered (is ∙ stays.seen))) (same (was device old)))

      reads : (c : List ℕ) → c ≡ device.seen new.file.device → LeftTells c Readable
      reads c is = stays_reads c (is ∙ stays.seen)

      now : (c : List ℕ) → MayBe device new c → device.reads_true old.file.device × IsLed device old new Leads (recovered c) × LeftTells c Readable
      now c (inl left) = (stays.truth (stays.true c left), here c (stays.settled.durable c left), reads c (stays.settled.durable c left))
      now c (inr is) = (
        stays.truth is.0,
        ⊎_elim (here c) (λ draft. drafts c (draft.0, subst (λ (bs : List (List ℕ)). AreDrafted new.front bs (recovered c)) (ap recovered stays.seen) draft.1)) is.1,
        ⊎_elim (reads c) (λ draft. draft.0) is.1,
      )

  -- a shortening goes on
  pub goes_on_now : new.front ≡ old.front → HasNow device old new IsSame
  goes_on_now fronts = stays_now IsSame (λ bs. refl)
      (λ c draft. (c, inr (draft.0, subst (λ (f : Option (List (List ℕ))). AreDrafted f (was device old) (recovered c)) fronts draft.1), refl))

  -- or is given up
  pub given_up_now : new.front ≡ None → HasNow device old new IsSame
  given_up_now none = stays_now IsSame (λ bs. refl)
      (λ c draft. absurd (subst (λ (f : Option (List (List ℕ))). AreDrafted f (was device old) (recovered c)) none draft.1))

  -- or begins
  pub begins_now : new.front ≡ Some (was device old) → HasNow device old new IsSameOrLeft
  begins_now fronts = stays_now IsSameOrLeft (λ bs. inl refl)
      (λ c draft. (device.seen old.file.device, inl refl, inr (begun (recovered c) (subst (λ (f : Option (List (List ℕ))). AreDrafted f (was device old) (recovered c)) fronts draft.1))))
    where
      begun : (draft : List (List ℕ)) → IsDraft (was device old) (was device old) draft → IsShortened (was device old) draft
      begun draft is =
          let none : is.tail ≡ [] = append_cancel_left (was device old) is.tail [] (sym is.whole_is ∙ sym (append-nil (was device old))) in
          subst (λ (bs : List (List ℕ)). IsShortened (was device old) bs) (sym (is.draft_is ∙ ap (λ (bs : List (List ℕ)). is.left ++ bs) none ∙ append-nil is.left)) is.short

-- WHERE A DRAFT IS PUT IN ITS PLACE

module _ {D : Type 0} (device : Device D) (old mid new : SeenKeeper D) (draft : List (List ℕ)) (stays : StaysIn device old.file mid.file)
    (drafted : device.reads_true mid.file.device → AreDrafted old.front (was device old) draft) where
  pub placed_leaves :
      LeavesOnly device.moment device.left_since mid.file.device new.file.device (IsOldOrNew (recovered (device.seen mid.file.device)) draft) →
      LeavesOnly device.moment device.left_since mid.file.device new.file.device IsReadable →
      LeavesOnly device.moment device.left_since mid.file.device new.file.device (λ _. device.reads_true mid.file.device) → LeavesHeld device old new IsSame
  placed_leaves leaves readable trues = then (both stays.leaves stays.trues) (both (both leaves readable) trues) (λ c is. (is.1, inl (inl (ap recovered is.0)), reads_still device old.file mid.file stays c is.0)) (λ c is. (stays.truth is.1, inl (by c is.0.0 is.0.1 is.1), is.0.1))
    where
      by : (c : List ℕ) → IsOldOrNew (recovered (device.seen mid.file.device)) draft c → IsReadable c → device.reads_true mid.file.device → IsHeld device old c
      by c (inl same) reads true = inl (same ∙ ap recovered stays.seen)
      by c (inr now) reads true = inr (reads, subst (λ (bs : List (List ℕ)). AreDrafted old.front (was device old) bs) (sym now) (drafted true))

  pub placed_now : LeavesHeld device old new IsSame → IsOnDisk device.seen device.may_leave device.faults new.file →
      (device.reads_true new.file.device → device.reads_true mid.file.device) → ((c : List ℕ) → device.may_leave new.file.device c → device.reads_true new.file.device) →
      recovered (device.seen new.file.device) ≡ draft → new.front ≡ None → HasNow device old new IsSame
  placed_now leaves settled truth true are none = record { leaves = leaves; now = now }
    where
      here : (c : List ℕ) → c ≡ device.seen new.file.device → device.reads_true new.file.device → device.reads_true old.file.device × IsLed device old new IsSame (recovered c) × LeftTells c Readable
      here c is t =
          let reads : IsReadable c = subst (λ (file : List ℕ). IsReadable file) (sym is) (at_rest_readable settled.at_rest) in
          (stays.truth (truth t), (c, inr (reads, subst (λ (bs : List (List ℕ)). AreDrafted old.front (was device old) bs) (sym (ap recovered is ∙ are)) (drafted (truth t))), refl), reads)

      now : (c : List ℕ) → MayBe device new c → device.reads_true old.file.device × IsLed device old new IsSame (recovered c) × LeftTells c Readable
      now c (inl left) = here c (settled.durable c left) (true c left)
      now c (inr is) = ⊎_elim (λ same. here c same is.0)
          (λ draft. absurd (subst (λ (f : Option (List (List ℕ))). AreDrafted f (recovered (device.seen new.file.device)) (recovered c)) none draft.1)) is.1
