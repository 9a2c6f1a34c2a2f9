-- Batches that tell what is left of a list.
use Rattle.std.proofs.Common.{◌≡◌, ◌≤◌, ◌+◌, ◌^◌, ◌∙◌, take, drop, ℕ, List, [], ◌∷◌, ◌++◌, length, true, refl, sym, ap, subst, append_assoc, arith}
use Rattle.consent.specs.History.Change.{Numbered}
use Rattle.change_codec.specs.Spelling.{dated_format}
use Rattle.consent.specs.Formats.{change_format}
use Rattle.state_file.proofs.Names.{Event, StateFault, append-nil, batch_spelling, event_at, frames_size, left_numbered, shortened_size, tells_number, AreTold-joined, AreTooMuch, DatedChange}
use Rattle.state_file.proofs.Names.{dated_facts, dated_fact, take-append-drop, map-append}
use Rattle.state_file.specs.Standing.{horizon, horizons}
use Rattle.state_file.specs.Knowing.{IsLong, end_of}
use Rattle.state_file.specs.HorizonLaws.{by_horizons}
use Rattle.state_file.specs.LengthLaws.{frames_size-push, shortened_size-push}
use Rattle.std.specs.List.{slice_range}
use Rattle.std.proofs.lemmas.List.Folds.{drop_split}
use Rattle.batch_file.specs.declared.frames.AddFault.{AddFault}
use Rattle.batch_file.specs.declared.frames.AddFault.TheVariants as adding
use Rattle.state_file.specs.Faults.{of_adding}
use Rattle.state_file.specs.Renewing.{IsUntoldList}
use Rattle.state_file.specs.ShortParts.{AddsChanges, IsUnaddedList}
use Rattle.state_file.specs.declared.fault.StateFault.TheVariants as state
use Rattle.state_file.specs.ShortLaws.{plain-joined}

-- BATCHES OF CHANGES ALONE

-- none of them, and more of them
pub adds_none : (batches : List (List ℕ)) → AddsChanges [] batches batches
adds_none batches = record { more = []; added = sym (append-nil batches); told = refl; plain = tt }

pub adds_more : (some more : List Event) (old between new : List (List ℕ)) → AddsChanges some old between → AddsChanges more between new → AddsChanges (some ++ more) old new
adds_more some more old between new first later = record {
  more = first.more ++ later.more;
  added = later.added ∙ ap (λ (bs : List (List ℕ)). bs ++ later.more) first.added ∙ append_assoc old first.more later.more;
  told = AreTold-joined first.more later.more some more first.told later.told;
  plain = plain-joined first.more later.more first.plain later.plain;
}

-- what is too long among some is so among all
pub unadded_within : (all before some behind : List Event) (fault : StateFault) → all ≡ before ++ (some ++ behind) → IsUnaddedList some fault → IsUnaddedList all fault
unadded_within all before some behind state.Memory are refused = tt
unadded_within all before some behind state.Full are refused = (
  before ++ refused.0,
  refused.1,
  refused.2 ++ behind,
  are ∙ ap (λ (es : List Event). before ++ (es ++ behind)) refused.3 ∙ regrouped before refused.0 refused.1 refused.2 behind,
  refused.4,
)
  where
    regrouped : (a b c d e : List Event) → a ++ ((b ++ (c ++ d)) ++ e) ≡ (a ++ b) ++ (c ++ (d ++ e))
    regrouped a b c d e = simp append_assoc
unadded_within all before some behind _ are refused = absurd refused

pub untold : (list : List Event) (fault : StateFault) → IsUnaddedList (left_numbered list) fault → IsUntoldList list fault
untold list state.Memory refused = tt
untold list state.Full refused = refused
untold list _ refused = absurd refused

-- one batch that is too long
pub unadded_batch : (facts some : List Event) (bytes : List ℕ) → some ≡ facts → bytes ≡ batch_spelling some → 2 ^ 32 ≤ length bytes → AreTooMuch facts
unadded_batch facts some bytes are is long = (
  [],
  facts,
  [],
  sym (append-nil facts),
  subst (λ (bs : List ℕ). 2 ^ 32 ≤ length bs) (is ∙ ap batch_spelling are) long,
)

pub unadded_by : (facts : List Event) (fault : AddFault) → (fault ≡ adding.TooLong → AreTooMuch facts) → IsUnaddedList facts (of_adding fault)
unadded_by facts adding.Memory long = tt
unadded_by facts adding.TooLong long = long refl

-- some of the changes, those before them and those behind
pub parted_range : (changes : List DatedChange) (at end : ℕ) → at ≤ end →
    dated_facts changes ≡ dated_facts (take at changes) ++ (dated_facts (slice_range changes at end) ++ dated_facts (drop end changes))
parted_range changes at end le =
    ap dated_facts (sym (take-append-drop at changes)) ∙ map-append dated_fact (take at changes) (drop at changes)
    ∙ ap (λ (es : List Event). dated_facts (take at changes) ++ es)
    (ap dated_facts (drop_split changes at end le) ∙ map-append dated_fact (slice_range changes at end) (drop end changes))

-- THE BATCH THAT TELLS THE NUMBER

pub number_tells : (moment last : ℕ) → tells_number (batch_spelling (event_at moment (Numbered last) ∷ [])) ≡ true
unfolding dated_format change_format
number_tells moment last = refl

-- HOW LONG THEY ARE

module _ (before numbered all : List (List ℕ)) (batch : List ℕ) (until : ℕ) (ends : numbered ≡ before ++ batch ∷ []) (tells : tells_number batch ≡ true) (are : all ≡ numbered ++ horizons until) where
  numbered_size : shortened_size numbered ≡ frames_size numbered
  numbered_size =
      let push = shortened_size-push before batch in
      let all : shortened_size (before ++ batch ∷ []) ≡ frames_size (before ++ batch ∷ []) = rw tells at push in
      ap shortened_size ends ∙ all ∙ sym (ap frames_size ends)

  pub size_is : shortened_size all ≡ frames_size numbered
  size_is = ap shortened_size are ∙ by_horizons until (λ bs. shortened_size (numbered ++ bs) ≡ frames_size numbered)
      (λ _. ap shortened_size (append-nil numbered) ∙ numbered_size) (shortened_size-push numbered (horizon until) ∙ numbered_size)

  size_behind : frames_size all ≤ frames_size numbered + 30
  size_behind = subst (λ (bs : List (List ℕ)). frames_size bs ≤ frames_size numbered + 30) (sym are) (by_horizons until (λ bs. frames_size (numbered ++ bs) ≤ frames_size numbered + 30)
      (λ _. (let none = ap frames_size (append-nil numbered) in omega (arith, none))) (let push = frames_size-push numbered (horizon until) in omega (arith, push)))

  pub not_long : (shortened : ℕ) → shortened ≡ frames_size numbered → ¬ (IsLong (end_of all) shortened)
  not_long shortened size long = let behind = size_behind in omega (arith, size, behind, long.0, long.1)
