-- Beside Passing: what is known in each stage of a shortening, where what was read is true. Only the contracts of this crate's own
-- parts and their proofs cite this.
use Rattle.std.specs.Prelude.{◌≡◌, ◌+◌, ◌<◌, ◌≤◌, ◌++◌, ℕ, List, [], ◌∷◌, length, Some}
use Rattle.shortening.specs.Known.{NotesUnexpired}
use Rattle.shortening.specs.Shortened.{shortened}
use Rattle.shortening.specs.Steps.{IsDeciding, IsLeaving, IsListing, TellsLast, keeps_of, picked}
use Rattle.shortening.specs.declared.deciding.Deciding.{Deciding}
use Rattle.shortening.specs.declared.leaving.Leaving.{Leaving}
use Rattle.shortening.specs.declared.listing.Listing.{Listing}
use Rattle.shortening.specs.declared.unexpired.Unexpired.{Unexpired}
use Rattle.state_keeper.specs.Names.{Event}
use Rattle.state_file.specs.Knowing.{end_of}
use Rattle.state_file.specs.Renewing.{IsShortened}
use Rattle.state_file.specs.ShortParts.{AddsChanges}
use Rattle.state_file.specs.Standing.{AreTold, horizons, until_of}
use Rattle.state_file.specs.Telling.{last_rules, rules_in}
use Rattle.state_keeper.specs.declared.course.Course.{Course}
use Rattle.state_keeper.specs.declared.course.Frame.{Frame}
use Rattle.state_keeper.specs.declared.course.Stage.{Stage}
use Rattle.state_keeper.specs.declared.course.Stage.TheVariants as stage

-- where the frames of the batches begin, the first of them there
abbrev pub starts_of : ℕ → List (List ℕ) → List ℕ
starts_of at [] = []
starts_of at (batch ∷ later) = at ∷ starts_of (at + (21 + length batch)) later

-- where a frame begins in the file there, these bytes are its batch
abbrev pub IsFrameAt : List (List ℕ) → ℕ → List ℕ → Type 0
IsFrameAt batches at bytes = (before after : List (List ℕ)) (batch : List ℕ) → batches ≡ before ++ batch ∷ after → at ≡ end_of before → bytes ≡ batch

-- the frame of the front that begins there
pub record IsFrameOf (front : List (List ℕ)) (at : ℕ) (frame : Frame) : Type 0 where
  pub more : at < end_of front
  pub is : IsFrameAt front at frame.bytes.items
  pub ends : frame.end ≡ at + (21 + length frame.bytes.items)

-- a place in the front: what the batches before it tell, and what those behind it do
pub record Point (front : List (List ℕ)) (at : ℕ) (before after : List Event) : Type 0 where
  pub done : List (List ℕ)
  pub rest : List (List ℕ)
  pub parted : front ≡ done ++ rest
  pub at_is : at ≡ end_of done
  pub done_told : AreTold done before
  pub rest_told : AreTold rest after

-- the rules and the moment of the front
pub record IsUnder (front : List (List ℕ)) (rules : List ℕ) (until : ℕ) : Type 0 where
  pub rules_begin : rules_in rules ≡ Some rules
  pub rules_are : last_rules front ≡ Some rules
  pub until_is : until ≡ until_of front

-- COUNTING: where each frame begins, and the last moment and the greatest number so far

pub record IsCounting (rules : List ℕ) (front : List (List ℕ)) (course : Course) : Type 0 where
  pub under : IsUnder front rules course.until
  pub before : List Event
  pub after : List Event
  pub point : Point front course.at before after
  pub starts : course.starts.items ≡ starts_of 16 point.done
  pub last : TellsLast course.last before

-- NOTING AND LISTING: forwards once more

pub record IsForward (rules : List ℕ) (front : List (List ℕ)) (course : Course) (before after : List Event) : Type 0 where
  pub under : IsUnder front rules course.until
  pub point : Point front course.at before after
  pub starts : course.starts.items ≡ starts_of 16 front
  pub last : TellsLast course.last (before ++ after)

-- what is unexpired so far
abbrev pub IsNoting : List ℕ → List (List ℕ) → Course → Unexpired → Type 0
IsNoting rules front course unexpired =
    (before after : List Event) × IsForward rules front course before after × NotesUnexpired unexpired before course.last.moment

-- the scopes of codes so far
abbrev pub IsListed : List ℕ → List (List ℕ) → Course → Listing → Type 0
IsListed rules front course listing =
    (before after : List Event) × IsForward rules front course before after × IsListing listing (before ++ after) course.last.moment before

-- DECIDING: backwards, by where the frames begin

pub record IsBackward (rules : List ℕ) (front : List (List ℕ)) (course : Course) (before after : List Event) : Type 0 where
  pub under : IsUnder front rules course.until
  pub point : Point front course.at before after
  pub starts : course.starts.items ≡ starts_of 16 point.done
  pub last : TellsLast course.last (before ++ after)

abbrev pub IsDecided : List ℕ → List (List ℕ) → Course → Deciding → Type 0
IsDecided rules front course deciding =
    (before after : List Event) × IsBackward rules front course before after × IsDeciding deciding (before ++ after) course.last.moment after

-- LEAVING: what stays of the changes so far was written, but for those that are gathered

-- these of the changes stay, whatever stands behind them
abbrev pub Stay : Leaving → List Event → List Event → Type 0
Stay leaving changes stay =
    (history later : List Event) (m : ℕ) → IsLeaving leaving (keeps_of m history (changes ++ later)) →
    picked (keeps_of m history (changes ++ later)) (changes ++ later) ≡ stay ++ picked (keeps_of m history later) later

-- and then it is asked for those behind them
abbrev pub GoesPast : List Event → Leaving → Leaving → Type 0
GoesPast changes old new =
    (history later : List Event) (m : ℕ) → IsLeaving old (keeps_of m history (changes ++ later)) → IsLeaving new (keeps_of m history later)

-- Of the changes that stay these were written, each batch with one or more, and those are gathered.
pub record AreLeft (all : List Event) (rules : List ℕ) (gathered : List Event) (coming : List Event) (written : List (List ℕ)) : Type 0 where
  pub told : List Event
  pub adds : AddsChanges told (rules ∷ []) written
  pub few : length adds.more ≤ length told
  pub whole : (told ++ gathered) ++ coming ≡ all

pub record IsLeft (rules : List ℕ) (front : List (List ℕ)) (course : Course) (leaving : Leaving) (gathered : List Event) (written : List (List ℕ)) : Type 0 where
  pub under : IsUnder front rules course.until
  pub before : List Event
  pub after : List Event
  pub point : Point front course.at before after
  pub last : TellsLast course.last (before ++ after)
  pub answers : IsLeaving leaving (keeps_of course.last.moment (before ++ after) after)
  pub left :
      AreLeft (shortened course.last.moment (before ++ after)) rules gathered
      (picked (keeps_of course.last.moment (before ++ after) after) after) written

-- from what was written so more is written
abbrev pub LeadsTo : (List (List ℕ) → Type 0) → (List (List ℕ) → Type 0) → (List (List ℕ) → List (List ℕ) → Type 0) → Type 0
LeadsTo Old New R = (written : List (List ℕ)) → Old written → (after : List (List ℕ)) × New after × R written after

-- with these changes gathered as well, so many of them are gathered then
abbrev pub StaysLeft : List Event → List Event → List Event → List (List ℕ) → List (List ℕ) → Type 0
StaysLeft gathered more now written after =
    (all : List Event) (rules : List ℕ) (coming : List Event) → AreLeft all rules gathered (more ++ coming) written → AreLeft all rules now coming after

-- the horizon of the moment, if it is any, is written
abbrev pub WritesHorizon : ℕ → List (List ℕ) → List (List ℕ) → Type 0
WritesHorizon until written after = after ≡ written ++ horizons until

-- where all that stays is written or gathered, what is left of the front is written then
abbrev pub Finishes : Course → List Event → List (List ℕ) → List (List ℕ) → Type 0
Finishes course gathered written after =
    (front : List (List ℕ)) (rules : List ℕ) (facts : List Event) → IsUnder front rules course.until → AreTold front facts → TellsLast course.last facts →
    AreLeft (shortened course.last.moment facts) rules gathered [] written → IsShortened front after

-- FOLLOWING: what is left of the front is written, and of the tail what was gone over

pub record IsFollowing (front tail : List (List ℕ)) (course : Course) (written : List (List ℕ)) : Type 0 where
  pub left : List (List ℕ)
  pub followed : List (List ℕ)
  pub rest : List (List ℕ)
  pub short : IsShortened front left
  pub written_is : written ≡ left ++ followed
  pub tail_is : tail ≡ followed ++ rest
  pub at_is : course.at ≡ end_of (front ++ followed)

abbrev pub IsInStage : List ℕ → List (List ℕ) → List (List ℕ) → Course → Stage → List (List ℕ) → Type 0
IsInStage rules front tail course stage.Counting written = IsCounting rules front course
IsInStage rules front tail course (stage.Noting unexpired) written = IsNoting rules front course unexpired
IsInStage rules front tail course (stage.Listing listing) written = IsListed rules front course listing
IsInStage rules front tail course (stage.Deciding deciding) written = IsDecided rules front course deciding
IsInStage rules front tail course (stage.Leaving leaving batch draft) written = IsLeft rules front course leaving batch.facts written
IsInStage rules front tail course (stage.Following draft) written = IsFollowing front tail course written
