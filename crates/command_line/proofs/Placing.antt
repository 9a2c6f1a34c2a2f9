-- Servers that are started where their state is to stand.
use Rattle.std.proofs.Common.{◌≡◌, ◌≢◌, ℕ, List, inl, inr, subst, sym}
use Rattle.command_line.specs.Names.{CannotWrite, ListenFault, OutOfMemory}
use Rattle.command_line.proofs.Names.{CommandFault, EndsAnew, EndsOn, EndsStart, IsUntouched, Output, Outputs, Startings, pace_of}
use Rattle.command_line.specs.Faults.{IsOfListening, IsOfOpening}
use Rattle.command_line.specs.ListFaults.{IsOfList}
use Rattle.command_line.specs.Listening.{LacksPlace}
use Rattle.command_line.specs.Places.{HasServed, IsStarted}
use Rattle.command_line.specs.Startings.{Handed}
use Rattle.daemon.specs.Starts.{HandedAnew, HandedOn, handed_anew, handed_on}
use Rattle.daemon.specs.declared.fault.OpeningFault.{OpeningFault}
use Rattle.ports.specs.declared.fault.ListenFault.TheVariants.{Unwritten}
use Rattle.standby.specs.declared.fault.ListFault.{ListFault}
use Rattle.start_words.specs.Lists.{ListSaid, Place, at_file, at_list, nowhere, place_of}

-- where the fault is no failed write, none failed
pub all_written : (address : List ℕ) (cause : ListenFault) (fault : CommandFault) → IsOfListening address cause fault → fault ≢ CannotWrite → cause ≢ Unwritten
all_written address cause fault is other same = other (subst (λ (c : ListenFault). IsOfListening address c fault) same is)

ends_there : {W : Type 0} (starts : Startings) (place : Place) (handed : Handed) (fault : CommandFault) (out : Output W) → place_of handed.options ≡ place →
    EndsStart starts place handed fault out → HasServed starts handed fault out
ends_there starts place handed fault out is ends = record { ends = subst (λ (p : Place). EndsStart starts p handed fault out) (sym is) ends }

-- it was started anew
pub was_anew : {W E : Type 0} (starts : Startings) (address : List ℕ) (handed : Handed) (anew : HandedAnew) (fault : CommandFault) (to : Outputs W E) →
    place_of handed.options ≡ nowhere → anew ≡ handed_anew handed.registry handed.hooks (pace_of handed.options) → EndsAnew starts anew fault to.out →
    IsStarted starts address handed fault to
was_anew starts address handed anew fault to is same ends =
    inr (inr (ends_there starts nowhere handed fault to.out is (subst (λ (h : HandedAnew). EndsAnew starts h fault to.out) same ends)))

-- or on the file of its state
pub was_on_file : {W E : Type 0} (starts : Startings) (address path : List ℕ) (handed : Handed) (on : HandedOn) (fault : CommandFault) (to : Outputs W E) →
    place_of handed.options ≡ at_file path → on ≡ handed_on handed.registry handed.codes (pace_of handed.options) →
    EndsOn starts.on_state path on fault to.out → IsStarted starts address handed fault to
was_on_file starts address path handed on fault to is same ends =
    inr (inr (ends_there starts (at_file path) handed fault to.out is (subst (λ (h : HandedOn). EndsOn starts.on_state path h fault to.out) same ends)))

-- or on a list
pub was_on_list : {W E : Type 0} (starts : Startings) (address : List ℕ) (list : ListSaid) (handed : Handed) (on : HandedOn) (fault : CommandFault) (to : Outputs W E) →
    place_of handed.options ≡ at_list list → on ≡ handed_on handed.registry handed.codes (pace_of handed.options) →
    EndsOn starts.on_list list.prefix on fault to.out → IsStarted starts address handed fault to
was_on_list starts address list handed on fault to is same ends =
    inr (inr (ends_there starts (at_list list) handed fault to.out is (subst (λ (h : HandedOn). EndsOn starts.on_list list.prefix h fault to.out) same ends)))

lacks_there : (address : List ℕ) (place there : Place) (fault : CommandFault) → there ≡ place → LacksPlace address place fault → LacksPlace address there fault
lacks_there address place there fault is lacks = subst (λ (p : Place). LacksPlace address p fault) (sym is) lacks

-- what its state is to stand in is not had, and nothing was told or printed
pub was_unplaced : {W E : Type 0} (starts : Startings) (address : List ℕ) (place : Place) (handed : Handed) (fault : CommandFault) (to : Outputs W E) →
    place_of handed.options ≡ place → IsUntouched to.err → IsUntouched to.out → LacksPlace address place fault → IsStarted starts address handed fault to
was_unplaced starts address place handed fault to is told mute lacks = inr (inl (told, mute, lacks_there address place _ fault is lacks))

-- its file is not opened
pub was_unopened : {W E : Type 0} (starts : Startings) (address path : List ℕ) (handed : Handed) (cause : OpeningFault) (fault : CommandFault) (to : Outputs W E) →
    place_of handed.options ≡ at_file path → IsUntouched to.err → IsUntouched to.out → IsOfOpening address path cause fault → IsStarted starts address handed fault to
was_unopened starts address path handed cause fault to is told mute of =
    was_unplaced starts address (at_file path) handed fault to is told mute (inr (cause, of))

-- its list is not had
pub was_unlisted : {W E : Type 0} (starts : Startings) (address : List ℕ) (said : ListSaid) (handed : Handed) (cause : ListFault) (fault : CommandFault) (to : Outputs W E) →
    place_of handed.options ≡ at_list said → IsUntouched to.err → IsUntouched to.out → IsOfList said.prefix cause fault → IsStarted starts address handed fault to
was_unlisted starts address said handed cause fault to is told mute of =
    was_unplaced starts address (at_list said) handed fault to is told mute (cause, of)

-- memory is refused before
pub no_room : {W E : Type 0} (starts : Startings) (address path : List ℕ) (handed : Handed) (fault : CommandFault) (to : Outputs W E) →
    place_of handed.options ≡ at_file path → IsUntouched to.err → IsUntouched to.out → fault ≡ OutOfMemory → IsStarted starts address handed fault to
no_room starts address path handed fault to is told mute of = was_unplaced starts address (at_file path) handed fault to is told mute (inl of)

-- no socket is had
pub was_deaf : {W E : Type 0} (starts : Startings) (address : List ℕ) (handed : Handed) (cause : ListenFault) (fault : CommandFault) (to : Outputs W E) →
    IsUntouched to.err → (fault ≢ CannotWrite → IsUntouched to.out) → IsOfListening address cause fault → IsStarted starts address handed fault to
was_deaf starts address handed cause fault to told mute of = inl (told, mute, cause, of)
