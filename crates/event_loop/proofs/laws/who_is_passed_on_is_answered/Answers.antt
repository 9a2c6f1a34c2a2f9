use Rattle.std.proofs.Common.{◌≡◌, ◌++◌, ℕ, false, List, [], ◌∷◌, Some, ap, append-nil, refl, sym, subst, ◌∙◌, length, arith}
use Rattle.event_loop.proofs.Names.{promises, keeping, untaken, is_closing, IsOccupied}
use Rattle.event_loop.specs.Names.{IsHeld}
use Rattle.event_loop.specs.Answered.{has_ended, read_at, written_at}
use Rattle.http_edge.specs.Schedule.{has_stream_ended, is_closing_phase}
use Rattle.http_edge.specs.declared.lane.Phase.{Phase}
use Rattle.http_edge.specs.declared.lane.Phase.TheVariants.{Open, Closing, Ended, Closed}
use Rattle.heads.specs.Message.{Messages}
use Rattle.event_loop.proofs.Answering.{served_answered}
use Rattle.event_loop.proofs.laws.who_is_passed_on_is_answered.Goals as goal

-- what has no length is empty
nothing_of : (l : List ℕ) → 0 ≡ length l → l ≡ []
nothing_of [] none = cc
nothing_of (n ∷ l) none = absurd (omega (arith, none))

-- one that had no 400 of a faulty head, and whose stream has not ended, sends requests
open_phase : (phase : Phase) → is_closing_phase phase ≡ false → has_stream_ended phase ≡ false → phase ≡ Open
open_phase Open stays unended = refl
open_phase Closing stays unended = absurd (cc)
open_phase Ended stays unended = absurd (cc)
open_phase Closed stays unended = absurd (cc)

pub returns : goal.returns
returns g c = λ first s served k place here between.
    let exchange = (served_answered (promises g.N.Sockets g.C.Clocks g.J.Journal (keeping g.K.Keeper) g.H.HookHost) first s served).exchanges k place here (subst IsOccupied (sym between.is_open) tt) in
    let talk = exchange.talk in
    let none : untaken (Some talk.connection) ≡ [] = subst (λ o. untaken o ≡ []) talk.here between.nothing_owed in
    let held : IsHeld (Some talk.connection) 0 = subst (λ o. IsHeld o 0) talk.here between.nothing_held in (
      record {
        connection = talk.connection;
        here = talk.here;
        all = sym (append-nil (written_at k s.calls)) ∙ (ap (λ l. written_at k s.calls ++ l) (sym none) ∙ talk.front);
      },
      record {
        connection = talk.connection;
        here = talk.here;
        stream = talk.stream ∙ (ap (λ l. talk.connection.stream ++ l) (exchange.whole between.is_open between.stays) ∙ append-nil talk.connection.stream);
        requests =
            let is_open = open_phase talk.connection.phase (ap is_closing (sym talk.here) ∙ between.stays) (ap has_ended (sym talk.here) ∙ exchange.unended between.is_open) in
            let rest = held.0 is_open in
            subst (λ l. Messages talk.connection.stream talk.connection.messages l) (nothing_of rest.0 rest.2) rest.1;
      },
    )
