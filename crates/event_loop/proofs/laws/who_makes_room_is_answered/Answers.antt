use Rattle.std.proofs.Common.{◌≡◌, ◌++◌, [], Some, ap, append-nil, sym, subst, ◌∙◌}
use Rattle.event_loop.proofs.Names.{promises, keeping, untaken}
use Rattle.event_loop.specs.Answered.{written_at}
use Rattle.event_loop.proofs.Answering.{served_answered}
use Rattle.event_loop.proofs.laws.who_makes_room_is_answered.Goals as goal

pub returns : goal.returns
returns g c = λ first s served k place here behind.
    let talk = ((served_answered (promises g.N.Sockets g.C.Clocks g.J.Journal (keeping g.K.Keeper) g.H.HookHost) first s served).exchanges k place here behind.taken).talk in
    let none : untaken (Some talk.connection) ≡ [] = subst (λ o. untaken o ≡ []) talk.here behind.nothing_owed in
    record {
      connection = talk.connection;
      here = talk.here;
      all = sym (append-nil (written_at k s.calls)) ∙ (ap (λ l. written_at k s.calls ++ l) (sym none) ∙ talk.front);
    }
