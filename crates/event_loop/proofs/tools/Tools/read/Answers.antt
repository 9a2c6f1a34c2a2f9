use Rattle.std.proofs.Common.{rules, ◌≡◌, ◌∷◌, [], ℕ, List, length, take, ap, refl, subst, sym, ◌∙◌, arith}
use Rattle.event_loop.proofs.Names.{read_limit, HasEnded, led_on, hears, refuses, ends, ends_nothing, finds_nothing, read_place}
use Rattle.event_loop.specs.Reading.{fails}
use Rattle.outside.specs.Calls as call
use Rattle.event_loop.proofs.Acting.{read_done}
use Rattle.event_loop.proofs.Putting.{taken_length}
use Rattle.event_loop.proofs.tools.Tools.read.Goals as goal

pub give_all-requires : goal.give_all-requires
give_all-requires g c = record { stays = λ journey reached. rw c.new-connection.ensures (c.requires.may journey reached).stays }

pub returns-in-Ok-clause-reads : goal.returns-in-Ok-clause-reads
returns-in-Ok-clause-reads g c = λ first found past undone h reached.
    let room : length c.read.new.buffer ≡ read_limit = search rules in
    let bytes : List ℕ = take c.in-Bytes.count c.read.new.buffer in
    let size : length bytes ≡ c.in-Bytes.count = taken_length c.in-Bytes.count c.read.new.buffer c.in-Bytes.ensures.within.1 in
    let given = rw c.new-connection.ensures at (c.in-Ok.ensures.heard past.journey reached) in
    read_done _ c.args.k c.args.place first _ c.requires.here _ (record { calls = call.Read c.args.k read_limit (call.Bytes bytes) ∷ past.calls; journey = given.journey }) refl
    c.requires.readable undone (c.requires.may past.journey reached) h
    (hears bytes c.read.new.self _ c.read-in-Ok.result (omega (arith, size, c.in-Bytes.ensures.within)) (omega (arith, size, c.in-Bytes.ensures.within)) (subst (λ n. g.N.Sockets.does c.args.self.now.sockets (call.Read c.args.k n (call.Bytes bytes)) c.read.new.self) room c.in-Bytes.ensures.done)
    given.given (c.read-in-Ok.ensures ∙ ap (read_place c.args.place) (sym size)))

pub returns-in-Err-clause-reads : goal.returns-in-Err-clause-reads
returns-in-Err-clause-reads g c = λ first found past undone h reached.
    let room : length c.read.new.buffer ≡ read_limit = search rules in
    let bytes : List ℕ = take c.in-Bytes.count c.read.new.buffer in
    let size : length bytes ≡ c.in-Bytes.count = taken_length c.in-Bytes.count c.read.new.buffer c.in-Bytes.ensures.within.1 in
    let some = rw c.new-connection.ensures at (c.in-Err.ensures.unheard past.journey reached) in
    read_done _ c.args.k c.args.place first _ c.requires.here _ (record { calls = call.Read c.args.k read_limit (call.Bytes bytes) ∷ past.calls; journey = some.journey }) refl
    c.requires.readable undone (c.requires.may past.journey reached) h
    (refuses bytes c.read.new.self c.in-Err.fault _ (omega (arith, size, c.in-Bytes.ensures.within)) (omega (arith, size, c.in-Bytes.ensures.within)) (subst (λ n. g.N.Sockets.does c.args.self.now.sockets (call.Read c.args.k n (call.Bytes bytes)) c.read.new.self) room c.in-Bytes.ensures.done) some.given)

pub returns-in-Ok-event-clause-reads : goal.returns-in-Ok-event-clause-reads
returns-in-Ok-event-clause-reads g c = λ first found past undone h reached.
    let room : length c.read.new.buffer ≡ read_limit = search rules in
    let on = rw c.new-connection.ensures at (c.in-Ok-event.ensures.done past.journey reached) in
    read_done _ c.args.k c.args.place first _ c.requires.here _ (record { calls = call.Read c.args.k read_limit call.End ∷ past.calls; journey = led_on past.journey (HasEnded c.args.k ∷ []) on.world }) refl
    c.requires.readable undone (c.requires.may past.journey reached) h
    (ends c.read.new.self c.event.new.self on (subst (λ n. g.N.Sockets.does c.args.self.now.sockets (call.Read c.args.k n call.End) c.read.new.self) room c.in-End.ensures.done))

pub returns-in-Err-event-clause-reads : goal.returns-in-Err-event-clause-reads
returns-in-Err-event-clause-reads g c = λ first found past undone h reached.
    let room : length c.read.new.buffer ≡ read_limit = search rules in
    let refused = rw c.new-connection.ensures at (c.in-Err-event.ensures.refused past.journey reached) in
    rw c.in-Err-event.ensures.err
    (read_done _ c.args.k c.args.place first _ c.requires.here _ (record past { calls = call.Read c.args.k read_limit call.End ∷ past.calls }) refl
    c.requires.readable undone (c.requires.may past.journey reached) h
    (ends_nothing c.read.new.self c.in-Err-event.fault (subst (λ n. g.N.Sockets.does c.args.self.now.sockets (call.Read c.args.k n call.End) c.read.new.self) room c.in-End.ensures.done) refused))

pub returns-in-Later-clause-reads : goal.returns-in-Later-clause-reads
returns-in-Later-clause-reads g c = λ first found past undone h reached.
    let room : length c.read.new.buffer ≡ read_limit = search rules in
    read_done _ c.args.k c.args.place first _ c.requires.here _ (record past { calls = call.Read c.args.k read_limit call.Nothing ∷ past.calls }) refl
    c.requires.readable undone (c.requires.may past.journey reached) h
    (finds_nothing c.read.new.self (subst (λ n. g.N.Sockets.does c.args.self.now.sockets (call.Read c.args.k n call.Nothing) c.read.new.self) room c.in-Later.ensures.done))

pub returns-in-Failed-clause-reads : goal.returns-in-Failed-clause-reads
returns-in-Failed-clause-reads g c = λ first found past undone h reached.
    let room : length c.read.new.buffer ≡ read_limit = search rules in
    read_done _ c.args.k c.args.place first _ c.requires.here _ (record past { calls = call.Read c.args.k read_limit call.Failed ∷ past.calls }) refl
    c.requires.readable undone (c.requires.may past.journey reached) h
    (fails c.read.new.self (subst (λ n. g.N.Sockets.does c.args.self.now.sockets (call.Read c.args.k n call.Failed) c.read.new.self) room c.in-Failed.ensures.done))
