use Rattle.std.proofs.Common.{◌≡◌, ◌∙◌, true, Err, sym, ap}
use Rattle.event_loop.proofs.Names.{promises, not_shortened, keeping, is_long_ago}
use Rattle.change_codec.specs.declared.keeper.ShortenFault.{ShortenFault}
use Rattle.event_loop.proofs.Slicing.{not_tried, went_on, refused}
use Rattle.event_loop.proofs.tools.Tools.shorten_some.Goals as goal

pub returns-then-not-is_long_ago-clause-shorter : goal.returns-then-not-is_long_ago-clause-shorter
returns-then-not-is_long_ago-clause-shorter g c = λ first found past undone h reached.
    not_tried (promises g.N.Sockets g.C.Clocks g.J.Journal (keeping g.K.Keeper) g.H.HookHost) first found past c.args.service.now c.args.self.now h
    (λ all long. sym c.is_long_ago.ensures ∙ c.if-not-is_long_ago.true)

pub returns-in-Some-clause-shorter : goal.returns-in-Some-clause-shorter
returns-in-Some-clause-shorter g c = λ first found past undone h reached.
    let unkept = c.in-Some.ensures.some past.journey reached in
    not_tried (promises g.N.Sockets g.C.Clocks g.J.Journal (keeping g.K.Keeper) g.H.HookHost) first found past c.args.service.now c.args.self.now h
    (λ all long. absurd (unkept.0.more (all unkept.0.kept unkept.0.here)))

pub returns-in-Ok-clause-shorter : goal.returns-in-Ok-clause-shorter
returns-in-Ok-clause-shorter g c = λ first found past undone h reached.
    let all = c.in_default.ensures.none past.journey reached in
    went_on (promises g.N.Sockets g.C.Clocks g.J.Journal (keeping g.K.Keeper) g.H.HookHost) first found past c.args.service.now c.args.self.now h
    c.shorten_some.new.self all (c.in-Ok.ensures.kept past.journey.world.history) c.in-Ok.ensures.basis c.shorten_some.ensures.until c.in-Ok.length c.note_length.new.self undone c.in-Ok.ensures.left
    c.in-Ok.ensures.slice c.in-Ok.ensures.nearer c.in-Ok.ensures.short c.in-Ok.ensures.long c.note_length.ensures.short c.note_length.ensures.long

pub returns-in-Failed-clause-failed : goal.returns-in-Failed-clause-failed
returns-in-Failed-clause-failed g c = λ first found past undone h reached.
    let all = c.in_default.ensures.none past.journey reached in
    let failed = ap (λ (fault : ShortenFault). Err fault) c.in-Failed.is in
    not_shortened c.shorten_some.new.self all undone (c.in-Err.ensures.failed failed past.journey.world.history) c.shorten_some.ensures.meanwhile (c.in-Err.ensures.fails failed)

pub returns-in_default-fault-clause-shorter : goal.returns-in_default-fault-clause-shorter
returns-in_default-fault-clause-shorter g c = λ first found past undone h reached.
    let all = c.in_default.ensures.none past.journey reached in
    let ago : is_long_ago c.args.service.now.refused c.args.service.now.times.steady 60 ≡ true = sym c.is_long_ago.ensures ∙ c.if-not-is_long_ago.false in
    refused (promises g.N.Sockets g.C.Clocks g.J.Journal (keeping g.K.Keeper) g.H.HookHost) first found past c.args.service.now c.args.self.now h
    c.shorten_some.new.self all (c.in-Err.ensures.still c.in_default-fault.not-Failed past.journey.world.history) (c.in-Err.ensures.told c.in_default-fault.not-Failed) c.shorten_some.ensures.until
    c.note_refusal.new.journal c.note_refusal.new.self (c.in-Err.ensures.refused c.in_default-fault.not-Failed) ago (c.in-Err.ensures.size c.in_default-fault.not-Failed) c.note_refusal.ensures.told c.note_refusal.ensures.refused
