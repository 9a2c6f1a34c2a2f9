use Rattle.std.proofs.Common.{◌≡◌, ◌⊎◌, inl, inr}
use Rattle.state_file.proofs.Names.{outset_of, RefusesResume}
use Rattle.state_file.specs.Going.{IsResumed}
use Rattle.state_file.specs.Making.{StopsReading}
use Rattle.state_file.specs.declared.resuming.Resumed.{Resumed}
use Rattle.state_file.specs.declared.resuming.Unprepared.{Unprepared}
use Rattle.state_file.proofs.Resumed.{if_is_err, if_is_ok, on_is_ok}
use Rattle.state_file.proofs.preparing.prepare.Goals as goal

pub returns-clause-makes : goal.returns-clause-makes
returns-clause-makes g c =
    let told = g.S.ByteSource.told c.resume-source.result.source in
    let outset = outset_of c.args.registry c.args.host in
    let is : IsResumed g.H.HookHost told outset c.in-Ok.resumed =
    if_is_ok c.resume-source.result.resumed (λ (resumed : Resumed g.row.H.Denot). IsResumed g.H.HookHost told outset resumed) c.in-Ok.resumed c.in-Ok.is c.resume-source.ensures.resumed in
    c.in-Ok-prepare.ensures.makes told outset is

pub returns-in-Err-clause-refused : goal.returns-in-Err-clause-refused
returns-in-Err-clause-refused g c =
    let source = c.resume-source.result.source in
    let told = g.S.ByteSource.told source in
    let outset = outset_of c.args.registry c.args.host in
    let either = if_is_err c.resume-source.result.resumed
    (λ (not : Unprepared). StopsReading not.fault ⊎ (g.S.ByteSource.is_over source × RefusesResume g.H.HookHost outset told not.fault)) c.in-Err.unprepared c.in-Err.is c.resume-source.ensures.refused in
    elim either [
      | inl stops ↦ inl stops
      | inr refused ↦ inr (refused.0, inl refused.1)
    ]

pub returns-in-Err-prepare-clause-refused : goal.returns-in-Err-prepare-clause-refused
returns-in-Err-prepare-clause-refused g c =
    let source = c.resume-source.result.source in
    let told = g.S.ByteSource.told source in
    let outset = outset_of c.args.registry c.args.host in
    let is : IsResumed g.H.HookHost told outset c.in-Ok.resumed =
    if_is_ok c.resume-source.result.resumed (λ (resumed : Resumed g.row.H.Denot). IsResumed g.H.HookHost told outset resumed) c.in-Ok.resumed c.in-Ok.is c.resume-source.ensures.resumed in
    inr (on_is_ok c.resume-source.result.resumed (g.S.ByteSource.is_over source) c.in-Ok.resumed c.in-Ok.is c.resume-source.ensures.over, c.in-Err-prepare.ensures.refused told outset is)
