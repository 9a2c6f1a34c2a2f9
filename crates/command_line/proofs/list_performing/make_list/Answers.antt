use Rattle.std.proofs.Common.{◌∙◌, inl, refl}
use Rattle.command_line.proofs.Outcomes.{map_ok}
use Rattle.standby.specs.declared.fault.ListFault.TheVariants.{Memory}
use Rattle.command_line.proofs.list_performing.make_list.Goals as goal

pub returns-in-Ok-clause-put : goal.returns-in-Ok-clause-put
returns-in-Ok-clause-put g c =
    map_ok _ _ c.list_put.result (λ list put. (c.as_bytes.result.now, (c.as_bytes.ensures.batches ∙ c.in-Ok.ensures, c.as_bytes.ensures.readable), put)) c.list_put.ensures.put

pub returns-in-Err-clause-refused : goal.returns-in-Err-clause-refused
returns-in-Err-clause-refused g c = (Memory, inl (inl (inl refl)), refl)
