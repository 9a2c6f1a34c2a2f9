-- What is wanting where nothing can be done for a request.
use Rattle.std.specs.Prelude.{Option, Some, None}
use Rattle.answers.specs.Names.{Want, StoreRoom, ClientRoom, FreshDraw}
use Rattle.token_store.specs.declared.fault.StoreFault.{StoreFault}
use Rattle.token_store.specs.declared.fault.StoreFault.TheVariants.{Full, ClientFull, DrawTaken}

-- by why codes or tokens are refused: a fresh draw, unless the store or the client's share is full
abbrev pub want_of : Option StoreFault → Want
want_of (Some Full) = StoreRoom
want_of (Some ClientFull) = ClientRoom
want_of (Some DrawTaken) = FreshDraw
want_of None = FreshDraw
