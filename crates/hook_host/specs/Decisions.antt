-- What a host's answer leaves of an ask.
use Rattle.hook_record.specs.declared.Ask.{Ask}
use Rattle.hook_record.specs.declared.Narrowed.{Narrowed}
use Rattle.hook_record.specs.declared.Narrowed.TheVariants.{Allowed, Denied, EmptyScope}
use Rattle.hook_record.specs.Narrowing.{met}

-- what an answer leaves of an ask: nothing that the ask does not hold
abbrev pub met_with : Ask → Narrowed → Narrowed
met_with ask (Allowed scope life) = met ask scope life
met_with ask Denied = Denied
met_with ask EmptyScope = EmptyScope
