-- A registry beside the one that serves.
use Rattle.change_codec.specs.Rules.{RulesFact}
use Rattle.state_file.specs.Comparing.{AreNarrower}
use Rattle.state_file.specs.declared.fault.StateFault.{StateFault}
use Rattle.state_file.specs.declared.fault.StateFault.TheVariants.{FormerOwner, ClientNarrowed, LifeNarrowed}

-- it allows less, and keeps the names: then what goes beyond it ends
abbrev pub IsNarrowing : StateFault → Type 0
IsNarrowing FormerOwner = Unit {0}
IsNarrowing (ClientNarrowed name) = Unit {0}
IsNarrowing LifeNarrowed = Unit {0}
IsNarrowing fault = ⊥

abbrev pub MayBeNarrowed : RulesFact → RulesFact → Type 0
MayBeNarrowed told now = (fault : StateFault) × IsNarrowing fault × AreNarrower told now fault
