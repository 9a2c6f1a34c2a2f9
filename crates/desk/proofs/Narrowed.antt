-- A registry beside the one that serves.
use Rattle.std.proofs.Common.{◌≡◌, inr, Result, Ok, Err, sym, subst, ◌⊎◌}
use Rattle.std.specs.Prelude.{OnOk, IfErr}
use Rattle.change_codec.specs.Rules.{RulesFact}
use Rattle.state_file.specs.Comparing.{AreAsWide, AreNarrower}
use Rattle.state_file.specs.declared.fault.StateFault.{StateFault}
use Rattle.desk.specs.Beside.{IsNarrowing, MayBeNarrowed}

-- what holds of rules holds of these
pub wide_of : (t told n now : RulesFact) → t ≡ told → n ≡ now → AreAsWide t n → AreAsWide told now
wide_of t told n now one other wide = subst (λ (x : RulesFact). AreAsWide x now) one (subst (λ (y : RulesFact). AreAsWide t y) other wide)

pub narrow_of : (t told n now : RulesFact) (fault : StateFault) → t ≡ told → n ≡ now → AreNarrower t n fault → AreNarrower told now fault
narrow_of t told n now fault one other narrow = subst (λ (x : RulesFact). AreNarrower x now fault) one (subst (λ (y : RulesFact). AreNarrower t y fault) other narrow)

pub kept_if : {A : Type 0} (told now : RulesFact) (fault : StateFault) (r : Result A StateFault) → AreNarrower told now fault → OnOk r (IsNarrowing fault) →
    OnOk r (AreAsWide told now ⊎ MayBeNarrowed told now)
kept_if told now fault (Ok u) narrow is = inr (fault, is, narrow)
kept_if told now fault (Err other) narrow is = tt

pub refused_if : {A : Type 0} (told now : RulesFact) (fault : StateFault) (r : Result A StateFault) → AreNarrower told now fault → IfErr r (λ other. other ≡ fault) → IfErr r (AreNarrower told now)
refused_if told now fault (Ok u) narrow is = tt
refused_if told now fault (Err other) narrow is = subst (AreNarrower told now) (sym is) narrow
