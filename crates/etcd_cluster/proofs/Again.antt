-- Asking again: how often so far.
use Rattle.std.proofs.Common.{◌≡◌, ◌∙◌, ◌<◌, ◌+◌, ◌-◌, ℕ, suc, List, ◌∷◌, refl, ap, arith}
use Rattle.std.specs.Prelude.{Result, Ok, Err}
use Rattle.etcd_cluster.specs.Again.{AsksAgain, again}
use Rattle.etcd_cluster.specs.Calls.{Called}
use Rattle.etcd_cluster.specs.declared.change.CallFault.{CallFault}
use Rattle.etcd_cluster.specs.declared.change.CallFault.TheVariants.{Refused, Unclear}

-- nothing was told so far: so often it may be asked yet
pub record HasAsked (more left : ℕ) (call : Called) (old new : List Called) : Type 0 where
  pub times : ℕ
  pub few : times + left ≡ more
  pub calls : new ≡ again times call old

pub none_asked : (more : ℕ) (call : Called) (calls : List Called) → HasAsked more more call calls calls
none_asked more call calls = record { times = 0; few = omega arith; calls = refl }

pub one_more : (more left : ℕ) (call : Called) (old at new : List Called) → HasAsked more left call old at → 0 < left → new ≡ call ∷ at
    → HasAsked more (left - 1) call old new
one_more more left call old at new was some is = record {
  times = suc was.times;
  few = (let few = was.few in omega (arith, few, some));
  calls = is ∙ ap (λ (calls : List Called). call ∷ calls) was.calls;
}

pub last_asked : {A : Type 0} (more left : ℕ) (call : Result A CallFault → Called) (told : Result A CallFault) (old at new : List Called)
    → HasAsked more left (call (Err Unclear)) old at → (told ≡ Err Unclear → left ≡ 0) → new ≡ call told ∷ at → AsksAgain more call told old new
last_asked more left call told old at new was all is = record {
  times = was.times;
  few = (let few = was.few in omega (arith, few));
  all = λ unclear. (let few = was.few in let none = all unclear in omega (arith, few, none));
  calls = is ∙ ap (λ (calls : List Called). call told ∷ calls) was.calls;
}

-- what was told, and what was refused, is not unclear
pub told_not : {A : Type 0} {P : Type 0} {told : A} → ◌≡◌ {A = Result A CallFault} (Ok told) (Err Unclear) → P
told_not is = absurd cc

pub refused_not : {A : Type 0} {P : Type 0} → ◌≡◌ {A = Result A CallFault} (Err Refused) (Err Unclear) → P
refused_not is = absurd cc
