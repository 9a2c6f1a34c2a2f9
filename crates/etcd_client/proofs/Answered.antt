-- One call more, as it is promised of a cluster.
use Rattle.std.proofs.Common.{◌≡◌, ◌≤◌, ℕ, List, ◌∷◌, length, sym, ap, subst, arith}
use Rattle.std.specs.Prelude.{Result}
use Rattle.etcd_cluster.specs.Calls.{BeenSince, Called, MayBe, Sent, WasSent, stand_by}
use Rattle.etcd_cluster.specs.Stands.{ChangeFact}
use Rattle.etcd_cluster.specs.Worlds.{Passes, World, sent_then, side}
use Rattle.etcd_cluster.specs.declared.change.Answer.{Answer}
use Rattle.etcd_cluster.specs.declared.change.CallFault.{CallFault}
use Rattle.etcd_cluster.specs.CallsLaws.{sent_of, time_of}

module _ (server server' : ℕ) (calls calls' : List Called) (call : Called) (led : server' ≡ server) (is : calls' ≡ call ∷ calls) where
  pub moment_by : length calls ≤ length calls'
  moment_by = let long = ap (λ (l : List Called). length l) is in omega (arith, long)

  pub may_be_by : (w : World) → MayBe server' calls' w → MayBe server (call ∷ calls) w
  may_be_by w may = subst (λ (s : ℕ). MayBe s (call ∷ calls) w) led (subst (λ (l : List Called). MayBe server' l w) is may)

  pub stand_is : stand_by calls' ≡ stand_by (call ∷ calls)
  stand_is = ap stand_by is

  pub sent_by : (one : ChangeFact) → WasSent calls' one → WasSent (call ∷ calls) one
  sent_by one was = subst (λ (l : List Called). WasSent l one) is was

  pub time_by : Passes (length calls) (BeenSince server calls) (BeenSince server' calls') (MayBe server' calls')
  time_by =
      subst (λ (s : ℕ). Passes (length calls) (BeenSince server calls) (BeenSince s calls') (MayBe s calls')) (sym led)
      (subst (λ (l : List Called). Passes (length calls) (BeenSince server calls) (BeenSince server l) (MayBe server l)) (sym is) (time_of server call calls))

-- what was sent, by a change more
pub sent_change : (calls calls' : List Called) (change : ChangeFact) (told : Result Answer CallFault) (server moment : ℕ) → calls' ≡ Sent change told ∷ calls
    → (one : ChangeFact) → WasSent calls' one → (sent_then change told (side server moment (WasSent calls))).sent one
sent_change calls calls' change told server moment is one was =
    sent_of change told server moment (WasSent calls) one (subst (λ (l : List Called). WasSent l one) is was)
