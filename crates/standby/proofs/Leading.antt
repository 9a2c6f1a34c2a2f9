-- Who leads, by what was asked.
use Rattle.std.proofs.Common.{◌≡◌, ◌∙◌, ◌<◌, ℕ, List, [], ◌∷◌, inl, inr}
use Rattle.std.specs.Prelude.{Err, Ok, OnOk, Result}
use Rattle.cluster_device.specs.Sources.{Telling}
use Rattle.cluster_file.specs.declared.file.ClusterFile.{ClusterFile}
use Rattle.etcd_client.specs.Exchanges.{Exchange, HasLed, HasStopped, MayAsk, Question, exchange}
use Rattle.etcd_client.specs.Noted.{no_log}
use Rattle.etcd_client.specs.declared.client.EtcdCluster.{EtcdCluster}
use Rattle.etcd_client.specs.declared.leading.Led.{Led}
use Rattle.etcd_client.specs.declared.members.AskFault.{AskFault}
use Rattle.etcd_client.specs.declared.members.AskFault.TheVariants.{Refused}
use Rattle.etcd_client.specs.declared.members.Members.{Ghosts as Members}
use Rattle.standby.specs.Opened.{IsLed, IsOpenedBy, IsSince}

-- what is asked is asked since
pub since_asked : {A B : Type 0} (question : Question A B) (r : Result A AskFault) (old new : List Exchange) → MayAsk question r old new → IsSince old new
since_asked question r old new (inl asks) = (exchange question.path question.body asks.told ∷ [], asks.exchanges)
since_asked question r old new (inr none) = ([], none.1)

-- a wait stops where it was refused with that code
pub stopped_by : (prefix : List ℕ) (seconds code : ℕ) (fault : AskFault) (before asked : List Exchange) → HasStopped prefix seconds fault before asked → fault ≡ Refused code
    → HasStopped prefix seconds (Refused code) before asked
stopped_by prefix seconds code fault before asked stopped is = rw is at stopped

-- A file of who leads is opened.
pub opened_by : {M : Type 0} (members : Members M) (prefix : List ℕ) (seconds : ℕ) (source : Telling (EtcdCluster M)) (file : ClusterFile (EtcdCluster M)) (cluster : EtcdCluster M)
    (led : Led) → IsLed members prefix seconds cluster → cluster.led ≡ led → file.server ≡ led.server → source.file ≡ file → source.told ≡ [] → 0 < file.standing.version
    → IsOpenedBy members prefix seconds source
opened_by members prefix seconds source file cluster led leads is server same told there = record {
  leader = record { cluster = cluster; led = leads; server = rw (same, is) server };
  there = rw same there;
  untold = told;
}

-- A server leads whose lead was told last.
pub led_new : {M : Type 0} (members : Members M) (prefix name : List ℕ) (seconds : ℕ) (cluster : EtcdCluster M) (led : Led) (before asked : List Exchange)
    → HasLed name seconds led before asked → name ≡ prefix → members.exchanges cluster.members ≡ asked → cluster.led ≡ led → cluster.names.prefix.items ≡ name
    → cluster.log.log ≡ no_log → IsLed members prefix seconds cluster
led_new members prefix name seconds cluster led before asked leads of_prefix same is names unused = record {
  asked = asked;
  leads = (before, rw (← of_prefix, is) leads);
  since = ([], same);
  fresh = record { names = names ∙ of_prefix; unused = unused };
}

-- so it is of any result
pub on_ok : {T E P : Type 0} (r : Result T E) → P → OnOk r P
on_ok (Ok x) holds = holds
on_ok (Err fault) holds = tt
