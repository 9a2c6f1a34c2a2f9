use Rattle.std.proofs.Common.{◌∙◌, inl, inr, refl, sym, ap, subst}
use Rattle.etcd_client.specs.Exchanges.{MayAsk, keepalive_question}
use Rattle.etcd_client.specs.declared.client.EtcdCluster.{EtcdCluster}
use Rattle.etcd_client.proofs.client.EtcdCluster.keep_while_reading.Goals as goal

pub returns-in_default-clause-kept : goal.returns-in_default-clause-kept
returns-in_default-clause-kept g c =
    inl refl

pub returns-clause-kept : goal.returns-clause-kept
returns-clause-kept g c =
    let D = g.M.Members in
    let same = ap (λ (x : EtcdCluster _). D.exchanges x.members) c.note_kept.ensures in
    inr (
      c.renew-told.result,
      subst (λ after. MayAsk (keepalive_question c.args.self.now.led.lease) c.renew-told.result (D.exchanges c.args.self.now.members) after) (sym same)
          c.renew-told.ensures.asked,
    )

pub returns-clause-led : goal.returns-clause-led
returns-clause-led g c =
    ap (λ (x : EtcdCluster _). x.led) c.note_kept.ensures ∙ c.renew-told.ensures.led

pub returns-clause-log : goal.returns-clause-log
returns-clause-log g c =
    ap (λ (x : EtcdCluster _). x.log) c.note_kept.ensures ∙ c.renew-told.ensures.log

pub returns-clause-names : goal.returns-clause-names
returns-clause-names g c =
    ap (λ (x : EtcdCluster _). x.names) c.note_kept.ensures ∙ c.renew-told.ensures.names
