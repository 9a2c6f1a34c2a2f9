use Rattle.std.proofs.Common.{◌∙◌, inl, inr, refl, sym, ap, subst, arith}
use Rattle.std.specs.Prelude.{Ok}
use Rattle.etcd_client.specs.Exchanges.{MayAsk, keepalive_question, kept_by}
use Rattle.etcd_client.specs.declared.call_log.CallLog.{CallLog}
use Rattle.etcd_client.specs.declared.client.EtcdCluster.{EtcdCluster}
use Rattle.etcd_client.proofs.client.EtcdCluster.keep_noted.Goals as goal

pub returns-then-now-due-clause-kept : goal.returns-then-now-due-clause-kept
returns-then-now-due-clause-kept g c =
    let due = c.due_at-due.ensures in
    let test = c.if-now-due.true in
    inl (omega (arith, due, test), ap (λ n. Ok n) due, refl)

pub returns-clause-noted : goal.returns-clause-noted
returns-clause-noted g c =
    ap (λ (x : EtcdCluster _). x.log.log.calls) c.note_kept.ensures ∙ ap (λ (l : CallLog). l.log.calls) c.renew-told.ensures.log ∙ c.kept.ensures

pub returns-clause-kept : goal.returns-clause-kept
returns-clause-kept g c =
    let D = g.M.Members in
    let due = c.due_at-due.ensures in
    let test = c.if-now-due.false in
    let same = ap (λ (x : EtcdCluster _). D.exchanges x.members) c.note_kept.ensures in
    inr (
      omega (arith, due, test),
      (
        c.renew-told.result,
        subst (λ after. MayAsk (keepalive_question c.args.self.now.led.lease) c.renew-told.result (D.exchanges c.args.self.now.members) after) (sym same) c.renew-told.ensures.asked,
        c.kept_of-kept.ensures ∙ ap (λ led. kept_by led c.args.now c.renew-told.result) c.renew-told.ensures.led,
      ),
    )

pub returns-clause-led : goal.returns-clause-led
returns-clause-led g c =
    ap (λ (x : EtcdCluster _). x.led) c.note_kept.ensures ∙ c.renew-told.ensures.led

pub returns-clause-names : goal.returns-clause-names
returns-clause-names g c =
    ap (λ (x : EtcdCluster _). x.names) c.note_kept.ensures ∙ c.renew-told.ensures.names
