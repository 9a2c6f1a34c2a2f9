use Rattle.std.proofs.Common.{◌≡◌, ◌∷◌, length, ap}
use Rattle.etcd_cluster.specs.Calls.{Sent, Called}
use Rattle.etcd_cluster.specs.Stands.{change_fact}
use Rattle.etcd_client.specs.declared.leading.Led.{Led}
use Rattle.etcd_client.proofs.Answered.{may_be_by, moment_by, sent_change, stand_is, time_by}
use Rattle.etcd_client.proofs.cluster.EtcdClusterCluster.send.Goals as goal

pub returns-clause-server : goal.returns-clause-server
returns-clause-server g c =
    let old = c.args.self.now in
    let new = c.send_noted.new.self in
    let before = old.log.log.calls in
    let after = new.log.log.calls in
    let call : Called = Sent (change_fact c.args.change.now) c.send_noted.result in
    let is : after ≡ call ∷ before = c.send_noted.ensures.noted in
    let led : new.led.server ≡ old.led.server = ap (λ (l : Led). l.server) c.send_noted.ensures.led in
    led

pub returns-clause-moment : goal.returns-clause-moment
returns-clause-moment g c =
    let old = c.args.self.now in
    let new = c.send_noted.new.self in
    let before = old.log.log.calls in
    let after = new.log.log.calls in
    let call : Called = Sent (change_fact c.args.change.now) c.send_noted.result in
    let is : after ≡ call ∷ before = c.send_noted.ensures.noted in
    let led : new.led.server ≡ old.led.server = ap (λ (l : Led). l.server) c.send_noted.ensures.led in
    moment_by old.led.server new.led.server before after call led is

pub returns-clause-follows : goal.returns-clause-follows
returns-clause-follows g c =
    let old = c.args.self.now in
    let new = c.send_noted.new.self in
    let before = old.log.log.calls in
    let after = new.log.log.calls in
    let call : Called = Sent (change_fact c.args.change.now) c.send_noted.result in
    let is : after ≡ call ∷ before = c.send_noted.ensures.noted in
    let led : new.led.server ≡ old.led.server = ap (λ (l : Led). l.server) c.send_noted.ensures.led in
    may_be_by old.led.server new.led.server before after call led is

pub returns-clause-stand : goal.returns-clause-stand
returns-clause-stand g c =
    let old = c.args.self.now in
    let new = c.send_noted.new.self in
    let before = old.log.log.calls in
    let after = new.log.log.calls in
    let call : Called = Sent (change_fact c.args.change.now) c.send_noted.result in
    let is : after ≡ call ∷ before = c.send_noted.ensures.noted in
    let led : new.led.server ≡ old.led.server = ap (λ (l : Led). l.server) c.send_noted.ensures.led in
    stand_is old.led.server new.led.server before after call led is

pub returns-clause-time : goal.returns-clause-time
returns-clause-time g c =
    let old = c.args.self.now in
    let new = c.send_noted.new.self in
    let before = old.log.log.calls in
    let after = new.log.log.calls in
    let call : Called = Sent (change_fact c.args.change.now) c.send_noted.result in
    let is : after ≡ call ∷ before = c.send_noted.ensures.noted in
    let led : new.led.server ≡ old.led.server = ap (λ (l : Led). l.server) c.send_noted.ensures.led in
    time_by old.led.server new.led.server before after call led is

pub returns-clause-sent : goal.returns-clause-sent
returns-clause-sent g c =
    let old = c.args.self.now in
    let new = c.send_noted.new.self in
    let before = old.log.log.calls in
    let after = new.log.log.calls in
    let call : Called = Sent (change_fact c.args.change.now) c.send_noted.result in
    let is : after ≡ call ∷ before = c.send_noted.ensures.noted in
    let led : new.led.server ≡ old.led.server = ap (λ (l : Led). l.server) c.send_noted.ensures.led in
    sent_change before after (change_fact c.args.change.now) c.send_noted.result old.led.server (length before) is
