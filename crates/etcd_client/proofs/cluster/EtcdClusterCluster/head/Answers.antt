use Rattle.std.proofs.Common.{◌≡◌, ◌∷◌, ap}
use Rattle.etcd_cluster.specs.Calls.{AskedHead, Called}
use Rattle.etcd_client.specs.declared.leading.Led.{Led}
use Rattle.etcd_client.proofs.Answered.{may_be_by, moment_by, sent_by, stand_is, time_by}
use Rattle.etcd_client.proofs.cluster.EtcdClusterCluster.head.Goals as goal

pub returns-clause-server : goal.returns-clause-server
returns-clause-server g c =
    let old = c.args.self.now in
    let new = c.head_noted.new.self in
    let before = old.log.log.calls in
    let after = new.log.log.calls in
    let call : Called = AskedHead c.head_noted.result in
    let is : after ≡ call ∷ before = c.head_noted.ensures.noted in
    let led : new.led.server ≡ old.led.server = ap (λ (l : Led). l.server) c.head_noted.ensures.led in
    led

pub returns-clause-moment : goal.returns-clause-moment
returns-clause-moment g c =
    let old = c.args.self.now in
    let new = c.head_noted.new.self in
    let before = old.log.log.calls in
    let after = new.log.log.calls in
    let call : Called = AskedHead c.head_noted.result in
    let is : after ≡ call ∷ before = c.head_noted.ensures.noted in
    let led : new.led.server ≡ old.led.server = ap (λ (l : Led). l.server) c.head_noted.ensures.led in
    moment_by old.led.server new.led.server before after call led is

pub returns-clause-follows : goal.returns-clause-follows
returns-clause-follows g c =
    let old = c.args.self.now in
    let new = c.head_noted.new.self in
    let before = old.log.log.calls in
    let after = new.log.log.calls in
    let call : Called = AskedHead c.head_noted.result in
    let is : after ≡ call ∷ before = c.head_noted.ensures.noted in
    let led : new.led.server ≡ old.led.server = ap (λ (l : Led). l.server) c.head_noted.ensures.led in
    may_be_by old.led.server new.led.server before after call led is

pub returns-clause-stand : goal.returns-clause-stand
returns-clause-stand g c =
    let old = c.args.self.now in
    let new = c.head_noted.new.self in
    let before = old.log.log.calls in
    let after = new.log.log.calls in
    let call : Called = AskedHead c.head_noted.result in
    let is : after ≡ call ∷ before = c.head_noted.ensures.noted in
    let led : new.led.server ≡ old.led.server = ap (λ (l : Led). l.server) c.head_noted.ensures.led in
    stand_is old.led.server new.led.server before after call led is

pub returns-clause-time : goal.returns-clause-time
returns-clause-time g c =
    let old = c.args.self.now in
    let new = c.head_noted.new.self in
    let before = old.log.log.calls in
    let after = new.log.log.calls in
    let call : Called = AskedHead c.head_noted.result in
    let is : after ≡ call ∷ before = c.head_noted.ensures.noted in
    let led : new.led.server ≡ old.led.server = ap (λ (l : Led). l.server) c.head_noted.ensures.led in
    time_by old.led.server new.led.server before after call led is

pub returns-clause-sent : goal.returns-clause-sent
returns-clause-sent g c =
    let old = c.args.self.now in
    let new = c.head_noted.new.self in
    let before = old.log.log.calls in
    let after = new.log.log.calls in
    let call : Called = AskedHead c.head_noted.result in
    let is : after ≡ call ∷ before = c.head_noted.ensures.noted in
    let led : new.led.server ≡ old.led.server = ap (λ (l : Led). l.server) c.head_noted.ensures.led in
    sent_by old.led.server new.led.server before after call led is
