use Rattle.std.proofs.Common.{◌≡◌, ◌∙◌, ◌∷◌, ap}
use Rattle.etcd_cluster.specs.Calls.{AskedPieces, Called}
use Rattle.etcd_cluster.specs.Worlds.{seen_pieces}
use Rattle.etcd_client.specs.declared.call_log.CallLog.{CallLog}
use Rattle.etcd_client.specs.declared.leading.Led.{Led}
use Rattle.etcd_client.proofs.Answered.{may_be_by, moment_by, sent_by, stand_is, time_by}
use Rattle.etcd_client.proofs.cluster.EtcdClusterCluster.look.Goals as goal

pub returns-clause-server : goal.returns-clause-server
returns-clause-server g c =
    let old = c.args.self.now in
    let new = c.pieces_noted.new.self in
    let before = old.log.log.calls in
    let after = new.log.log.calls in
    let call : Called = AskedPieces c.args.wanted (seen_pieces c.pieces_noted.result) in
    let mid = c.keep_while_reading.new.self in
    let kept : mid.log ≡ old.log = c.keep_while_reading.ensures.log in
    let is : after ≡ call ∷ before = c.pieces_noted.ensures.noted ∙ ap (λ (l : CallLog). call ∷ l.log.calls) kept in
    let held : mid.led ≡ old.led = c.keep_while_reading.ensures.led in
    let led : new.led.server ≡ old.led.server = ap (λ (l : Led). l.server) (c.pieces_noted.ensures.led ∙ held) in
    led

pub returns-clause-moment : goal.returns-clause-moment
returns-clause-moment g c =
    let old = c.args.self.now in
    let new = c.pieces_noted.new.self in
    let before = old.log.log.calls in
    let after = new.log.log.calls in
    let call : Called = AskedPieces c.args.wanted (seen_pieces c.pieces_noted.result) in
    let mid = c.keep_while_reading.new.self in
    let kept : mid.log ≡ old.log = c.keep_while_reading.ensures.log in
    let is : after ≡ call ∷ before = c.pieces_noted.ensures.noted ∙ ap (λ (l : CallLog). call ∷ l.log.calls) kept in
    let held : mid.led ≡ old.led = c.keep_while_reading.ensures.led in
    let led : new.led.server ≡ old.led.server = ap (λ (l : Led). l.server) (c.pieces_noted.ensures.led ∙ held) in
    moment_by old.led.server new.led.server before after call led is

pub returns-clause-follows : goal.returns-clause-follows
returns-clause-follows g c =
    let old = c.args.self.now in
    let new = c.pieces_noted.new.self in
    let before = old.log.log.calls in
    let after = new.log.log.calls in
    let call : Called = AskedPieces c.args.wanted (seen_pieces c.pieces_noted.result) in
    let mid = c.keep_while_reading.new.self in
    let kept : mid.log ≡ old.log = c.keep_while_reading.ensures.log in
    let is : after ≡ call ∷ before = c.pieces_noted.ensures.noted ∙ ap (λ (l : CallLog). call ∷ l.log.calls) kept in
    let held : mid.led ≡ old.led = c.keep_while_reading.ensures.led in
    let led : new.led.server ≡ old.led.server = ap (λ (l : Led). l.server) (c.pieces_noted.ensures.led ∙ held) in
    λ w may. (may_be_by old.led.server new.led.server before after call led is w may).0

pub returns-clause-stand : goal.returns-clause-stand
returns-clause-stand g c =
    let old = c.args.self.now in
    let new = c.pieces_noted.new.self in
    let before = old.log.log.calls in
    let after = new.log.log.calls in
    let call : Called = AskedPieces c.args.wanted (seen_pieces c.pieces_noted.result) in
    let mid = c.keep_while_reading.new.self in
    let kept : mid.log ≡ old.log = c.keep_while_reading.ensures.log in
    let is : after ≡ call ∷ before = c.pieces_noted.ensures.noted ∙ ap (λ (l : CallLog). call ∷ l.log.calls) kept in
    let held : mid.led ≡ old.led = c.keep_while_reading.ensures.led in
    let led : new.led.server ≡ old.led.server = ap (λ (l : Led). l.server) (c.pieces_noted.ensures.led ∙ held) in
    stand_is old.led.server new.led.server before after call led is

pub returns-clause-time : goal.returns-clause-time
returns-clause-time g c =
    let old = c.args.self.now in
    let new = c.pieces_noted.new.self in
    let before = old.log.log.calls in
    let after = new.log.log.calls in
    let call : Called = AskedPieces c.args.wanted (seen_pieces c.pieces_noted.result) in
    let mid = c.keep_while_reading.new.self in
    let kept : mid.log ≡ old.log = c.keep_while_reading.ensures.log in
    let is : after ≡ call ∷ before = c.pieces_noted.ensures.noted ∙ ap (λ (l : CallLog). call ∷ l.log.calls) kept in
    let held : mid.led ≡ old.led = c.keep_while_reading.ensures.led in
    let led : new.led.server ≡ old.led.server = ap (λ (l : Led). l.server) (c.pieces_noted.ensures.led ∙ held) in
    time_by old.led.server new.led.server before after call led is

pub returns-clause-sent : goal.returns-clause-sent
returns-clause-sent g c =
    let old = c.args.self.now in
    let new = c.pieces_noted.new.self in
    let before = old.log.log.calls in
    let after = new.log.log.calls in
    let call : Called = AskedPieces c.args.wanted (seen_pieces c.pieces_noted.result) in
    let mid = c.keep_while_reading.new.self in
    let kept : mid.log ≡ old.log = c.keep_while_reading.ensures.log in
    let is : after ≡ call ∷ before = c.pieces_noted.ensures.noted ∙ ap (λ (l : CallLog). call ∷ l.log.calls) kept in
    let held : mid.led ≡ old.led = c.keep_while_reading.ensures.led in
    let led : new.led.server ≡ old.led.server = ap (λ (l : Led). l.server) (c.pieces_noted.ensures.led ∙ held) in
    sent_by old.led.server new.led.server before after call led is
