use Rattle.std.proofs.Common.{rules, ◌≡◌, true, false, refl}
use Rattle.std.specs.Prelude.{Err, None, Some}
use Rattle.etcd_client.specs.Exchanges.{MayLead, at_first, at_last, at_lease, grant_question, lead_question, leader_question, some_lead, too_late}
use Rattle.etcd_client.proofs.Exchanged.{asks_clear, asks_so}
use Rattle.etcd_client.proofs.leading.lead.Goals as goal

pub returns-in_err-free : goal.returns-in_err-free
returns-in_err-free g c =
    let fault = c.in_err-free.field-0.0 in
    let is : c.from_residual.result ≡ Err fault = search rules in
    rw is (at_first c.in_err-free.ensures)

pub returns-in_default : goal.returns-in_default
returns-in_default g c =
    some_lead (asks_so (leader_question c.args.names.now.prefix.items) c.in_ok-free.free None _ _ c.in_default.is c.in_ok-free.ensures)

pub returns-in_err-granted : goal.returns-in_err-granted
returns-in_err-granted g c =
    let D = g.M.Members in
    let prefix = c.args.names.now.prefix.items in
    let cluster = c.in-Some.cluster in
    let asked = D.exchanges c.cluster_free.new.members in
    let none = asks_so (leader_question prefix) c.in_ok-free.free (Some cluster) (D.exchanges c.args.members.now) asked c.in-Some.is c.in_ok-free.ensures in
    let fault = c.in_err-granted.field-0.0 in
    let is : c.from_residual-in_err-granted.result ≡ Err fault = search rules in
    rw is (at_lease cluster asked none c.in_err-granted.ensures)

pub returns-in_err-reply : goal.returns-in_err-reply
returns-in_err-reply g c =
    let D = g.M.Members in
    let prefix = c.args.names.now.prefix.items in
    let cluster = c.in-Some.cluster in
    let asked = D.exchanges c.cluster_free.new.members in
    let none = asks_so (leader_question prefix) c.in_ok-free.free (Some cluster) (D.exchanges c.args.members.now) asked c.in-Some.is c.in_ok-free.ensures in
    let granted = c.in_ok-granted.granted in
    let behind = D.exchanges c.grant.new.members in
    let may : MayLead prefix c.args.seconds cluster granted (D.exchanges c.args.members.now) behind =
    record { asked = asked; none_leads = none; grants = asks_clear (grant_question c.args.seconds) granted asked behind c.in_ok-granted.ensures } in
    let fault = c.in_err-reply.field-0.0 in
    let is : c.from_residual-in_err-reply.result ≡ Err fault = search rules in
    rw is (at_last cluster behind granted may c.in_err-reply.ensures)

pub returns-then-not-reply : goal.returns-then-not-reply
returns-then-not-reply g c =
    let D = g.M.Members in
    let prefix = c.args.names.now.prefix.items in
    let cluster = c.in-Some.cluster in
    let asked = D.exchanges c.cluster_free.new.members in
    let none = asks_so (leader_question prefix) c.in_ok-free.free (Some cluster) (D.exchanges c.args.members.now) asked c.in-Some.is c.in_ok-free.ensures in
    let granted = c.in_ok-granted.granted in
    let behind = D.exchanges c.grant.new.members in
    let may : MayLead prefix c.args.seconds cluster granted (D.exchanges c.args.members.now) behind =
    record { asked = asked; none_leads = none; grants = asks_clear (grant_question c.args.seconds) granted asked behind c.in_ok-granted.ensures } in
    let reply = c.in_ok-reply.reply in
    let leads = asks_clear (lead_question prefix cluster granted.lease) reply behind (D.exchanges c.take_lead.new.members) c.in_ok-reply.ensures in
    let not : reply.succeeded ≡ false = search rules in
    too_late cluster behind granted reply may leads not

pub returns : goal.returns
returns g c =
    let D = g.M.Members in
    let prefix = c.args.names.now.prefix.items in
    let cluster = c.in-Some.cluster in
    let asked = D.exchanges c.cluster_free.new.members in
    let none = asks_so (leader_question prefix) c.in_ok-free.free (Some cluster) (D.exchanges c.args.members.now) asked c.in-Some.is c.in_ok-free.ensures in
    let granted = c.in_ok-granted.granted in
    let behind = D.exchanges c.grant.new.members in
    let may : MayLead prefix c.args.seconds cluster granted (D.exchanges c.args.members.now) behind =
    record { asked = asked; none_leads = none; grants = asks_clear (grant_question c.args.seconds) granted asked behind c.in_ok-granted.ensures } in
    let reply = c.in_ok-reply.reply in
    let leads = asks_clear (lead_question prefix cluster granted.lease) reply behind (D.exchanges c.take_lead.new.members) c.in_ok-reply.ensures in
    let done : reply.succeeded ≡ true = search rules in
    record { granted = behind; lease = granted; reply = reply; may = may; leads = leads; done = done; is = refl }
