use Rattle.std.proofs.Common.{◌≡◌, ◌++◌, ◌∙◌, ℕ, List, ap, codes, flat_map}
use Rattle.json.specs.Token.{Token}
use Rattle.etcd_cluster.specs.Stands.{change_fact}
use Rattle.etcd_json.specs.Requests.{PutAt, operation_tokens}
use Rattle.etcd_client.specs.Asked.{write_operations}
use Rattle.etcd_keys.specs.Keys.{head_bytes, head_key}
use Rattle.etcd_client.proofs.Listed.{listed, on_then}
use Rattle.etcd_client.proofs.asked.write_success.Goals as goal

pub returns : goal.returns
returns c =
    let prefix = c.args.names.now.prefix.items in
    let change = change_fact c.args.change.now in
    let before = c.args.paper.now.json.tokens in
    let begun = c.begin_list.new.self.json.tokens in
    let first = c.put_one.new.paper.json.tokens in
    let second = c.write_all.new.paper.json.tokens in
    let head : List Token = operation_tokens (PutAt (head_key prefix) (head_bytes c.args.cluster change.head)) in
    let one : first ≡ begun ++ head =
    c.in_ok-put_one.ensures
    ∙ ap (λ (k : List ℕ). begun ++ operation_tokens (PutAt k c.deref-2.result.now)) (c.deref.ensures.value ∙ c.in_ok-head.ensures)
    ∙ ap (λ (v : List ℕ). begun ++ operation_tokens (PutAt (head_key prefix) v)) (c.deref-2.ensures.value ∙ c.in_ok-value.ensures) in
    on_then c.end_list.result _ _ c.end_list.ensures
    (λ ended. listed (codes "success") before begun first second c.end_list.new.self.json.tokens head
    (flat_map operation_tokens (flat_map (write_operations prefix) change.writes)) c.in_ok-begin_list.ensures one c.in_ok-write_all.ensures ended)
