use Rattle.std.proofs.Common.{◌≡◌, ◌++◌, ◌∙◌, ℕ, List, [], ap, codes}
use Rattle.json.specs.Token.{Token}
use Rattle.etcd_json.specs.Requests.{compare_tokens}
use Rattle.etcd_json.specs.declared.request.Target.TheVariants.{Created, Written}
use Rattle.etcd_client.specs.Asked.{compares}
use Rattle.etcd_keys.specs.Keys.{head_key, leader_key}
use Rattle.etcd_client.proofs.Listed.{listed, more_none, on_then}
use Rattle.etcd_client.proofs.asked.write_compares.Goals as goal

pub returns : goal.returns
returns c =
    let prefix = c.args.names.now.prefix.items in
    let before = c.args.paper.now.json.tokens in
    let begun = c.begin_list.new.self.json.tokens in
    let first = c.compare.new.self.json.tokens in
    let second = c.compare-2.new.self.json.tokens in
    let head : List Token = compare_tokens (compares (head_key prefix) Written c.args.after) in
    let leader : List Token = compare_tokens (compares (leader_key prefix) Created c.args.server) in
    let one : first ≡ begun ++ head =
    c.in_ok-compare.ensures ∙ ap (λ (k : List ℕ). begun ++ compare_tokens (compares k Written c.args.after)) (c.deref.ensures.value ∙ c.in_ok-head.ensures) in
    let two : second ≡ first ++ leader =
    c.in_ok-compare-2.ensures ∙ ap (λ (k : List ℕ). first ++ compare_tokens (compares k Created c.args.server)) (c.deref-2.ensures.value ∙ c.in_ok-leader.ensures) in
    on_then c.end_list.result _ _ c.end_list.ensures
    (λ ended. listed (codes "compare") before begun first second c.end_list.new.self.json.tokens head (leader ++ []) c.in_ok-begin_list.ensures one
    (more_none first second leader two) ended)
