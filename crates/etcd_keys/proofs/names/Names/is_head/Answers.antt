use Rattle.std.proofs.Common.{rules, ◌≡◌, ◌-◌, ◌∙◌, ℕ, List, drop, length, length-drop, nat_eq, take, true, false, ap, arith}
use Rattle.std.proofs.lemmas.List.{take_all}
use Rattle.std.specs.List.{starts_with}
use Rattle.std.specs.Prelude.{bytes_eq, codes}
use Rattle.etcd_keys.proofs.Apart.{begins_not, rest_is}
use Rattle.etcd_keys.proofs.names.Names.is_head.Goals as goal

pub returns-then-not-starts_with : goal.returns-then-not-starts_with
returns-then-not-starts_with c =
    let is : starts_with nat_eq c.args.key.now c.args.self.now.prefix.items ≡ false = search rules in
    begins_not c.args.key.now c.args.self.now.prefix.items (codes "/head") is

pub returns : goal.returns
returns c =
    let front = c.args.self.now.prefix.items in
    let key = c.args.key.now in
    let n = c.len.result in
    let is : starts_with nat_eq key front ≡ true = search rules in
    let told : c.is_of_head.result ≡ bytes_eq (take (length key - n) (drop n key)) (codes "/head") = search rules in
    let size : n ≡ length front = search rules in
    let all : take (length key - n) (drop n key) ≡ drop n key = take_all (length key - n) (drop n key) (let long = length-drop n key in omega (arith, long)) in
    told ∙ ap (λ (l : List ℕ). bytes_eq l (codes "/head")) (all ∙ ap (λ (m : ℕ). drop m key) size) ∙ rest_is key front (codes "/head") is
