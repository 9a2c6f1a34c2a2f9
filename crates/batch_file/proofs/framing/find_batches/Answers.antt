use Rattle.std.proofs.Common.{◌≡◌, inr, List, ℕ, ◌-◌, ◌∙◌, length, take, drop, sym, subst, arith, rules, Vec, length-drop}
use Rattle.std.proofs.lemmas.List.{take_all, length-map}
use Rattle.std.specs.declared.alloc.Global.{Global}
use Rattle.batch_file.specs.Frames.{lists, IsNoFrame, IsTorn}
use Rattle.batch_file.proofs.Walking.{front_is_right}
use Rattle.batch_file.proofs.framing.find_batches.Goals as goal

pub returns-then-not-is_end-clause-refused : goal.returns-then-not-is_end-clause-refused
returns-then-not-is_end-clause-refused c =
    let bytes = c.args.bytes.now in
    let found = c.in_ok-front.front in
    let all : take (length bytes - found.end) (drop found.end bytes) ≡ drop found.end bytes = take_all _ _ (omega (arith, length-drop found.end bytes)) in
    let long : c.len.result ≡ length found.batches.items = search rules in
    inr (record {
      batches = lists found.batches.items;
      front = front_is_right _ _ _ bytes c.in_ok-front.ensures.front;
      count = length-map found.batches.items (λ (v : Vec ℕ Global). v.items) ∙ sym long;
      no_end = λ ends. c.is_end.ensures.no c.if-not-is_end.true (subst (λ (l : List ℕ). IsTorn found.last l) (sym all) ends);
    })

pub returns-clause-found : goal.returns-clause-found
returns-clause-found c =
    let bytes = c.args.bytes.now in
    let found = c.in_ok-front.front in
    let all : take (length bytes - found.end) (drop found.end bytes) ≡ drop found.end bytes = take_all _ _ (omega (arith, length-drop found.end bytes)) in
    (c.in_ok-front.ensures.front.0, subst (λ (l : List ℕ). IsNoFrame found.last l → IsTorn found.last l) all (c.is_end.ensures.yes c.if-not-is_end.false) c.in_ok-front.ensures.front.1)
