use Rattle.std.proofs.Common.{◌≡◌, ◌<◌, ℕ, true, false, None, arith, subst}
use Rattle.token_store.proofs.Names.{has_owner, is_gt, is_past, IsFromStart, nat_tests, owner_cmp, start_of, IsNextOwned, OwnerKey}
use Rattle.token_store.proofs.Tying.{le_number, squeezed, not_among, after_start, start_after}
use Rattle.token_store.proofs.tables.next_owned.Goals as goal

pub returns-in_err-key : goal.returns-in_err-key
returns-in_err-key c =
    let none : IsNextOwned c.args.owners.now.keys c.args.parties c.args.after None =
    λ n later. (c.range.ensures.in_range _).5 c.in_err-key.ensures.steps.0 (c.args.parties, n) (rw c.start_of-start.ensures (start_after c.args.parties c.args.after n later), _) in
    rw c.from_residual.ensures none

pub returns-then-ne : goal.returns-then-ne
returns-then-ne c = λ n later. not_among _ (λ among.
    let p = c.args.parties in
    let key = c.in_ok-key.key.now in
    let low = (rw c.in_ok-key.ensures.steps at ((c.range.ensures.in_range _).1)).0.0 in
    let high = rw c.in_ok-key.ensures.steps at ((c.range.ensures.in_range _).2 (p, n) (rw c.start_of-start.ensures (start_after p c.args.after n later), _) among) in
    let same = squeezed p c.args.after n key (rw c.start_of-start.ensures at low) high in
    let ne = c.ne.ensures in
    let test = c.if-ne.true in
    grind (arith, nat_tests, same, ne, test))

pub returns : goal.returns
returns c =
    let p = c.args.parties in
    let key = c.in_ok-key.key.now in
    let ne = c.ne.ensures in
    let test = c.if-ne.false in
    let same : (key.0.0 ≡ p.0) × (key.0.1 ≡ p.1) = grind (arith, nat_tests, ne, test) in
    let is : ((key.0.0, key.0.1), key.1) ≡ (p, key.1) = (λ i. ((same.0 i, same.1 i), key.1)) in
    let first = rw c.in_ok-key.ensures.steps at ((c.range.ensures.in_range _).1) in
    let low = after_start p c.args.after key.1 (subst (λ (x : OwnerKey). IsFromStart owner_cmp (start_of p c.args.after) x) is (rw c.start_of-start.ensures at first.0.0)) in
    let member = subst (λ (x : OwnerKey). has_owner c.args.owners.now.keys x ≡ true) is first.1 in
    let none : (n : ℕ) → is_past c.args.after n ≡ false → n < key.1 → has_owner c.args.owners.now.keys (p, n) ≡ false = λ n later lt. not_among _ (λ among.
    let high = rw c.in_ok-key.ensures.steps at ((c.range.ensures.in_range _).2 (p, n) (rw c.start_of-start.ensures (start_after p c.args.after n later), _) among) in
    let over = le_number p key.1 n (subst (λ (x : OwnerKey). is_gt (owner_cmp x (p, n)) ≡ false) is high) in
    omega (arith, over, lt)) in
    (low, member, none)
