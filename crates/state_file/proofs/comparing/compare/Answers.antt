use Rattle.std.proofs.Common.{◌≡◌, ℕ, Bool, true, false, Option, None, Some, subst, sym, ◌∙◌, ap, inl, inr, arith}
use Rattle.rules_codec.specs.Facts.{rules_fact}
use Rattle.rules_beside.specs.Beside.{beside, first_moved_owner, is_former}
use Rattle.rules_beside.specs.declared.owners.OwnersBeside.{OwnersBeside}
use Rattle.state_file.proofs.comparing.compare.Goals as goal
use Rattle.state_file.proofs.comparing.compare.Goals.{then-now-told-via-then-now-told, then-now-told-via-else-now-told+then-now-told-2}

pub returns-then-now-told-clause-refused : goal.returns-then-now-told-clause-refused
returns-then-now-told-clause-refused c =
    let is = c.in_ok-owners.ensures in
    let none = c.has_former.ensures.none c.if-has_former.false in
    let scopes = c.moved_scope.ensures in
    let owners = c.first_moved.ensures in
    let clients = c.moved_client.ensures in
    let narrowed = c.narrowed_client.ensures in (
      (
        (
          ((grind (arith, scopes, c.in_default), grind (arith, owners, is, c.in_default-first_moved)), grind (arith, clients, c.in_default-moved_client)),
          subst (λ (o : OwnersBeside). (number : ℕ) → is_former o number ≡ false) is none,
        ),
        grind (arith, narrowed, c.in_default-narrowed_client),
      ),
      elim c.then-now-told.branch [ then-now-told-via-then-now-told w ↦ inl (grind (arith, w.if-now-told)) | then-now-told-via-else-now-told+then-now-told-2 w ↦ inr (grind (arith, w.if-now-told-2)) ],
    )

pub returns-clause-wide : goal.returns-clause-wide
returns-clause-wide c =
    let is = c.in_ok-owners.ensures in
    let none = c.has_former.ensures.none c.if-has_former.false in
    let scopes = c.moved_scope.ensures in
    let owners = c.first_moved.ensures in
    let clients = c.moved_client.ensures in
    let narrowed = c.narrowed_client.ensures in (
      (
        (
          ((grind (arith, scopes, c.in_default), grind (arith, owners, is, c.in_default-first_moved)), grind (arith, clients, c.in_default-moved_client)),
          subst (λ (o : OwnersBeside). (number : ℕ) → is_former o number ≡ false) is none,
        ),
        grind (arith, narrowed, c.in_default-narrowed_client),
      ),
      grind (arith, c.if-now-told.false),
      grind (arith, c.if-now-told-2.false),
    )
