use Rattle.std.proofs.Common.{rules, ◌≡◌, Option, None, Some, refl, sym, subst}
use Rattle.change_codec.specs.declared.keeper.Length.TheVariants.{Long}
use Rattle.state_keeper.proofs.Names.{IsLong, Known}
use Rattle.state_keeper.proofs.Ended.{Knows, Promised, begins_slice, broken_slice, keeper_with, placed_known, placed_slice, refused_slice}
use Rattle.state_keeper.specs.Slicing.{Fails, IsOnTheWayIf, Slices, SlicesNot}
use Rattle.state_keeper.specs.declared.course.Shortening.{Shortening}
use Rattle.state_keeper.proofs.keeper.StateKeeper.shorten_slice.Goals as goal

pub returns-in_default-clause-slices : goal.returns-in_default-clause-slices
returns-in_default-clause-slices g c =
    let device = g.D.Device in
    let file = c.self.inside.file in
    let fault = c.self.inside.fault in
    let known = c.self.inside.known in
    let s = c.begin.result in
    let promised : Promised device = record { only_now = g.met.D.Device.only_now; only_true = g.met.D.Device.only_true } in
    let is = c.self.invariant (search rules) in
    let knows : Knows device file known None = (is.0, is.1, tt) in
    let long : IsLong file.end known.shortened = c.is_short.ensures.long c.if-is_short.false in
    let none : c.self.inside.shortening ≡ None = c.in_default.is in
    let P : Option Shortening → Type 0 = λ o. Slices device (keeper_with device file fault o known) (keeper_with device file fault (Some s) known) Long in
    rw (← c.self.view_is)
    (subst P (sym none) (begins_slice device promised file fault known (search rules) s knows long c.begin.ensures.front c.begin.ensures.to_go))

pub invariant_of-self-in-Placed : goal.invariant_of-self-in-Placed
invariant_of-self-in-Placed g c = λ none.
    let device = g.D.Device in
    let file = c.self.inside.file in
    let known = c.self.inside.known in
    let s = c.in-Some.shortening in
    let promised : Promised device = record { only_now = g.met.D.Device.only_now; only_true = g.met.D.Device.only_true } in
    let is = c.self.invariant none in
    let knows : Knows device file known (Some s) = (is.0, is.1, subst (λ (o : Option Shortening). IsOnTheWayIf device file known.rules.items o) c.in-Some.is is.2) in
    let long : IsLong file.end known.shortened = c.is_short.ensures.long c.if-is_short.false in
    let now : Known = record { rules = known.rules; shortened = c.in-Placed.size; until = known.until } in
    placed_known device promised file c.self.inside.fault known (search rules) s knows long c.go_over.new.file c.in-Placed.size now c.in-Placed.ensures refl refl refl

pub returns-in-Placed-clause-slices : goal.returns-in-Placed-clause-slices
returns-in-Placed-clause-slices g c =
    let device = g.D.Device in
    let file = c.self.inside.file in
    let fault = c.self.inside.fault in
    let known = c.self.inside.known in
    let s = c.in-Some.shortening in
    let new = c.go_over.new.file in
    let size = c.in-Placed.size in
    let promised : Promised device = record { only_now = g.met.D.Device.only_now; only_true = g.met.D.Device.only_true } in
    let is = c.self.invariant (search rules) in
    let knows : Knows device file known (Some s) = (is.0, is.1, subst (λ (o : Option Shortening). IsOnTheWayIf device file known.rules.items o) c.in-Some.is is.2) in
    let long : IsLong file.end known.shortened = c.is_short.ensures.long c.if-is_short.false in
    let P : Option Shortening → Type 0 = λ o. Slices device (keeper_with device file fault o known) (keeper_with device new fault None (record known { shortened = size })) c.length_of.result in
    rw (← c.self.view_is)
    (subst P (sym c.in-Some.is) (placed_slice device promised file fault known (search rules) s knows long new size c.length_of.result c.in-Placed.ensures c.length_of.ensures.short c.length_of.ensures.long))

pub returns-in-Refused-clause-refused : goal.returns-in-Refused-clause-refused
returns-in-Refused-clause-refused g c =
    let device = g.D.Device in
    let file = c.self.inside.file in
    let fault = c.self.inside.fault in
    let known = c.self.inside.known in
    let s = c.in-Some.shortening in
    let new = c.go_over.new.file in
    let promised : Promised device = record { only_now = g.met.D.Device.only_now; only_true = g.met.D.Device.only_true } in
    let is = c.self.invariant (search rules) in
    let knows : Knows device file known (Some s) = (is.0, is.1, subst (λ (o : Option Shortening). IsOnTheWayIf device file known.rules.items o) c.in-Some.is is.2) in
    let long : IsLong file.end known.shortened = c.is_short.ensures.long c.if-is_short.false in
    let P : Option Shortening → Type 0 = λ o. SlicesNot device (keeper_with device file fault o known) (keeper_with device new fault None known) c.in-Refused.fault in
    rw (← c.self.view_is)
    (subst P (sym c.in-Some.is) (refused_slice device promised file fault known (search rules) s knows long new c.go_over.new.shortening c.in-Refused.fault c.in-Refused.ensures))

pub returns-in-Broken-clause-refused : goal.returns-in-Broken-clause-refused
returns-in-Broken-clause-refused g c =
    let device = g.D.Device in
    let file = c.self.inside.file in
    let fault = c.self.inside.fault in
    let known = c.self.inside.known in
    let s = c.in-Some.shortening in
    let new = c.go_over.new.file in
    let promised : Promised device = record { only_now = g.met.D.Device.only_now; only_true = g.met.D.Device.only_true } in
    let is = c.self.invariant (search rules) in
    let knows : Knows device file known (Some s) = (is.0, is.1, subst (λ (o : Option Shortening). IsOnTheWayIf device file known.rules.items o) c.in-Some.is is.2) in
    let long : IsLong file.end known.shortened = c.is_short.ensures.long c.if-is_short.false in
    let P : Option Shortening → Type 0 = λ o. Fails device (keeper_with device file fault o known) (keeper_with device new (Some c.in-Broken.fault) None known) in
    rw (← c.self.view_is)
    (subst P (sym c.in-Some.is) (broken_slice device promised file fault known (search rules) s knows long new c.in-Broken.fault c.in-Broken.ensures))
