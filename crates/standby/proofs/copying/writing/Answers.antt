use Rattle.std.proofs.Common.{refl}
use Rattle.standby.proofs.Leading.{led_new}
use Rattle.standby.proofs.copying.writing.Goals as goal

pub returns-clause-led : goal.returns-clause-led
returns-clause-led g c =
    let same = c.new-2.ensures.members in
    let names = c.new-2.ensures.names in (
      led_new g.M.Members c.args.terms.prefix.now c.in_ok-names.names.prefix.items c.args.terms.seconds c.new-2.result c.in-Some.led _ _
          (rw c.in-Some.is at c.in_ok-led.ensures) c.in_ok-names.ensures (rw same refl) c.new-2.ensures.led (rw names refl) c.new-2.ensures.unused,
      c.new-2.ensures.led,
    )
