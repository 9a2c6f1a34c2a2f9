-- What is written by the end of a life.
use Rattle.std.proofs.Common.{◌≡◌, ℕ, List, Option, ap, refl}
use Rattle.lifetime.specs.Openings.{IsOpenedBy}
use Rattle.lifetime.specs.declared.life.LifeEnd.{LifeEnd}
use Rattle.lifetime.specs.declared.life.LifeEnd.TheVariants.{ClockAhead, Refused, Stopped, Unopened}
use Rattle.daemon.specs.Listening.{IsToldBy, Tells}
use Rattle.daemon.specs.declared.announcement.Announcement.{Announcement}

pub told_by : {W : Type 0} (contents : W → Option (List ℕ)) (end : LifeEnd) (old new : Announcement W) → IsOpenedBy (Tells contents) old end new →
    IsToldBy contents old.out.now end new.out.now
told_by contents (Stopped fault why) old new opened = (old.address, opened.told refl)
told_by contents Unopened old new opened = tt
told_by contents (Refused fault) old new opened = ap (λ (a : Announcement _). a.out.now) opened
told_by contents (ClockAhead seconds) old new opened = ap (λ (a : Announcement _). a.out.now) opened
