use Rattle.std.proofs.Common.{rules, ap, ◌∷◌, arith, ◌≤◌, length, refl, true, slice_set}
use Rattle.event_loop.proofs.Names.{Service, slice_get_past, told_place, goes, hears_of_listener, hears_of_reload, hears_of, hears_of_none}
use Rattle.event_loop.proofs.Putting.{put_still}
use Rattle.event_loop.proofs.Resting.{told_rested}
use Rattle.event_loop.proofs.tools.Tools.hear.Goals as goal

pub returns-in-Listener-clause-hears : goal.returns-in-Listener-clause-hears
returns-in-Listener-clause-hears g c = λ more first past h rested. rw c.told-service.ensures (goes h (hears_of_listener more (ap (λ r. r ∷ more) c.in-Listener.is)), rested)

pub returns-in-Reload-clause-hears : goal.returns-in-Reload-clause-hears
returns-in-Reload-clause-hears g c = λ more first past h rested. rw c.note_reload.ensures (goes h (hears_of_reload more (ap (λ r. r ∷ more) c.in-Reload.is)), rested)

pub returns-in-Reload-clause-within : goal.returns-in-Reload-clause-within
returns-in-Reload-clause-within g c = λ all. rw c.note_reload.ensures all

pub returns-in-Reload-clause-heard : goal.returns-in-Reload-clause-heard
returns-in-Reload-clause-heard g c = ap (λ (s : Service). s.heard) c.note_reload.ensures

pub returns-then-k-ge-PLACES-clause-hears : goal.returns-then-k-ge-PLACES-clause-hears
returns-then-k-ge-PLACES-clause-hears g c = λ more first past h rested.
    let size : length c.args.service.now.places ≤ c.in-Connection.k = search (rules, arith) in
    (goes h (hears_of_none _ _ _ _ more (ap (λ r. r ∷ more) c.in-Connection.is) (slice_get_past c.args.service.now.places c.in-Connection.k size)), rested)

pub returns-else-k-ge-PLACES-clause-hears : goal.returns-else-k-ge-PLACES-clause-hears
returns-else-k-ge-PLACES-clause-hears g c = λ more first past h rested. rw c.add.ensures (
  goes h (hears_of c.in-Connection.k c.in-Connection.readable c.in-Connection.writable c.in-Connection.hung more c.place_at-place.result c.told.result (ap (λ r. r ∷ more) c.in-Connection.is) c.place_at-place.ensures c.told.ensures),
  told_rested c.in-Connection.k c.args.service.now (record c.args.service.now { places = slice_set c.args.service.now.places c.in-Connection.k c.told.result; due = slice_set c.args.service.now.due c.in-Connection.k true }) past.journey.world c.told.result refl refl rested,
)

pub returns-else-k-ge-PLACES-clause-within : goal.returns-else-k-ge-PLACES-clause-within
returns-else-k-ge-PLACES-clause-within g c = λ all.
    rw c.told.ensures (put_still c.args.service.now.limits.idle c.args.service.now.times c.args.service.now.places c.in-Connection.k c.place_at-place.result (told_place c.place_at-place.result c.in-Connection.readable c.in-Connection.writable c.in-Connection.hung) c.place_at-place.ensures (λ taken. taken) refl all)
