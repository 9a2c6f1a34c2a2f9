use Rattle.std.proofs.Common.{rules, ◌≡◌, ◌<◌, ◌≤◌, ◌-◌, ℕ, length, arith, refl}
use Rattle.std.proofs.lemmas.Option.{IfSome_then}
use Rattle.event_loop.proofs.Names.{slice_get_within}
use Rattle.event_loop.proofs.Putting.{none_then}
use Rattle.event_loop.proofs.Rooming.{there_more}
use Rattle.event_loop.proofs.tools.Tools.eldest.Goals as goal

pub loop-k-init : goal.loop-k-init
loop-k-init g c = record { found = tt; nobody = refl; bound = omega arith; within = λ journey reached j less. absurd (omega (arith, less)) }

pub loop-k-preserved-then-stay-most : goal.loop-k-preserved-then-stay-most
loop-k-preserved-then-stay-most g c = record {
  found = c.loop-k.invariant.found;
  nobody = c.loop-k.invariant.nobody;
  bound = c.loop-k.invariant.bound;
  within = there_more _ _ c.args.service.now c.args.guest c.loop-k.k c.loop-k.most c.loop-k.most c.place_at-place.result c.place_at-place.ensures (omega arith) c.loop-k.invariant.within
      (λ journey reached behind. omega (arith, c.saturating_sub-stay.ensures, c.counts_from-since.ensures, c.if-stay-most.true));
}

pub loop-k-preserved-then-not-is_guest : goal.loop-k-preserved-then-not-is_guest
loop-k-preserved-then-not-is_guest g c = record {
  found = c.loop-k.invariant.found;
  nobody = c.loop-k.invariant.nobody;
  bound = c.loop-k.invariant.bound;
  within = there_more _ _ c.args.service.now c.args.guest c.loop-k.k c.loop-k.most c.loop-k.most c.place_at-place.result c.place_at-place.ensures (omega arith) c.loop-k.invariant.within
      (λ journey reached behind. absurd (c.is_guest.ensures.not_guest c.if-not-is_guest.true journey reached behind));
}

pub loop-k-preserved : goal.loop-k-preserved
loop-k-preserved g c =
    let less : c.loop-k.most < c.saturating_sub-stay.result = omega (arith, c.if-stay-most.false) in
    record {
      found = record {
        within = omega (arith, c.loop-k-test.true);
        here = c.place_at-place.ensures;
        taken = c.is_guest.ensures.taken c.if-not-is_guest.false;
        holds = c.is_guest.ensures.guest c.if-not-is_guest.false;
        stay_is = omega (arith, c.saturating_sub-stay.ensures, c.counts_from-since.ensures);
        late = omega (arith, less, c.loop-k.invariant.bound);
      };
      nobody = tt;
      bound = omega (arith, less, c.loop-k.invariant.bound);
      within = there_more _ _ c.args.service.now c.args.guest c.loop-k.k c.loop-k.most c.saturating_sub-stay.result c.place_at-place.result c.place_at-place.ensures (omega (arith, less)) c.loop-k.invariant.within
          (λ journey reached behind. omega (arith, c.saturating_sub-stay.ensures, c.counts_from-since.ensures));
    }

pub returns-clause-eldest : goal.returns-clause-eldest
returns-clause-eldest g c =
    let size : length c.args.service.now.places ≡ 64 = search rules in
    IfSome_then c.loop-k.eldest c.loop-k.invariant.found
    (λ x found. record {
      within = found.within;
      here = found.here;
      taken = found.taken;
      late = (let late = found.late in let stay = found.stay_is in omega (arith, late, stay));
      holds = found.holds;
      eldest = λ journey reached j other here behind.
          let bound = slice_get_within c.args.service.now.places j other here in
          let within = c.loop-k.invariant.within journey reached j (omega (arith, size, bound, c.loop-k-test.false)) other here behind in
          let late = found.late in
          omega (arith, within, late, found.stay_is);
    })

pub returns-clause-none : goal.returns-clause-none
returns-clause-none g c =
    let size : length c.args.service.now.places ≡ 64 = search rules in
    none_then c.loop-k.eldest
    (λ none journey reached j place here behind.
    let bound = slice_get_within c.args.service.now.places j place here in
    let within = c.loop-k.invariant.within journey reached j (omega (arith, size, bound, c.loop-k-test.false)) place here behind in
    omega (arith, none, within))
    c.loop-k.invariant.nobody
