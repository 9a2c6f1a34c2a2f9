-- What a server knows once it settled a change, or asked for the head.
use Rattle.std.proofs.Common.{◌≡◌, ◌≢◌, ◌⊎◌, inl, inr, ◌<◌, ◌≤◌, ◌∙◌, ℕ, sym, ap, subst, arith}
use Rattle.std.specs.Prelude.{Option, None, Some, Result, Ok, Err, IfOk, OnErr}
use Rattle.etcd_cluster.specs.Knowing.{Agrees, AreKnown}
use Rattle.etcd_cluster.specs.Leading.{AreSpent, IsBeginning, IsDone, IsLed, IsOf, IsThere, Leads, Pends, StaysSo}
use Rattle.etcd_cluster.specs.Moves.{HasMoved, IsAnswered, IsThisOrSpent, IsTold, Moves}
use Rattle.etcd_cluster.specs.Stands.{ChangeFact, Stand, done_at}
use Rattle.etcd_cluster.specs.Worlds.{IsHeadOf, IsStanding, World, version_told}
use Rattle.etcd_cluster.specs.declared.change.Answer.{Answer}
use Rattle.etcd_cluster.specs.declared.change.CallFault.{CallFault}
use Rattle.etcd_cluster.specs.declared.change.Answer.TheVariants.{Done, NotDone}
use Rattle.etcd_cluster.specs.declared.change.Head.{Head}
use Rattle.etcd_cluster.specs.declared.change.Standing.{Standing}
use Rattle.etcd_cluster.proofs.Known.{agrees_done}
use Rattle.etcd_cluster.proofs.Told.{IsDoneBy, by_answer, by_head}
use Rattle.etcd_cluster.proofs.Moved.{begin_moves, led_moves, moves_on, of_led, of_stays, pends_moves, stays_moves, taken_later, taken_other}

-- WHAT CAME OF IT, in each world that may be

-- it was done in one that might have been, in which no other had begun
abbrev pub IsSettled : ℕ → ℕ → ℕ → ChangeFact → (World → Type 0) → World → Type 0
IsSettled server since version change old w =
    (first : World) × old first × (first.begun ≡ None) × (first.stand.version ≡ change.after) × IsLed server since (done_at version change first.stand) w

-- in which the head was of the version that it names
abbrev pub IsBegun : ℕ → ℕ → ℕ → ChangeFact → (World → Type 0) → World → Type 0
IsBegun server since version change old w =
    (first : World) × old first × (first.stand.version ≡ change.after) × IsLed server since (done_at version change first.stand) w

some_none : (version : ℕ) → ◌≡◌ {A = Option ℕ} (Some version) None → ⊥
some_none version is = cc

-- a change that may come once it is known that the one was done is spent
spent_then : (change one : ChangeFact) (version : ℕ) → change.after < version → IsThisOrSpent change one → one.after < version
spent_then change one version less (inl it) = let same = ap (λ (c : ChangeFact). c.after) it in omega (arith, same, less)
spent_then change one version less (inr below) = omega (arith, below, less)

module _ (server since : ℕ) (MayCome : ChangeFact → Type 0) (change : ChangeFact) (may : (one : ChangeFact) → MayCome one → IsThisOrSpent change one) where
  -- what is so once it was done at that version
  led_then : (version : ℕ) (stand : Stand) (at w : World) → change.after < version → IsThere (done_at version change stand) at → Moves server since MayCome at w
      → IsLed server since (done_at version change stand) w
  led_then version stand at w less there onward =
      led_moves server since MayCome (done_at version change stand) at w (λ one comes. spent_then change one version less (may one comes)) (inl there) onward

  -- before it was told of: another one is not possible
  at_done : (first at : World) → change.after ≡ at.stand.version → Pends server since change first at
      → (first.begun ≡ None) × (first.stand.version ≡ change.after) × (at.stand ≡ first.stand)
  at_done first at names (inl (none, of, inl (still, inl same))) = (none, of, same)
  at_done first at names (inl (none, of, inl (still, inr done))) = let greater = done.later in absurd (omega (arith, names, of, greater))
  at_done first at names (inl (none, of, inr lost)) = let greater = lost.later in absurd (omega (arith, names, of, greater))
  at_done first at names (inr (same, lost)) = let greater = lost.later in absurd (omega (arith, names, greater))

  -- its own head stands there: it was done
  at_found : (first at : World) → change.head.server ≡ server → (first.begun ≡ None → first.stand.head ≢ change.head) → change.head ≡ at.stand.head
      → Pends server since change first at → (first.begun ≡ None) × (first.stand.version ≡ change.after) × (at.begun ≡ None) × IsDone first.stand change at.stand
  at_found first at mine fresh told (inl (none, of, inl (still, inl same))) = absurd (fresh none (sym (told ∙ ap (λ (s : Stand). s.head) same)))
  at_found first at mine fresh told (inl (none, of, inl (still, inr done))) = (none, of, still, done)
  at_found first at mine fresh told (inl (none, of, inr lost)) = absurd (lost.other (sym (ap (λ (h : Head). h.server) told) ∙ mine))
  at_found first at mine fresh told (inr (same, lost)) = absurd (lost.other (sym (ap (λ (h : Head). h.server) told) ∙ mine))

  -- A SERVER THAT LEADS

  module _ (old : World → Type 0) (leads : (w : World) → old w → IsOf server change.after w) where
    -- it was told to be done
    pub settled_done : (version : ℕ) (w : World) → IsAnswered server since MayCome change (Done version) old w → IsSettled server since version change old w
    settled_done version w told =
        let its = told.told in
        let there = at_done told.first told.at its.0 (pends_moves server since MayCome change told.first told.at may (leads told.first told.was) told.until) in
        let less : change.after < version = let names = its.0 in let more = its.1 in omega (arith, names, more) in
        let now : IsThere (done_at version change told.first.stand) told.then_at =
        (ap (λ (x : World). x.begun) its.2, ap (λ (x : World). x.stand) its.2 ∙ ap (λ (s : Stand). done_at version change s) there.2) in
        (told.first, told.was, there.0, there.1, led_then version told.first.stand told.then_at w less now told.onward)

    -- or not this time, and its head was told to stand there
    pub settled_found : (version : ℕ) (w : World) → change.head.server ≡ server → ((first : World) → old first → first.begun ≡ None → first.stand.head ≢ change.head)
        → change.after < version → IsAnswered server since MayCome change (NotDone (Some (record { version = version; head = change.head }))) old w
        → IsSettled server since version change old w
    settled_found version w mine fresh less told =
        let its = told.told in
        let there = at_found told.first told.at mine (fresh told.first told.was) its.0.1
        (pends_moves server since MayCome change told.first told.at may (leads told.first told.was) told.until) in
        let is : told.at.stand ≡ done_at version change told.first.stand =
        (there.3).is ∙ ap (λ (v : ℕ). done_at v change told.first.stand) (sym its.0.0) in
        let now : IsThere (done_at version change told.first.stand) told.then_at = (ap (λ (x : World). x.begun) its.1 ∙ there.2, ap (λ (x : World). x.stand) its.1 ∙ is) in
        (told.first, told.was, there.0, there.1, led_then version told.first.stand told.then_at w less now told.onward)

    -- nothing was told: it pends
    pub pends_untold : (now : World → Type 0) → HasMoved server since MayCome old now → (w : World) → now w
        → (first : World) × old first × Pends server since change first w
    pends_untold now moved w is =
        let it = moved w is in
        (it.0, it.1, pends_moves server since MayCome change it.0 w may (leads it.0 it.1) it.2)

    -- whatever was told by which it is known to be done
    pub settled : (now : World → Type 0) (told : Result Answer CallFault) (version : ℕ) → change.head.server ≡ server
        → ((first : World) → old first → first.begun ≡ None → first.stand.head ≢ change.head) → IsDoneBy change version told
        → IfOk told (λ answer. (w : World) → now w → IsAnswered server since MayCome change answer old w) → (w : World) → now w → IsSettled server since version change old w
    settled now told version mine fresh by_answer answered w is = settled_done version w (answered w is)
    settled now told version mine fresh (by_head less) answered w is = settled_found version w mine fresh less (answered w is)

    -- or by which it is not
    pub pends_none : (now : World → Type 0) (told : Result Answer CallFault) → version_told change told ≡ None
        → IfOk told (λ answer. (w : World) → now w → IsAnswered server since MayCome change answer old w) → OnErr told (HasMoved server since MayCome old now)
        → (w : World) → now w → (first : World) × old first × Pends server since change first w
    pends_none now (Ok (Done version)) is answered untold w may_be = absurd (some_none version is)
    pends_none now (Ok (NotDone found)) is answered untold w may_be =
        let it = answered w may_be in
        let onward : Moves server since MayCome it.at w = subst (λ (x : World). Moves server since MayCome x w) (it.told).1 it.onward in
        (it.first, it.was, pends_moves server since MayCome change it.first w may (leads it.first it.was) (moves_on server since MayCome it.first it.at w it.until onward))
    pends_none now (Err fault) is answered untold w may_be = pends_untold now untold w may_be

  -- A SERVER THAT HAS NOT BEGUN

  module _ (old : World → Type 0) (older : (w : World) → old w → change.after ≤ w.stand.version) (foreign : (w : World) → old w → 0 < w.stand.version → w.stand.head.server ≢ server) where
    begin_done_at : (first at : World) → change.after ≡ at.stand.version → IsBeginning server since change first at → at.stand ≡ first.stand
    begin_done_at first at names (inl (inl same)) = ap (λ (x : World). x.stand) same
    begin_done_at first at names (inl (inr is)) = let greater = taken_later server since change.after first at is in absurd (omega (arith, names, greater))
    begin_done_at first at names (inr (version, of, below, inl there)) =
        let same = ap (λ (s : Stand). s.version) there.1 in absurd (omega (arith, names, below, same))
    begin_done_at first at names (inr (version, of, below, inr lost)) = let greater = lost.later in absurd (omega (arith, names, below, greater))

    pub begun_done : (version : ℕ) (w : World) → IsAnswered server since MayCome change (Done version) old w → IsBegun server since version change old w
    begun_done version w told =
        let its = told.told in
        let beginning = begin_moves server since MayCome change told.first told.at may (older told.first told.was) told.until in
        let same = begin_done_at told.first told.at its.0 beginning in
        let less : change.after < version = let names = its.0 in let more = its.1 in omega (arith, names, more) in
        let now : IsThere (done_at version change told.first.stand) told.then_at =
        (ap (λ (x : World). x.begun) its.2, ap (λ (x : World). x.stand) its.2 ∙ ap (λ (s : Stand). done_at version change s) same) in
        (told.first, told.was, sym (its.0 ∙ ap (λ (s : Stand). s.version) same), led_then version told.first.stand told.then_at w less now told.onward)

    begin_found_at : (first at : World) (version : ℕ) → (0 < first.stand.version → first.stand.head.server ≢ server) → change.head.server ≡ server → change.after < version
        → version ≡ at.stand.version → change.head ≡ at.stand.head → IsBeginning server since change first at
        → (first.stand.version ≡ change.after) × IsThere (done_at version change first.stand) at
    begin_found_at first at version strange mine less is told (inl (inl same)) =
        let of = ap (λ (x : World). x.stand.version) same in
        absurd (strange (omega (arith, less, is, of)) (ap (λ (x : World). x.stand.head.server) (sym same) ∙ sym (ap (λ (h : Head). h.server) told) ∙ mine))
    begin_found_at first at version strange mine less is told (inl (inr foreign)) =
        absurd (taken_other server since change.after first at foreign (sym (ap (λ (h : Head). h.server) told) ∙ mine))
    begin_found_at first at version strange mine less is told (inr (put, of, below, inl there)) =
        let same : put ≡ version = sym (is ∙ ap (λ (s : Stand). s.version) there.1) in
        (of, (there.0, there.1 ∙ ap (λ (v : ℕ). done_at v change first.stand) same))
    begin_found_at first at version strange mine less is told (inr (put, of, below, inr lost)) =
        absurd (lost.other (sym (ap (λ (h : Head). h.server) told) ∙ mine))

    pub begun_found : (version : ℕ) (w : World) → change.head.server ≡ server → change.after < version
        → IsAnswered server since MayCome change (NotDone (Some (record { version = version; head = change.head }))) old w → IsBegun server since version change old w
    begun_found version w mine less told =
        let its = told.told in
        let beginning = begin_moves server since MayCome change told.first told.at may (older told.first told.was) told.until in
        let there = begin_found_at told.first told.at version (foreign told.first told.was) mine less its.0.0 its.0.1 beginning in
        let now : IsThere (done_at version change told.first.stand) told.then_at = (ap (λ (x : World). x.begun) its.1 ∙ there.1.0, ap (λ (x : World). x.stand) its.1 ∙ there.1.1) in
        (told.first, told.was, there.0, led_then version told.first.stand told.then_at w less now told.onward)

    -- it may have begun
    pub begins_none : (now : World → Type 0) (told : Result Answer CallFault) → version_told change told ≡ None
        → IfOk told (λ answer. (w : World) → now w → IsAnswered server since MayCome change answer old w) → OnErr told (HasMoved server since MayCome old now)
        → (w : World) → now w → (first : World) × old first × IsBeginning server since change first w
    begins_none now (Ok (Done version)) is answered untold w may_be = absurd (some_none version is)
    begins_none now (Ok (NotDone found)) is answered untold w may_be =
        let it = answered w may_be in
        let onward : Moves server since MayCome it.at w = subst (λ (x : World). Moves server since MayCome x w) (it.told).1 it.onward in
        (it.first, it.was, begin_moves server since MayCome change it.first w may (older it.first it.was) (moves_on server since MayCome it.first it.at w it.until onward))
    begins_none now (Err fault) is answered untold w may_be =
        let it = untold w may_be in
        (it.0, it.1, begin_moves server since MayCome change it.0 w may (older it.0 it.1) it.2)

    pub begun_by : (now : World → Type 0) (told : Result Answer CallFault) (version : ℕ) → change.head.server ≡ server → change.after < version → IsDoneBy change version told
        → IfOk told (λ answer. (w : World) → now w → IsAnswered server since MayCome change answer old w) → (w : World) → now w → IsBegun server since version change old w
    begun_by now told version mine less by_answer answered w is = begun_done version w (answered w is)
    begun_by now told version mine less (by_head greater) answered w is = begun_found version w mine greater (answered w is)

-- AT WHICH VERSION IT LEADS

pub leads_then : (server since version : ℕ) (change : ChangeFact) (now : World → Type 0) (before after : ChangeFact → Type 0) → change.after < version
    → AreSpent change.after before → ((one : ChangeFact) → after one → (one ≡ change) ⊎ before one)
    → ((w : World) → now w → (stand : Stand) × IsLed server since (done_at version change stand) w) → Leads server version after now
leads_then server since version change now before after less spent sent led = record {
  spent = λ one is.
      elim (sent one is) [
        | inl it ↦ let same = ap (λ (c : ChangeFact). c.after) it in omega (arith, same, less)
        | inr was ↦ let below = spent one was in omega (arith, below, less)
      ];
  each = λ w may. let it = led w may in of_led server since (done_at version change it.0) w it.1;
}

-- what may come while a change is sent that names the version at which the server leads
pub this_or_spent : (change : ChangeFact) (sent : ChangeFact → Type 0) → AreSpent change.after sent → (one : ChangeFact) → (one ≡ change) ⊎ sent one → IsThisOrSpent change one
this_or_spent change sent spent one (inl it) = inl it
this_or_spent change sent spent one (inr was) = inr (spent one was)

-- WHAT IS KNOWN OF PIECES

none_some : {A : Type 0} (o : Option A) (a : A) → o ≡ None → o ≡ Some a → ⊥
none_some o a none some = cc

-- where no other has begun, what is led stands there
led_here : (server since : ℕ) (stand : Stand) (w : World) → w.begun ≡ None → IsLed server since stand w → w.stand ≡ stand
led_here server since stand w none (inl there) = there.1
led_here server since stand w none (inr lost) = absurd (none_some w.begun lost.begun none lost.is)

pub knows_done : (server since version : ℕ) (change : ChangeFact) (known first : Stand) (w : World) → w.begun ≡ None → AreKnown known.pieces first.pieces
    → IsLed server since (done_at version change first) w → Agrees (done_at version change known) w.stand
knows_done server since version change known first w none are led =
    subst (λ (s : Stand). Agrees (done_at version change known) s) (sym (led_here server since (done_at version change first) w none led)) (agrees_done version change known first are)

pub knows_stays : (server since version : ℕ) (known : Stand) (first w : World) → w.begun ≡ None → (first.begun ≡ None → Agrees known first.stand)
    → StaysSo server since version first w → Agrees known w.stand
knows_stays server since version known first w none agrees (inl (before, of, led)) =
    subst (λ (s : Stand). Agrees known s) (sym (led_here server since first.stand w none led)) (agrees before)
knows_stays server since version known first w none agrees (inr (same, lost)) = absurd (none_some w.begun lost.begun none lost.is)

-- WHERE NOTHING IS CHANGED

module _ (server since version : ℕ) (MayCome : ChangeFact → Type 0) (spent : (one : ChangeFact) → MayCome one → one.after < version) (old : World → Type 0) (leads : (w : World) → old w → IsOf server version w) where
  -- nothing was told
  pub stays_silent : (now : World → Type 0) → HasMoved server since MayCome old now → (w : World) → now w → (first : World) × old first × StaysSo server since version first w
  stays_silent now moved w is =
      let it = moved w is in
      (it.0, it.1, stays_moves server since version MayCome it.0 w spent (leads it.0 it.1) it.2)

  stays_on : (first at w : World) → StaysSo server since version first at → Moves server since MayCome at w → StaysSo server since version first w
  stays_on first at w (inl (none, of, led)) moved =
      inl (none, of, led_moves server since MayCome first.stand at w (λ one comes. subst (λ (v : ℕ). one.after < v) (sym of) (spent one comes)) led moved)
  stays_on first at w (inr (same, lost)) moved =
      elim (stays_moves server since version MayCome at w spent (record { is = inr lost }) moved) [
        | inl led ↦ absurd (none_some at.begun lost.begun led.0 lost.is)
        | inr so ↦ inr (so.0 ∙ same, so.1)
      ]

  -- something was told
  pub stays_told : (IsSo : World → Type 0) (w : World) → IsTold server since MayCome IsSo old w → (first : World) × old first × StaysSo server since version first w
  stays_told IsSo w told =
      (told.first, told.was, stays_on told.first told.at w (stays_moves server since version MayCome told.first told.at spent (leads told.first told.was) told.until) told.onward)

  sole_at : (first at w : World) → at.stand.version ≡ version → StaysSo server since version first at → Moves server since MayCome at w
      → (first.begun ≡ None) × IsLed server since first.stand w
  sole_at first at w is (inl (none, of, led)) moved =
      (none, led_moves server since MayCome first.stand at w (λ one comes. subst (λ (v : ℕ). one.after < v) (sym of) (spent one comes)) led moved)
  sole_at first at w is (inr (same, lost)) moved = let greater = lost.later in absurd (omega (arith, greater, is))

  -- a head of that version was told: nobody had begun
  pub sole_told : (told : Standing) (w : World) → told.version ≡ version → IsTold server since MayCome (λ at. IsStanding at.stand (Some told)) old w
      → (first : World) × old first × (first.begun ≡ None) × IsLed server since first.stand w
  sole_told standing w is told =
      let so = sole_at told.first told.at w (sym told.told.0 ∙ is)
      (stays_moves server since version MayCome told.first told.at spent (leads told.first told.was) told.until) told.onward in
      (told.first, told.was, so.0, so.1)

  -- whatever was told
  pub sole_by : (now : World → Type 0) (told : Result (Option Standing) CallFault) → IsHeadOf version told
      → IfOk told (λ found. (w : World) → now w → IsTold server since MayCome (λ at. IsStanding at.stand found) old w)
      → (w : World) → now w → (first : World) × old first × (first.begun ≡ None) × IsLed server since first.stand w
  sole_by now (Ok (Some standing)) is told w may = sole_told standing w is (told w may)
  sole_by now (Ok None) is told w may = absurd is
  sole_by now (Err fault) is told w may = absurd is

  pub stays_by : (now : World → Type 0) (told : Result (Option Standing) CallFault)
      → IfOk told (λ found. (w : World) → now w → IsTold server since MayCome (λ at. IsStanding at.stand found) old w) → OnErr told (HasMoved server since MayCome old now)
      → (w : World) → now w → (first : World) × old first × StaysSo server since version first w
  stays_by now (Ok found) told silent w may = stays_told (λ at. IsStanding at.stand found) w (told w may)
  stays_by now (Err fault) told silent w may = stays_silent now silent w may

  -- the server leads still
  pub leads_still : (now : World → Type 0) (before after : ChangeFact → Type 0) → ((one : ChangeFact) → before one → one.after < version)
      → ((one : ChangeFact) → after one → before one) → ((w : World) → now w → (first : World) × old first × StaysSo server since version first w) → Leads server version after now
  leads_still now before after are sent stays = record {
    spent = λ one is. are one (sent one is);
    each = λ w may. let it = stays w may in of_stays server since version it.0 w it.2;
  }
