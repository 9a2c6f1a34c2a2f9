-- What happens while a server waits, and what it knows of its list meanwhile.
use Rattle.std.proofs.Common.{◌≡◌, ◌≢◌, inl, inr, ◌<◌, ◌≤◌, ◌∙◌, ℕ, refl, sym, ap, subst, arith}
use Rattle.std.specs.Prelude.{Option, None, Some, unwrap_or}
use Rattle.etcd_cluster.specs.Leading.{IsBeginning, IsEither, IsLed, IsLost, IsOf, IsPending, IsResting, IsTaken, Pends, StaysSo}
use Rattle.etcd_cluster.specs.Moves.{IsThisOrSpent, Moves, came, rests, went}
use Rattle.etcd_cluster.specs.Stands.{ChangeFact, Stand, done_at}
use Rattle.etcd_cluster.specs.Worlds.{Begun, Goes, Side, Step, World, another, comes, goes, stays}

-- ONE SERVER'S STEPS ARE SUCH MOVES

moves_step : (server since : ℕ) (MayCome : ChangeFact → Type 0) (first : World) (by : Side) (w w' : World) → by.server ≡ server → since ≤ by.moment
    → ((one : ChangeFact) → by.sent one → MayCome one) → Moves server since MayCome first w → Step by w w' → Moves server since MayCome first w'
moves_step server since MayCome first by w w' same at may moved (comes change version is_sent names more) =
    came moved change version (may change is_sent) names more
moves_step server since MayCome first by w w' same at may moved (another stand more foreign) =
    went moved by.moment stand at more (λ mine. foreign (mine ∙ sym same))

pub moves_goes : (server since : ℕ) (MayCome : ChangeFact → Type 0) (first : World) (by : Side) (w w' : World) → by.server ≡ server → since ≤ by.moment
    → ((one : ChangeFact) → by.sent one → MayCome one) → Moves server since MayCome first w → Goes by w w' → Moves server since MayCome first w'
moves_goes server since MayCome first by w w' same at may moved stays = moved
moves_goes server since MayCome first by w w' same at may moved (goes {mid = mid} on step) =
    moves_step server since MayCome first by mid w' same at may (moves_goes server since MayCome first by w mid same at may moved on) step

-- one after the other
pub moves_on : (server since : ℕ) (MayCome : ChangeFact → Type 0) (first w w' : World) → Moves server since MayCome first w → Moves server since MayCome w w' → Moves server since MayCome first w'
moves_on server since MayCome first w w' before rests = before
moves_on server since MayCome first w w' before (came {mid = mid} moved change version allowed names more) =
    came (moves_on server since MayCome first w mid before moved) change version allowed names more
moves_on server since MayCome first w w' before (went {mid = mid} moved moment stand at more foreign) =
    went (moves_on server since MayCome first w mid before moved) moment stand at more foreign

-- ANOTHER SERVER

-- the world once another one did this, at that moment
abbrev pub taken : ℕ → Stand → World → World
taken moment stand w = record { stand = stand; begun = Some (unwrap_or w.begun (record { moment = moment; found = w.stand })) }

-- it begins where none had
begins : (server since version moment : ℕ) (IsFound : Stand → Type 0) (w : World) (stand : Stand) → since ≤ moment → w.begun ≡ None → IsFound w.stand
    → version < stand.version → stand.head.server ≢ server → IsLost server since version IsFound (taken moment stand w)
begins server since version moment IsFound w stand at none found later other = record {
  begun = record { moment = moment; found = w.stand };
  is = ap (λ (b : Option Begun). Some (unwrap_or b (record { moment = moment; found = w.stand }))) none;
  at = at;
  found = found;
  later = later;
  other = other;
}

-- or goes on
goes_on : (server since version moment : ℕ) (IsFound : Stand → Type 0) (w : World) (stand : Stand) → IsLost server since version IsFound w
    → w.stand.version < stand.version → stand.head.server ≢ server → IsLost server since version IsFound (taken moment stand w)
goes_on server since version moment IsFound w stand lost more other = record {
  begun = lost.begun;
  is = ap (λ (b : Option Begun). Some (unwrap_or b (record { moment = moment; found = w.stand }))) lost.is;
  at = lost.at;
  found = lost.found;
  later = let was = lost.later in omega (arith, was, more);
  other = other;
}

-- WHAT IS SEEN

led_came : (server since : ℕ) (stand : Stand) (w : World) (change : ChangeFact) (version : ℕ) → change.after < stand.version → change.after ≡ w.stand.version
    → IsLed server since stand w → ⊥
led_came server since stand w change version less names (inl there) = let same = ap (λ (s : Stand). s.version) there.1 in omega (arith, less, names, same)
led_came server since stand w change version less names (inr lost) = let greater = lost.later in omega (arith, less, names, greater)

led_went : (server since moment : ℕ) (stand : Stand) (w : World) (other : Stand) → since ≤ moment → w.stand.version < other.version → other.head.server ≢ server
    → IsLed server since stand w → IsLed server since stand (taken moment other w)
led_went server since moment stand w other at more foreign (inl there) =
    let same = ap (λ (s : Stand). s.version) there.1 in
    inr (begins server since stand.version moment (λ found. found ≡ stand) w other at there.0 there.1 (omega (arith, more, same)) foreign)
led_went server since moment stand w other at more foreign (inr lost) =
    inr (goes_on server since stand.version moment (λ found. found ≡ stand) w other lost more foreign)

-- what the server has seen there is so, whatever happens, until another one begins
pub led_moves : (server since : ℕ) (MayCome : ChangeFact → Type 0) (stand : Stand) (w w' : World) → ((one : ChangeFact) → MayCome one → one.after < stand.version)
    → IsLed server since stand w → Moves server since MayCome w w' → IsLed server since stand w'
led_moves server since MayCome stand w w' spent led rests = led
led_moves server since MayCome stand w w' spent led (came {mid = mid} moved change version may names more) =
    absurd (led_came server since stand mid change version (spent change may) names (led_moves server since MayCome stand w mid spent led moved))
led_moves server since MayCome stand w w' spent led (went {mid = mid} moved moment other at more foreign) =
    led_went server since moment stand mid other at more foreign (led_moves server since MayCome stand w mid spent led moved)

-- OR ONE CHANGE MORE

pending_came : (server since : ℕ) (stand : Stand) (change : ChangeFact) (w : World) (one : ChangeFact) (version : ℕ) → change.after ≡ stand.version
    → IsThisOrSpent change one → one.after ≡ w.stand.version → w.stand.version < version → IsPending server since stand change w
    → IsPending server since stand change (record { stand = done_at version one w.stand; begun = None })
pending_came server since stand change w one version names (inl it) its more (inl (none, inl same)) =
    let of = ap (λ (s : Stand). s.version) same in
    inl (
      refl,
      inr (record {
        later = omega (arith, of, more);
        is = ap (λ (c : ChangeFact). done_at version c w.stand) it ∙ ap (λ (s : Stand). done_at version change s) same;
      }),
    )
pending_came server since stand change w one version names (inl it) its more (inl (none, inr done)) =
    let greater = done.later in let same = ap (λ (c : ChangeFact). c.after) it in absurd (omega (arith, same, names, its, greater))
pending_came server since stand change w one version names (inl it) its more (inr lost) =
    let greater = lost.later in let same = ap (λ (c : ChangeFact). c.after) it in absurd (omega (arith, same, names, its, greater))
pending_came server since stand change w one version names (inr less) its more (inl (none, inl same)) =
    let of = ap (λ (s : Stand). s.version) same in absurd (omega (arith, less, names, its, of))
pending_came server since stand change w one version names (inr less) its more (inl (none, inr done)) =
    let greater = done.later in absurd (omega (arith, less, names, its, greater))
pending_came server since stand change w one version names (inr less) its more (inr lost) =
    let greater = lost.later in absurd (omega (arith, less, names, its, greater))

pending_went : (server since moment : ℕ) (stand : Stand) (change : ChangeFact) (w : World) (other : Stand) → since ≤ moment → w.stand.version < other.version
    → other.head.server ≢ server → IsPending server since stand change w → IsPending server since stand change (taken moment other w)
pending_went server since moment stand change w other at more foreign (inl (none, inl same)) =
    let of = ap (λ (s : Stand). s.version) same in
    inr (begins server since stand.version moment (IsEither stand change) w other at none (inl same) (omega (arith, of, more)) foreign)
pending_went server since moment stand change w other at more foreign (inl (none, inr done)) =
    let greater = done.later in
    inr (begins server since stand.version moment (IsEither stand change) w other at none (inr done) (omega (arith, greater, more)) foreign)
pending_went server since moment stand change w other at more foreign (inr lost) =
    inr (goes_on server since stand.version moment (IsEither stand change) w other lost more foreign)

-- the list is what the server has seen, or that and its one pending change, until another one begins
pending_moves : (server since : ℕ) (MayCome : ChangeFact → Type 0) (stand : Stand) (change : ChangeFact) (w w' : World) → change.after ≡ stand.version
    → ((one : ChangeFact) → MayCome one → IsThisOrSpent change one) → IsPending server since stand change w → Moves server since MayCome w w' → IsPending server since stand change w'
pending_moves server since MayCome stand change w w' names may pending rests = pending
pending_moves server since MayCome stand change w w' names may pending (came {mid = mid} moved one version allowed its more) =
    pending_came server since stand change mid one version names (may one allowed) its more (pending_moves server since MayCome stand change w mid names may pending moved)
pending_moves server since MayCome stand change w w' names may pending (went {mid = mid} moved moment other at more foreign) =
    pending_went server since moment stand change mid other at more foreign (pending_moves server since MayCome stand change w mid names may pending moved)

-- WHERE ANOTHER ONE HAD BEGUN, nothing becomes of what was sent

lost_went : (server version moment : ℕ) (w : World) (other : Stand) → w.stand.version < other.version → other.head.server ≢ server
    → IsLost server 0 version (λ found. Unit {0}) w → (taken moment other w).begun ≡ w.begun
lost_went server version moment w other more foreign lost =
    ap (λ (b : Option Begun). Some (unwrap_or b (record { moment = moment; found = w.stand }))) lost.is ∙ sym lost.is

lost_moves : (server since version : ℕ) (MayCome : ChangeFact → Type 0) (w w' : World) → ((one : ChangeFact) → MayCome one → one.after ≤ version)
    → IsLost server 0 version (λ found. Unit {0}) w → Moves server since MayCome w w' → (w'.begun ≡ w.begun) × IsLost server 0 version (λ found. Unit {0}) w'
lost_moves server since version MayCome w w' may lost rests = (refl, lost)
lost_moves server since version MayCome w w' may lost (came {mid = mid} moved change now allowed names more) =
    let so = lost_moves server since version MayCome w mid may lost moved in
    let greater = (so.1).later in
    let le = may change allowed in
    absurd (omega (arith, le, names, greater))
lost_moves server since version MayCome w w' may lost (went {mid = mid} moved moment other at more foreign) =
    let so = lost_moves server since version MayCome w mid may lost moved in (
      lost_went server version moment mid other more foreign so.1 ∙ so.0,
      goes_on server 0 version moment (λ found. Unit {0}) mid other so.1 more foreign,
    )

-- A SERVER THAT LEADS

no_later : (change one : ChangeFact) → IsThisOrSpent change one → one.after ≤ change.after
no_later change one (inl it) = let same = ap (λ (c : ChangeFact). c.after) it in omega (arith, same)
no_later change one (inr less) = omega (arith, less)

-- its change pends
pub pends_moves : (server since : ℕ) (MayCome : ChangeFact → Type 0) (change : ChangeFact) (old w : World) → ((one : ChangeFact) → MayCome one → IsThisOrSpent change one)
    → IsOf server change.after old → Moves server since MayCome old w → Pends server since change old w
pends_moves server since MayCome change old w may of moved =
    elim of.is [
      | inl mine ↦ inl (mine.0, mine.1, pending_moves server since MayCome old.stand change old w (sym mine.1) may (inl (mine.0, inl refl)) moved)
      | inr lost ↦
          let so = lost_moves server since change.after MayCome old w (λ one allowed. no_later change one (may one allowed)) lost moved in
          inr (so.0, so.1)
    ]

-- what stood there stays so, where nothing is sent
pub stays_moves : (server since version : ℕ) (MayCome : ChangeFact → Type 0) (old w : World) → ((one : ChangeFact) → MayCome one → one.after < version)
    → IsOf server version old → Moves server since MayCome old w → StaysSo server since version old w
stays_moves server since version MayCome old w spent of moved =
    elim of.is [
      | inl mine ↦
          let below : (one : ChangeFact) → MayCome one → one.after < old.stand.version = λ one allowed. subst (λ (v : ℕ). one.after < v) (sym mine.1) (spent one allowed) in
          inl (mine.0, mine.1, led_moves server since MayCome old.stand old w below (inl (mine.0, refl)) moved)
      | inr lost ↦
          let so = lost_moves server since version MayCome old w (λ one allowed. let less = spent one allowed in omega (arith, less)) lost moved in
          inr (so.0, so.1)
    ]

-- where the list is led, the head is of that version, or another one has begun
pub of_led : (server since : ℕ) (stand : Stand) (w : World) → IsLed server since stand w → IsOf server stand.version w
of_led server since stand w (inl there) = record { is = inl (there.0, ap (λ (s : Stand). s.version) there.1) }
of_led server since stand w (inr lost) =
    record { is = inr (record { begun = lost.begun; is = lost.is; at = omega arith; found = tt; later = lost.later; other = lost.other }) }

pub of_stays : (server since version : ℕ) (old w : World) → StaysSo server since version old w → IsOf server version w
of_stays server since version old w (inl (none, of, led)) = subst (λ (v : ℕ). IsOf server v w) of (of_led server since old.stand w led)
of_stays server since version old w (inr (same, lost)) = record { is = inr lost }

-- BEFORE THE SERVER HAS BEGUN

-- another one does something where nothing had happened
taken_first : (server since version moment : ℕ) (first w : World) (other : Stand) (b : Option Begun) → first.begun ≡ b → version ≤ first.stand.version → since ≤ moment
    → w.stand.version < other.version → other.head.server ≢ server → w ≡ first → IsTaken server since version first (taken moment other w)
taken_first server since version moment first w other None is older at more foreign same =
    let of = ap (λ (x : World). x.stand.version) same in
    inr (
      is,
      begins server since version moment (λ found. found ≡ first.stand) w other at (ap (λ (x : World). x.begun) same ∙ is) (ap (λ (x : World). x.stand) same)
          (omega (arith, older, of, more)) foreign,
    )
taken_first server since version moment first w other (Some begun) is older at more foreign same =
    let of = ap (λ (x : World). x.stand.version) same in
    let had : w.begun ≡ Some begun = ap (λ (x : World). x.begun) same ∙ is in
    let now : (taken moment other w).begun ≡ Some begun = ap (λ (b : Option Begun). Some (unwrap_or b (record { moment = moment; found = w.stand }))) had in
    inl (
      now ∙ sym is,
      record { begun = begun; is = now; at = omega arith; found = tt; later = omega (arith, older, of, more); other = foreign },
    )

taken_went : (server since version moment : ℕ) (first w : World) (other : Stand) → w.stand.version < other.version → other.head.server ≢ server
    → IsTaken server since version first w → IsTaken server since version first (taken moment other w)
taken_went server since version moment first w other more foreign (inl (same, lost)) =
    inl (lost_went server version moment w other more foreign lost ∙ same, goes_on server 0 version moment (λ found. Unit {0}) w other lost more foreign)
taken_went server since version moment first w other more foreign (inr (none, lost)) =
    inr (none, goes_on server since version moment (λ found. found ≡ first.stand) w other lost more foreign)

pub taken_later : (server since version : ℕ) (first w : World) → IsTaken server since version first w → version < w.stand.version
taken_later server since version first w (inl (same, lost)) = lost.later
taken_later server since version first w (inr (none, lost)) = lost.later

pub taken_other : (server since version : ℕ) (first w : World) → IsTaken server since version first w → w.stand.head.server ≢ server
taken_other server since version first w (inl (same, lost)) = lost.other
taken_other server since version first w (inr (none, lost)) = lost.other

rest_went : (server since version moment : ℕ) (first w : World) (other : Stand) → version ≤ first.stand.version → since ≤ moment → w.stand.version < other.version
    → other.head.server ≢ server → IsResting server since version first w → IsResting server since version first (taken moment other w)
rest_went server since version moment first w other older at more foreign (inl same) =
    inr (taken_first server since version moment first w other first.begun refl older at more foreign same)
rest_went server since version moment first w other older at more foreign (inr is) =
    inr (taken_went server since version moment first w other more foreign is)

rest_came : (server since version : ℕ) (first w : World) (after : ℕ) → version ≤ first.stand.version → after < version → after ≡ w.stand.version
    → IsResting server since version first w → ⊥
rest_came server since version first w after older less names (inl same) =
    let of = ap (λ (x : World). x.stand.version) same in omega (arith, less, names, of, older)
rest_came server since version first w after older less names (inr is) =
    let greater = taken_later server since version first w is in omega (arith, less, names, greater)

-- where nothing of its own can be done, nothing happens but that another one begins
pub rest_moves : (server since version : ℕ) (MayCome : ChangeFact → Type 0) (first w : World) → ((one : ChangeFact) → MayCome one → one.after < version)
    → version ≤ first.stand.version → Moves server since MayCome first w → IsResting server since version first w
rest_moves server since version MayCome first w spent older rests = inl refl
rest_moves server since version MayCome first w spent older (came {mid = mid} moved one now allowed names more) =
    absurd (rest_came server since version first mid one.after older (spent one allowed) names (rest_moves server since version MayCome first mid spent older moved))
rest_moves server since version MayCome first w spent older (went {mid = mid} moved moment other at more foreign) =
    rest_went server since version moment first mid other older at more foreign (rest_moves server since version MayCome first mid spent older moved)

begin_came : (server since : ℕ) (change : ChangeFact) (first w : World) (one : ChangeFact) (version : ℕ) → change.after ≤ first.stand.version → IsThisOrSpent change one
    → one.after ≡ w.stand.version → w.stand.version < version → IsBeginning server since change first w
    → IsBeginning server since change first (record { stand = done_at version one w.stand; begun = None })
begin_came server since change first w one version older (inl it) its more (inl (inl same)) =
    let of = ap (λ (x : World). x.stand.version) same in
    let names = ap (λ (c : ChangeFact). c.after) it in
    inr (
      version,
      omega (arith, its, of, names),
      omega (arith, its, more, names),
      inl (refl, ap (λ (c : ChangeFact). done_at version c w.stand) it ∙ ap (λ (x : World). done_at version change x.stand) same),
    )
begin_came server since change first w one version older (inl it) its more (inl (inr is)) =
    let greater = taken_later server since change.after first w is in
    let names = ap (λ (c : ChangeFact). c.after) it in
    absurd (omega (arith, its, names, greater))
begin_came server since change first w one version older (inl it) its more (inr (at, of, below, led)) =
    let names = ap (λ (c : ChangeFact). c.after) it in
    absurd (led_came server since (done_at at change first.stand) w one version (omega (arith, below, names)) its led)
begin_came server since change first w one version older (inr less) its more (inl resting) =
    absurd (rest_came server since change.after first w one.after older less its resting)
begin_came server since change first w one version older (inr less) its more (inr (at, of, below, led)) =
    absurd (led_came server since (done_at at change first.stand) w one version (omega (arith, below, less)) its led)

begin_went : (server since moment : ℕ) (change : ChangeFact) (first w : World) (other : Stand) → change.after ≤ first.stand.version → since ≤ moment
    → w.stand.version < other.version → other.head.server ≢ server → IsBeginning server since change first w → IsBeginning server since change first (taken moment other w)
begin_went server since moment change first w other older at more foreign (inl resting) =
    inl (rest_went server since change.after moment first w other older at more foreign resting)
begin_went server since moment change first w other older at more foreign (inr (version, of, below, led)) =
    inr (version, of, below, led_went server since moment (done_at version change first.stand) w other at more foreign led)

-- it may begin by this change
pub begin_moves : (server since : ℕ) (MayCome : ChangeFact → Type 0) (change : ChangeFact) (first w : World) → ((one : ChangeFact) → MayCome one → IsThisOrSpent change one)
    → change.after ≤ first.stand.version → Moves server since MayCome first w → IsBeginning server since change first w
begin_moves server since MayCome change first w may older rests = inl (inl refl)
begin_moves server since MayCome change first w may older (came {mid = mid} moved one version allowed its more) =
    begin_came server since change first mid one version older (may one allowed) its more (begin_moves server since MayCome change first mid may older moved)
begin_moves server since MayCome change first w may older (went {mid = mid} moved moment other at more foreign) =
    begin_went server since moment change first mid other older at more foreign (begin_moves server since MayCome change first mid may older moved)
