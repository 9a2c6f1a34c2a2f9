-- What the calls of a client say meets what is promised of a cluster.
use Rattle.std.proofs.Common.{◌≡◌, inl, inr, ◌<◌, ◌≤◌, ◌∙◌, ℕ, suc, List, [], ◌∷◌, length, refl, sym, ap, subst, arith}
use Rattle.std.specs.Prelude.{Option, None, Some, Result, Ok, Err, unwrap_or}
use Rattle.etcd_cluster.specs.Calls.{AreTrue, AskedHead, AskedPieces, BeenSince, Called, Compacted, Forgot, Kept, MayBe, Sent, side_by}
use Rattle.etcd_cluster.specs.Stands.{ChangeFact, Stand}
use Rattle.etcd_cluster.specs.Worlds.{Answered, Asked, Begun, Goes, Passes, Side, Step, Tells, Unanswered, World, another, comes, goes, sent_then, side, stays, with_sent}
use Rattle.etcd_cluster.specs.declared.change.Answer.{Answer}
use Rattle.etcd_cluster.specs.declared.change.Answer.TheVariants.{Done, NotDone}
use Rattle.etcd_cluster.specs.declared.change.CallFault.{CallFault}
use Rattle.etcd_cluster.specs.declared.change.CallFault.TheVariants.{Refused, Unclear}

-- TIME

pub time_of : (server : ℕ) (call : Called) (before : List Called)
    → Passes (length before) (BeenSince server before) (BeenSince server (call ∷ before)) (MayBe server (call ∷ before))
time_of server call before = record {
  nothing_else = λ t w le is.
      elim is [
        | inl now ↦ inr now
        | inr past ↦ inl past.1
      ];
  keeps = λ t w le past. inr (le, past);
}

pub counts_now_of : (server : ℕ) (calls : List Called) (t : ℕ) (w : World) → t ≤ length calls → MayBe server calls w → BeenSince server calls t w
counts_now_of server [] t w le may = may
counts_now_of server (call ∷ before) t w le may = inl may

pub only_now_of : (server : ℕ) (calls : List Called) (w : World) → BeenSince server calls (length calls) w → MayBe server calls w
only_now_of server [] w been = been
only_now_of server (call ∷ before) w (inl now) = now
only_now_of server (call ∷ before) w (inr past) = let le = past.0 in absurd (omega (arith, le))

-- WHO HAS BEGUN

abbrev BegunBy : ℕ → World → Type 0
BegunBy n w = (begun : Begun) → w.begun ≡ Some begun → begun.moment < n

none_some : (begun : Begun) → ◌≡◌ {A = Option Begun} None (Some begun) → ⊥
none_some begun is = cc

some_is : (a b : Begun) → ◌≡◌ {A = Option Begun} (Some a) (Some b) → a ≡ b
some_is a b is = cc

begun_later : (n : ℕ) (w : World) → BegunBy n w → BegunBy (suc n) w
begun_later n w by begun is = let less = by begun is in omega (arith, less)

taken_by : (n moment : ℕ) (found : Stand) (had : Option Begun) → moment < n → ((b : Begun) → had ≡ Some b → b.moment < n) → (begun : Begun)
    → Some (unwrap_or had (record { moment = moment; found = found })) ≡ Some begun → begun.moment < n
taken_by n moment found None less had begun is =
    let same : moment ≡ begun.moment = ap (λ (b : Begun). b.moment) (some_is (record { moment = moment; found = found }) begun is) in omega (arith, less, same)
taken_by n moment found (Some b) less had begun is =
    let same : b.moment ≡ begun.moment = ap (λ (x : Begun). x.moment) (some_is b begun is) in
    let was = had b refl in omega (arith, was, same)

step_by : (by : Side) (n : ℕ) (w w' : World) → by.moment < n → BegunBy n w → Step by w w' → BegunBy n w'
step_by by n w w' less was (comes change version sent names more) = λ begun is. absurd (none_some begun is)
step_by by n w w' less was (another stand more foreign) = λ begun is. taken_by n by.moment w.stand w.begun less was begun is

goes_by : (by : Side) (n : ℕ) (w w' : World) → by.moment < n → BegunBy n w → Goes by w w' → BegunBy n w'
goes_by by n w w' less was stays = was
goes_by by n w w' less was (goes {mid = mid} on step) = step_by by n mid w' less (goes_by by n w mid less was on) step

silent_by : (by : Side) (n : ℕ) (before : World → Type 0) (w : World) → by.moment < n → ((x : World) → before x → BegunBy n x) → Unanswered by before w → BegunBy n w
silent_by by n before w less was it = goes_by by n it.first w less (was it.first it.was) it.since

asked_by : (by : Side) (n : ℕ) (IsSo : World → Type 0) (before : World → Type 0) (w : World) → by.moment < n → ((x : World) → before x → BegunBy n x)
    → Asked by IsSo before w → BegunBy n w
asked_by by n IsSo before w less was it = goes_by by n it.at w less (goes_by by n it.first it.at less (was it.first it.was) it.until) it.since

tells_by : (n : ℕ) (change : ChangeFact) (answer : Answer) (at then_at : World) → BegunBy n at → Tells change at answer then_at → BegunBy n then_at
tells_by n change (Done version) at then_at was told = λ begun is. absurd (none_some begun (sym (ap (λ (x : World). x.begun) told.2) ∙ is))
tells_by n change (NotDone found) at then_at was told = subst (λ (x : World). BegunBy n x) (sym told.1) was

answered_by : (by : Side) (n : ℕ) (change : ChangeFact) (answer : Answer) (before : World → Type 0) (w : World) → by.moment < n → ((x : World) → before x → BegunBy n x)
    → Answered by change answer before w → BegunBy n w
answered_by by n change answer before w less was it =
    let until = goes_by (with_sent change by) n it.first it.at less (was it.first it.was) it.until in
    goes_by (with_sent change by) n it.then_at w less (tells_by n change answer it.at it.then_at until it.told) it.since

-- whoever has begun by a moment has begun before
pub earlier_of : (server : ℕ) (calls : List Called) (w : World) → MayBe server calls w → (begun : Begun) → w.begun ≡ Some begun → begun.moment < length calls
earlier_of server [] w none = λ begun is. absurd (none_some begun (sym none ∙ is))
earlier_of server (Sent change (Ok answer) ∷ before) w it =
    answered_by (side_by server before) (suc (length before)) change answer (MayBe server before) w (omega arith)
    (λ x may. begun_later (length before) x (earlier_of server before x may)) it
earlier_of server (Sent change (Err Unclear) ∷ before) w it =
    silent_by (with_sent change (side_by server before)) (suc (length before)) (MayBe server before) w (omega arith)
    (λ x may. begun_later (length before) x (earlier_of server before x may)) it
earlier_of server (Sent change (Err Refused) ∷ before) w it =
    silent_by (side_by server before) (suc (length before)) (MayBe server before) w (omega arith)
    (λ x may. begun_later (length before) x (earlier_of server before x may)) it
earlier_of server (AskedHead (Ok told) ∷ before) w it =
    asked_by (side_by server before) (suc (length before)) _ (MayBe server before) w (omega arith)
    (λ x may. begun_later (length before) x (earlier_of server before x may)) it
earlier_of server (AskedHead (Err fault) ∷ before) w it =
    silent_by (side_by server before) (suc (length before)) (MayBe server before) w (omega arith)
    (λ x may. begun_later (length before) x (earlier_of server before x may)) it
earlier_of server (AskedPieces wanted (Ok (Some pieces)) ∷ before) w it =
    asked_by (side_by server before) (suc (length before)) _ (MayBe server before) w (omega arith)
    (λ x may. begun_later (length before) x (earlier_of server before x may)) it.0
earlier_of server (AskedPieces wanted (Ok None) ∷ before) w it =
    silent_by (side_by server before) (suc (length before)) (MayBe server before) w (omega arith)
    (λ x may. begun_later (length before) x (earlier_of server before x may)) it.0
earlier_of server (AskedPieces wanted (Err fault) ∷ before) w it =
    silent_by (side_by server before) (suc (length before)) (MayBe server before) w (omega arith)
    (λ x may. begun_later (length before) x (earlier_of server before x may)) it.0
earlier_of server (Kept ∷ before) w it =
    silent_by (side_by server before) (suc (length before)) (MayBe server before) w (omega arith)
    (λ x may. begun_later (length before) x (earlier_of server before x may)) it
earlier_of server (Compacted version ∷ before) w it =
    silent_by (side_by server before) (suc (length before)) (MayBe server before) w (omega arith)
    (λ x may. begun_later (length before) x (earlier_of server before x may)) it
earlier_of server (Forgot ∷ before) w it = begun_later (length before) w (earlier_of server before w it)

-- WHAT WAS SENT

pub sent_of : (change : ChangeFact) (result : Result Answer CallFault) (server moment : ℕ) (sent : ChangeFact → Type 0) (one : ChangeFact)
    → (sent_then change result (side 0 0 sent)).sent one → (sent_then change result (side server moment sent)).sent one
sent_of change (Ok answer) server moment sent one is = is
sent_of change (Err Unclear) server moment sent one is = is
sent_of change (Err Refused) server moment sent one is = is

-- WHAT WAS TOLD OF PIECES IS TRUE

pub true_of : (server : ℕ) (calls : List Called) (w : World) → MayBe server calls w → AreTrue calls
true_of server [] w may = tt
true_of server (Sent change (Ok answer) ∷ before) w may = true_of server before may.first may.was
true_of server (Sent change (Err Unclear) ∷ before) w may = true_of server before may.first may.was
true_of server (Sent change (Err Refused) ∷ before) w may = true_of server before may.first may.was
true_of server (AskedHead (Ok told) ∷ before) w may = true_of server before may.first may.was
true_of server (AskedHead (Err fault) ∷ before) w may = true_of server before may.first may.was
true_of server (AskedPieces wanted (Ok (Some pieces)) ∷ before) w may = (true_of server before (may.0).first (may.0).was, may.1)
true_of server (AskedPieces wanted (Ok None) ∷ before) w may = (true_of server before (may.0).first (may.0).was, may.1)
true_of server (AskedPieces wanted (Err fault) ∷ before) w may = (true_of server before (may.0).first (may.0).was, may.1)
true_of server (Kept ∷ before) w may = true_of server before may.first may.was
true_of server (Compacted version ∷ before) w may = true_of server before may.first may.was
true_of server (Forgot ∷ before) w may = true_of server before w may
