-- What might have been left of a file while calls were made.
use Rattle.std.proofs.Common.{◌≡◌, ◌⊎◌, inl, inr, ◌<◌, ◌≤◌, ◌∙◌, ℕ, zero, suc, Bool, true, false, List, ◌∷◌, length, refl, sym, ap, subst, arith}
use Rattle.std.specs.Prelude.{Option, None, Some, Result, Ok, Err, is_some, ok_or}
use Rattle.batch_file.specs.Crashes.{Elapses}
use Rattle.etcd_cluster.specs.Again.{IsSettled, again, settled_by}
use Rattle.etcd_cluster.specs.Bytes.{HasBytes, file_of}
use Rattle.etcd_cluster.specs.Calls.{AreTrue, Called, Sent, stand_by}
use Rattle.etcd_cluster.specs.Knowing.{Agrees}
use Rattle.etcd_cluster.specs.Leading.{IsBeginning, IsEither, IsLost, IsResting, Pends, StaysSo}
use Rattle.etcd_cluster.specs.Sides.{MayHaveBeen}
use Rattle.etcd_cluster.specs.Stands.{ChangeFact, Stand, done_at}
use Rattle.etcd_cluster.specs.Worlds.{Begun, World, version_found, version_told}
use Rattle.etcd_cluster.specs.declared.change.Answer.{Answer}
use Rattle.etcd_cluster.specs.declared.change.Answer.TheVariants.{Done, NotDone}
use Rattle.etcd_cluster.specs.declared.change.CallFault.{CallFault}
use Rattle.etcd_cluster.specs.declared.change.CallFault.TheVariants.{Unclear}
use Rattle.etcd_cluster.specs.declared.cluster.Cluster.{Ghosts as Cluster}
use Rattle.etcd_cluster.specs.declared.settling.SettleFault.{SettleFault}
use Rattle.etcd_cluster.specs.declared.settling.SettleFault.TheVariants as settle
use Rattle.cluster_file.specs.Devices.{HasStood, StandsThere, has_left, leaves}
use Rattle.cluster_file.specs.Files.{AsServer, ComesBy, HasFound, IsFoundIn, IsOwn, IsSettledBy, IsSound, IsTried, Makes, SaysSo}
use Rattle.cluster_file.specs.Moments.{AreTrueWhere, CountsCalls, CountsNow, counts_now_of}
use Rattle.cluster_file.specs.declared.file.ClusterFile.{ClusterFile}
use Rattle.cluster_file.proofs.Laying.{lost_not}
use Rattle.cluster_file.proofs.Left.{next_there, none_some, read_there, same_own}

-- CALLS, ONE AFTER THE OTHER: what stands there behind each of them is so
pub data Onward (P : List ℕ → Type 0) (old : List Called) : List Called → Type 0 where
  no_call : Onward P old old
  one_call : (call : Called) (before : List Called) → Onward P old before → ((left : List ℕ) → StandsThere (call ∷ before) left → P left)
      → Onward P old (call ∷ before)

pub onward_long : (P : List ℕ → Type 0) (old new : List Called) → Onward P old new → length old ≤ length new
onward_long P old new no_call = omega arith
onward_long P old new (one_call call before on so) = let long = onward_long P old before on in omega (arith, long)

pub onward_then : (P : List ℕ → Type 0) (old mid new : List Called) → Onward P old mid → Onward P mid new → Onward P old new
onward_then P old mid new first no_call = first
onward_then P old mid new first (one_call call before on so) = one_call call before (onward_then P old mid before first on) so

stood_since : (P : List ℕ → Type 0) (old new : List Called) → Onward P old new → (t : ℕ) (left : List ℕ) → t ≤ length old → HasStood new t left
    → HasStood old t left ⊎ P left
stood_since P old new no_call t left le stood = inl stood
stood_since P old new (one_call call before on so) t left le (inl now) = inr (so left now)
stood_since P old new (one_call call before on so) t left le (inr past) = stood_since P old before on t left le past.1

stood_keeps : (P : List ℕ → Type 0) (old new : List Called) → Onward P old new → (t : ℕ) (left : List ℕ) → t ≤ length old → HasStood old t left → HasStood new t left
stood_keeps P old new no_call t left le stood = stood
stood_keeps P old new (one_call call before on so) t left le stood =
    let long = onward_long P old before on in inr (omega (arith, le, long), stood_keeps P old before on t left le stood)

-- what stands there with a change that is sent, or would
pub sent_stand : (n : ℕ) (change : ChangeFact) (calls : List Called) → stand_by (again n (Sent change (Err Unclear)) calls) ≡ stand_by calls
sent_stand zero change calls = refl
sent_stand (suc n) change calls = sent_stand n change calls

sent_true : (n : ℕ) (change : ChangeFact) (calls : List Called) → AreTrue (again n (Sent change (Err Unclear)) calls) → AreTrue calls
sent_true zero change calls are = are
sent_true (suc n) change calls are = sent_true n change calls are

abbrev with_it : ChangeFact → List Called → List ℕ
with_it change calls = file_of (done_at 0 change (stand_by calls))

sent_comes : (n : ℕ) (change : ChangeFact) (calls : List Called) → with_it change (again n (Sent change (Err Unclear)) calls) ≡ with_it change calls
sent_comes n change calls = ap (λ (s : Stand). file_of (done_at 0 change s)) (sent_stand n change calls)

sent_stands : (P : List ℕ → Type 0) (n : ℕ) (change : ChangeFact) (calls : List Called) (left : List ℕ) → ((l : List ℕ) → StandsThere calls l → P l)
    → ((l : List ℕ) → l ≡ with_it change calls → AreTrue calls → P l) → StandsThere (again n (Sent change (Err Unclear)) calls) left → P left
sent_stands P zero change calls left was comes is = was left is
sent_stands P (suc n) change calls left was comes (inl is, are) = sent_stands P n change calls left was comes (inl is, are)
sent_stands P (suc n) change calls left was comes (inr come, are) = comes left (come.1 ∙ sent_comes n change calls) (sent_true n change calls are)

sent_onward : (P : List ℕ → Type 0) (n : ℕ) (change : ChangeFact) (old : List Called) → ((left : List ℕ) → StandsThere old left → P left)
    → ((left : List ℕ) → left ≡ with_it change old → AreTrue old → P left) → Onward P old (again n (Sent change (Err Unclear)) old)
sent_onward P zero change old so comes = no_call
sent_onward P (suc n) change old so comes =
    one_call (Sent change (Err Unclear)) (again n (Sent change (Err Unclear)) old) (sent_onward P n change old so comes)
    (λ left stands. sent_stands P (suc n) change old left so comes stands)

-- a change that was sent until it was known what became of it
pub settled_onward : (P : List ℕ → Type 0) (more : ℕ) (change : ChangeFact) (told : Result ℕ SettleFault) (old new : List Called) → IsSettled more change told old new
    → ((left : List ℕ) → StandsThere old left → P left) → ((left : List ℕ) → left ≡ file_of (done_at 0 change (stand_by old)) → AreTrue old → P left)
    → ((left : List ℕ) → StandsThere new left → P left) → Onward P old new
settled_onward P more change told old new settled was comes now =
    let asked = settled.asked in
    subst (λ (calls : List Called). Onward P old calls) (sym asked.calls)
    (one_call (Sent change settled.told) (again asked.times (Sent change (Err Unclear)) old) (sent_onward P asked.times change old was comes)
    (λ left stands. now left (subst (λ (calls : List Called). StandsThere calls left) (sym asked.calls) stands)))

sent_longer : (n : ℕ) (change : ChangeFact) (calls : List Called) → length calls ≤ length (again n (Sent change (Err Unclear)) calls)
sent_longer zero change calls = omega arith
sent_longer (suc n) change calls = let long = sent_longer n change calls in omega (arith, long)

-- at least once it was sent
pub settled_longer : (more : ℕ) (change : ChangeFact) (told : Result ℕ SettleFault) (old new : List Called) → IsSettled more change told old new → length old < length new
settled_longer more change told old new settled =
    let all = ap (λ (calls : List Called). length calls) settled.asked.calls in
    let long = sent_longer settled.asked.times change old in
    omega (arith, all, long)

sent_still : (n : ℕ) (change : ChangeFact) (calls : List Called) → AreTrue calls → AreTrue (again n (Sent change (Err Unclear)) calls)
sent_still zero change calls are = are
sent_still (suc n) change calls are = sent_still n change calls are

-- what was told of pieces is true still
pub settled_still : (more : ℕ) (change : ChangeFact) (told : Result ℕ SettleFault) (old new : List Called) → IsSettled more change told old new → AreTrue old → AreTrue new
settled_still more change told old new settled are =
    subst (λ (calls : List Called). AreTrue calls) (sym settled.asked.calls) (sent_still settled.asked.times change old are)

-- WHAT MAY COME YET

none_told : {A E : Type 0} (o : Option A) (e f : E) → ◌≡◌ {A = Result A E} (Err f) (ok_or o e) → o ≡ None
none_told None e f is = refl
none_told (Some a) e f is = absurd (err_ok is)
  where
    err_ok : {B F : Type 0} {x : F} {y : B} → ◌≡◌ {A = Result B F} (Err x) (Ok y) → ⊥
    err_ok other = cc

untold : (change : ChangeFact) (result : Result Answer CallFault) (fault : SettleFault) → ◌≡◌ {A = Result ℕ SettleFault} (Err fault) (settled_by change result)
    → version_told change result ≡ None
untold change (Ok (Done version)) fault is = absurd (err_ok is)
  where
    err_ok : ◌≡◌ {A = Result ℕ SettleFault} (Err fault) (Ok version) → ⊥
    err_ok other = cc
untold change (Ok (NotDone found)) fault is = none_told (version_found change found) settle.Overtaken fault is
untold change (Err other) fault is = refl

some_told : {A E : Type 0} (o : Option A) (e : E) (a : A) → ◌≡◌ {A = Result A E} (Ok a) (ok_or o e) → o ≡ None → ⊥
some_told None e a is none = cc
some_told (Some b) e a is none = cc

was_told : (change : ChangeFact) (result : Result Answer CallFault) (version : ℕ) → ◌≡◌ {A = Result ℕ SettleFault} (Ok version) (settled_by change result)
    → version_told change result ≡ None → ⊥
was_told change (Ok (Done other)) version is none = cc
was_told change (Ok (NotDone found)) version is none = some_told (version_found change found) settle.Overtaken version is none
was_told change (Err other) version is none = cc

-- a change that is known to be done does not come
pub settled_done : (more : ℕ) (change : ChangeFact) (version : ℕ) (old new : List Called) → IsSettled more change (Ok version) old new → IsSettledBy new
settled_done more change version old new settled left comes =
    was_told change settled.told version settled.by (subst (λ (calls : List Called). ComesBy calls left) settled.asked.calls comes).0

-- one that is not may
pub settled_not : (more : ℕ) (change : ChangeFact) (fault : SettleFault) (old new : List Called) → IsSettled more change (Err fault) old new
    → ComesBy new (file_of (done_at 0 change (stand_by old)))
settled_not more change fault old new settled =
    subst (λ (calls : List Called). ComesBy calls (file_of (done_at 0 change (stand_by old)))) (sym settled.asked.calls)
    (untold change settled.told fault settled.by, sym (sent_comes settled.asked.times change old))

-- nothing else comes
pub settled_comes : (more : ℕ) (change : ChangeFact) (told : Result ℕ SettleFault) (old new : List Called) → IsSettled more change told old new → (left : List ℕ)
    → ComesBy new left → left ≡ file_of (done_at 0 change (stand_by old))
settled_comes more change told old new settled left comes =
    (subst (λ (calls : List Called). ComesBy calls left) settled.asked.calls comes).1 ∙ sent_comes settled.asked.times change old

-- once it is lost it may come
pub given_comes : {C : Type 0} (cluster : Cluster C) (old new : ClusterFile C) (change : ChangeFact) → IsTried cluster old new change → is_some new.lost ≡ true
    → cluster.stand old.cluster ≡ stand_by (cluster.calls old.cluster) → ComesBy (cluster.calls new.cluster) (file_of (done_at 0 change (cluster.stand old.cluster)))
given_comes cluster old new change tried lost here =
    subst (λ (s : Stand). ComesBy (cluster.calls new.cluster) (file_of (done_at 0 change s))) (sym here) (by_told tried.told tried.asked tried.says)
  where
    by_told : (told : Result ℕ SettleFault) → IsSettled 30 change told (cluster.calls old.cluster) (cluster.calls new.cluster) → SaysSo told new
        → ComesBy (cluster.calls new.cluster) (file_of (done_at 0 change (stand_by (cluster.calls old.cluster))))
    by_told (Ok version) asked says = absurd (lost_not new.lost lost says.1)
    by_told (Err fault) asked says = settled_not 30 change fault (cluster.calls old.cluster) (cluster.calls new.cluster) asked

-- what comes is what it would make
pub tried_comes : {C : Type 0} (cluster : Cluster C) (old new : ClusterFile C) (change : ChangeFact) → IsTried cluster old new change
    → cluster.stand old.cluster ≡ stand_by (cluster.calls old.cluster) → (left : List ℕ) → ComesBy (cluster.calls new.cluster) left
    → left ≡ file_of (done_at 0 change (cluster.stand old.cluster))
tried_comes cluster old new change tried here left comes =
    settled_comes 30 change tried.told (cluster.calls old.cluster) (cluster.calls new.cluster) tried.asked left comes
    ∙ ap (λ (s : Stand). file_of (done_at 0 change s)) (sym here)

-- TIME

-- what may have been while they were made comes to what was found before, or may be left now
module _ {C : Type 0} (cluster : Cluster C) (counts : CountsNow cluster) (counts_calls : CountsCalls cluster) (old final : ClusterFile C) (read : final.read ≡ old.read)
    (Comes : World → World → Type 0)
    (stood : Onward (λ left. leaves cluster old left ⊎ leaves cluster final left) (cluster.calls old.cluster) (cluster.calls final.cluster))
    (meanwhile : MayHaveBeen cluster old.cluster final.cluster Comes)
    (comes : (first w : World) (t : ℕ) (left : List ℕ) → t ≤ cluster.moment old.cluster → cluster.may_be old.cluster first → Comes first w → IsFoundIn old t left w
    → HasFound cluster old t left ⊎ leaves cluster final left) where
  abbrev Now : List ℕ → Type 0
  Now left = leaves cluster old left ⊎ leaves cluster final left

  later : cluster.moment old.cluster ≤ cluster.moment final.cluster
  later =
      let here = counts_calls old.cluster in
      let there = counts_calls final.cluster in
      let long = onward_long Now (cluster.calls old.cluster) (cluster.calls final.cluster) stood in
      omega (arith, here, there, long)

  within : (t : ℕ) → t ≤ cluster.moment old.cluster → t ≤ length (cluster.calls old.cluster)
  within t le = let here = counts_calls old.cluster in omega (arith, le, here)

  found_old : (t : ℕ) (left : List ℕ) (w : World) → IsFoundIn final t left w → IsFoundIn old t left w
  found_old t left w (inl (own, is)) = inl (same_own old final w read own, is)
  found_old t left w (inr begun) = inr begun

  found_final : (t : ℕ) (left : List ℕ) (w : World) → IsFoundIn old t left w → IsFoundIn final t left w
  found_final t left w (inl (own, is)) = inl (same_own final old w (sym read) own, is)
  found_final t left w (inr begun) = inr begun

  by_now : (t : ℕ) (left : List ℕ) → t ≤ cluster.moment old.cluster → Now left → has_left cluster old t left ⊎ leaves cluster final left
  by_now t left le (inl was) = inl (counts_now_of cluster counts old t left le was)
  by_now t left le (inr now) = inr now

  by_stood : (t : ℕ) (left : List ℕ) → t ≤ cluster.moment old.cluster → HasStood (cluster.calls old.cluster) t left ⊎ Now left
      → has_left cluster old t left ⊎ leaves cluster final left
  by_stood t left le (inl was) = inl (inl was)
  by_stood t left le (inr now) = by_now t left le now

  by_found : (t : ℕ) (left : List ℕ) → HasFound cluster old t left ⊎ leaves cluster final left → has_left cluster old t left ⊎ leaves cluster final left
  by_found t left (inl found) = inl (inr found)
  by_found t left (inr now) = inr now

  by_world : (t : ℕ) (left : List ℕ) (w : World) → t ≤ cluster.moment old.cluster → IsFoundIn old t left w
      → cluster.been_since old.cluster t w ⊎ ((first : World) × cluster.may_be old.cluster first × Comes first w) → has_left cluster old t left ⊎ leaves cluster final left
  by_world t left w le found (inl past) = inl (inr (w, past, found))
  by_world t left w le found (inr (first, was, come)) = by_found t left (comes first w t left le was come found)

  nothing_else : (t : ℕ) (left : List ℕ) → t ≤ cluster.moment old.cluster → has_left cluster final t left → has_left cluster old t left ⊎ leaves cluster final left
  nothing_else t left le (inl is) =
      by_stood t left le (stood_since Now (cluster.calls old.cluster) (cluster.calls final.cluster) stood t left (within t le) is)
  nothing_else t left le (inr (w, been, found)) = by_world t left w le (found_old t left w found) (meanwhile.nothing_else t w le been)

  keeps : (t : ℕ) (left : List ℕ) → t ≤ cluster.moment old.cluster → has_left cluster old t left → has_left cluster final t left
  keeps t left le (inl is) = inl (stood_keeps Now (cluster.calls old.cluster) (cluster.calls final.cluster) stood t left (within t le) is)
  keeps t left le (inr (w, been, found)) = inr (w, meanwhile.keeps t w le been, found_final t left w found)

  pub elapses : Elapses (cluster.moment old.cluster) (cluster.moment final.cluster) (has_left cluster old) (has_left cluster final) (leaves cluster final)
  elapses = record { later = later; nothing_else = nothing_else; keeps = keeps }

-- one after the other, where what may be left in between might have been left before
pub elapses_on : {C : Type 0} (cluster : Cluster C) (old mid new : ClusterFile C)
    → Elapses (cluster.moment old.cluster) (cluster.moment mid.cluster) (has_left cluster old) (has_left cluster mid) (leaves cluster mid)
    → ((left : List ℕ) → leaves cluster mid left → leaves cluster old left ⊎ leaves cluster new left) → CountsNow cluster
    → Elapses (cluster.moment mid.cluster) (cluster.moment new.cluster) (has_left cluster mid) (has_left cluster new) (leaves cluster new)
    → Elapses (cluster.moment old.cluster) (cluster.moment new.cluster) (has_left cluster old) (has_left cluster new) (leaves cluster new)
elapses_on cluster old mid new first between counts second =
    let first_later = first.later in
    let second_later = second.later in
    record {
      later = omega (arith, first_later, second_later);
      nothing_else = λ t left le is. on t left le (second.nothing_else t left (omega (arith, le, first_later)) is);
      keeps = λ t left le was. second.keeps t left (omega (arith, le, first_later)) (first.keeps t left le was);
    }
  where
    now : (t : ℕ) (left : List ℕ) → t ≤ cluster.moment old.cluster → leaves cluster old left ⊎ leaves cluster new left → has_left cluster old t left ⊎ leaves cluster new left
    now t left le (inl was) = inl (counts_now_of cluster counts old t left le was)
    now t left le (inr is) = inr is

    before : (t : ℕ) (left : List ℕ) → t ≤ cluster.moment old.cluster → has_left cluster old t left ⊎ leaves cluster mid left → has_left cluster old t left ⊎ leaves cluster new left
    before t left le (inl was) = inl was
    before t left le (inr is) = now t left le (between left is)

    on : (t : ℕ) (left : List ℕ) → t ≤ cluster.moment old.cluster → has_left cluster mid t left ⊎ leaves cluster new left → has_left cluster old t left ⊎ leaves cluster new left
    on t left le (inl was) = before t left le (first.nothing_else t left le was)
    on t left le (inr is) = inr is

-- WHAT IS FOUND OF A CHANGE

pub some_is : (a b : Begun) → ◌≡◌ {A = Option Begun} (Some a) (Some b) → a ≡ b
some_is a b is = cc

-- another one has begun, so nothing is this server's doing that stands there now
pub lost_not_own : {C : Type 0} (file : ClusterFile C) (server since version : ℕ) (IsFound : Stand → Type 0) (w : World) → file.read ≤ version
    → IsLost server since version IsFound w → IsOwn file w → ⊥
lost_not_own file server since version IsFound w before lost (inl none) = none_some w.begun lost.begun none lost.is
lost_not_own file server since version IsFound w before lost (inr is) = let greater = lost.later in omega (arith, before, greater, is)

module _ {C : Type 0} (cluster : Cluster C) (counts : CountsNow cluster) (old : ClusterFile C) where
  found_first : (first : World) (t : ℕ) (left : List ℕ) → t ≤ cluster.moment old.cluster → cluster.may_be old.cluster first → IsOwn old first → left ≡ file_of first.stand
      → HasFound cluster old t left
  found_first first t left le was own is = (first, counts old.cluster t first le was, inl (own, is))

  -- where another one had begun before
  found_had : (first w : World) (t : ℕ) (left : List ℕ) (server since version : ℕ) → t ≤ cluster.moment old.cluster → cluster.may_be old.cluster first → w.begun ≡ first.begun
      → old.read ≤ version → IsLost server since version (λ found. Unit {0}) w → IsFoundIn old t left w → HasFound cluster old t left
  found_had first w t left server since version le was had before lost (inl (own, is)) = absurd (lost_not_own old server since version _ w before lost own)
  found_had first w t left server since version le was had before lost (inr (begun, is, at, found)) =
      (first, counts old.cluster t first le was, inr (begun, sym had ∙ is, at, found))

  -- where it has begun since, and found what is so
  found_lost : (w : World) (t : ℕ) (left : List ℕ) (server since version : ℕ) (IsFound : Stand → Type 0) (P : Type 0) → old.read ≤ version → IsLost server since version IsFound w
      → ((stand : Stand) → IsFound stand → left ≡ file_of stand → P) → IsFoundIn old t left w → P
  found_lost w t left server since version IsFound P before lost so (inl (own, is)) = absurd (lost_not_own old server since version IsFound w before lost own)
  found_lost w t left server since version IsFound P before lost so (inr (begun, is, at, found)) =
      let one : lost.begun ≡ begun = some_is lost.begun begun (sym lost.is ∙ is) in
      so begun.found (subst (λ (b : Begun). IsFound b.found) one lost.found) found

  -- where nobody has
  found_here : (w : World) (t : ℕ) (left : List ℕ) (P : Type 0) → w.begun ≡ None → (left ≡ file_of w.stand → P) → IsFoundIn old t left w → P
  found_here w t left P none so (inl (own, is)) = so is
  found_here w t left P none so (inr (begun, is, at, found)) = absurd (none_some w.begun begun none is)

  -- LOOKS, once a server has begun

  pub stays_found : (first w : World) (t : ℕ) (left : List ℕ) (server since version : ℕ) → t ≤ cluster.moment old.cluster → cluster.may_be old.cluster first → old.read ≤ version
      → StaysSo server since version first w → IsFoundIn old t left w → HasFound cluster old t left
  stays_found first w t left server since version le was before (inl (none, of, inl there)) =
      found_here w t left (HasFound cluster old t left) there.0 (λ is. found_first first t left le was (inl none) (is ∙ ap file_of there.1))
  stays_found first w t left server since version le was before (inl (none, of, inr lost)) =
      found_lost w t left server since first.stand.version _ (HasFound cluster old t left) (omega (arith, before, of)) lost
      (λ stand is found. found_first first t left le was (inl none) (found ∙ ap file_of is))
  stays_found first w t left server since version le was before (inr (had, lost)) = found_had first w t left server 0 version le was had before lost

  -- and before

  pub rests_found : (first w : World) (t : ℕ) (left : List ℕ) (server since version : ℕ) → t ≤ cluster.moment old.cluster → cluster.may_be old.cluster first → old.read ≤ version
      → IsResting server since version first w → IsFoundIn old t left w → HasFound cluster old t left
  rests_found first w t left server since version le was before (inl same) found =
      (first, counts old.cluster t first le was, subst (λ (x : World). IsFoundIn old t left x) same found)
  rests_found first w t left server since version le was before (inr (inl (had, lost))) found = found_had first w t left server 0 version le was had before lost found
  rests_found first w t left server since version le was before (inr (inr (none, lost))) found =
      found_lost w t left server since version _ (HasFound cluster old t left) before lost (λ stand is it. found_first first t left le was (inl none) (it ∙ ap file_of is)) found

-- CHANGES
module _ {C : Type 0} (cluster : Cluster C) (counts : CountsNow cluster) (true_where : AreTrueWhere cluster) (old : ClusterFile C) (change : ChangeFact) (sound : IsSound cluster old)
    (names : change.after ≡ old.standing.version) (before bytes : List ℕ) (had : HasBytes (cluster.stand old.cluster) before)
    (has : HasBytes (done_at 0 change (cluster.stand old.cluster)) bytes) where
  abbrev next : List ℕ
  next = file_of (done_at 0 change (cluster.stand old.cluster))

  -- it was found before; or it is what stands there with the change
  abbrev pub IsFoundSo : ℕ → List ℕ → Type 0
  IsFoundSo t left = HasFound cluster old t left ⊎ ((left ≡ next) × AreTrue (cluster.calls old.cluster))

  done_so : (version : ℕ) (first : World) (stand : Stand) (t : ℕ) (left : List ℕ) → cluster.may_be old.cluster first → Agrees (cluster.stand old.cluster) first.stand
      → stand ≡ done_at version change first.stand → left ≡ file_of stand → IsFoundSo t left
  done_so version first stand t left was agrees is found =
      let there : World = record { stand = stand; begun = None } in
      inr (found ∙ next_there cluster old old change sound refl names before bytes had has version first there agrees.pieces is, true_where old.cluster first was)

  either_so : (first : World) (stand : Stand) (t : ℕ) (left : List ℕ) → t ≤ cluster.moment old.cluster → cluster.may_be old.cluster first → IsOwn old first
      → Agrees (cluster.stand old.cluster) first.stand → IsEither first.stand change stand → left ≡ file_of stand → IsFoundSo t left
  either_so first stand t left le was own agrees (inl still) found = inl (found_first cluster counts old first t left le was own (found ∙ ap file_of still))
  either_so first stand t left le was own agrees (inr done) found = done_so stand.version first stand t left was agrees done.is found

  pends_so : (so : AsServer cluster old true) (first w : World) (t : ℕ) (left : List ℕ) (server since : ℕ) → t ≤ cluster.moment old.cluster → cluster.may_be old.cluster first
      → Pends server since change first w → IsFoundIn old t left w → IsFoundSo t left
  pends_so so first w t left server since le was (inl (none, of, inl here)) =
      found_here cluster counts old w t left (IsFoundSo t left) here.0
      (λ is. either_so first w.stand t left le was (inl none) (so.1 first was none) here.1 is)
  pends_so so first w t left server since le was (inl (none, of, inr lost)) =
      let earlier = so.3 in
      found_lost cluster counts old w t left server since first.stand.version _ (IsFoundSo t left) (omega (arith, of, names, earlier)) lost
      (λ stand is found. either_so first stand t left le was (inl none) (so.1 first was none) is found)
  pends_so so first w t left server since le was (inr (had_begun, lost)) = λ found.
      let earlier = so.3 in
      inl (found_had cluster counts old first w t left server 0 change.after le was had_begun (omega (arith, names, earlier)) lost found)

  begins_so : (so : AsServer cluster old false) (first w : World) (t : ℕ) (left : List ℕ) (server since : ℕ) → t ≤ cluster.moment old.cluster → cluster.may_be old.cluster first
      → IsBeginning server since change first w → IsFoundIn old t left w → IsFoundSo t left
  begins_so so first w t left server since le was (inl resting) = λ found.
      let same = so.2 in
      inl (rests_found cluster counts old first w t left server since change.after le was (omega (arith, same, names)) resting found)
  begins_so so first w t left server since le was (inr (version, of, less, inl there)) =
      let both = read_there cluster old old change sound refl names before bytes had has so first was of in
      found_here cluster counts old w t left (IsFoundSo t left) there.0 (λ is. done_so version first w.stand t left was both.0 there.1 is)
  begins_so so first w t left server since le was (inr (version, of, less, inr lost)) =
      let same = so.2 in
      let both = read_there cluster old old change sound refl names before bytes had has so first was of in
      found_lost cluster counts old w t left server since version _ (IsFoundSo t left) (omega (arith, same, names, less)) lost
      (λ stand is found. done_so version first stand t left was both.0 is found)

  makes_as : (begun : Bool) → AsServer cluster old begun → (first w : World) (t : ℕ) (left : List ℕ) (server since : ℕ) → t ≤ cluster.moment old.cluster
      → cluster.may_be old.cluster first → Makes server since change begun first w → IsFoundIn old t left w → IsFoundSo t left
  makes_as true so first w t left server since le was makes found = pends_so so first w t left server since le was makes found
  makes_as false so first w t left server since le was makes found = begins_so so first w t left server since le was makes found

  pub makes_so : (first w : World) (t : ℕ) (left : List ℕ) → t ≤ cluster.moment old.cluster → cluster.may_be old.cluster first
      → Makes (cluster.server old.cluster) (cluster.moment old.cluster) change old.has_begun first w → IsFoundIn old t left w → IsFoundSo t left
  makes_so first w t left le was makes found =
      makes_as old.has_begun sound.so first w t left (cluster.server old.cluster) (cluster.moment old.cluster) le was makes found

  -- the file goes on, where what stands there with the change may be left then
  module _ (counts_calls : CountsCalls cluster) (here : cluster.stand old.cluster ≡ stand_by (cluster.calls old.cluster)) (final : ClusterFile C)
      (read : final.read ≡ old.read) (more : ℕ) (told : Result ℕ SettleFault)
      (asked : IsSettled more change told (cluster.calls old.cluster) (cluster.calls final.cluster))
      (meanwhile : MayHaveBeen cluster old.cluster final.cluster (Makes (cluster.server old.cluster) (cluster.moment old.cluster) change old.has_begun))
      (comes : AreTrue (cluster.calls old.cluster) → leaves cluster final next) where
    so_left : (t : ℕ) (left : List ℕ) → IsFoundSo t left → HasFound cluster old t left ⊎ leaves cluster final left
    so_left t left (inl found) = inl found
    so_left t left (inr (is, are)) = inr (subst (λ (l : List ℕ). leaves cluster final l) (sym is) (comes are))

    pub change_elapses : Elapses (cluster.moment old.cluster) (cluster.moment final.cluster) (has_left cluster old) (has_left cluster final) (leaves cluster final)
    change_elapses =
        elapses cluster counts counts_calls old final read (Makes (cluster.server old.cluster) (cluster.moment old.cluster) change old.has_begun)
        (settled_onward (λ left. leaves cluster old left ⊎ leaves cluster final left) more change told (cluster.calls old.cluster) (cluster.calls final.cluster) asked
        (λ left stands. inl (inl stands))
        (λ left is are. inr (subst (λ (l : List ℕ). leaves cluster final l) (ap (λ (s : Stand). file_of (done_at 0 change s)) here ∙ sym is) (comes are)))
        (λ left stands. inr (inl stands)))
        meanwhile (λ first w t left le was makes found. so_left t left (makes_so first w t left le was makes found))
