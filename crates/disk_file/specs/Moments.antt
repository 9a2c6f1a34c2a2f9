-- The laws of `Device` about moments and reads.
use Rattle.std.specs.Prelude.{◌≡◌, ◌↔◌, ◌≤◌, ℕ, List, [], ◌∷◌, length, Bool, true, false}
use Rattle.std.proofs.Common.{inl, inr, arith}
use Rattle.disk_file.specs.Calls.{Call, Opened, Wrote, Grew, Refused, Synced, Replaced, Read, Began, Added, NextSynced, Placed, Dropped, Logged, TellsTrue, ReadsTrue, IsKeptBy, only_opened, StoodBefore, MayLeave, LeftSince}

pub counts_now_of : (stood : List ℕ → Type 0) (calls : List Logged) (t : ℕ) (c : List ℕ) → t ≤ length calls → MayLeave stood calls c → LeftSince stood calls t c
counts_now_of stood [] t c le now = absurd now
counts_now_of stood (e ∷ before) t c le now = inl now

pub only_now_of : (stood : List ℕ → Type 0) (calls : List Logged) (c : List ℕ) → LeftSince stood calls (length calls) c → MayLeave stood calls c
only_now_of stood [] c left = absurd left
only_now_of stood (e ∷ before) c (inl now) = now
only_now_of stood (e ∷ before) c (inr was) = let le = was.0 in absurd (omega arith)

opening_is_true : (stood : List ℕ → Type 0) (is_ok : Bool) (call : Call) (c : List ℕ) → StoodBefore stood call c → TellsTrue is_ok call []
opening_is_true stood true (Opened bytes) c opening = tt
opening_is_true stood true (Wrote at bytes) c opening = tt
opening_is_true stood true (Grew at size) c opening = tt
opening_is_true stood true (Refused at size) c opening = tt
opening_is_true stood true Synced c opening = tt
opening_is_true stood true (Replaced bytes) c opening = tt
opening_is_true stood true (Read at bytes) c opening = absurd opening
opening_is_true stood true Began c opening = tt
opening_is_true stood true (Added bytes) c opening = tt
opening_is_true stood true NextSynced c opening = tt
opening_is_true stood true Placed c opening = tt
opening_is_true stood true Dropped c opening = tt
opening_is_true stood false call c opening = tt

kept_is_true : (is_ok : Bool) (call : Call) (before : List Logged) (c : List ℕ) → IsKeptBy is_ok call before c → TellsTrue is_ok call before
kept_is_true true (Opened bytes) before c kept = tt
kept_is_true true (Wrote at bytes) before c kept = tt
kept_is_true true (Grew at size) before c kept = tt
kept_is_true true (Refused at size) before c kept = tt
kept_is_true true Synced before c kept = tt
kept_is_true true (Replaced bytes) before c kept = tt
kept_is_true true (Read at bytes) before c kept = kept
kept_is_true true Began before c kept = tt
kept_is_true true (Added bytes) before c kept = tt
kept_is_true true NextSynced before c kept = tt
kept_is_true true Placed before c kept = tt
kept_is_true true Dropped before c kept = tt
kept_is_true false call before c kept = tt

pub only_true_of : (stood : List ℕ → Type 0) (calls : List Logged) (c : List ℕ) → MayLeave stood calls c → ReadsTrue calls
only_true_of stood [] c left = tt
only_true_of stood (e ∷ []) c left = (opening_is_true stood e.is_ok e.call c left, tt)
only_true_of stood (e ∷ f ∷ before) c left = (kept_is_true e.is_ok e.call (f ∷ before) c left.1, only_true_of stood (f ∷ before) left.0.0 left.0.1)

-- of a file that was only opened a crash may leave what may have stood on its disk before
pub stood_before_of : (stood : List ℕ → Type 0) (calls : List Logged) (bytes : List ℕ) → calls ≡ only_opened bytes → (c : List ℕ) → MayLeave stood calls c ↔ stood c
stood_before_of stood calls bytes is c = rw is ((λ left. left), (λ left. left))
