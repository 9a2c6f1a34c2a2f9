-- Where nothing was read since the keeper was asked, it was asked behind all that was read.
use Rattle.std.proofs.Common.{◌≡◌, refl, sym, subst, ◌∙◌, ℕ}
use Rattle.event_loop.proofs.Names.{Place, Promises, LoopState, LoopStep, Served, begins, goes, Onward, stays, onward, Closes, leaves, ReadsPlace, WritesPlace, comes, reads, writes, closes, keeps, confirms, waits_done}
use Rattle.outside.specs.Calls.{IsConfirmed}
use Rattle.outside.specs.Calls as call
use Rattle.event_loop.specs.Asking.{IsSoleUpTo}
use Rattle.event_loop.specs.Coming as coming
use Rattle.event_loop.specs.Coming.{AcceptsOne}
use Rattle.event_loop.specs.Reading as reading
use Rattle.event_loop.specs.Served as served
use Rattle.event_loop.specs.Sole.{WasAsked}
use Rattle.event_loop.specs.Writing as writing

module _ {N C J K H : Type 0} (p : Promises N C J K H) (first s : LoopState N C J K H) where
  -- it was asked just now
  asked_now : (s' : LoopState N C J K H) → Served p first s → LoopStep p s s' → IsSoleUpTo p.keeping s.keeper s'.keeper → waits_done s.calls ≡ waits_done s'.calls → call.reads s.calls ≡ call.reads s'.calls →
      WasAsked p first s'
  asked_now s' served step sole same_waits same_reads = record {
    before = s;
    behind = s';
    served = served;
    asked = step;
    sole = sole;
    until = stays;
    waits_are = same_waits;
    reads_are = same_reads;
  }

  -- or before, and no more was read since
  asked_before : (s' : LoopState N C J K H) → LoopStep p s s' → WasAsked p first s → waits_done s.calls ≡ waits_done s'.calls → call.reads s.calls ≡ call.reads s'.calls → WasAsked p first s'
  asked_before s' step was same_waits same_reads = record {
    before = was.before;
    behind = was.behind;
    served = was.served;
    asked = was.asked;
    sole = was.sole;
    until = onward was.until step;
    waits_are = was.waits_are ∙ same_waits;
    reads_are = was.reads_are ∙ same_reads;
  }

  -- one call more, which is neither a wait nor a read
  record IsNoRead (s' : LoopState N C J K H) : Type 0 where
    pub waits_are : waits_done s.calls ≡ waits_done s'.calls
    pub reads_are : call.reads s.calls ≡ call.reads s'.calls
    pub confirmed : IsConfirmed s'.calls → IsConfirmed s.calls

  accepts_no : (s' : LoopState N C J K H) → AcceptsOne p s s' → IsNoRead s'
  accepts_no s' (coming.opens k n e on within free done) = record { waits_are = refl; reads_are = refl; confirmed = λ is. is }
  accepts_no s' accepting = record { waits_are = refl; reads_are = refl; confirmed = λ is. is }

  writes_no : (k : ℕ) (place : Place) (s' : LoopState N C J K H) → WritesPlace p k place s s' → IsNoRead s'
  writes_no k place s' (writing.sends count front n e on some within is_front done) = record { waits_are = refl; reads_are = refl; confirmed = λ is. is }
  writes_no k place s' writing = record { waits_are = refl; reads_are = refl; confirmed = λ is. is }

  closes_no : (k : ℕ) (place : Place) (s' : LoopState N C J K H) → Closes p k place s s' → IsNoRead s'
  closes_no k place s' (leaves n e on noted done noting) = record { waits_are = refl; reads_are = refl; confirmed = λ is. is }

  -- behind a read it was not asked
  reads_not : (k : ℕ) (place : Place) (s' : LoopState N C J K H) → ReadsPlace p k place s s' → IsConfirmed s'.calls → ⊥
  reads_not k place s' (reading.hears bytes n progress place' some few done heard is) asked = asked
  reads_not k place s' (reading.refuses bytes n fault progress some few done unheard) asked = asked
  reads_not k place s' (reading.ends n e on done) asked = asked
  reads_not k place s' reading asked = asked

  no_read : (s' : LoopState N C J K H) → LoopStep p s s' → (IsConfirmed s.calls → WasAsked p first s) → IsConfirmed s'.calls → IsNoRead s' → WasAsked p first s'
  no_read s' step was asked still = asked_before s' step (was (still.confirmed asked)) still.waits_are still.reads_are

  step_asked : (s' : LoopState N C J K H) → Served p first s → LoopStep p s s' → (IsConfirmed s.calls → WasAsked p first s) → IsConfirmed s'.calls → WasAsked p first s'
  step_asked s' so_far (served.waits limit room found n times c keeper may done told near kept further) was asked = absurd asked
  step_asked s' so_far (comes s'' told accepting) was asked = no_read s'' (comes s'' told accepting) was asked (accepts_no s'' accepting)
  step_asked s' so_far (reads k place s'' here readable unread may reading) was asked = absurd (reads_not k place s'' reading asked)
  step_asked s' so_far (writes k place s'' here writable unwritten kept told confirmed may writing) was asked =
      no_read s'' (writes k place s'' here writable unwritten kept told confirmed may writing) was asked (writes_no k place s'' writing)
  step_asked s' so_far (closes k place s'' here taken cause closing) was asked = no_read s'' (closes k place s'' here taken cause closing) was asked (closes_no k place s'' closing)
  step_asked s' so_far (keeps keeper e unkept on undone kept ahead further sole) was asked = asked_now _ so_far (keeps keeper e unkept on undone kept ahead further sole) sole refl refl
  step_asked s' so_far (confirms keeper all holds sole) was asked = asked_now _ so_far (confirms keeper all holds sole) sole refl refl
  step_asked s' so_far step was asked = asked_before _ step (was asked) refl refl

module _ {N C J K H : Type 0} (p : Promises N C J K H) (first : LoopState N C J K H) where
  -- so it is wherever steps lead to
  pub served_asked : (s : LoopState N C J K H) → Served p first s → IsConfirmed s.calls → WasAsked p first s
  served_asked s (begins is) asked = absurd (subst IsConfirmed is.calls asked)
  served_asked s (goes {s = before} so_far step) asked = step_asked p first before s so_far step (served_asked before so_far) asked
