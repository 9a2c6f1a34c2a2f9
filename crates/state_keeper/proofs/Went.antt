-- A shortening once a slice was gone over.
use Rattle.std.proofs.Common.{◌≡◌, ◌<◌, ◌≤◌, ◌+◌, ◌-◌, ◌^◌, ◌∙◌, ℕ, List, ◌++◌, sym, ap, subst, arith}
use Rattle.state_keeper.proofs.Names.{BatchFile, Device, IsOnDisk, end_of, recovered}
use Rattle.state_keeper.proofs.Passes.{followed_all}
use Rattle.state_keeper.proofs.Walked.{end_is_end}
use Rattle.state_keeper.specs.Seen.{IsDraft, IsSlice}
use Rattle.state_keeper.specs.Passing.{IsOnTheWay, IsReady, IsWay, KeepsFile, LeadsOn, SlicesOn, front_at, front_of, hand, to_go_in, to_go_of}
use Rattle.state_keeper.specs.PassingSteps.{IsEnded}
use Rattle.state_keeper.specs.declared.course.Course.{Course}
use Rattle.state_keeper.specs.declared.course.Shortening.{Shortening}
use Rattle.state_keeper.specs.declared.course.Stage.{Stage}
use Rattle.state_keeper.specs.declared.course.Stage.TheVariants as stage

-- all is written, where the end of the file is reached
pub ready : {D : Type 0} (device : Device D) (rules : List ℕ) (file : BatchFile D) (s : Shortening) → IsOnDisk device.seen device.may_leave device.faults file → IsOnTheWay device file rules s →
    IsEnded s file.end → IsReady device file s
ready device rules file s settled begun ended =
    let front = front_of device file s in
    let w : IsWay device rules front (hand file s.course (stage.Following ended.0)) = subst (λ (now : Stage). IsWay device rules front (hand file s.course now)) ended.1 begun in
    let end : s.course.at ≡ end_of (front ++ w.tail) = ended.2 ∙ end_is_end file.end file.last (device.seen file.device) settled.at_rest ∙ ap end_of w.whole_is in
    record {
      draft = ended.0;
      batches = w.written;
      is_last = ended.1;
      written = w.drafted;
      size = ended.3 ∙ w.drafted.size;
      all = ap (λ (now : Stage). to_go_in s.course now file.end) ended.1 ∙ omega (arith, let at = ended.2 in at);
      draft_is = λ true.
          subst (λ (bs : List (List ℕ)). IsDraft front bs w.written) (sym w.whole_is) (followed_all front w.tail s.course w.written (w.true true) end);
    }

-- where nothing was gone over
pub same_way : {D : Type 0} (device : Device D) (rules : List ℕ) (file : BatchFile D) (s t : Shortening) → t.course ≡ s.course → t.stage ≡ s.stage → IsOnTheWay device file rules s →
    IsOnTheWay device file rules t
same_way device rules file s t course now begun =
    let batches = recovered (device.seen file.device) in
    subst (λ (c : Course). IsWay device rules (front_at (c.front_end - 16) batches) (hand file c t.stage)) (sym course)
    (subst (λ (st : Stage). IsWay device rules (front_of device file s) (hand file s.course st)) (sym now) begun)

pub same_go : (s t : Shortening) (end : ℕ) → t.course ≡ s.course → t.stage ≡ s.stage → to_go_of t end ≡ to_go_of s end
same_go s t end course now = ap (λ (c : Course). to_go_in c t.stage end) course ∙ ap (λ (st : Stage). to_go_in s.course st end) now

module _ {D : Type 0} (device : Device D) (rules : List ℕ) (old new : BatchFile D) (s t : Shortening) (course : Course) (before after : Stage) (keeps : KeepsFile device old new)
    (is_before : before ≡ s.stage) (is_course : t.course ≡ course) (is_after : t.stage ≡ after) (leads : LeadsOn device rules (hand old s.course before) (hand new course after))
    (begun : IsOnTheWay device old rules s) where
  start : IsWay device rules (front_of device old s) (hand old s.course before)
  start = subst (λ (now : Stage). IsWay device rules (front_of device old s) (hand old s.course now)) (sym is_before) begun

  went_way : IsWay device rules (front_of device old s) (hand new t.course t.stage)
  went_way =
      subst (λ (c : Course). IsWay device rules (front_of device old s) (hand new c t.stage)) (sym is_course)
      (subst (λ (now : Stage). IsWay device rules (front_of device old s) (hand new course now)) (sym is_after) (leads.way (front_of device old s) start))

  pub went_front : front_of device new t ≡ front_of device old s
  went_front =
      ap (λ (n : ℕ). front_at (n - 16) (recovered (device.seen new.device))) (ap (λ (c : Course). c.front_end) is_course ∙ leads.same_front)
      ∙ ap (λ (bytes : List ℕ). front_at (s.course.front_end - 16) (recovered bytes)) keeps.stands.seen

  pub went_on : IsOnTheWay device new rules t
  went_on = subst (λ (bs : List (List ℕ)). IsWay device rules bs (hand new t.course t.stage)) (sym went_front) went_way

  new_go : to_go_of t old.end ≡ to_go_in course after old.end
  new_go = ap (λ (c : Course). to_go_in c t.stage old.end) is_course ∙ ap (λ (now : Stage). to_go_in course now old.end) is_after

  old_go : to_go_in s.course before old.end ≡ to_go_of s old.end
  old_go = ap (λ (now : Stage). to_go_in s.course now old.end) is_before

  less_from : (a b c d : ℕ) → a ≡ b → c ≡ d → b < c → a < d
  less_from a b c d e f less = omega (arith, e, f, less)

  most_from : (a b c d n : ℕ) → a ≡ b → c ≡ d → c ≤ b + n → d ≤ a + n
  most_from a b c d n e f most = omega (arith, e, f, most)

  pub went_nearer : to_go_of t old.end < to_go_of s old.end
  went_nearer = less_from (to_go_of t old.end) (to_go_in course after old.end) (to_go_in s.course before old.end) (to_go_of s old.end) new_go old_go leads.nearer

  pub went_slice : SlicesOn device rules (hand old s.course before) (hand new course after) → device.reads_true new.device →
      IsSlice (recovered (device.seen old.device)) (to_go_of s old.end) (to_go_of t old.end)
  went_slice slices true =
      let one = slices true (front_of device old s) start in
      (one.0, one.1, most_from (to_go_of t old.end) (to_go_in course after old.end) (to_go_in s.course before old.end) (to_go_of s old.end) (2 ^ 15 + (one.0 + 17)) new_go old_go one.2)
