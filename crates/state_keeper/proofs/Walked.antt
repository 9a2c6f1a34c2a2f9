-- A shortening that is on the way, a step further.
use Rattle.std.proofs.Common.{◌≡◌, inl, ◌<◌, ◌≤◌, ◌+◌, ◌-◌, ◌∙◌, ℕ, List, [], ◌∷◌, ◌++◌, length, length-append, Some, refl, sym, ap, subst, arith}
use Rattle.std.specs.Global.{Vec}
use Rattle.std.specs.Prelude.{◌↔◌, Bool, true, false, IsTrue, Result, Ok, Err, IfOk, OnOk}
use Rattle.batch_file.specs.Frames.{IsAtRest, header}
use Rattle.batch_file.specs.FramesLaws.{length-frames}
use Rattle.change_codec.specs.Batches.{Gathered}
use Rattle.change_codec.specs.declared.keeper.ShortenFault.{ShortenFault}
use Rattle.shortening.specs.Known.{IsKnown, NotesUnexpired}
use Rattle.shortening.specs.Steps.{IsDeciding, IsLeaving, IsListing, TellsLast, keeps_of, picked}
use Rattle.shortening.specs.declared.deciding.Deciding.{Deciding}
use Rattle.shortening.specs.declared.known.Known.{Known}
use Rattle.shortening.specs.declared.last_told.LastTold.{LastTold}
use Rattle.shortening.specs.declared.leaving.Leaving.{Leaving}
use Rattle.shortening.specs.declared.listing.Listing.{Listing}
use Rattle.shortening.specs.declared.unexpired.Unexpired.{Unexpired}
use Rattle.state_keeper.proofs.Names.{AreTold, BatchFile, DatedChange, Known as KnownFile, append-nil, dated_facts, Device, Event, IsOnDisk, end_of, frames_size, if◌then◌else◌}
use Rattle.state_keeper.proofs.Names.{recovered, shortened_size, tells_number}
use Rattle.state_file.specs.LengthLaws.{shortened_size-push}
use Rattle.state_keeper.proofs.Points.{none_in, retreated, size_backward, size_forward}
use Rattle.state_keeper.proofs.Passes.{at_place, counted, counting_on, decided, deciding_on, following_on, left_all, leaving_on, listed, listing_on, noted, noting_on, size_following}
use Rattle.state_keeper.proofs.Way.{frame_at_in, frame_in, front_is, way_on}
use Rattle.state_keeper.specs.Passing.{AreWritten, Hand, IsKnownFile, IsWay, KeepsFile, LeadsOn, StepsOn, front_at, hand, to_go_in}
use Rattle.state_keeper.specs.PassingParts.{Finishes, IsFrameAt, IsLeft, LeadsTo, StaysLeft}
use Rattle.state_keeper.specs.declared.course.Course.{Course}
use Rattle.state_keeper.specs.declared.course.Draft.{Draft}
use Rattle.state_keeper.specs.declared.course.Frame.{Frame}
use Rattle.state_keeper.specs.declared.course.Stage.{Stage}
use Rattle.state_keeper.specs.declared.course.Stage.TheVariants as stage

-- how many bytes are left, with a batch more
pub size_more : (batches : List (List ℕ)) (batch : List ℕ) (now before size : ℕ) → now ≡ frames_size (batches ++ batch ∷ []) → before ≡ shortened_size batches →
    size ≡ (if tells_number batch then now else before) → size ≡ shortened_size (batches ++ batch ∷ [])
size_more batches batch now before size all was is =
    is ∙ ap (λ (n : ℕ). if tells_number batch then n else before) all ∙ ap (λ (n : ℕ). if tells_number batch then frames_size (batches ++ batch ∷ []) else n) was
    ∙ sym (shortened_size-push batches batch)

-- what a batch tells that was read
pub told_by : (bytes seen : List ℕ) (items changes : List DatedChange) → seen ≡ bytes → changes ≡ items → AreTold (seen ∷ []) (dated_facts items) → AreTold (bytes ∷ []) (dated_facts changes)
told_by bytes seen items changes is are told =
    subst (λ (b : List ℕ). AreTold (b ∷ []) (dated_facts changes)) is (subst (λ (ds : List DatedChange). AreTold (seen ∷ []) (dated_facts ds)) (sym are) told)

-- a list that is not empty
pub not_empty : (r : Bool) (es : List Event) → (IsTrue r ↔ (es ≡ [])) → r ≡ false → 1 ≤ length es
not_empty r (e ∷ es) both is = omega arith
not_empty r [] both is = let told : r ≡ true = both.1 refl in absurd cc

pub on_ok : {T E : Type 0} (r : Result T E) (P Q : Type 0) → (P → Q) → OnOk r P → OnOk r Q
on_ok (Ok x) P Q f p = f p
on_ok (Err e) P Q f p = tt

pub on_both : {T E : Type 0} (r : Result T E) (P R Q : Type 0) → (P → R → Q) → OnOk r P → OnOk r R → OnOk r Q
on_both (Ok x) P R Q f p q = f p q
on_both (Err e) P R Q f p q = tt

-- a file ends behind its frames
pub end_is_end : {room : ℕ} (end : ℕ) (last file : List ℕ) → IsAtRest end room last file → end ≡ end_of (recovered file)
end_is_end end last file rest = omega (arith, rest.ends, length-frames (recovered file) header last rest.frames rest.are)

module _ {D : Type 0} (device : Device D) (rules : List ℕ) (old new : BatchFile D) (course : Course) (keeps : KeepsFile device old new) where
  -- A FRAME MORE

  module _ (frame : Frame) (facts : List Event) (ends : frame.end ≡ course.at + (21 + length frame.bytes.items)) (within : frame.end ≤ course.front_end)
      (read : device.reads_true new.device → IsFrameAt (recovered (device.seen old.device)) course.at frame.bytes.items) (told : AreTold (frame.bytes.items ∷ []) facts) where
    pub count_on : (starts : Vec ℕ) (last : LastTold) → starts.items ≡ course.starts.items ++ course.at ∷ [] →
        ((events : List Event) → TellsLast course.last events → TellsLast last (events ++ facts)) →
        StepsOn device rules (hand old course stage.Counting) (hand new (record course { at = frame.end; starts = starts; last = last }) stage.Counting)
    count_on starts last more tells = record {
      leads = record {
        nearer = omega (arith, ends, within);
        same_front = refl;
        way = λ front w.
            way_on device rules front (hand old course stage.Counting) (hand new (record course { at = frame.end; starts = starts; last = last }) stage.Counting) w keeps refl
            (let le = w.within in omega (arith, le, within)) w.written tt
            (λ true is.
            counting_on rules front course w.end_is frame facts starts last is (frame_in device rules front (hand old course stage.Counting) w course.at frame ends within (read true))
            told more tells
            );
      };
      few = λ true front w. (let is = w.true (keeps.truth true) in record {
        size = 21 + length frame.bytes.items;
        is_one = size_forward (recovered (device.seen old.device)) front w.tail w.whole_is course.at is.before is.after facts frame is.point
            (frame_in device rules front (hand old course stage.Counting) w course.at frame ends within (read true)) told;
        less = omega (arith, ends, within);
        moves = omega (arith, ends);
      });
    }

    pub note_on : (before after : Unexpired) → ((events : List Event) → NotesUnexpired before events course.last.moment → NotesUnexpired after (events ++ facts) course.last.moment) →
        StepsOn device rules (hand old course (stage.Noting before)) (hand new (at_place course frame.end) (stage.Noting after))
    note_on before after notes = record {
      leads = record {
        nearer = omega (arith, ends, within);
        same_front = refl;
        way = λ front w.
            way_on device rules front (hand old course (stage.Noting before)) (hand new (at_place course frame.end) (stage.Noting after)) w keeps refl
            (let le = w.within in omega (arith, le, within)) w.written tt
            (λ true is.
            noting_on rules front course w.end_is frame facts before after is
            (frame_in device rules front (hand old course (stage.Noting before)) w course.at frame ends within (read true)) told notes
            );
      };
      few = λ true front w. (let is = w.true (keeps.truth true) in record {
        size = 21 + length frame.bytes.items;
        is_one = size_forward (recovered (device.seen old.device)) front w.tail w.whole_is course.at is.0 is.1 facts frame is.2.point
            (frame_in device rules front (hand old course (stage.Noting before)) w course.at frame ends within (read true)) told;
        less = omega (arith, ends, within);
        moves = omega (arith, ends);
      });
    }

    pub list_on : (before after : Listing) → ((history events : List Event) (m : ℕ) → IsListing before history m events → IsListing after history m (events ++ facts)) →
        StepsOn device rules (hand old course (stage.Listing before)) (hand new (at_place course frame.end) (stage.Listing after))
    list_on before after lists = record {
      leads = record {
        nearer = omega (arith, ends, within);
        same_front = refl;
        way = λ front w.
            way_on device rules front (hand old course (stage.Listing before)) (hand new (at_place course frame.end) (stage.Listing after)) w keeps refl
            (let le = w.within in omega (arith, le, within)) w.written tt
            (λ true is.
            listing_on rules front course w.end_is frame facts before after is
            (frame_in device rules front (hand old course (stage.Listing before)) w course.at frame ends within (read true)) told lists
            );
      };
      few = λ true front w. (let is = w.true (keeps.truth true) in record {
        size = 21 + length frame.bytes.items;
        is_one = size_forward (recovered (device.seen old.device)) front w.tail w.whole_is course.at is.0 is.1 facts frame is.2.point
            (frame_in device rules front (hand old course (stage.Listing before)) w course.at frame ends within (read true)) told;
        less = omega (arith, ends, within);
        moves = omega (arith, ends);
      });
    }

    pub leave_on : (before after : Leaving) (batch now : Gathered) (draft drafted : Draft) (stay : List Event) →
        ((history later : List Event) (m : ℕ) → IsLeaving before (keeps_of m history (facts ++ later)) →
        picked (keeps_of m history (facts ++ later)) (facts ++ later) ≡ stay ++ picked (keeps_of m history later) later) →
        ((history later : List Event) (m : ℕ) → IsLeaving before (keeps_of m history (facts ++ later)) → IsLeaving after (keeps_of m history later)) →
        LeadsTo (AreWritten device old draft) (AreWritten device new drafted) (StaysLeft batch.facts stay now.facts) →
        StepsOn device rules (hand old course (stage.Leaving before batch draft)) (hand new (at_place course frame.end) (stage.Leaving after now drafted))
    leave_on before after batch now draft drafted stay picks rest leads = record {
      leads = record {
        nearer = omega (arith, ends, within);
        same_front = refl;
        way = λ front w.
            let led = leads w.written w.drafted in
            way_on device rules front (hand old course (stage.Leaving before batch draft)) (hand new (at_place course frame.end) (stage.Leaving after now drafted)) w keeps refl
            (let le = w.within in omega (arith, le, within)) led.0 led.1
            (λ true is.
            leaving_on rules front course w.end_is frame facts stay before after batch.facts now.facts w.written led.0 is
            (frame_in device rules front (hand old course (stage.Leaving before batch draft)) w course.at frame ends within (read true)) told picks rest led.2
            );
      };
      few = λ true front w. (let is = w.true (keeps.truth true) in record {
        size = 21 + length frame.bytes.items;
        is_one = size_forward (recovered (device.seen old.device)) front w.tail w.whole_is course.at is.before is.after facts frame is.point
            (frame_in device rules front (hand old course (stage.Leaving before batch draft)) w course.at frame ends within (read true)) told;
        less = omega (arith, ends, within);
        moves = omega (arith, ends);
      });
    }

  -- a frame before the others
  pub decide_on : (start : ℕ) (frame : Frame) (facts : List Event) (starts : Vec ℕ) (before after : Deciding) → frame.end ≡ start + (21 + length frame.bytes.items) → frame.end ≤ course.at →
      (device.reads_true new.device → IsFrameAt (recovered (device.seen old.device)) start frame.bytes.items) → AreTold (frame.bytes.items ∷ []) facts →
      starts.items ++ start ∷ [] ≡ course.starts.items → ((history later : List Event) (m : ℕ) → IsDeciding before history m later → IsDeciding after history m (facts ++ later)) →
      StepsOn device rules (hand old course (stage.Deciding before)) (hand new (record course { at = start; starts = starts }) (stage.Deciding after))
  decide_on start frame facts starts before after ends within read told begin decides = record {
    leads = record {
      nearer = omega (arith, ends, within);
      same_front = refl;
      way = λ front w.
          way_on device rules front (hand old course (stage.Deciding before)) (hand new (record course { at = start; starts = starts }) (stage.Deciding after)) w keeps refl
          (let le = w.at_within in omega (arith, le, within, ends)) w.written tt
          (λ true is.
          deciding_on rules front course w.end_is start starts frame.bytes.items facts before after is begin
          (frame_at_in device rules front (hand old course (stage.Deciding before)) w start frame.bytes.items (read true)) told decides
          );
    };
    few = λ true front w. (let is = w.true (keeps.truth true) in
        let back = retreated front course.at start starts.items is.0 is.1 facts frame.bytes.items is.2.point (begin ∙ is.2.starts)
        (frame_at_in device rules front (hand old course (stage.Deciding before)) w start frame.bytes.items (read true)) told in
        let last = back.ends in record {
          size = 21 + length frame.bytes.items;
          is_one = size_backward (recovered (device.seen old.device)) front w.tail w.whole_is course.at start starts.items is.0 is.1 facts frame.bytes.items is.2.point back;
          less = omega (arith, last);
          moves = omega (arith, last);
        });
  }

  -- a frame of those that were added
  pub follow_on : (frame : Frame) (draft drafted : Draft) → frame.end ≡ course.at + (21 + length frame.bytes.items) → frame.end ≤ old.end →
      (device.reads_true new.device → IsFrameAt (recovered (device.seen old.device)) course.at frame.bytes.items) → IsOnDisk device.seen device.may_leave device.faults old →
      ((batches : List (List ℕ)) → AreWritten device old draft batches → AreWritten device new drafted (batches ++ frame.bytes.items ∷ [])) →
      StepsOn device rules (hand old course (stage.Following draft)) (hand new (at_place course frame.end) (stage.Following drafted))
  follow_on frame draft drafted ends within read settled added = record {
    leads = record {
      nearer = omega (arith, ends, within);
      same_front = refl;
      way = λ front w.
          let whole : end_of (front ++ w.tail) ≡ old.end = ap end_of (sym w.whole_is) ∙ sym (end_is_end old.end old.last (device.seen old.device) settled.at_rest) in
          way_on device rules front (hand old course (stage.Following draft)) (hand new (at_place course frame.end) (stage.Following drafted)) w keeps refl within
          (w.written ++ frame.bytes.items ∷ []) (added w.written w.drafted)
          (λ true is.
          following_on front w.tail course frame w.written (w.written ++ frame.bytes.items ∷ []) is (omega (arith, whole, ends, within))
          (subst (λ (bs : List (List ℕ)). IsFrameAt bs course.at frame.bytes.items) w.whole_is (read true)) ends refl
          );
    };
    few = λ true front w. (let is = w.true (keeps.truth true) in
        let whole : end_of (front ++ w.tail) ≡ old.end = ap end_of (sym w.whole_is) ∙ sym (end_is_end old.end old.last (device.seen old.device) settled.at_rest) in record {
          size = 21 + length frame.bytes.items;
          is_one = size_following front w.tail course frame w.written (recovered (device.seen old.device)) w.whole_is is (omega (arith, whole, ends, within))
              (subst (λ (bs : List (List ℕ)). IsFrameAt bs course.at frame.bytes.items) w.whole_is (read true));
          less = omega (arith, ends, within);
          moves = omega (arith, ends);
        });
  }

  -- THE NEXT PASS

  pub count_turns : (unexpired : Unexpired) → course.at ≡ course.front_end → ((m : ℕ) → NotesUnexpired unexpired [] m) →
      StepsOn device rules (hand old course stage.Counting) (hand new (at_place course 16) (stage.Noting unexpired))
  count_turns unexpired at none = record {
    leads = record {
      nearer = omega (arith, at);
      same_front = refl;
      way = λ front w.
          way_on device rules front (hand old course stage.Counting) (hand new (at_place course 16) (stage.Noting unexpired)) w keeps refl
          (let le = w.within in let end = w.end_is in omega (arith, le, end)) w.written tt (λ true is. counted rules front course w.end_is unexpired is at none);
    };
    few = λ true front w. record { size = 0; is_one = inl refl; less = omega (arith, at); moves = omega arith };
  }

  pub note_turns : (unexpired : Unexpired) (listing : Listing) → course.at ≡ course.front_end →
      ((history : List Event) (m : ℕ) → NotesUnexpired unexpired history m → IsListing listing history m []) →
      StepsOn device rules (hand old course (stage.Noting unexpired)) (hand new (at_place course 16) (stage.Listing listing))
  note_turns unexpired listing at begins = record {
    leads = record {
      nearer = omega (arith, at);
      same_front = refl;
      way = λ front w.
          way_on device rules front (hand old course (stage.Noting unexpired)) (hand new (at_place course 16) (stage.Listing listing)) w keeps refl
          (let le = w.within in let end = w.end_is in omega (arith, le, end)) w.written tt (λ true is. noted rules front course w.end_is unexpired listing is at begins);
    };
    few = λ true front w. record { size = 0; is_one = inl refl; less = omega (arith, at); moves = omega arith };
  }

  pub list_turns : (listing : Listing) (known : Known) (deciding : Deciding) → course.at ≡ course.front_end →
      ((history : List Event) (m : ℕ) → IsListing listing history m history → IsKnown known history m) →
      ((history : List Event) → IsKnown known history course.last.moment → IsDeciding deciding history course.last.moment []) →
      StepsOn device rules (hand old course (stage.Listing listing)) (hand new course (stage.Deciding deciding))
  list_turns listing known deciding at knows begins = record {
    leads = record {
      nearer = omega (arith, at);
      same_front = refl;
      way = λ front w.
          way_on device rules front (hand old course (stage.Listing listing)) (hand new course (stage.Deciding deciding)) w keeps refl w.at_within w.written tt
          (λ true is. listed rules front course w.end_is listing known deciding is at knows begins);
    };
    few = λ true front w. record { size = 0; is_one = inl refl; less = omega (arith, at); moves = omega arith };
  }

  pub decide_turns : (starts : Vec ℕ) (deciding : Deciding) (leaving : Leaving) (batch : Gathered) (draft : Draft) → course.starts.items ≡ [] → batch.facts ≡ [] →
      AreWritten device new draft (rules ∷ []) → ((history later : List Event) (m : ℕ) → IsDeciding deciding history m later → IsLeaving leaving (keeps_of m history later)) →
      StepsOn device rules (hand old course (stage.Deciding deciding)) (hand new (record course { at = 16; starts = starts }) (stage.Leaving leaving batch draft))
  decide_turns starts deciding leaving batch draft none empty begun leaves = record {
    leads = record {
      nearer = omega arith;
      same_front = refl;
      way = λ front w.
          way_on device rules front (hand old course (stage.Deciding deciding)) (hand new (record course { at = 16; starts = starts }) (stage.Leaving leaving batch draft)) w keeps refl
          (let le = w.within in let end = w.end_is in omega (arith, le, end)) (rules ∷ []) begun
          (λ true is.
          subst (λ (es : List Event). IsLeft rules front (record course { at = 16; starts = starts }) leaving es (rules ∷ [])) (sym empty)
          (decided rules front course w.end_is starts deciding leaving (rules ∷ []) is none refl leaves)
          );
    };
    few = λ true front w. (let is = w.true (keeps.truth true) in
        let empty : is.2.point.done ≡ [] = none_in 16 is.2.point.done (sym none ∙ is.2.starts) in
        let here = is.2.point.at_is in
        let size = ap frames_size empty in record { size = 0; is_one = inl refl; less = omega (arith, here, size); moves = omega arith });
  }

  pub leave_turns : (leaving : Leaving) (batch : Gathered) (draft drafted : Draft) → course.at ≡ course.front_end →
      LeadsTo (AreWritten device old draft) (AreWritten device new drafted) (Finishes course batch.facts) →
      StepsOn device rules (hand old course (stage.Leaving leaving batch draft)) (hand new course (stage.Following drafted))
  leave_turns leaving batch draft drafted at leads = record {
    leads = record {
      nearer = omega (arith, at);
      same_front = refl;
      way = λ front w.
          let led = leads w.written w.drafted in
          way_on device rules front (hand old course (stage.Leaving leaving batch draft)) (hand new course (stage.Following drafted)) w keeps refl w.at_within led.0 led.1
          (λ true is. left_all rules front course w.end_is drafted leaving batch.facts w.tail w.written led.0 is at led.2);
    };
    few = λ true front w. record { size = 0; is_one = inl refl; less = omega (arith, at); moves = omega arith };
  }

-- whatever the rules are, in that stage
pub at_rules : {D : Type 0} (device : Device D) (rules : List ℕ) (old new : BatchFile D) (before after : Course) (was now : Stage) (r : Result Stage ShortenFault) → now ≡ was →
    IfOk r (λ next. (others : List ℕ) → StepsOn device others (hand old before was) (hand new after next)) → IfOk r (λ next. StepsOn device rules (hand old before now) (hand new after next))
at_rules device rules old new before after was now (Ok next) is on = subst (λ (s : Stage). StepsOn device rules (hand old before s) (hand new after next)) (sym is) (on rules)
at_rules device rules old new before after was now (Err fault) is on = tt

-- one step after another
pub leads_on_then : {D : Type 0} (device : Device D) (rules : List ℕ) (old mid new : Hand D) → mid.file.end ≡ old.file.end → LeadsOn device rules old mid → LeadsOn device rules mid new → LeadsOn device rules old new
leads_on_then device rules old mid new end first later = record {
  nearer = let a = first.nearer in let b = subst (λ (n : ℕ). to_go_in new.course new.stage n < to_go_in mid.course mid.stage n) end later.nearer in omega (arith, a, b);
  same_front = later.same_front ∙ first.same_front;
  way = λ front w. later.way front (first.way front w);
}

-- WHERE IT BEGINS

module _ {D : Type 0} (device : Device D) (file : BatchFile D) (settled : IsOnDisk device.seen device.may_leave device.faults file) where
  pub front_all : front_at (file.end - 16) (recovered (device.seen file.device)) ≡ recovered (device.seen file.device)
  front_all =
      let batches = recovered (device.seen file.device) in
      front_is file.end batches batches [] (sym (append-nil batches)) (end_is_end file.end file.last (device.seen file.device) settled.at_rest)

  pub begins : (known : KnownFile) (course : Course) → IsKnownFile device file known → course.front_end ≡ file.end → course.at ≡ 16 →
      course.starts.items ≡ [] → TellsLast course.last [] → course.until ≡ known.until →
      IsWay device known.rules.items (front_at (course.front_end - 16) (recovered (device.seen file.device))) (hand file course stage.Counting)
  begins known course is ends at starts last until =
      let batches = recovered (device.seen file.device) in
      let end : file.end ≡ end_of batches = end_is_end file.end file.last (device.seen file.device) settled.at_rest in
      let all : batches ≡ front_at (course.front_end - 16) batches = sym front_all ∙ ap (λ (n : ℕ). front_at (n - 16) batches) (sym ends) in
      subst (λ (bs : List (List ℕ)). IsWay device known.rules.items bs (hand file course stage.Counting)) all
      (record {
        written = [];
        drafted = tt;
        tail = [];
        whole_is = sym (append-nil batches);
        end_is = ends ∙ end;
        within = omega (arith, ends);
        at_within = omega (arith, at, end);
        true = λ true.
            let known_is = is true in
            let told = known_is.told tt in
            let rules = known_is.rules_are tt in record {
              under = record { rules_begin = known_is.rules_begin; rules_are = rules.1.1 ∙ ap (λ (r : List ℕ). Some r) (rules.1.2.1 ∙ sym rules.2); until_is = until ∙ known_is.until_is tt };
              before = [];
              after = told.0;
              point = record { done = []; rest = batches; parted = refl; at_is = at; done_told = refl; rest_told = told.1 };
              starts = starts;
              last = last;
            };
      })
