-- What is known in each pass, with a frame more, and where a pass ends.
use Rattle.std.proofs.Common.{◌≡◌, inr, ◌<◌, ◌+◌, ◌∙◌, ℕ, List, [], ◌∷◌, ◌++◌, length, refl, sym, ap, subst, append_assoc, arith}
use Rattle.std.specs.Global.{Vec}
use Rattle.consent.specs.History.{Event}
use Rattle.shortening.specs.Known.{IsKnown, NotesUnexpired}
use Rattle.shortening.specs.Shortened.{shortened}
use Rattle.shortening.specs.Steps.{IsDeciding, IsLeaving, IsListing, TellsLast, keeps_of, picked}
use Rattle.shortening.specs.StepsLaws.{picked_shortened}
use Rattle.shortening.specs.declared.deciding.Deciding.{Deciding}
use Rattle.shortening.specs.declared.known.Known.{Known}
use Rattle.shortening.specs.declared.last_told.LastTold.{LastTold}
use Rattle.shortening.specs.declared.leaving.Leaving.{Leaving}
use Rattle.shortening.specs.declared.listing.Listing.{Listing}
use Rattle.shortening.specs.declared.unexpired.Unexpired.{Unexpired}
use Rattle.state_keeper.proofs.Names.{AreTold, AreTold-joined, append-nil, end_of}
use Rattle.state_file.specs.LengthLaws.{frames_size-push}
use Rattle.state_keeper.proofs.Points.{Advance, advanced, at_end, next_in, none_in, retreated, starts_of-push}
use Rattle.state_keeper.specs.Seen.{IsDraft}
use Rattle.state_keeper.specs.Seen.{IsFrameSize}
use Rattle.state_keeper.specs.PassingParts.{AreLeft, Finishes, IsCounting, IsDecided, IsFollowing, IsForward, IsFrameAt, IsFrameOf, IsLeft, IsListed, IsNoting, Point, StaysLeft, starts_of}
use Rattle.state_keeper.specs.declared.course.Course.{Course}
use Rattle.state_keeper.specs.declared.course.Draft.{Draft}
use Rattle.state_keeper.specs.declared.course.Frame.{Frame}

-- the end of a pass: all is done
all_done : {front : List (List ℕ)} {at : ℕ} {before after : List Event} (p : Point front at before after) → at ≡ end_of front → p.rest ≡ []
all_done {front = front} p end = at_end front p.done p.rest p.parted (sym p.at_is ∙ end)

done_all : {front : List (List ℕ)} {at : ℕ} {before after : List Event} (p : Point front at before after) → at ≡ end_of front → front ≡ p.done
done_all p end = p.parted ∙ ap (λ (bs : List (List ℕ)). p.done ++ bs) (all_done p end) ∙ append-nil p.done

nothing_after : {front : List (List ℕ)} {at : ℕ} {before after : List Event} (p : Point front at before after) → at ≡ end_of front → after ≡ []
nothing_after {after = after} p end = subst (λ (bs : List (List ℕ)). AreTold bs after) (all_done p end) p.rest_told

all_before : {front : List (List ℕ)} {at : ℕ} {before after : List Event} (p : Point front at before after) → at ≡ end_of front → before ++ after ≡ before
all_before {before = before} p end = ap (λ (es : List Event). before ++ es) (nothing_after p end) ∙ append-nil before

-- and the next one begins
rewound : {front : List (List ℕ)} {at : ℕ} {before after : List Event} (p : Point front at before after) → at ≡ end_of front → Point front 16 [] before
rewound {front = front} {before = before} p end = record {
  done = [];
  rest = front;
  parted = refl;
  at_is = refl;
  done_told = refl;
  rest_told = subst (λ (bs : List (List ℕ)). AreTold bs before) (sym (done_all p end)) p.done_told;
}

abbrev pub at_place : Course → ℕ → Course
at_place c at = record c { at = at }

module _ (rules : List ℕ) (front : List (List ℕ)) (c : Course) (end_is : c.front_end ≡ end_of front) where
  -- COUNTING

  pub counting_on : (frame : Frame) (facts : List Event) (starts : Vec ℕ) (last : LastTold) → IsCounting rules front c → IsFrameOf front c.at frame → AreTold (frame.bytes.items ∷ []) facts →
      starts.items ≡ c.starts.items ++ c.at ∷ [] → ((events : List Event) → TellsLast c.last events → TellsLast last (events ++ facts)) →
      IsCounting rules front (record c { at = frame.end; starts = starts; last = last })
  counting_on frame facts starts last is f told more tells =
      let next = advanced front c.at is.before is.after facts frame is.point f told in
      record {
        under = is.under;
        before = is.before ++ facts;
        after = next.later;
        point = next.point;
        starts =
            more ∙ ap (λ (ns : List ℕ). ns ++ c.at ∷ []) is.starts ∙ ap (λ (n : ℕ). starts_of 16 is.point.done ++ n ∷ []) is.point.at_is
            ∙ sym (starts_of-push 16 is.point.done frame.bytes.items) ∙ ap (starts_of 16) (sym next.done);
        last = tells is.before is.last;
      }

  -- all is counted
  pub counted : (unexpired : Unexpired) → IsCounting rules front c → c.at ≡ c.front_end → ((m : ℕ) → NotesUnexpired unexpired [] m) → IsNoting rules front (at_place c 16) unexpired
  counted unexpired is at none =
      let end : c.at ≡ end_of front = at ∙ end_is in (
        [],
        is.before,
        record {
          under = is.under;
          point = rewound is.point end;
          starts = is.starts ∙ ap (starts_of 16) (sym (done_all is.point end));
          last = is.last;
        },
        none c.last.moment,
      )

  -- NOTING

  forward_on : (before after : List Event) (frame : Frame) (facts : List Event) (is : IsForward rules front c before after) (next : Advance is.point frame facts) →
      IsForward rules front (at_place c frame.end) (before ++ facts) next.later
  forward_on before after frame facts is next = record {
    under = is.under;
    point = next.point;
    starts = is.starts;
    last = subst (λ (es : List Event). TellsLast c.last es) next.all is.last;
  }

  pub noting_on : (frame : Frame) (facts : List Event) (old new : Unexpired) → IsNoting rules front c old → IsFrameOf front c.at frame → AreTold (frame.bytes.items ∷ []) facts →
      ((events : List Event) → NotesUnexpired old events c.last.moment → NotesUnexpired new (events ++ facts) c.last.moment) → IsNoting rules front (at_place c frame.end) new
  noting_on frame facts old new is f told notes =
      let next = advanced front c.at is.0 is.1 facts frame is.2.point f told in
      (is.0 ++ facts, next.later, forward_on is.0 is.1 frame facts is.2 next, notes is.0 is.3)

  -- all is noted
  pub noted : (unexpired : Unexpired) (listing : Listing) → IsNoting rules front c unexpired → c.at ≡ c.front_end →
      ((history : List Event) (m : ℕ) → NotesUnexpired unexpired history m → IsListing listing history m []) → IsListed rules front (at_place c 16) listing
  noted unexpired listing is at begins =
      let end : c.at ≡ end_of front = at ∙ end_is in (
        [],
        is.0,
        record {
          under = is.2.under;
          point = rewound is.2.point end;
          starts = is.2.starts;
          last = subst (λ (es : List Event). TellsLast c.last es) (all_before is.2.point end) is.2.last;
        },
        begins is.0 c.last.moment is.3,
      )

  -- LISTING

  pub listing_on : (frame : Frame) (facts : List Event) (old new : Listing) → IsListed rules front c old → IsFrameOf front c.at frame → AreTold (frame.bytes.items ∷ []) facts →
      ((history events : List Event) (m : ℕ) → IsListing old history m events → IsListing new history m (events ++ facts)) → IsListed rules front (at_place c frame.end) new
  listing_on frame facts old new is f told lists =
      let next = advanced front c.at is.0 is.1 facts frame is.2.point f told in (
        is.0 ++ facts,
        next.later,
        forward_on is.0 is.1 frame facts is.2 next,
        subst (λ (es : List Event). IsListing new es c.last.moment (is.0 ++ facts)) next.all (lists (is.0 ++ is.1) is.0 c.last.moment is.3),
      )

  -- all is listed
  pub listed : (listing : Listing) (known : Known) (deciding : Deciding) → IsListed rules front c listing → c.at ≡ c.front_end →
      ((history : List Event) (m : ℕ) → IsListing listing history m history → IsKnown known history m) →
      ((history : List Event) → IsKnown known history c.last.moment → IsDeciding deciding history c.last.moment []) → IsDecided rules front c deciding
  listed listing known deciding is at knows begins =
      let end : c.at ≡ end_of front = at ∙ end_is in
      let all = is.0 ++ is.1 in
      let whole : IsListing listing all c.last.moment all = subst (λ (es : List Event). IsListing listing all c.last.moment es) (sym (all_before is.2.point end)) is.3 in (
        is.0,
        is.1,
        record { under = is.2.under; point = is.2.point; starts = is.2.starts ∙ ap (starts_of 16) (done_all is.2.point end); last = is.2.last },
        subst (λ (es : List Event). IsDeciding deciding all c.last.moment es) (sym (nothing_after is.2.point end)) (begins all (knows all c.last.moment whole)),
      )

  -- DECIDING

  pub deciding_on : (start : ℕ) (starts : Vec ℕ) (bytes : List ℕ) (facts : List Event) (old new : Deciding) → IsDecided rules front c old → starts.items ++ start ∷ [] ≡ c.starts.items →
      IsFrameAt front start bytes → AreTold (bytes ∷ []) facts →
      ((history later : List Event) (m : ℕ) → IsDeciding old history m later → IsDeciding new history m (facts ++ later)) →
      IsDecided rules front (record c { at = start; starts = starts }) new
  deciding_on start starts bytes facts old new is begin at told decides =
      let back = retreated front c.at start starts.items is.0 is.1 facts bytes is.2.point (begin ∙ is.2.starts) at told in (
        back.earlier,
        facts ++ is.1,
        record {
          under = is.2.under;
          point = back.point;
          starts = back.starts_are;
          last = subst (λ (es : List Event). TellsLast c.last es) back.all is.2.last;
        },
        subst (λ (es : List Event). IsDeciding new es c.last.moment (facts ++ is.1)) back.all (decides (is.0 ++ is.1) is.1 c.last.moment is.3),
      )

  -- all is decided: what stays is to be written
  pub decided : (starts : Vec ℕ) (deciding : Deciding) (leaving : Leaving) (written : List (List ℕ)) → IsDecided rules front c deciding → c.starts.items ≡ [] → written ≡ rules ∷ [] →
      ((history later : List Event) (m : ℕ) → IsDeciding deciding history m later → IsLeaving leaving (keeps_of m history later)) →
      IsLeft rules front (record c { at = 16; starts = starts }) leaving [] written
  decided starts deciding leaving written is none begun leaves =
      let empty : is.2.point.done ≡ [] = none_in 16 is.2.point.done (sym none ∙ is.2.starts) in
      let first : is.0 ≡ [] = subst (λ (bs : List (List ℕ)). AreTold bs is.0) empty is.2.point.done_told in
      let all : is.0 ++ is.1 ≡ is.1 = ap (λ (es : List Event). es ++ is.1) first in
      let m = c.last.moment in
      let stays : picked (keeps_of m is.1 is.1) is.1 ≡ shortened m is.1 = picked_shortened m is.1 in
      let begins : front ≡ is.2.point.rest = is.2.point.parted ∙ ap (λ (bs : List (List ℕ)). bs ++ is.2.point.rest) empty in
      record {
        under = is.2.under;
        before = [];
        after = is.1;
        point = record { done = []; rest = is.2.point.rest; parted = begins; at_is = refl; done_told = refl; rest_told = is.2.point.rest_told };
        last = subst (λ (es : List Event). TellsLast c.last es) all is.2.last;
        answers = subst (λ (es : List Event). IsLeaving leaving (keeps_of m es is.1)) all (leaves (is.0 ++ is.1) is.1 m is.3);
        left = record {
          told = [];
          adds = record { more = []; added = begun; told = refl; plain = tt };
          few = omega arith;
          whole = stays;
        };
      }

  -- LEAVING

  pub leaving_on : (frame : Frame) (facts stay : List Event) (old new : Leaving) (gathered now : List Event) (written after : List (List ℕ)) →
      IsLeft rules front c old gathered written → IsFrameOf front c.at frame → AreTold (frame.bytes.items ∷ []) facts →
      ((history later : List Event) (m : ℕ) → IsLeaving old (keeps_of m history (facts ++ later)) →
      picked (keeps_of m history (facts ++ later)) (facts ++ later) ≡ stay ++ picked (keeps_of m history later) later) →
      ((history later : List Event) (m : ℕ) → IsLeaving old (keeps_of m history (facts ++ later)) → IsLeaving new (keeps_of m history later)) →
      StaysLeft gathered stay now written after → IsLeft rules front (at_place c frame.end) new now after
  leaving_on frame facts stay old new gathered now written after is f told picks rest stays =
      let next = advanced front c.at is.before is.after facts frame is.point f told in
      let m = c.last.moment in
      let all = is.before ++ is.after in
      let answers : IsLeaving old (keeps_of m all (facts ++ next.later)) = subst (λ (es : List Event). IsLeaving old (keeps_of m all es)) next.is is.answers in
      let picked_is : picked (keeps_of m all is.after) is.after ≡ stay ++ picked (keeps_of m all next.later) next.later =
      ap (λ (es : List Event). picked (keeps_of m all es) es) next.is ∙ picks all next.later m answers in
      let left : AreLeft (shortened m all) rules now (picked (keeps_of m all next.later) next.later) after =
      stays (shortened m all) rules (picked (keeps_of m all next.later) next.later)
      (subst (λ (es : List Event). AreLeft (shortened m all) rules gathered es written) picked_is is.left) in
      record {
        under = is.under;
        before = is.before ++ facts;
        after = next.later;
        point = next.point;
        last = subst (λ (es : List Event). TellsLast c.last es) next.all is.last;
        answers = subst (λ (es : List Event). IsLeaving new (keeps_of m es next.later)) next.all (rest all next.later m answers);
        left = subst (λ (es : List Event). AreLeft (shortened m es) rules now (picked (keeps_of m es next.later) next.later) after) next.all left;
      }

  -- all stays that is to stay
  pub left_all : (draft : Draft) (leaving : Leaving) (gathered : List Event) (tail written after : List (List ℕ)) → IsLeft rules front c leaving gathered written → c.at ≡ c.front_end →
      Finishes c gathered written after → IsFollowing front tail c after
  left_all draft leaving gathered tail written after is at finishes =
      let end : c.at ≡ end_of front = at ∙ end_is in
      let m = c.last.moment in
      let all = is.before ++ is.after in
      let told : AreTold front all = subst (λ (bs : List (List ℕ)). AreTold bs all) (sym is.point.parted) (AreTold-joined is.point.done is.point.rest is.before is.after is.point.done_told is.point.rest_told) in
      let none : picked (keeps_of m all is.after) is.after ≡ [] = ap (λ (es : List Event). picked (keeps_of m all es) es) (nothing_after is.point end) in
      record {
        left = after;
        followed = [];
        rest = tail;
        short = finishes front rules all is.under told is.last (subst (λ (es : List Event). AreLeft (shortened m all) rules gathered es written) none is.left);
        written_is = sym (append-nil after);
        tail_is = refl;
        at_is = end ∙ ap end_of (sym (append-nil front));
      }

-- FOLLOWING

module _ (front tail : List (List ℕ)) (c : Course) where
  -- a frame more is written as it is
  pub following_on : (frame : Frame) (written after : List (List ℕ)) → IsFollowing front tail c written → c.at < end_of (front ++ tail) → IsFrameAt (front ++ tail) c.at frame.bytes.items →
      frame.end ≡ c.at + (21 + length frame.bytes.items) → after ≡ written ++ frame.bytes.items ∷ [] → IsFollowing front tail (at_place c frame.end) after
  following_on frame written after is less at ends added =
      let bytes : List ℕ = frame.bytes.items in
      let all : front ++ tail ≡ (front ++ is.followed) ++ is.rest = ap (λ (bs : List (List ℕ)). front ++ bs) is.tail_is ∙ sym (append_assoc front is.followed is.rest) in
      let here = is.at_is in
      let next = next_in (front ++ tail) (front ++ is.followed) is.rest all (omega (arith, less, here)) in
      let parted : front ++ tail ≡ (front ++ is.followed) ++ next.0 ∷ next.1 = all ∙ ap (λ (bs : List (List ℕ)). (front ++ is.followed) ++ bs) next.2 in
      let same : bytes ≡ next.0 = at (front ++ is.followed) next.1 next.0 parted here in
      let push = frames_size-push (front ++ is.followed) bytes in
      let whole : front ++ (is.followed ++ bytes ∷ []) ≡ (front ++ is.followed) ++ bytes ∷ [] = sym (append_assoc front is.followed (bytes ∷ [])) in
      record {
        left = is.left;
        followed = is.followed ++ bytes ∷ [];
        rest = next.1;
        short = is.short;
        written_is = added ∙ ap (λ (bs : List (List ℕ)). bs ++ bytes ∷ []) is.written_is ∙ append_assoc is.left is.followed (bytes ∷ []);
        tail_is =
            is.tail_is ∙ ap (λ (bs : List (List ℕ)). is.followed ++ bs) (next.2 ∙ ap (λ (b : List ℕ). b ∷ next.1) (sym same))
            ∙ sym (append_assoc is.followed (bytes ∷ []) next.1);
        at_is = (let e : frame.end ≡ end_of ((front ++ is.followed) ++ bytes ∷ []) = omega (arith, push, ends, here) in e) ∙ ap end_of (sym whole);
      }

  -- it is one of the file
  pub size_following : (frame : Frame) (written batches : List (List ℕ)) → batches ≡ front ++ tail → IsFollowing front tail c written → c.at < end_of (front ++ tail) →
      IsFrameAt (front ++ tail) c.at frame.bytes.items → IsFrameSize batches (21 + length frame.bytes.items)
  size_following frame written batches whole is less at =
      let all : front ++ tail ≡ (front ++ is.followed) ++ is.rest = ap (λ (bs : List (List ℕ)). front ++ bs) is.tail_is ∙ sym (append_assoc front is.followed is.rest) in
      let here = is.at_is in
      let next = next_in (front ++ tail) (front ++ is.followed) is.rest all (omega (arith, less, here)) in
      let parted : front ++ tail ≡ (front ++ is.followed) ++ next.0 ∷ next.1 = all ∙ ap (λ (bs : List (List ℕ)). (front ++ is.followed) ++ bs) next.2 in
      let same : frame.bytes.items ≡ next.0 = at (front ++ is.followed) next.1 next.0 parted here in
      inr (front ++ is.followed, next.1, next.0, whole ∙ parted, ap (λ (b : List ℕ). 21 + length b) same)

  -- all is written
  pub followed_all : (written : List (List ℕ)) → IsFollowing front tail c written → c.at ≡ end_of (front ++ tail) → IsDraft front (front ++ tail) written
  followed_all written is end =
      let all : front ++ tail ≡ (front ++ is.followed) ++ is.rest = ap (λ (bs : List (List ℕ)). front ++ bs) is.tail_is ∙ sym (append_assoc front is.followed is.rest) in
      let none : is.rest ≡ [] = at_end (front ++ tail) (front ++ is.followed) is.rest all (sym is.at_is ∙ end) in
      record {
        left = is.left;
        tail = tail;
        short = is.short;
        whole_is = refl;
        draft_is = is.written_is ∙ ap (λ (bs : List (List ℕ)). is.left ++ bs) (sym (is.tail_is ∙ ap (λ (bs : List (List ℕ)). is.followed ++ bs) none ∙ append-nil is.followed));
      }
