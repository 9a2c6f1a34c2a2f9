-- Places in the front of a file, and the frames there.
use Rattle.std.proofs.Common.{◌≡◌, inr, ◌<◌, ◌+◌, ◌∙◌, ℕ, List, [], ◌∷◌, ◌++◌, length, refl, sym, ap, subst, append_assoc, arith}
use Rattle.state_keeper.proofs.Names.{Event, AreTold, AreTold-joined, AreTold-split, append-nil, end_of, frames_size, one_told}
use Rattle.state_file.specs.LengthLaws.{frames_size-push}
use Rattle.state_keeper.specs.Seen.{IsFrameSize}
use Rattle.state_keeper.specs.PassingParts.{IsFrameAt, IsFrameOf, Point, starts_of}
use Rattle.state_keeper.specs.declared.course.Frame.{Frame}

pub frames_size-append : (batches more : List (List ℕ)) → frames_size (batches ++ more) ≡ frames_size batches + frames_size more
frames_size-append [] more = omega arith
frames_size-append (b ∷ batches) more = let later = frames_size-append batches more in omega (arith, later)

-- before the end there is a batch more
pub next_in : (front done rest : List (List ℕ)) → front ≡ done ++ rest → end_of done < end_of front → (batch : List ℕ) × (later : List (List ℕ)) × (rest ≡ batch ∷ later)
next_in front done [] parted less =
    let size = ap frames_size parted in
    let both = frames_size-append done [] in
    absurd (omega (arith, size, both, less))
next_in front done (batch ∷ later) parted less = (batch, later, refl)

-- one batch tells what it tells
alone_told : (batch : List ℕ) (later : List (List ℕ)) (facts after : List Event) (told : AreTold (batch ∷ later) after) → AreTold (batch ∷ []) facts → told.0 ≡ facts
alone_told batch later facts after told one = one_told (batch ∷ []) told.0 facts (told.0, [], told.2, refl, sym (append-nil told.0)) one

-- at the end there is none
pub at_end : (front done rest : List (List ℕ)) → front ≡ done ++ rest → end_of done ≡ end_of front → rest ≡ []
at_end front done [] parted same = refl
at_end front done (batch ∷ later) parted same =
    let size = ap frames_size parted in
    let both = frames_size-append done (batch ∷ later) in
    absurd (omega (arith, size, both, same))

-- a frame further
pub record Advance {front : List (List ℕ)} {at : ℕ} {before after : List Event} (p : Point front at before after) (frame : Frame) (facts : List Event) : Type 0 where
  pub later : List Event
  pub is : after ≡ facts ++ later
  pub all : before ++ after ≡ (before ++ facts) ++ later
  pub point : Point front frame.end (before ++ facts) later
  pub done : point.done ≡ p.done ++ frame.bytes.items ∷ []

pub advanced : (front : List (List ℕ)) (at : ℕ) (before after facts : List Event) (frame : Frame) (p : Point front at before after) → IsFrameOf front at frame →
    AreTold (frame.bytes.items ∷ []) facts → Advance p frame facts
advanced front at before after facts frame p f one =
    let less : end_of p.done < end_of front = let more = f.more in let here = p.at_is in omega (arith, more, here) in
    let next = next_in front p.done p.rest p.parted less in
    let batch : List ℕ = next.0 in
    let rest : List (List ℕ) = next.1 in
    let bytes : List ℕ = frame.bytes.items in
    let parted : front ≡ p.done ++ batch ∷ rest = p.parted ∙ ap (λ (bs : List (List ℕ)). p.done ++ bs) next.2 in
    let same : bytes ≡ batch = f.is p.done rest batch parted p.at_is in
    let told : AreTold (bytes ∷ rest) after = subst (λ (bs : List (List ℕ)). AreTold bs after) (next.2 ∙ ap (λ (b : List ℕ). b ∷ rest) (sym same)) p.rest_told in
    let first : told.0 ≡ facts = alone_told bytes rest facts after told one in
    let is : after ≡ facts ++ told.1 = told.4 ∙ ap (λ (es : List Event). es ++ told.1) first in
    let push = frames_size-push p.done bytes in
    record {
      later = told.1;
      is = is;
      all = ap (λ (es : List Event). before ++ es) is ∙ sym (append_assoc before facts told.1);
      point = record {
        done = p.done ++ bytes ∷ [];
        rest = rest;
        parted = parted ∙ ap (λ (b : List ℕ). p.done ++ b ∷ rest) (sym same) ∙ sym (append_assoc p.done (bytes ∷ []) rest);
        at_is = let ends = f.ends in let here = p.at_is in omega (arith, push, ends, here);
        done_told = AreTold-joined p.done (bytes ∷ []) before facts p.done_told one;
        rest_told = told.3;
      };
      done = refl;
    }

-- WHERE FRAMES BEGIN

pub starts_of-push : (at : ℕ) (batches : List (List ℕ)) (batch : List ℕ) → starts_of at (batches ++ batch ∷ []) ≡ starts_of at batches ++ (at + frames_size batches) ∷ []
starts_of-push at [] batch = ap (λ (n : ℕ). n ∷ []) here
  where
    here : at ≡ at + 0
    here = omega arith
starts_of-push at (b ∷ batches) batch =
    let later = starts_of-push (at + (21 + length b)) batches batch in
    ap (λ (ns : List ℕ). at ∷ ns) (later ∙ ap (λ (n : ℕ). starts_of (at + (21 + length b)) batches ++ n ∷ []) same)
  where
    same : at + (21 + length b) + frames_size batches ≡ at + (21 + length b + frames_size batches)
    same = omega arith

-- the last of them, and those before it
pub record Parted (at : ℕ) (batches : List (List ℕ)) (starts : List ℕ) (start : ℕ) : Type 0 where
  pub front : List (List ℕ)
  pub last : List ℕ
  pub are : batches ≡ front ++ last ∷ []
  pub starts_are : starts ≡ starts_of at front
  pub start_is : start ≡ at + frames_size front

pub last_in : (at : ℕ) (batches : List (List ℕ)) (starts : List ℕ) (start : ℕ) → starts ++ start ∷ [] ≡ starts_of at batches → Parted at batches starts start
last_in at [] [] start is = absurd cc
last_in at [] (s ∷ starts) start is = absurd cc
last_in at (b ∷ []) [] start is = record { front = []; last = b; are = refl; starts_are = refl; start_is = first ∙ here }
  where
    first : start ≡ at
    first = cc

    here : at ≡ at + 0
    here = omega arith
last_in at (b ∷ c ∷ batches) [] start is = absurd cc
last_in at (b ∷ batches) (s ∷ starts) start is =
    let first : s ≡ at = cc in
    let rest : starts ++ start ∷ [] ≡ starts_of (at + (21 + length b)) batches = cc in
    let later = last_in (at + (21 + length b)) batches starts start rest in
    let begins = later.start_is in
    record {
      front = b ∷ later.front;
      last = later.last;
      are = ap (λ (bs : List (List ℕ)). b ∷ bs) later.are;
      starts_are = ap (λ (n : ℕ). n ∷ starts) first ∙ ap (λ (ns : List ℕ). at ∷ ns) later.starts_are;
      start_is = omega (arith, begins);
    }

pub none_in : (at : ℕ) (batches : List (List ℕ)) → [] ≡ starts_of at batches → batches ≡ []
none_in at [] is = refl
none_in at (b ∷ batches) is = absurd cc

-- A FRAME BACK

pub record Retreat {front : List (List ℕ)} {at : ℕ} {before after : List Event} (p : Point front at before after) (start : ℕ) (starts bytes : List ℕ) (facts : List Event) : Type 0 where
  pub earlier : List Event
  pub is : before ≡ earlier ++ facts
  pub all : before ++ after ≡ earlier ++ (facts ++ after)
  pub point : Point front start earlier (facts ++ after)
  pub starts_are : starts ≡ starts_of 16 point.done
  pub rest_is : point.rest ≡ bytes ∷ p.rest
  pub ends : at ≡ start + (21 + length bytes)

pub retreated : (front : List (List ℕ)) (at start : ℕ) (starts : List ℕ) (before after facts : List Event) (bytes : List ℕ) (p : Point front at before after) →
    starts ++ start ∷ [] ≡ starts_of 16 p.done → IsFrameAt front start bytes → AreTold (bytes ∷ []) facts → Retreat p start starts bytes facts
retreated front at start starts before after facts bytes p begin is one =
    let last = last_in 16 p.done starts start begin in
    let parted : front ≡ last.front ++ last.last ∷ p.rest = p.parted ∙ ap (λ (bs : List (List ℕ)). bs ++ p.rest) last.are ∙ append_assoc last.front (last.last ∷ []) p.rest in
    let same : bytes ≡ last.last = is last.front p.rest last.last parted last.start_is in
    let told : AreTold (last.front ++ last.last ∷ []) before = subst (λ (bs : List (List ℕ)). AreTold bs before) last.are p.done_told in
    let split = AreTold-split last.front (last.last ∷ []) before told in
    let back : split.1 ≡ facts = one_told (last.last ∷ []) split.1 facts split.3 (subst (λ (b : List ℕ). AreTold (b ∷ []) facts) same one) in
    let before_is : before ≡ split.0 ++ facts = split.4 ∙ ap (λ (es : List Event). split.0 ++ es) back in
    record {
      earlier = split.0;
      is = before_is;
      all = ap (λ (es : List Event). es ++ after) before_is ∙ append_assoc split.0 facts after;
      point = record {
        done = last.front;
        rest = last.last ∷ p.rest;
        parted = parted;
        at_is = last.start_is;
        done_told = split.2;
        rest_told = AreTold-joined (last.last ∷ []) p.rest facts after (subst (λ (b : List ℕ). AreTold (b ∷ []) facts) same one) p.rest_told;
      };
      starts_are = last.starts_are;
      rest_is = ap (λ (b : List ℕ). b ∷ p.rest) (sym same);
      ends =
          let here = p.at_is in let size = ap frames_size last.are in let push = frames_size-push last.front last.last in let begins = last.start_is in let long = ap length same in
          omega (arith, here, size, push, begins, long);
    }

-- ONE FRAME OF A FILE

module _ (batches front tail : List (List ℕ)) (whole : batches ≡ front ++ tail) where
  -- it stands there
  pub size_there : (done : List (List ℕ)) (bytes : List ℕ) (rest : List (List ℕ)) → front ≡ done ++ bytes ∷ rest → IsFrameSize batches (21 + length bytes)
  size_there done bytes rest parted = inr (done, rest ++ tail, bytes, whole ∙ ap (λ (bs : List (List ℕ)). bs ++ tail) parted ∙ append_assoc done (bytes ∷ rest) tail, refl)

  -- going forwards
  pub size_forward : (at : ℕ) (before after facts : List Event) (frame : Frame) (p : Point front at before after) → IsFrameOf front at frame →
      AreTold (frame.bytes.items ∷ []) facts → IsFrameSize batches (21 + length frame.bytes.items)
  size_forward at before after facts frame p f told =
      let next = advanced front at before after facts frame p f told in
      size_there p.done frame.bytes.items next.point.rest
      (next.point.parted ∙ ap (λ (bs : List (List ℕ)). bs ++ next.point.rest) next.done ∙ append_assoc p.done (frame.bytes.items ∷ []) next.point.rest)

  -- and backwards
  pub size_backward : (at start : ℕ) (starts : List ℕ) (before after facts : List Event) (bytes : List ℕ) (p : Point front at before after) → Retreat p start starts bytes facts →
      IsFrameSize batches (21 + length bytes)
  size_backward at start starts before after facts bytes p back =
      size_there back.point.done bytes p.rest (back.point.parted ∙ ap (λ (bs : List (List ℕ)). back.point.done ++ bs) back.rest_is)
