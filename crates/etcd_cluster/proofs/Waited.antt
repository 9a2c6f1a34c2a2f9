-- What happened while a server waited for what is told of a call.
use Rattle.std.proofs.Common.{◌≡◌, ◌⊎◌, inl, inr, ◌≤◌, ℕ, subst, arith}
use Rattle.std.specs.Global.{Vec}
use Rattle.std.specs.Prelude.{Option, Some, None, map, Result, Ok, Err, IfOk, IfSome, OnErr}
use Rattle.etcd_cluster.specs.Moves.{HasMoved, IsAnswered, IsTold, Meanwhile, Moves, came, rests}
use Rattle.etcd_cluster.specs.Stands.{ChangeFact, done_at, piece_fact}
use Rattle.etcd_cluster.specs.Worlds.{AreThere, Answered, Asked, Follows, HeadFollows, IsStanding, Passes, PiecesFollow, Side, Unanswered, World, seen_pieces, sent_then, with_sent}
use Rattle.etcd_cluster.specs.declared.change.Answer.{Answer}
use Rattle.etcd_cluster.specs.declared.change.Answer.TheVariants.{Done, NotDone}
use Rattle.etcd_cluster.specs.declared.change.CallFault.{CallFault}
use Rattle.etcd_cluster.specs.declared.change.CallFault.TheVariants.{Refused, Unclear}
use Rattle.etcd_cluster.specs.declared.change.Piece.{Piece}
use Rattle.etcd_cluster.specs.declared.change.Standing.{Standing}
use Rattle.etcd_cluster.specs.declared.change.Wanted.{Wanted}
use Rattle.etcd_cluster.proofs.Moved.{moves_goes, moves_on}

-- what was sent by then
pub sent_within : (change : ChangeFact) (result : Result Answer CallFault) (by : Side) (one : ChangeFact) → (sent_then change result by).sent one → (one ≡ change) ⊎ by.sent one
sent_within change (Ok answer) by one is = is
sent_within change (Err Unclear) by one is = is
sent_within change (Err Refused) by one is = inr is

pub sent_more : (change : ChangeFact) (old before : ChangeFact → Type 0) → ((one : ChangeFact) → before one → (one ≡ change) ⊎ old one)
    → (one : ChangeFact) → (one ≡ change) ⊎ before one → (one ≡ change) ⊎ old one
sent_more change old before sent one (inl it) = inl it
sent_more change old before sent one (inr was) = sent one was

module _ (server since : ℕ) (MayCome : ChangeFact → Type 0) (old before now : World → Type 0) (moved : HasMoved server since MayCome old before) where
  -- nothing was told
  pub moved_silent : (by : Side) → by.server ≡ server → since ≤ by.moment → ((one : ChangeFact) → by.sent one → MayCome one)
      → ((w : World) → now w → Unanswered by before w) → HasMoved server since MayCome old now
  moved_silent by same at may silent w is =
      let it = silent w is in
      let was = moved it.first it.was in
      (was.0, was.1, moves_goes server since MayCome was.0 by it.first w same at may was.2 it.since)

  -- something was
  moved_asked : (IsSo : World → Type 0) (by : Side) → by.server ≡ server → since ≤ by.moment → ((one : ChangeFact) → by.sent one → MayCome one)
      → (w : World) → Asked by IsSo before w → IsTold server since MayCome IsSo old w
  moved_asked IsSo by same at may w it =
      let was = moved it.first it.was in
      record {
        first = was.0;
        was = was.1;
        at = it.at;
        until = moves_goes server since MayCome was.0 by it.first it.at same at may was.2 it.until;
        told = it.told;
        onward = moves_goes server since MayCome it.at by it.at w same at may rests it.since;
      }

  moved_answered : (change : ChangeFact) (answer : Answer) (by : Side) → by.server ≡ server → since ≤ by.moment → ((one : ChangeFact) → (with_sent change by).sent one → MayCome one)
      → (w : World) → Answered by change answer before w → IsAnswered server since MayCome change answer old w
  moved_answered change answer by same at may w it =
      let was = moved it.first it.was in
      record {
        first = was.0;
        was = was.1;
        at = it.at;
        until = moves_goes server since MayCome was.0 (with_sent change by) it.first it.at same at may was.2 it.until;
        then_at = it.then_at;
        told = it.told;
        onward = moves_goes server since MayCome it.then_at (with_sent change by) it.then_at w same at may rests it.since;
      }

  -- OF A CHANGE

  pub change_told : (change : ChangeFact) (by : Side) → by.server ≡ server → since ≤ by.moment → ((one : ChangeFact) → (with_sent change by).sent one → MayCome one)
      → (r : Result Answer CallFault) → ((w : World) → now w → Follows by change r before w)
      → IfOk r (λ answer. (w : World) → now w → IsAnswered server since MayCome change answer old w)
  change_told change by same at may (Ok answer) follows = λ w is. moved_answered change answer by same at may w (follows w is)
  change_told change by same at may (Err fault) follows = tt

  pub change_untold : (change : ChangeFact) (by : Side) → by.server ≡ server → since ≤ by.moment → ((one : ChangeFact) → (with_sent change by).sent one → MayCome one)
      → (r : Result Answer CallFault) → ((w : World) → now w → Follows by change r before w) → OnErr r (HasMoved server since MayCome old now)
  change_untold change by same at may (Ok answer) follows = tt
  change_untold change by same at may (Err Unclear) follows = moved_silent (with_sent change by) same at may follows
  change_untold change by same at may (Err Refused) follows = moved_silent by same at (λ one is. may one (inr is)) follows

  -- OF THE HEAD

  pub head_told : (by : Side) → by.server ≡ server → since ≤ by.moment → ((one : ChangeFact) → by.sent one → MayCome one)
      → (r : Result (Option Standing) CallFault) → ((w : World) → now w → HeadFollows by r before w)
      → IfOk r (λ found. (w : World) → now w → IsTold server since MayCome (λ at. IsStanding at.stand found) old w)
  head_told by same at may (Ok found) follows = λ w is. moved_asked (λ at. IsStanding at.stand found) by same at may w (follows w is)
  head_told by same at may (Err fault) follows = tt

  pub head_silent : (by : Side) → by.server ≡ server → since ≤ by.moment → ((one : ChangeFact) → by.sent one → MayCome one)
      → (r : Result (Option Standing) CallFault) → ((w : World) → now w → HeadFollows by r before w) → OnErr r (HasMoved server since MayCome old now)
  head_silent by same at may (Ok found) follows = tt
  head_silent by same at may (Err fault) follows = moved_silent by same at may follows

  -- OF PIECES

  pub pieces_told : (wanted : Wanted) (by : Side) → by.server ≡ server → since ≤ by.moment → ((one : ChangeFact) → by.sent one → MayCome one)
      → (r : Result (Option (Vec Piece)) CallFault) → ((w : World) → now w → PiecesFollow by wanted (seen_pieces r) before w)
      → IfOk r (λ found. IfSome found (λ pieces. (w : World) → now w
      → IsTold server since MayCome (λ at. (at.stand.version ≡ wanted.version) × AreThere wanted.generation (map piece_fact pieces.items) at.stand) old w))
  pieces_told wanted by same at may (Ok (Some pieces)) follows =
      λ w is. moved_asked (λ at. (at.stand.version ≡ wanted.version) × AreThere wanted.generation (map piece_fact pieces.items) at.stand) by same at may w (follows w is)
  pieces_told wanted by same at may (Ok None) follows = tt
  pieces_told wanted by same at may (Err fault) follows = tt

  pub pieces_silent : (wanted : Wanted) (by : Side) → by.server ≡ server → since ≤ by.moment → ((one : ChangeFact) → by.sent one → MayCome one)
      → (r : Result (Option (Vec Piece)) CallFault) → ((w : World) → now w → PiecesFollow by wanted (seen_pieces r) before w) → HasMoved server since MayCome old now
  pieces_silent wanted by same at may (Ok (Some pieces)) follows w is =
      let it = moved_asked (λ at. (at.stand.version ≡ wanted.version) × AreThere wanted.generation (map piece_fact pieces.items) at.stand) by same at may w (follows w is) in
      (it.first, it.was, moves_on server since MayCome it.first it.at w it.until it.onward)
  pieces_silent wanted by same at may (Ok None) follows w is = moved_silent by same at may follows w is
  pieces_silent wanted by same at may (Err fault) follows w is = moved_silent by same at may follows w is

-- MEANWHILE

module _ (server since : ℕ) (MayCome : ChangeFact → Type 0) (old : World → Type 0) where
  -- it comes of what might have been
  abbrev pub HasCome : World → Type 0
  HasCome w = (first : World) × old first × Moves server since MayCome first w

  pub told_come : (IsSo : World → Type 0) (w : World) → IsTold server since MayCome IsSo old w → HasCome w
  told_come IsSo w it = (it.first, it.was, moves_on server since MayCome it.first it.at w it.until it.onward)

  pub answered_come : (change : ChangeFact) → MayCome change → (answer : Answer) (w : World) → IsAnswered server since MayCome change answer old w → HasCome w
  answered_come change may (Done version) w it =
      let its = it.told in
      let then_at : World = record { stand = done_at version change (it.at).stand; begun = None } in
      let onward : Moves server since MayCome then_at w = subst (λ (x : World). Moves server since MayCome x w) its.2 it.onward in
      (it.first, it.was, moves_on server since MayCome it.first then_at w (came it.until change version may its.0 its.1) onward)
  answered_come change may (NotDone told) w it =
      let onward : Moves server since MayCome it.at w = subst (λ (x : World). Moves server since MayCome x w) (it.told).1 it.onward in
      (it.first, it.was, moves_on server since MayCome it.first it.at w it.until onward)

-- whatever is given
pub come_all : {A E : Type 0} (r : Result A E) (now : World → Type 0) (IsSo : A → World → Type 0) (Comes : World → Type 0) → IfOk r (λ a. (w : World) → now w → IsSo a w)
    → OnErr r ((w : World) → now w → Comes w) → ((a : A) (w : World) → IsSo a w → Comes w) → (w : World) → now w → Comes w
come_all (Ok a) now IsSo Comes told untold so w is = so a w (told w is)
come_all (Err e) now IsSo Comes told untold so w is = untold w is

-- a call more
pub meanwhile_on : (since at : ℕ) (old : World → Type 0) (past mid now : ℕ → World → Type 0) (may_be : World → Type 0) (Comes : World → World → Type 0) → since ≤ at
    → Meanwhile since old past mid Comes → Passes at mid now may_be → ((w : World) → may_be w → (first : World) × old first × Comes first w) → Meanwhile since old past now Comes
meanwhile_on since at old past mid now may_be Comes later so time comes = record {
  nothing_else = λ t w le is.
      elim (time.nothing_else t w (omega (arith, le, later)) is) [
        | inl was ↦ so.nothing_else t w le was
        | inr here ↦ inr (comes w here)
      ];
  keeps = λ t w le was. time.keeps t w (omega (arith, le, later)) (so.keeps t w le was);
}

-- in other words
pub meanwhile_as : (since : ℕ) (old : World → Type 0) (past now : ℕ → World → Type 0) (Moves Comes : World → World → Type 0) → Meanwhile since old past now Moves
    → ((first w : World) → old first → Moves first w → Comes first w) → Meanwhile since old past now Comes
meanwhile_as since old past now Moves Comes so comes = record {
  nothing_else = λ t w le is.
      elim (so.nothing_else t w le is) [
        | inl was ↦ inl was
        | inr it ↦ inr (it.0, it.1, comes it.0 w it.1 it.2)
      ];
  keeps = so.keeps;
}
