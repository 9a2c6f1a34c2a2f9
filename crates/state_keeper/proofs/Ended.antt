-- What each slice of a shortening does, by what came of it.
use Rattle.std.proofs.Common.{inl, ◌≡◌, ◌≤◌, ◌<◌, ◌+◌, ◌-◌, ◌*◌, ◌∙◌, ⊎_elim, ℕ, List, Option, None, Some, refl, sym, ap, subst, arith}
use Rattle.std.specs.Prelude.{◌≢◌, IsSome, ⊤}
use Rattle.batch_file.specs.declared.appending.BatchFault.{BatchFault}
use Rattle.change_codec.specs.declared.keeper.Length.{Length}
use Rattle.change_codec.specs.declared.keeper.Length.TheVariants.{Short, Long}
use Rattle.change_codec.specs.declared.keeper.ShortenFault.{ShortenFault}
use Rattle.change_codec.specs.declared.keeper.ShortenFault.TheVariants.{Failed}
use Rattle.state_keeper.proofs.Names.{AreDrafted, BatchFile, Device, IsKnown, IsLong, IsOnDisk, Known, SeenKeeper, recovered}
use Rattle.state_keeper.proofs.Drafts.{known_placed}
use Rattle.state_keeper.proofs.Kept.{StaysIn, begins_now, given_up_now, goes_on_now, keeper_of, placed_leaves, placed_now, stays_unread}
use Rattle.state_keeper.proofs.Known.{known_still}
use Rattle.state_keeper.proofs.Sliced.{by_leaving, by_left, by_same, drafted_before, refused_by, slices_last, slices_on, stays_as, stays_long}
use Rattle.state_keeper.proofs.Way.{keeps_then}
use Rattle.state_keeper.specs.Seen.{IsSlice}
use Rattle.state_keeper.specs.Passing.{IsKnownFile, IsReady, KeepsFile, front_of, to_go_of}
use Rattle.state_keeper.specs.Slicing.{Ends, Fails, GivesUp, GoesFurther, GoesOver, IsOnTheWayIf, Slices, SlicesNot, front_if, to_go_if}
use Rattle.state_keeper.specs.declared.course.Shortening.{Shortening}
use Rattle.state_keeper.specs.declared.renewing.Came.TheVariants.{Placed, Refused, Broken}

-- a keeper of this file, with that shortening
abbrev pub keeper_with : {D : Type 0} → Device D → BatchFile D → Option BatchFault → Option Shortening → Known → SeenKeeper D
keeper_with device file fault s known = keeper_of file fault (front_if device file s) (to_go_if s file.end) known

-- What the device promises.
pub record Promised {D : Type 0} (device : Device D) : Type 0 where
  pub only_now : (d : D) (c : List ℕ) → device.left_since d (device.moment d) c → device.may_leave d c
  pub only_true : (d : D) (c : List ℕ) → device.may_leave d c → device.reads_true d

-- what a keeper knows that has not failed
abbrev pub Knows : {D : Type 0} → Device D → BatchFile D → Known → Option Shortening → Type 0
Knows device file known s =
    IsOnDisk device.seen device.may_leave device.faults file × IsKnownFile device file known
    × IsOnTheWayIf device file known.rules.items s

module _ {D : Type 0} (device : Device D) (promised : Promised device) (file : BatchFile D) (fault : Option BatchFault) (known : Known) (works : ¬ (IsSome fault)) where
  keeps_stays : (old new : BatchFile D) → KeepsFile device old new → StaysIn device old new
  keeps_stays old new keeps = stays_as device old new keeps.stands keeps.true_before keeps.truth (promised.only_true new.device)

  still_known : (new : BatchFile D) → KeepsFile device file new → IsKnownFile device file known → IsKnownFile device new known
  still_known new keeps is =
      known_still (device.reads_true file.device) (device.reads_true new.device) (recovered (device.seen file.device)) (recovered (device.seen new.device)) known keeps.truth (ap recovered keeps.stands.seen) is

  -- IT BEGINS

  pub begins_slice : (s : Shortening) → Knows device file known None → IsLong file.end known.shortened → front_of device file s ≡ recovered (device.seen file.device) →
      to_go_of s file.end ≡ 5 * (file.end - 16) + 21 → Slices device (keeper_with device file fault None known) (keeper_with device file fault (Some s) known) Long
  begins_slice s knows long front le =
      let old = keeper_with device file fault None known in
      let new = keeper_with device file fault (Some s) known in
      let stays = stays_unread device file knows.0 (promised.only_now file.device) (promised.only_true file.device) in
      let fronts = ap (λ (f : List (List ℕ)). Some f) front in
      slices_on device old new (by_left (begins_now device old new stays fronts)) works long long (omega (arith, le)) refl fronts (λ _. (0, inl refl, omega (arith, le)))

  module _ (s : Shortening) (knows : Knows device file known (Some s)) (long : IsLong file.end known.shortened) where
    abbrev was : SeenKeeper D
    was = keeper_with device file fault (Some s) known

    -- IT GOES ON

    pub goes_slice : (new : BatchFile D) (now : Shortening) → GoesFurther device file known.rules.items s new now → Slices device (keeper_with device file fault (Some s) known) (keeper_with device new fault (Some now) known) Long
    goes_slice new now further =
        let stays = keeps_stays file new further.keeps in
        let fronts = ap (λ (f : List (List ℕ)). Some f) further.same in
        let end = further.keeps.stands.end in
        let keeper = keeper_with device new fault (Some now) known in
        slices_on device was keeper (by_same (goes_on_now device was keeper stays fronts)) works long
        (subst (λ (n : ℕ). IsLong n known.shortened) (sym end) long)
        (subst (λ (n : ℕ). to_go_of now n < to_go_of s file.end) (sym end) further.nearer) end fronts
        (λ true. subst (λ (n : ℕ). IsSlice (recovered (device.seen file.device)) (to_go_of s file.end) (to_go_of now n)) (sym end) (further.slice true))

    pub goes_known : (new : BatchFile D) (now : Shortening) → GoesFurther device file known.rules.items s new now → Knows device new known (Some now)
    goes_known new now further = (further.keeps.stands.settled, still_known new further.keeps knows.1, further.way)

    -- IT IS REFUSED

    refused_keeps : (new : BatchFile D) (now : Shortening) (refused : ShortenFault) → GoesOver device file known.rules.items s new now (Refused refused) → (refused ≢ Failed) × GivesUp device file new
    refused_keeps new now refused over =
        ⊎_elim (λ at_once. at_once) (λ ends. (ends.puts.0, record { keeps = keeps_then device file ends.mid new ends.keeps ends.puts.1.keeps; none = ends.puts.1.none })) over

    pub refused_slice : (new : BatchFile D) (now : Shortening) (refused : ShortenFault) → GoesOver device file known.rules.items s new now (Refused refused) →
        SlicesNot device (keeper_with device file fault (Some s) known) (keeper_with device new fault None known) refused
    refused_slice new now refused over =
        let is = refused_keeps new now refused over in
        let keeper = keeper_with device new fault None known in
        refused_by refused is.0 (stays_long (by_same (given_up_now device was keeper (keeps_stays file new is.1.keeps) refl)) long is.1.keeps.stands.end is.1.none)

    pub refused_known : (new : BatchFile D) (now : Shortening) (refused : ShortenFault) → GoesOver device file known.rules.items s new now (Refused refused) → Knows device new known None
    refused_known new now refused over = let keeps = (refused_keeps new now refused over).1.keeps in (keeps.stands.settled, still_known new keeps knows.1, tt)

    -- IT BREAKS, OR ENDS

    drafted : (mid : BatchFile D) (now : Shortening) (ends_same : front_of device mid now ≡ front_of device file s) (keeps : KeepsFile device file mid) (ready : IsReady device mid now) →
        device.reads_true mid.device → AreDrafted (Some (front_of device file s)) (recovered (device.seen file.device)) ready.batches
    drafted mid now same keeps ready true = drafted_before device file mid s now ready keeps.stands.seen same true

    pub broken_slice : (new : BatchFile D) (broken : BatchFault) → Ends device file s new (Broken broken) → Fails device (keeper_with device file fault (Some s) known) (keeper_with device new (Some broken) None known)
    broken_slice new broken ends =
        let mid = keeper_with device ends.mid fault None known in
        let keeper = keeper_with device new (Some broken) None known in
        let may = ends.puts ends.ready in
        let all = by_leaving {device = device} (placed_leaves device was mid keeper ends.ready.batches (keeps_stays file ends.mid ends.keeps)
        (drafted ends.mid ends.now ends.same ends.keeps ends.ready) may.any_moment may.readable may.true_before) in
        record { held = all.held; told = all.told; fails = refl }

    pub placed_known : (new : BatchFile D) (size : ℕ) (now : Known) → Ends device file s new (Placed size) → now.rules ≡ known.rules → now.until ≡ known.until → now.shortened ≡ size → Knows device new now None
    placed_known new size now ends rules until sized =
        let put = ends.puts.1 ends.ready in (
          put.0.settled,
          subst (λ (bs : List (List ℕ)). device.reads_true new.device → IsKnown ⊤ bs now) (sym put.0.placed)
              (known_placed (device.reads_true file.device) (device.reads_true new.device) (Some (front_of device file s)) (recovered (device.seen file.device)) ends.ready.batches known now (λ t. ends.keeps.truth (put.1.truth t)) knows.1 (λ t. drafted ends.mid ends.now ends.same ends.keeps ends.ready (put.1.truth t)) rules until (sized ∙ ends.puts.0 ∙ ends.ready.size)),
          tt,
        )

    pub placed_slice : (new : BatchFile D) (size : ℕ) (length : Length) → Ends device file s new (Placed size) → (length ≡ Short → ¬ (IsLong new.end size)) → (length ≡ Long → IsLong new.end size) →
        Slices device (keeper_with device file fault (Some s) known) (keeper_with device new fault None (record known { shortened = size })) length
    placed_slice new size length ends short still =
        let put = ends.puts.1 ends.ready in
        let mid = keeper_with device ends.mid fault None known in
        let keeper = keeper_with device new fault None (record known { shortened = size }) in
        let stays = keeps_stays file ends.mid ends.keeps in
        let drafts = drafted ends.mid ends.now ends.same ends.keeps ends.ready in
        let leaves = placed_leaves device was mid keeper ends.ready.batches stays drafts put.1.any_moment put.1.readable put.1.true_before in
        let now = placed_now device was mid keeper ends.ready.batches stays drafts leaves put.0.settled put.1.truth (promised.only_true new.device) put.0.placed refl in
        slices_last device was keeper (by_same now) works length long
        (λ t. subst (λ (bs : List (List ℕ)). AreDrafted (Some (front_of device file s)) (recovered (device.seen file.device)) bs) (sym put.0.placed) (drafts (put.1.truth t)))
        (λ t. subst (λ (n : ℕ). IsSlice (recovered (device.seen file.device)) (to_go_of s file.end) n) (ap (to_go_of ends.now) (sym ends.keeps.stands.end) ∙ ends.ready.all) (ends.slice (put.1.truth t)))
        short still
