-- What calls that were made again tell of pieces.
use Rattle.std.proofs.Common.{◌≡◌, ℕ, zero, suc, Bool, true, false, List, [], ◌∷◌, refl, sym, subst}
use Rattle.std.specs.Prelude.{Option, None, Some, Result, Ok, Err, ◌==◌, ◌&&◌, if◌then◌else◌}
use Rattle.etcd_cluster.specs.Again.{AsksAgain, IsSettled, again}
use Rattle.etcd_cluster.specs.Calls.{AreTrue, AskedPieces, Called, IsTrueOf, Sent, stand_by}
use Rattle.etcd_cluster.specs.Stands.{ChangeFact, PieceFact, Pieces, Stand}
use Rattle.etcd_cluster.specs.Worlds.{known_or, stand_seen, with_pieces}
use Rattle.etcd_cluster.specs.declared.change.CallFault.{CallFault}
use Rattle.etcd_cluster.specs.declared.change.CallFault.TheVariants.{Unclear}
use Rattle.etcd_cluster.specs.declared.change.Wanted.{Wanted}
use Rattle.etcd_cluster.specs.declared.settling.SettleFault.{SettleFault}

-- where nothing was told nothing is known anew
silent_stand : (n : ℕ) (wanted : Wanted) (calls : List Called) → stand_by (again n (AskedPieces wanted (Err Unclear)) calls) ≡ stand_by calls
silent_stand zero wanted calls = refl
silent_stand (suc n) wanted calls = silent_stand n wanted calls

silent_true : (n : ℕ) (wanted : Wanted) (calls : List Called) → AreTrue (again n (AskedPieces wanted (Err Unclear)) calls) → AreTrue calls
silent_true zero wanted calls is = is
silent_true (suc n) wanted calls is = silent_true n wanted calls is.0

sent_true : (n : ℕ) (change : ChangeFact) (calls : List Called) → AreTrue (again n (Sent change (Err Unclear)) calls) → AreTrue calls
sent_true zero change calls is = is
sent_true (suc n) change calls is = sent_true n change calls is

-- what was told by then was so before, and of the pieces, too
pub look_true : (more : ℕ) (wanted : Wanted) (told : Result (Option (List PieceFact)) CallFault) (old new : List Called) → AsksAgain more (AskedPieces wanted) told old new
    → AreTrue new → AreTrue old × IsTrueOf wanted told (stand_by old)
look_true more wanted told old new asks are =
    let is = subst (λ (calls : List Called). AreTrue calls) asks.calls are in (
      silent_true asks.times wanted old is.0,
      subst (λ (s : Stand). IsTrueOf wanted told s) (silent_stand asks.times wanted old) is.1,
    )

pub settle_true : (more : ℕ) (change : ChangeFact) (result : Result ℕ SettleFault) (old new : List Called) → IsSettled more change result old new → AreTrue new → AreTrue old
settle_true more change result old new settled are =
    sent_true settled.asked.times change old (subst (λ (calls : List Called). AreTrue calls) settled.asked.calls are)

-- WHAT WAS KNOWN STAYS SO

kept_one : (b : Bool) (known : Option (List ℕ)) (bytes piece : List ℕ) → known ≡ Some piece → (if b then known_or known bytes else known) ≡ Some piece
kept_one true known bytes piece is = subst (λ (o : Option (List ℕ)). known_or o bytes ≡ Some piece) (sym is) refl
kept_one false known bytes piece is = is

kept_all : (generation : ℕ) (told : List PieceFact) (known : Pieces) (g p : ℕ) (piece : List ℕ) → known g p ≡ Some piece → with_pieces generation told known g p ≡ Some piece
kept_all generation [] known g p piece is = is
kept_all generation (one ∷ later) known g p piece is =
    kept_all generation later (λ h q. if h == generation && q == one.at then known_or (known h q) one.bytes else known h q) g p piece
    (kept_one (g == generation && p == one.at) (known g p) one.bytes piece is)

pub seen_keeps : (wanted : Wanted) (told : Result (Option (List PieceFact)) CallFault) (known : Stand) (g p : ℕ) (piece : List ℕ) → known.pieces g p ≡ Some piece
    → (stand_seen wanted told known).pieces g p ≡ Some piece
seen_keeps wanted (Ok (Some pieces)) known g p piece is = by_test (wanted.version == known.version)
  where
    by_test : (b : Bool) → (if b then record known { pieces = with_pieces wanted.generation pieces known.pieces } else known).pieces g p ≡ Some piece
    by_test true = kept_all wanted.generation pieces known.pieces g p piece is
    by_test false = is
seen_keeps wanted (Ok None) known g p piece is = is
seen_keeps wanted (Err fault) known g p piece is = is
