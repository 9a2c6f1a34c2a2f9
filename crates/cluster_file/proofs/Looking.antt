-- What a look for pieces leaves of a file.
use Rattle.std.proofs.Common.{◌≡◌, ◌<◌, ◌+◌, ◌∙◌, ℕ, Bool, true, false, List, [], ◌∷◌, length, sym, ap, subst}
use Rattle.batch_file.specs.declared.device.DeviceFault.{DeviceFault}
use Rattle.std.specs.Global.{Vec}
use Rattle.std.specs.Prelude.{Option, Some, Result, Ok, Err, IfOk, map}
use Rattle.etcd_cluster.specs.Again.{AsksAgain}
use Rattle.etcd_cluster.specs.Calls.{AreTrue, AskedPieces, Called, IsTrueOf, stand_by}
use Rattle.etcd_cluster.specs.Stands.{PieceFact, Stand, piece_fact}
use Rattle.etcd_cluster.specs.Worlds.{AreThere, seen_pieces, stand_seen}
use Rattle.etcd_cluster.specs.declared.change.CallFault.{CallFault}
use Rattle.etcd_cluster.specs.declared.change.Head.{Head}
use Rattle.etcd_cluster.specs.declared.change.Piece.{Piece}
use Rattle.etcd_cluster.specs.declared.change.Wanted.{Wanted}
use Rattle.etcd_cluster.specs.declared.cluster.Cluster.{Ghosts as Cluster}
use Rattle.etcd_cluster.proofs.Looked.{seen_head, seen_version}
use Rattle.etcd_cluster.proofs.True.{look_true, seen_keeps}
use Rattle.cluster_file.specs.Files.{AsServer, IsSettledBy, IsSound, wanted_of}
use Rattle.cluster_file.specs.Places.{IsTold, KeepsPieces, MayLook, counted}
use Rattle.cluster_file.specs.declared.file.ClusterFile.{ClusterFile}

may_look_as : {C : Type 0} (cluster : Cluster C) (file : ClusterFile C) → IsSound cluster file → (begun : Bool) → AsServer cluster file begun
    → MayLook cluster file.cluster file.standing.version begun
may_look_as cluster file sound true so = (so.0, so.1, sound.version)
may_look_as cluster file sound false so = (so.0, so.1, sound.version)

-- a server that knows its file may look
pub may_look : {C : Type 0} (cluster : Cluster C) (file : ClusterFile C) → IsSound cluster file → MayLook cluster file.cluster file.standing.version file.has_begun
may_look cluster file sound = may_look_as cluster file sound file.has_begun sound.so

-- STANDS THAT ARE WHAT THE CALLS TELL
abbrev pub IsByCalls : {C : Type 0} → Cluster C → Type 0
IsByCalls {C} cluster = (c : C) → cluster.stand c ≡ stand_by (cluster.calls c)

-- a look sends nothing
pub look_settled : (more : ℕ) (wanted : Wanted) (told : Result (Option (List PieceFact)) CallFault) (old new : List Called) → AsksAgain more (AskedPieces wanted) told old new
    → IsSettledBy new
look_settled more wanted told old new asked =
    subst (λ (calls : List Called). IsSettledBy calls) (sym asked.calls) (λ left comes. comes)

module _ {C : Type 0} (cluster : Cluster C) (by_calls : IsByCalls cluster) (old new : ClusterFile C) (more : ℕ) (wanted : Wanted)
    (told : Result (Option (List PieceFact)) CallFault) (asked : AsksAgain more (AskedPieces wanted) told (cluster.calls old.cluster) (cluster.calls new.cluster))
    (stand : cluster.stand new.cluster ≡ stand_seen wanted told (cluster.stand old.cluster)) where
  head_kept : (cluster.stand new.cluster).head ≡ (cluster.stand old.cluster).head
  head_kept = ap (λ (s : Stand). s.head) stand ∙ seen_head wanted told (cluster.stand old.cluster)

  -- no piece is another one
  pub look_keeps : KeepsPieces cluster old new
  look_keeps = record {
    truth = λ are. (look_true more wanted told (cluster.calls old.cluster) (cluster.calls new.cluster) asked are).0;
    head = head_kept;
    pieces = λ p piece is.
        subst (λ (g : ℕ). (cluster.stand new.cluster).pieces g p ≡ Some piece) (sym (ap (λ (h : Head). h.generation) head_kept))
        (subst (λ (s : Stand). s.pieces (cluster.stand old.cluster).head.generation p ≡ Some piece) (sym stand)
        (seen_keeps wanted told (cluster.stand old.cluster) (cluster.stand old.cluster).head.generation p piece is));
    beside = λ p piece is.
        subst (λ (g : ℕ). (cluster.stand new.cluster).pieces (g + 1) p ≡ Some piece) (sym (ap (λ (h : Head). h.generation) head_kept))
        (subst (λ (s : Stand). s.pieces ((cluster.stand old.cluster).head.generation + 1) p ≡ Some piece) (sym stand)
        (seen_keeps wanted told (cluster.stand old.cluster) ((cluster.stand old.cluster).head.generation + 1) p piece is));
  }

  -- the file stays sound
  pub look_sound : new ≡ record old { cluster = new.cluster } → cluster.server new.cluster ≡ cluster.server old.cluster → wanted.version ≡ old.standing.version → IsSound cluster old
      → MayLook cluster new.cluster old.standing.version old.has_begun → IsSound cluster new
  look_sound same server is sound may =
      subst (λ (x : ClusterFile C). IsSound cluster x) (sym same) (record {
        server = server ∙ sound.server;
        version = ap (λ (s : Stand). s.version) stand ∙ seen_version wanted told (cluster.stand old.cluster) ∙ sound.version;
        head = head_kept ∙ sound.head;
        settled = look_settled more wanted told (cluster.calls old.cluster) (cluster.calls new.cluster) asked;
        so = so_as old.has_begun sound.so may;
      })
    where
      so_as : (begun : Bool) → AsServer cluster old begun → MayLook cluster new.cluster old.standing.version begun → AsServer cluster (record old { cluster = new.cluster }) begun
      so_as true so may = (may.0, may.1, so.2, so.3)
      so_as false so may = (may.0, may.1, so.2)

  true_by : AreTrue (cluster.calls new.cluster) → IsTrueOf wanted told (cluster.stand old.cluster)
  true_by are =
      subst (λ (s : Stand). IsTrueOf wanted told s) (sym (by_calls old.cluster)) ((look_true more wanted told (cluster.calls old.cluster) (cluster.calls new.cluster) asked are).1)

-- the one piece that was told is there
pub told_there : {C : Type 0} (cluster : Cluster C) (by_calls : IsByCalls cluster) (old new : ClusterFile C) (more : ℕ) (wanted : Wanted) (piece : PieceFact)
    → AsksAgain more (AskedPieces wanted) (Ok (Some (piece ∷ []))) (cluster.calls old.cluster) (cluster.calls new.cluster)
    → cluster.stand new.cluster ≡ stand_seen wanted (Ok (Some (piece ∷ []))) (cluster.stand old.cluster) → wanted.version ≡ (cluster.stand old.cluster).version
    → wanted.generation ≡ (cluster.stand old.cluster).head.generation → AreTrue (cluster.calls new.cluster) → counted cluster new piece.at ≡ Some piece.bytes
told_there cluster by_calls old new more wanted piece asked stand version generation are =
    let told : Result (Option (List PieceFact)) CallFault = Ok (Some (piece ∷ [])) in
    let there : AreThere wanted.generation (piece ∷ []) (stand_seen wanted told (cluster.stand old.cluster)) =
    true_by cluster by_calls old new more wanted told asked stand are version in
    let head = head_kept cluster by_calls old new more wanted told asked stand in
    let is : (cluster.stand new.cluster).pieces wanted.generation piece.at ≡ Some piece.bytes =
    subst (λ (s : Stand). s.pieces wanted.generation piece.at ≡ Some piece.bytes) (sym stand) there.0 in
    subst (λ (g : ℕ). (cluster.stand new.cluster).pieces g piece.at ≡ Some piece.bytes) (generation ∙ sym (ap (λ (h : Head). h.generation) head)) is

-- so it is of the piece that was asked for
pub told_one : {C : Type 0} (cluster : Cluster C) (by_calls : IsByCalls cluster) (old new : ClusterFile C) (more place : ℕ) (pieces : Vec Piece) (r : Result Piece DeviceFault)
    → IsSound cluster old
    → AsksAgain more (AskedPieces (wanted_of old place 1)) (seen_pieces (Ok (Some pieces))) (cluster.calls old.cluster) (cluster.calls new.cluster)
    → cluster.stand new.cluster ≡ stand_seen (wanted_of old place 1) (seen_pieces (Ok (Some pieces))) (cluster.stand old.cluster)
    → IfOk r (λ piece. (pieces.items ≡ piece ∷ []) × (piece.at ≡ place) × (0 < length piece.bytes.items)) → IfOk r (IsTold cluster new place)
told_one cluster by_calls old new more place pieces (Ok piece) sound asked stand is =
    let wanted = wanted_of old place 1 in
    let facts : map piece_fact pieces.items ≡ piece_fact piece ∷ [] = ap (λ (l : List Piece). map piece_fact l) is.0 in
    let asked_one : AsksAgain more (AskedPieces wanted) (Ok (Some (piece_fact piece ∷ []))) (cluster.calls old.cluster) (cluster.calls new.cluster) =
    subst (λ (l : List PieceFact). AsksAgain more (AskedPieces wanted) (Ok (Some l)) (cluster.calls old.cluster) (cluster.calls new.cluster)) facts asked in
    let stand_one : cluster.stand new.cluster ≡ stand_seen wanted (Ok (Some (piece_fact piece ∷ []))) (cluster.stand old.cluster) =
    subst (λ (l : List PieceFact). cluster.stand new.cluster ≡ stand_seen wanted (Ok (Some l)) (cluster.stand old.cluster)) facts stand in
    record {
      at = is.1;
      some = is.2;
      is = λ are.
          subst (λ (p : ℕ). counted cluster new p ≡ Some piece.bytes.items) is.1
          (told_there cluster by_calls old new more wanted (piece_fact piece) asked_one stand_one (sym sound.version) (sym (ap (λ (h : Head). h.generation) sound.head)) are);
    }
told_one cluster by_calls old new more place pieces (Err fault) sound asked stand is = tt
