-- A change that leaves the bytes of a file.
use Rattle.std.proofs.Common.{◌≡◌, ◌++◌, ◌∙◌, ℕ, List, sym, ap, subst}
use Rattle.std.specs.Global.{Vec}
use Rattle.std.specs.Prelude.{replicate, IfSome, None, Option, Result, Ok, Err, IfErr, OnErr, OnOk, Some}
use Rattle.etcd_cluster.specs.Bytes.{HasBytes, bytes_of, file_of}
use Rattle.etcd_cluster.specs.Stands.{ChangeFact, Stand, done_at}
use Rattle.etcd_cluster.specs.declared.change.Head.{Head}
use Rattle.etcd_cluster.specs.declared.cluster.Cluster.{Ghosts as Cluster}
use Rattle.etcd_cluster.proofs.Made.{bytes_made}
use Rattle.cluster_file.specs.Files.{CountsSame, FindsSame, IsGivenUp, IsMade, IsSameBut, IsSound, KeepsWritten, seen_of}
use Rattle.cluster_file.specs.declared.file.ClusterFile.{ClusterFile}
use Rattle.cluster_file.proofs.Left.{left_given_up, left_made, left_same}

-- whatever is given
pub either : {A E : Type 0} (r : Result A E) (Done Not P : Type 0) → OnOk r Done → OnErr r Not → (Done → P) → (Not → P) → P
either (Ok a) Done Not P done not here there = here done
either (Err e) Done Not P done not here there = there not

pub ok_then : {A E : Type 0} (r : Result A E) (Done P : Type 0) → OnOk r Done → (Done → P) → OnOk r P
ok_then (Ok a) Done P done then_so = then_so done
ok_then (Err e) Done P done then_so = tt

pub ok_both : {A E : Type 0} (r : Result A E) (Done Also P : Type 0) → OnOk r Done → OnOk r Also → (Done → Also → P) → OnOk r P
ok_both (Ok a) Done Also P done also then_so = then_so done also
ok_both (Err e) Done Also P done also then_so = tt

pub err_then : {A E : Type 0} (r : Result A E) (Not P : Type 0) → OnErr r Not → (Not → P) → OnErr r P
err_then (Ok a) Not P not then_so = tt
err_then (Err e) Not P not then_so = then_so not

pub err_any : {A E : Type 0} (r : Result A E) (P : Type 0) → P → OnErr r P
err_any (Ok a) P is = tt
err_any (Err e) P is = is

pub fault_any : {A E : Type 0} (r : Result A E) (P : E → Type 0) → ((e : E) → P e) → IfErr r P
fault_any (Ok a) P is = tt
fault_any (Err e) P is = is e

pub fault_as : {A E : Type 0} (r : Result A E) (Not : Type 0) (P : E → Type 0) → OnErr r Not → ((e : E) → Not → P e) → IfErr r P
fault_as (Ok a) Not P not then_so = tt
fault_as (Err e) Not P not then_so = then_so e not

pub fault_then : {A E : Type 0} (r : Result A E) (Not P : E → Type 0) → IfErr r Not → ((e : E) → Not e → P e) → IfErr r P
fault_then (Ok a) Not P not then_so = tt
fault_then (Err e) Not P not then_so = then_so e not

pub if_any : {A : Type 0} (o : Option A) (P : A → Type 0) → ((a : A) → P a) → IfSome o P
if_any None P all = tt
if_any (Some a) P all = all a

pub if_some : {A : Type 0} (o : Option A) (a : A) (P : A → Type 0) → o ≡ Some a → P a → IfSome o P
if_some {A} o a P is so = subst (λ (x : Option A). IfSome x P) (sym is) so

pub if_none : {A : Type 0} (o : Option A) (P : A → Type 0) → o ≡ None → IfSome o P
if_none {A} o P is = subst (λ (x : Option A). IfSome x P) (sym is) tt

pub if_then : {A : Type 0} (o : Option A) (P Q : A → Type 0) → ((a : A) → P a → Q a) → IfSome o P → IfSome o Q
if_then None P Q then_so is = tt
if_then (Some a) P Q then_so is = then_so a is

-- what was written stays
pub keeps_written : {C : Type 0} (old new : ClusterFile C) → IsSameBut old new → KeepsWritten old new
keeps_written {C} old new same = record {
  unsynced = ap (λ (f : ClusterFile C). f.unsynced) same;
  room = ap (λ (f : ClusterFile C). f.room) same;
  read = ap (λ (f : ClusterFile C). f.read) same;
  server = ap (λ (f : ClusterFile C). f.server) same;
  run = ap (λ (f : ClusterFile C). f.run) same;
}

-- what a read returns, where the bytes are the same
pub seen_by : {C : Type 0} (cluster : Cluster C) (old new : ClusterFile C) → KeepsWritten old new → bytes_of (cluster.stand new.cluster) ≡ bytes_of (cluster.stand old.cluster)
    → seen_of cluster new ≡ seen_of cluster old
seen_by cluster old new kept same =
    ap (λ (b : List ℕ). b ++ (new.unsynced.items ++ replicate new.room 0)) same
    ∙ ap (λ (b : List ℕ). bytes_of (cluster.stand old.cluster) ++ (b ++ replicate new.room 0)) (ap (λ (v : Vec ℕ). v.items) kept.unsynced)
    ∙ ap (λ (n : ℕ). bytes_of (cluster.stand old.cluster) ++ (old.unsynced.items ++ replicate n 0)) kept.room

module _ {C : Type 0} (cluster : Cluster C) (old new : ClusterFile C) (change : ChangeFact) (sound : IsSound cluster old) (kept : KeepsWritten old new)
    (names : change.after ≡ old.standing.version) (bytes : List ℕ) (had : HasBytes (cluster.stand old.cluster) bytes) (counts : CountsSame old.standing.head change.head)
    (has : HasBytes (done_at 0 change (cluster.stand old.cluster)) bytes) where
  -- the file is the same with it
  pub file_same : file_of (done_at 0 change (cluster.stand old.cluster)) ≡ file_of (cluster.stand old.cluster)
  file_same =
      let there = bytes_made (done_at 0 change (cluster.stand old.cluster)) bytes has in
      let here = bytes_made (cluster.stand old.cluster) bytes had in
      let room : change.head.room ≡ (cluster.stand old.cluster).head.room = counts.1 ∙ sym (ap (λ (h : Head). h.room) sound.head) in
      ap (λ (b : List ℕ). b ++ replicate change.head.room 0) (there ∙ sym here)
      ∙ ap (λ (n : ℕ). bytes_of (cluster.stand old.cluster) ++ replicate n 0) room

  pub made_found : IsMade cluster old new change → FindsSame cluster old new
  made_found made left found =
      left_same cluster old new change sound kept.read names bytes bytes had has file_same left
      (left_made cluster old new change sound kept.read names bytes bytes had has made left found)

  pub given_found : IsGivenUp cluster old new change → FindsSame cluster old new
  given_found given left found =
      left_same cluster old new change sound kept.read names bytes bytes had has file_same left
      (left_given_up cluster old new change sound kept.read names bytes bytes had has given left found)

  pub made_has : IsMade cluster old new change → HasBytes (cluster.stand new.cluster) bytes
  made_has made = subst (λ (s : Stand). HasBytes s bytes) (sym made.stand) has

  pub made_seen : IsMade cluster old new change → seen_of cluster new ≡ seen_of cluster old
  made_seen made =
      seen_by cluster old new kept (bytes_made (cluster.stand new.cluster) bytes (made_has made) ∙ sym (bytes_made (cluster.stand old.cluster) bytes had))

  pub given_seen : IsGivenUp cluster old new change → seen_of cluster new ≡ seen_of cluster old
  given_seen given = seen_by cluster old new kept (ap bytes_of given.stand)
