-- What whoever begins next finds once a change was made, or may have been.
use Rattle.std.proofs.Common.{◌≡◌, ◌⊎◌, inl, inr, ◌<◌, ◌∙◌, ℕ, Bool, true, false, List, sym, ap, subst, arith}
use Rattle.std.specs.Prelude.{Option, None, Some}
use Rattle.etcd_cluster.specs.Bytes.{HasBytes, file_of}
use Rattle.etcd_cluster.specs.Knowing.{Agrees, AreKnown}
use Rattle.etcd_cluster.specs.Leading.{IsLost}
use Rattle.etcd_cluster.specs.Stands.{ChangeFact, Stand, done_at}
use Rattle.etcd_cluster.specs.Worlds.{Begun, World}
use Rattle.etcd_cluster.specs.declared.cluster.Cluster.{Ghosts as Cluster}
use Rattle.etcd_cluster.proofs.Known.{agrees_done, file_there}
use Rattle.cluster_file.specs.Files.{AsServer, IsGivenUp, IsMade, IsMadeBy, IsOwn, IsSound, MayBeFound, MayBeMadeBy, may_leave_of, seen_of}
use Rattle.cluster_file.specs.declared.file.ClusterFile.{ClusterFile}
use Rattle.cluster_file.proofs.Made.{read_before}

pub none_some : (o : Option Begun) (begun : Begun) → o ≡ None → o ≡ Some begun → ⊥
none_some o begun none some = cc

-- where another one has begun, nothing is this server's doing
pub not_own : {C : Type 0} (file : ClusterFile C) (server since version : ℕ) (IsFound : Stand → Type 0) (w : World) → file.read < version
    → IsLost server since version IsFound w → IsOwn file w → ⊥
not_own file server since version IsFound w before lost (inl none) = none_some w.begun lost.begun none lost.is
not_own file server since version IsFound w before lost (inr is) = let greater = lost.later in omega (arith, before, greater, is)

pub same_own : {C : Type 0} (old new : ClusterFile C) (w : World) → new.read ≡ old.read → IsOwn new w → IsOwn old w
same_own old new w same (inl none) = inl none
same_own old new w same (inr is) = inr (is ∙ same)

module _ {C : Type 0} (cluster : Cluster C) (old new : ClusterFile C) (change : ChangeFact) (sound : IsSound cluster old) (same : new.read ≡ old.read)
    (names : change.after ≡ old.standing.version) (before bytes : List ℕ) (had : HasBytes (cluster.stand old.cluster) before)
    (has : HasBytes (done_at 0 change (cluster.stand old.cluster)) bytes) where
  -- what stands there with the change
  abbrev pub next : List ℕ
  next = file_of (done_at 0 change (cluster.stand old.cluster))

  -- it is what was found before; or that with the change, where the one before could be found
  abbrev pub IsLeft : List ℕ → Type 0
  IsLeft left = MayBeFound cluster old left ⊎ ((left ≡ next) × MayBeFound cluster old (file_of (cluster.stand old.cluster)))

  pub next_there : (version : ℕ) (first w : World) → AreKnown (cluster.stand old.cluster).pieces first.stand.pieces → w.stand ≡ done_at version change first.stand
      → file_of w.stand ≡ next
  next_there version first w known is =
      ap file_of is
      ∙ file_there (done_at version change (cluster.stand old.cluster)) (done_at version change first.stand) bytes
      (agrees_done version change (cluster.stand old.cluster) first.stand known) has

  old_there : (first : World) → cluster.may_be old.cluster first → IsOwn old first → Agrees (cluster.stand old.cluster) first.stand
      → MayBeFound cluster old (file_of (cluster.stand old.cluster))
  old_there first was own agrees = (first, was, own, sym (file_there (cluster.stand old.cluster) first.stand before agrees had))

  done_there : (version : ℕ) (first w : World) → cluster.may_be old.cluster first → IsOwn old first → Agrees (cluster.stand old.cluster) first.stand
      → w.stand ≡ done_at version change first.stand → IsLeft (file_of w.stand)
  done_there version first w was own agrees is = inr (next_there version first w agrees.pieces is, old_there first was own agrees)

  -- what a server has read that has not begun
  pub read_there : (so : AsServer cluster old false) (first : World) → cluster.may_be old.cluster first → first.stand.version ≡ change.after
      → Agrees (cluster.stand old.cluster) first.stand × IsOwn old first
  read_there so first was of =
      let is : first.stand.version ≡ (cluster.stand old.cluster).version = of ∙ names ∙ sym sound.version in
      (record { version = is; head = (so.1).head first was is; pieces = (so.1).pieces first was is }, inr (of ∙ names ∙ sym so.2))

  -- IT WAS MADE

  made_as : (begun : Bool) → AsServer cluster old begun → (version : ℕ) → IsMadeBy cluster old.cluster new.cluster version change begun → old.read < version
      → (w : World) → cluster.may_be new.cluster w → IsOwn new w → IsLeft (file_of w.stand)
  made_as true so version by earlier w may own =
      let it = by w may in
      elim it.4 [
        | inl there ↦ done_there version it.0 w it.1 (inl it.2) (so.1 it.0 it.1 it.2) there.1
        | inr lost ↦
            absurd (not_own old _ _ version _ w earlier lost (same_own old new w same own))
      ]
  made_as false so version by earlier w may own =
      let it = by w may in
      let was = read_there so it.0 it.1 it.2 in
      elim it.3 [
        | inl there ↦ done_there version it.0 w it.1 was.1 was.0 there.1
        | inr lost ↦
            absurd (not_own old _ _ version _ w earlier lost (same_own old new w same own))
      ]

  pub left_made : (made : IsMade cluster old new change) → (left : List ℕ) → MayBeFound cluster new left → IsLeft left
  left_made made left (w, may, own, is) =
      subst (λ (l : List ℕ). IsLeft l) (sym is)
      (made_as old.has_begun sound.so new.standing.version made.by (read_before cluster old new.standing.version sound (let later = made.later in omega (arith, later, names))) w may own)

  -- OR IT MAY HAVE BEEN

  may_as : (begun : Bool) → AsServer cluster old begun → MayBeMadeBy cluster old.cluster new.cluster change begun → (w : World) → cluster.may_be new.cluster w → IsOwn new w
      → IsLeft (file_of w.stand)
  may_as true so may_be w may own =
      let it = may_be w may in
      let earlier : old.read < change.after = let less = so.3 in omega (arith, less, names) in
      elim it.2 [
        | inl pends ↦
            elim pends.2 [
              | inl here ↦
                  elim here.1 [
                    | inl still ↦ inl (it.0, it.1, inl pends.0, ap file_of still)
                    | inr done ↦ done_there (w.stand.version) it.0 w it.1 (inl pends.0) (so.1 it.0 it.1 pends.0) done.is
                  ]
              | inr lost ↦
                  absurd (not_own old _ _ (it.0).stand.version _ w (let of = pends.1 in omega (arith, earlier, of)) lost (same_own old new w same own))
            ]
        | inr taken ↦ absurd (not_own old _ _ change.after _ w earlier taken.1 (same_own old new w same own))
      ]
  may_as false so may_be w may own =
      let it = may_be w may in
      elim it.2 [
        | inl resting ↦
            elim resting [
              | inl here ↦ inl (it.0, it.1, subst (λ (x : World). IsOwn old x) here (same_own old new w same own), ap (λ (x : World). file_of x.stand) here)
              | inr taken ↦ absurd (taken_not_own it.0 w (let is = so.2 in omega (arith, is, names)) taken (same_own old new w same own))
            ]
        | inr begins ↦
            let was = read_there so it.0 it.1 begins.1 in
            elim begins.3 [
              | inl there ↦ done_there begins.0 it.0 w it.1 was.1 was.0 there.1
              | inr lost ↦
                  absurd (not_own old _ _ begins.0 _ w (let is = so.2 in let less = begins.2 in omega (arith, is, names, less)) lost (same_own old new w same own))
            ]
      ]
    where
      later_not : (server since : ℕ) (IsFound : Stand → Type 0) (x : World) → old.read ≡ change.after → IsLost server since change.after IsFound x → IsOwn old x → ⊥
      later_not server since IsFound x is lost (inl none) = none_some x.begun lost.begun none lost.is
      later_not server since IsFound x is lost (inr of) = let greater = lost.later in omega (arith, is, greater, of)

      taken_not_own : (first x : World) → old.read ≡ change.after
          → ((x.begun ≡ first.begun) × IsLost (cluster.server old.cluster) 0 change.after (λ found. Unit {0}) x)
          ⊎ ((first.begun ≡ None) × IsLost (cluster.server old.cluster) (cluster.moment old.cluster) change.after (λ found. found ≡ first.stand) x)
          → IsOwn old x → ⊥
      taken_not_own first x is (inl had_begun) own = later_not _ _ _ x is had_begun.1 own
      taken_not_own first x is (inr begins) own = later_not _ _ _ x is begins.1 own

  pub left_given_up : IsGivenUp cluster old new change → (left : List ℕ) → MayBeFound cluster new left → IsLeft left
  left_given_up given left (w, may, own, is) =
      elim given.may [
        | inl still ↦ inl (w, subst (λ (c : C). cluster.may_be c w) still may, same_own old new w same own, is)
        | inr made ↦ subst (λ (l : List ℕ). IsLeft l) (sym is) (may_as old.has_begun sound.so made w may own)
      ]

  -- WHERE THE FILE IS THE SAME WITH IT

  pub left_same : next ≡ file_of (cluster.stand old.cluster) → (left : List ℕ) → IsLeft left → MayBeFound cluster old left
  left_same keeps left (inl found) = found
  left_same keeps left (inr (is, found)) = subst (λ (l : List ℕ). MayBeFound cluster old l) (sym (is ∙ keeps)) found

  -- or what a read returned before
  pub left_seen : next ≡ seen_of cluster old → (left : List ℕ) → IsLeft left → may_leave_of cluster old left
  left_seen sees left (inl found) = inr found
  left_seen sees left (inr (is, found)) = inl (is ∙ sees)

-- once it was made a read returns what is found
module _ {C : Type 0} (cluster : Cluster C) (file : ClusterFile C) (sound : IsSound cluster file) (bytes : List ℕ) (has : HasBytes (cluster.stand file.cluster) bytes) where
  found_as : (begun : Bool) → begun ≡ true → AsServer cluster file begun → (w : World) → cluster.may_be file.cluster w → IsOwn file w
      → file_of w.stand ≡ file_of (cluster.stand file.cluster)
  found_as true is so w may own =
      elim ((so.0).each w may).is [
        | inl mine ↦ file_there (cluster.stand file.cluster) w.stand bytes (so.1 w may mine.0) has
        | inr lost ↦ absurd (not_own file _ _ file.standing.version _ w so.3 lost own)
      ]
  found_as false is so w may own = absurd (no_yes is)
    where
      no_yes : false ≡ true → ⊥
      no_yes other = cc

  pub only_found : file.has_begun ≡ true → (left : List ℕ) → MayBeFound cluster file left → left ≡ file_of (cluster.stand file.cluster)
  only_found begun left (w, may, own, is) = is ∙ found_as file.has_begun begun sound.so w may own
