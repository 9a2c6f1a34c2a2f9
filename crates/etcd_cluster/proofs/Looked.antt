-- What a server knows of what it has read.
use Rattle.std.proofs.Common.{◌≡◌, ◌≢◌, ◌⊎◌, inl, inr, ◌<◌, ◌≤◌, ◌∙◌, ℕ, Bool, true, false, eqb, List, [], ◌∷◌, refl, sym, ap, subst, arith}
use Rattle.std.proofs.lemmas.Bool.{and_parts, eqb-true}
use Rattle.std.specs.Global.{Vec}
use Rattle.std.specs.Prelude.{Option, None, Some, map, Result, Ok, Err, IfOk, IfSome, ◌==◌, ◌&&◌, if◌then◌else◌}
use Rattle.etcd_cluster.specs.Knowing.{Agrees, AreKnown, IsForeignTo, stand_found, version_of}
use Rattle.etcd_cluster.specs.Moves.{IsTold, Moves, came, rests, went}
use Rattle.etcd_cluster.specs.Stands.{ChangeFact, PieceFact, Pieces, Stand, no_stand, piece_fact}
use Rattle.etcd_cluster.specs.Worlds.{AreThere, IsStanding, IsVersioned, World, known_or, seen_pieces, stand_seen, stand_told, with_pieces}
use Rattle.etcd_cluster.specs.declared.change.CallFault.{CallFault}
use Rattle.etcd_cluster.specs.declared.change.Head.{Head}
use Rattle.etcd_cluster.specs.declared.change.Piece.{Piece}
use Rattle.etcd_cluster.specs.declared.change.Standing.{Standing}
use Rattle.etcd_cluster.specs.declared.change.Wanted.{Wanted}

-- WHERE NOTHING OF THIS SERVER CAN BE DONE: the head stays, or is another server's of a greater version

abbrev pub IsStill : ℕ → World → World → Type 0
IsStill server first w = (w.stand ≡ first.stand) ⊎ ((first.stand.version < w.stand.version) × (w.stand.head.server ≢ server))

pub still_moves : (server since version : ℕ) (MayCome : ChangeFact → Type 0) (first w : World) → ((one : ChangeFact) → MayCome one → one.after < version)
    → version ≤ first.stand.version → Moves server since MayCome first w → IsStill server first w
still_moves server since version MayCome first w spent old rests = inl refl
still_moves server since version MayCome first w spent old (came {mid = mid} moved change now may names more) =
    let less = spent change may in
    elim (still_moves server since version MayCome first mid spent old moved) [
      | inl same ↦ let of = ap (λ (s : Stand). s.version) same in absurd (omega (arith, less, names, of, old))
      | inr later ↦ let greater = later.0 in absurd (omega (arith, less, names, greater, old))
    ]
still_moves server since version MayCome first w spent old (went {mid = mid} moved moment stand at more foreign) =
    elim (still_moves server since version MayCome first mid spent old moved) [
      | inl same ↦ let of = ap (λ (s : Stand). s.version) same in inr (omega (arith, of, more), foreign)
      | inr later ↦ let greater = later.0 in inr (omega (arith, greater, more), foreign)
    ]

-- so a head of the same version is the same
pub still_same : (server : ℕ) (first w : World) → w.stand.version ≤ first.stand.version → IsStill server first w → w.stand ≡ first.stand
still_same server first w le (inl same) = same
still_same server first w le (inr later) = let greater = later.0 in absurd (omega (arith, le, greater))

pub still_older : (server version : ℕ) (first w : World) → version ≤ first.stand.version → IsStill server first w → version ≤ w.stand.version
still_older server version first w le (inl same) = let of = ap (λ (s : Stand). s.version) same in omega (arith, le, of)
still_older server version first w le (inr later) = let greater = later.0 in omega (arith, le, greater)

pub still_foreign : (server : ℕ) (first w : World) → (0 < first.stand.version → first.stand.head.server ≢ server) → IsStill server first w
    → 0 < w.stand.version → w.stand.head.server ≢ server
still_foreign server first w foreign (inl same) some = λ mine.
    let of = ap (λ (s : Stand). s.version) same in
    foreign (omega (arith, some, of)) (ap (λ (s : Stand). s.head.server) (sym same) ∙ mine)
still_foreign server first w foreign (inr later) some = later.1

-- THE HEAD THAT WAS FOUND

found_version : (found : Option Standing) (stand : Stand) → IsStanding stand found → stand.version ≡ version_of found
found_version None stand is = is.0
found_version (Some told) stand is = sym is.0

found_foreign : (server : ℕ) (found : Option Standing) (stand : Stand) → IsForeignTo server found → IsStanding stand found → 0 < stand.version → stand.head.server ≢ server
found_foreign server None stand foreign is some = let zero = is.0 in absurd (omega (arith, zero, some))
found_foreign server (Some told) stand foreign is some = λ mine. foreign (ap (λ (h : Head). h.server) is.1 ∙ mine)

module _ (server since : ℕ) (MayCome : ChangeFact → Type 0) (none : (one : ChangeFact) → MayCome one → ⊥) (old : World → Type 0) (found : Option Standing) where
  abbrev pub IsFound : World → Type 0
  IsFound w = IsTold server since MayCome (λ at. IsStanding at.stand found) old w

  found_still : (w : World) → (told : IsFound w) → IsStill server told.at w
  found_still w told = still_moves server since 0 MayCome told.at w (λ one may. absurd (none one may)) (omega arith) told.onward

  pub found_older : (w : World) → IsFound w → version_of found ≤ w.stand.version
  found_older w told =
      let of = found_version found (told.at).stand told.told in
      let le : version_of found ≤ (told.at).stand.version = omega (arith, of) in
      still_older server (version_of found) told.at w le (found_still w told)

  pub found_no_own : (w : World) → IsForeignTo server found → IsFound w → 0 < w.stand.version → w.stand.head.server ≢ server
  found_no_own w foreign told = still_foreign server told.at w (found_foreign server found (told.at).stand foreign told.told) (found_still w told)

  -- of the same version the head that was found stands there
  pub found_head : (w : World) → IsFound w → w.stand.version ≡ version_of found → w.stand.head ≡ (stand_found found).head
  found_head w told of =
      let same = still_same server told.at w (let at = found_version found (told.at).stand told.told in omega (arith, at, of)) (found_still w told) in
      ap (λ (s : Stand). s.head) same ∙ head_of found (told.at).stand told.told
    where
      head_of : (f : Option Standing) (stand : Stand) → IsStanding stand f → stand.head ≡ (stand_found f).head
      head_of None stand is = is.1
      head_of (Some standing) stand is = sym is.1

-- what is known of it
pub stand_of_found : (found : Option Standing) → IsVersioned found → stand_told (Ok found) no_stand ≡ stand_found found
stand_of_found None some = refl
stand_of_found (Some told) some = refl

pub version_found_of : (found : Option Standing) → (stand_found found).version ≡ version_of found
version_found_of None = refl
version_found_of (Some told) = refl

no_piece : (piece : List ℕ) → ◌≡◌ {A = Option (List ℕ)} None (Some piece) → ⊥
no_piece piece same = cc

pub none_known : (found : Option Standing) (pieces : Pieces) → AreKnown (stand_found found).pieces pieces
none_known None pieces = λ generation at piece is. absurd (no_piece piece is)
none_known (Some told) pieces = λ generation at piece is. absurd (no_piece piece is)

-- so it is known in each world that may be
pub record IsKnownAll (known : Stand) (now : World → Type 0) : Type 0 where
  pub no_older : (w : World) → now w → known.version ≤ w.stand.version
  pub head : (w : World) → now w → w.stand.version ≡ known.version → w.stand.head ≡ known.head
  pub pieces : (w : World) → now w → w.stand.version ≡ known.version → AreKnown known.pieces w.stand.pieces

pub found_known : (server since : ℕ) (MayCome : ChangeFact → Type 0) (none : (one : ChangeFact) → MayCome one → ⊥) (old now : World → Type 0) (found : Option Standing)
    → ((w : World) → now w → IsTold server since MayCome (λ at. IsStanding at.stand found) old w) → IsKnownAll (stand_found found) now
found_known server since MayCome none old now found told = record {
  no_older = λ w may. subst (λ (v : ℕ). v ≤ w.stand.version) (sym (version_found_of found)) (found_older server since MayCome none old found w (told w may));
  head = λ w may of. found_head server since MayCome none old found w (told w may) (of ∙ version_found_of found);
  pieces = λ w may of. none_known found w.stand.pieces;
}

-- the stand that is known once the head was told
pub stand_told_then : (r : Result (Option Standing) CallFault) (known before : Stand) → before ≡ no_stand → IfOk r IsVersioned → known ≡ stand_told r before
    → IfOk r (λ found. known ≡ stand_found found)
stand_told_then (Ok found) known before none some is = is ∙ ap (λ (s : Stand). stand_told (Ok found) s) none ∙ stand_of_found found some
stand_told_then (Err fault) known before none some is = tt

-- PIECES THAT WERE TOLD

-- where a piece is put that stands there
put_known : (b : Bool) (o there : Option (List ℕ)) (bytes piece : List ℕ) → (b ≡ true → there ≡ Some bytes) → (o ≡ Some piece → there ≡ Some piece)
    → (if b then known_or o bytes else o) ≡ Some piece → there ≡ Some piece
put_known true None there bytes piece put known told = put refl ∙ told
put_known true (Some one) there bytes piece put known told = known told
put_known false o there bytes piece put known told = known told

same_place : (g p h q : ℕ) (pieces : Pieces) → (h == g && q == p) ≡ true → pieces h q ≡ pieces g p
same_place g p h q pieces is =
    let parts = and_parts (eqb h g) (eqb q p) is in
    ap (λ (n : ℕ). pieces n q) (eqb-true h g parts.0) ∙ ap (λ (n : ℕ). pieces g n) (eqb-true q p parts.1)

-- one more piece, which stands there
one_more_known : (g p : ℕ) (bytes : List ℕ) (known pieces : Pieces) → pieces g p ≡ Some bytes → AreKnown known pieces
    → AreKnown (λ h q. if h == g && q == p then known_or (known h q) bytes else known h q) pieces
one_more_known g p bytes known pieces there are = λ h q piece told.
    put_known (h == g && q == p) (known h q) (pieces h q) bytes piece (λ is. same_place g p h q pieces is ∙ there) (are h q piece) told

pub pieces_known : (generation : ℕ) (told : List PieceFact) (known : Pieces) (stand : Stand) → AreThere generation told stand → AreKnown known stand.pieces
    → AreKnown (with_pieces generation told known) stand.pieces
pieces_known generation [] known stand there are = are
pieces_known generation (piece ∷ later) known stand there are =
    pieces_known generation later (λ g p. if g == generation && p == piece.at then known_or (known g p) piece.bytes else known g p) stand there.1
    (one_more_known generation piece.at piece.bytes known stand.pieces there.0 are)

-- what is known then, where what was told stands there
abbrev pub AreAllThere : Wanted → Result (Option (List PieceFact)) CallFault → Stand → Type 0
AreAllThere wanted (Ok (Some pieces)) stand = AreThere wanted.generation pieces stand
AreAllThere wanted told stand = Unit {0}

pub seen_known : (wanted : Wanted) (told : Result (Option (List PieceFact)) CallFault) (known stand : Stand) → AreAllThere wanted told stand → AreKnown known.pieces stand.pieces
    → AreKnown (stand_seen wanted told known).pieces stand.pieces
seen_known wanted (Ok (Some pieces)) known stand there are = by_test (wanted.version == known.version)
  where
    by_test : (b : Bool) → AreKnown (if b then record known { pieces = with_pieces wanted.generation pieces known.pieces } else known).pieces stand.pieces
    by_test true = pieces_known wanted.generation pieces known.pieces stand there are
    by_test false = are
seen_known wanted (Ok None) known stand there are = are
seen_known wanted (Err fault) known stand there are = are

-- its version and head are as they were
pub seen_version : (wanted : Wanted) (told : Result (Option (List PieceFact)) CallFault) (known : Stand) → (stand_seen wanted told known).version ≡ known.version
seen_version wanted (Ok (Some pieces)) known = by_test (wanted.version == known.version)
  where
    by_test : (b : Bool) → (if b then record known { pieces = with_pieces wanted.generation pieces known.pieces } else known).version ≡ known.version
    by_test true = refl
    by_test false = refl
seen_version wanted (Ok None) known = refl
seen_version wanted (Err fault) known = refl

pub seen_head : (wanted : Wanted) (told : Result (Option (List PieceFact)) CallFault) (known : Stand) → (stand_seen wanted told known).head ≡ known.head
seen_head wanted (Ok (Some pieces)) known = by_test (wanted.version == known.version)
  where
    by_test : (b : Bool) → (if b then record known { pieces = with_pieces wanted.generation pieces known.pieces } else known).head ≡ known.head
    by_test true = refl
    by_test false = refl
seen_head wanted (Ok None) known = refl
seen_head wanted (Err fault) known = refl

-- BEFORE THE SERVER HAS BEGUN

-- what was known of that version is so still, and what was told is
pub read_known : (server since : ℕ) (MayCome : ChangeFact → Type 0) (wanted : Wanted) (told : Result (Option (List PieceFact)) CallFault) (known : Stand) (first at w : World)
    → ((one : ChangeFact) → MayCome one → one.after < wanted.version) → known.version ≡ wanted.version
    → wanted.version ≤ first.stand.version → (first.stand.version ≡ known.version → AreKnown known.pieces first.stand.pieces) → Moves server since MayCome first w
    → at.stand.version ≡ wanted.version → AreAllThere wanted told at.stand → Moves server since MayCome at w
    → w.stand.version ≡ known.version → AreKnown (stand_seen wanted told known).pieces w.stand.pieces
read_known server since MayCome wanted told known first at w spent of old are moved at_is there onward is =
    let same = still_same server first w (omega (arith, is, of, old)) (still_moves server since wanted.version MayCome first w spent old moved) in
    let here = still_same server at w (omega (arith, is, of, at_is)) (still_moves server since wanted.version MayCome at w spent (omega (arith, at_is)) onward) in
    let version = ap (λ (s : Stand). s.version) same in
    let first_is : first.stand.version ≡ known.version = omega (arith, version, is) in
    seen_known wanted told known w.stand
    (subst (λ (s : Stand). AreAllThere wanted told s) (sym here) there)
    (subst (λ (s : Stand). AreKnown known.pieces s.pieces) (sym same) (are first_is))

-- where pieces were told they stood, at that version
pub there_by : (server since : ℕ) (MayCome : ChangeFact → Type 0) (wanted : Wanted) (old now : World → Type 0) (r : Result (Option (Vec Piece)) CallFault)
    → IfOk r (λ found. IfSome found (λ pieces. (w : World) → now w
    → IsTold server since MayCome (λ at. (at.stand.version ≡ wanted.version) × AreThere wanted.generation (map piece_fact pieces.items) at.stand) old w))
    → (w : World) → now w → w.stand.version ≡ wanted.version
    → (at : World) × (at.stand.version ≡ wanted.version) × AreAllThere wanted (seen_pieces r) at.stand × Moves server since MayCome at w
there_by server since MayCome wanted old now (Ok (Some pieces)) told w may of = let it = told w may in (it.at, (it.told).0, (it.told).1, it.onward)
there_by server since MayCome wanted old now (Ok None) told w may of = (w, of, tt, rests)
there_by server since MayCome wanted old now (Err fault) told w may of = (w, of, tt, rests)

-- ONCE IT HAS BEGUN

-- what was known stands there still, and what was told does, too
pub seen_agrees : (server since : ℕ) (MayCome : ChangeFact → Type 0) (wanted : Wanted) (told : Result (Option (List PieceFact)) CallFault) (known : Stand) (at w : World)
    → ((one : ChangeFact) → MayCome one → one.after < wanted.version) → known.version ≡ wanted.version → Agrees known w.stand
    → at.stand.version ≡ wanted.version → AreAllThere wanted told at.stand → Moves server since MayCome at w → Agrees (stand_seen wanted told known) w.stand
seen_agrees server since MayCome wanted told known at w spent of agrees at_is there onward =
    let version = agrees.version in
    let here = still_same server at w (omega (arith, version, of, at_is)) (still_moves server since wanted.version MayCome at w spent (omega (arith, at_is)) onward) in
    record {
      version = agrees.version ∙ sym (seen_version wanted told known);
      head = agrees.head ∙ sym (seen_head wanted told known);
      pieces = seen_known wanted told known w.stand (subst (λ (s : Stand). AreAllThere wanted told s) (sym here) there) agrees.pieces;
    }
