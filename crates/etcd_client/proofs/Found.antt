-- What is read stands there.
use Rattle.std.proofs.Common.{◌≡◌, ◌≢◌, ◌<◌, ◌^◌, ◌==◌, ◌∙◌, ◌⊎◌, inl, inr, ℕ, List, [], ◌∷◌, Bool, true, false, refl, sym, ap, subst}
use Rattle.std.proofs.lemmas.Bool.Decides.{eqb_tells}
use Rattle.std.proofs.lemmas.Slice.Eq.{bytes_eq-Decides}
use Rattle.std.specs.Prelude.{bytes_eq, if◌then◌else◌, Option, None, Some, option_and_then, option_map}
use Rattle.etcd_cluster.specs.Stands.{PieceFact, Stand}
use Rattle.etcd_cluster.specs.Worlds.{AreThere}
use Rattle.etcd_cluster.specs.declared.change.Head.{Head}
use Rattle.etcd_cluster.specs.declared.change.Standing.{Standing}
use Rattle.etcd_json.specs.Replies.{EntryFact}
use Rattle.etcd_client.specs.Effects.{AreHeld, ArePlaces, Held, Holds, HoldsPieces}
use Rattle.etcd_keys.specs.Keys.{IsOfWords, before_key, head_bytes, head_key, head_told, piece_key, place_told}
use Rattle.etcd_client.specs.Told.{each, head_in, piece_by, piece_told, pieces_in, standing_by, standing_of}
use Rattle.etcd_client.proofs.Spelled.{head_again, head_of_another, place_is}

-- the first of what was read, and the others
record Parts (first : Option PieceFact) (more : Option (List PieceFact)) (pieces : List PieceFact) : Type 0 where
  one : PieceFact
  others : List PieceFact
  one_is : first ≡ Some one
  others_are : more ≡ Some others
  all : pieces ≡ one ∷ others

parts : (first : Option PieceFact) (more : Option (List PieceFact)) (pieces : List PieceFact) → option_and_then (λ one. option_map (λ others. one ∷ others) more) first ≡ Some pieces
    → Parts first more pieces
parts None more pieces is = absurd cc
parts (Some one) None pieces is = absurd cc
parts (Some one) (Some others) pieces is = record { one = one; others = others; one_is = refl; others_are = refl; all = cc }

record Placed (told : Option ℕ) (bytes : List ℕ) (piece : PieceFact) : Type 0 where
  at : ℕ
  told_is : told ≡ Some at
  is : piece_by bytes at ≡ piece

placed : (told : Option ℕ) (bytes : List ℕ) (piece : PieceFact) → option_map (piece_by bytes) told ≡ Some piece → Placed told bytes piece
placed None bytes piece is = absurd cc
placed (Some at) bytes piece is = record { at = at; told_is = refl; is = cc }

module _ (prefix : List ℕ) (generation : ℕ) (held : Held) (stand : Stand) (fits : generation < 2 ^ 64) (holds : HoldsPieces prefix held stand.pieces) where
  there : (entry : EntryFact) (piece : PieceFact) → held entry.key ≡ Some entry.value → piece.at < 0xffffffffffffffff
      → Placed (place_told (before_key prefix generation) entry.key) entry.value piece → stand.pieces generation piece.at ≡ Some piece.bytes
  there entry piece is at_fits found =
      let same : piece.at ≡ found.at = ap (λ (p : PieceFact). p.at) (sym found.is) in
      let key : entry.key ≡ piece_key prefix generation piece.at =
      place_is (before_key prefix generation) entry.key found.at found.told_is ∙ ap (λ (n : ℕ). piece_key prefix generation n) (sym same) in
      sym (holds generation piece.at fits at_fits) ∙ ap held (sym key) ∙ is ∙ ap (λ (p : PieceFact). Some p.bytes) found.is

  pub all_there : (entries : List EntryFact) (pieces : List PieceFact) → AreHeld held entries → ArePlaces pieces → pieces_in (before_key prefix generation) entries ≡ Some pieces
      → AreThere generation pieces stand
  all_there [] [] are places told = tt
  all_there [] (piece ∷ later) are places told = absurd cc
  all_there (entry ∷ later) pieces are places told =
      let found = parts (piece_told (before_key prefix generation) entry) (each (piece_told (before_key prefix generation)) later) pieces told in
      let all_places : ArePlaces (found.one ∷ found.others) = subst ArePlaces found.all places in
      subst (λ (p : List PieceFact). AreThere generation p stand) (sym found.all) (
        there entry found.one are.0 all_places.0 (placed (place_told (before_key prefix generation) entry.key) entry.value found.one found.one_is),
        all_there later found.others are.1 all_places.1 found.others_are,
      )

pub pieces_there : (prefix : List ℕ) (generation : ℕ) (entries : List EntryFact) (pieces : List PieceFact) (held : Held) (stand : Stand) → generation < 2 ^ 64 → AreHeld held entries
    → ArePlaces pieces → HoldsPieces prefix held stand.pieces → pieces_in (before_key prefix generation) entries ≡ Some pieces → AreThere generation pieces stand
pieces_there prefix generation entries pieces held stand fits are places holds told = all_there prefix generation held stand fits holds entries pieces are places told

-- THE HEAD

record Stood (told : Option Head) (standing : Standing) : Type 0 where
  head : Head
  told_is : told ≡ Some head
  is : standing.head ≡ head

stood : (version : ℕ) (told : Option Head) (standing : Standing) → option_map (λ one. Some one) (option_map (standing_by version) told) ≡ Some (Some standing) → Stood told standing
stood version None standing is = absurd cc
stood version (Some head) standing is =
    let same : standing_by version head ≡ standing = cc in
    record { head = head; told_is = refl; is = ap (λ (s : Standing). s.head) (sym same) }

-- one that is told where a test holds
where_so : (b : Bool) (told : Option Head) (head : Head) → (if b then told else None) ≡ Some head → (b ≡ true) × (told ≡ Some head)
where_so true told head is = (refl, is)
where_so false told head is = absurd cc

same_head : (known cluster : ℕ) (head told : Head) → cluster < 2 ^ 64 → IsOfWords head → head_told known (head_bytes cluster head) ≡ Some told
    → ((cluster == known) ≡ true) × (cluster ≡ known) ⊎ ((cluster == known) ≡ false) × (cluster ≢ known) → (known ≡ cluster) × (told ≡ head)
same_head known cluster head told fits words is (inl same) =
    let here : head_told known (head_bytes cluster head) ≡ Some head =
    ap (λ (k : ℕ). head_told k (head_bytes cluster head)) (sym same.1) ∙ head_again cluster head fits words in
    (sym same.1, cc)
same_head known cluster head told fits words is (inr differs) =
    let none = head_of_another cluster known head fits differs.1 in
    absurd cc

pub head_there : (prefix : List ℕ) (known cluster : ℕ) (entries : List EntryFact) (held : Held) (stand : Stand) (standing : Standing) → cluster < 2 ^ 64 → IsOfWords stand.head
    → AreHeld held entries → Holds prefix cluster held stand → standing_of prefix known entries ≡ Some (Some standing)
    → (known ≡ cluster) × (standing.head ≡ stand.head)
head_there prefix known cluster [] held stand standing fits words are holds told = absurd cc
head_there prefix known cluster (entry ∷ []) held stand standing fits words are holds told =
    let found = stood entry.written (head_in prefix known entry) standing told in
    let both_are = where_so (bytes_eq entry.key (head_key prefix)) (head_told known entry.value) found.head found.told_is in
    let key : entry.key ≡ head_key prefix = (bytes_eq-Decides entry.key (head_key prefix)).0 both_are.0 in
    let value : Some entry.value ≡ Some (head_bytes cluster stand.head) = sym are.0 ∙ ap held key ∙ holds.head in
    let bytes : entry.value ≡ head_bytes cluster stand.head = cc in
    let both = same_head known cluster stand.head found.head fits words (ap (λ (v : List ℕ). head_told known v) (sym bytes) ∙ both_are.1) (eqb_tells cluster known) in
    (both.0, found.is ∙ both.1)
head_there prefix known cluster (entry ∷ (other ∷ more)) held stand standing fits words are holds told = absurd cc
