-- Words of a piece, and what else they could state.
use Rattle.std.proofs.Common.{◌≡◌, ℕ, List, [], ◌∷◌, codes, Option, Some, None, Result, IfOk, Bor, ◌≤◌, ◌<◌, length, get_or, map, refl, subst, arith}
use Rattle.transcript.proofs.Names.{option_map, Draws, SpellsDraws, SpellsPiece, Statement, Opens, Brings, Ends, WordsState}
use Rattle.transcript.specs.Numbers.{IsConnection, IsMomentWord}
use Rattle.transcript.specs.declared.line.Line.{Line}
use Rattle.transcript.specs.Seen.{stated}

abbrev pub piece_words : List ℕ → List ℕ → List ℕ → List ℕ → List ℕ → List (List ℕ)
piece_words name number seconds drawn hex = name ∷ number ∷ seconds ∷ drawn ∷ hex ∷ []

-- what the four words of a piece are
pub record IsPiece (name number seconds drawn hex : List ℕ) (other : Statement) : Type 0 where
  pub c : ℕ
  pub moment : ℕ
  pub draws : List Draws
  pub piece : List ℕ
  pub named : name ≡ codes "bytes"
  pub is : other ≡ Brings c moment draws piece
  pub connection_is : IsConnection number c
  pub moment_is : IsMomentWord seconds moment
  pub draws_are : SpellsDraws drawn draws
  pub piece_is : SpellsPiece hex piece

pub is_piece : (name number seconds drawn hex : List ℕ) (other : Statement) → WordsState (piece_words name number seconds drawn hex) other → IsPiece name number seconds drawn hex other
is_piece name number seconds drawn hex (Opens c) h = let e = h.words_are in cc
is_piece name number seconds drawn hex (Ends c) h = let e = h.words_are in cc
is_piece name number seconds drawn hex (Brings c moment draws piece) h =
    let e = h.words_are in
    let n : h.number ≡ number = cc in
    let s : h.seconds ≡ seconds = cc in
    let d : h.drawn ≡ drawn = cc in
    let x : h.hex ≡ hex = cc in
    record {
      c = c;
      moment = moment;
      draws = draws;
      piece = piece;
      named = cc;
      is = refl;
      connection_is = subst (λ w. IsConnection w c) n h.connection_is;
      moment_is = subst (λ w. IsMomentWord w moment) s h.moment_is;
      draws_are = subst (λ w. SpellsDraws w draws) d h.draws_are;
      piece_is = subst (λ w. SpellsPiece w piece) x h.piece_is;
    }

pub no_name : (name number seconds drawn hex : List ℕ) (other : Statement) → (name ≡ codes "bytes" → ⊥)
    → WordsState (piece_words name number seconds drawn hex) other → None ≡ Some other
no_name name number seconds drawn hex other none h = absurd (none (is_piece name number seconds drawn hex other h).named)

pub no_connection : (name number seconds drawn hex : List ℕ) (other : Statement) → ((c : ℕ) → IsConnection number c → None ≡ Some c)
    → WordsState (piece_words name number seconds drawn hex) other → None ≡ Some other
no_connection name number seconds drawn hex other none h = let p = is_piece name number seconds drawn hex other h in let e = none p.c p.connection_is in cc

pub no_moment : (name number seconds drawn hex : List ℕ) (other : Statement) → ((m : ℕ) → IsMomentWord seconds m → None ≡ Some m)
    → WordsState (piece_words name number seconds drawn hex) other → None ≡ Some other
no_moment name number seconds drawn hex other none h = let p = is_piece name number seconds drawn hex other h in let e = none p.moment p.moment_is in cc

pub no_draws : (name number seconds drawn hex : List ℕ) (other : Statement) → ((d : List Draws) → SpellsDraws drawn d → None ≡ Some d)
    → WordsState (piece_words name number seconds drawn hex) other → None ≡ Some other
no_draws name number seconds drawn hex other none h = let p = is_piece name number seconds drawn hex other h in let e = none p.draws p.draws_are in cc

pub no_piece : (name number seconds drawn hex : List ℕ) (other : Statement) → ((x : List ℕ) → SpellsPiece hex x → None ≡ Some x)
    → WordsState (piece_words name number seconds drawn hex) other → None ≡ Some other
no_piece name number seconds drawn hex other none h = let p = is_piece name number seconds drawn hex other h in let e = none p.piece p.piece_is in cc

pub same_piece : (name number seconds drawn hex : List ℕ) (c moment : ℕ) (draws : List Draws) (piece : List ℕ) (other : Statement)
    → ((c' : ℕ) → IsConnection number c' → Some c ≡ Some c') → ((m : ℕ) → IsMomentWord seconds m → Some moment ≡ Some m)
    → ((d : List Draws) → SpellsDraws drawn d → Some draws ≡ Some d) → ((x : List ℕ) → SpellsPiece hex x → Some piece ≡ Some x)
    → WordsState (piece_words name number seconds drawn hex) other → Some (Brings c moment draws piece) ≡ Some other
same_piece name number seconds drawn hex c moment draws piece other only_c only_m only_d only_x h =
    let p = is_piece name number seconds drawn hex other h in
    let same_c = only_c p.c p.connection_is in
    let same_m = only_m p.moment p.moment_is in
    let same_d = only_d p.draws p.draws_are in
    let same_x = only_x p.piece p.piece_is in
    let is = p.is in
    cc

-- the same of equal words
pub same_words : {E : Type 0} (r : Result (Option Line) E) (words same : List (List ℕ)) → words ≡ same
    → IfOk r (λ o. (other : Statement) → WordsState words other → option_map stated o ≡ Some other)
    → IfOk r (λ o. (other : Statement) → WordsState same other → option_map stated o ≡ Some other)
same_words r words same e h = subst (λ w. IfOk r (λ o. (other : Statement) → WordsState w other → option_map stated o ≡ Some other)) e h

-- five words
pub five_words : (words : List (Bor (List ℕ))) (d : Bor (List ℕ)) → 5 ≤ length words → length words < 6
    → piece_words (get_or words 0 d).now (get_or words 1 d).now (get_or words 2 d).now (get_or words 3 d).now (get_or words 4 d).now ≡ map (λ word. word.now) words
five_words (a ∷ b ∷ c ∷ e ∷ f ∷ []) d at_least below = refl
five_words _ d at_least below = absurd (omega arith)
