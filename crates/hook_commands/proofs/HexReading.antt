-- A text of hex is read from its front, a blank or a pair of digits at a time.
use Rattle.std.proofs.Common.{◌≡◌, ℕ, ◌+◌, ◌*◌, List, [], ◌∷◌, ◌++◌, inl, inr, Option, Some, None, Result, Ok, MatchResult, slice_index_or, refl, sym, ap, ◌∙◌, subst, append_assoc, append-nil}
use Rattle.std.specs.Option.{option_and_then, option_map}
use Rattle.hex.specs.Hex.{decode_pairs, decode_sized, hex_digit_value, digit_or_error, ◌>>=◌}
use Rattle.hex.specs.declared.error.FromHexError.{FromHexError}
use Rattle.hook_commands.specs.HexText.{byte_of, IsBlank, IsHexOf, End, Blank, Pair, IsNoHex}

-- ---- one byte

-- two digits are decoded as their byte
pub decoded_pair : (high low : ℕ) (r : Result (List ℕ) FromHexError) → r ≡ decode_sized (high ∷ low ∷ []) 1
    → MatchResult r (λ bytes. Some (slice_index_or bytes 0 0) ≡ byte_of high low) (λ _. None ≡ byte_of high low)
unfolding decode_pairs
decoded_pair high low r e =
    let Fits : Result (List ℕ) FromHexError → Type 0 = λ r. MatchResult r (λ bytes. Some (slice_index_or bytes 0 0) ≡ byte_of high low) (λ _. None ≡ byte_of high low) in
    subst Fits (sym e) (by_digits (hex_digit_value high) (hex_digit_value low))
  where
    by_digits : (h l : Option ℕ)
        → MatchResult (digit_or_error high 0 h >>= (λ a. digit_or_error low 1 l >>= (λ b. Ok (a * 16 + b))) >>= (λ byte. Ok (byte ∷ [])))
        (λ bytes. Some (slice_index_or bytes 0 0) ≡ option_and_then (λ a. option_map (λ b. a * 16 + b) l) h)
        (λ _. None ≡ option_and_then (λ a. option_map (λ b. a * 16 + b) l) h)
    by_digits None l = refl
    by_digits (Some h) None = refl
    by_digits (Some h) (Some l) = refl

-- a blank is no digit
no_digit : (c low byte : ℕ) → IsBlank c → byte_of c low ≡ Some byte → ⊥
no_digit c low byte (inl e) h = let at_space : byte_of 32 low ≡ Some byte = subst (λ x. byte_of x low ≡ Some byte) e h in cc
no_digit c low byte (inr e) h = let at_feed : byte_of 10 low ≡ Some byte = subst (λ x. byte_of x low ≡ Some byte) e h in cc

-- ---- the front of a text

behind_blank : (c : ℕ) (after more : List ℕ) → IsBlank c → IsHexOf (c ∷ after) more → IsHexOf after more
behind_blank c after more is_blank (Blank b h) = h
behind_blank c after more is_blank (Pair {low = low} {byte = byte} digits h) = absurd (no_digit c low byte is_blank digits)

behind_pair : (c d byte : ℕ) (behind more : List ℕ) → (IsBlank c → ⊥) → byte_of c d ≡ Some byte → IsHexOf (c ∷ d ∷ behind) more
    → (later : List ℕ) × (more ≡ byte ∷ later) × IsHexOf behind later
behind_pair c d byte behind more no_blank digits (Blank b h) = absurd (no_blank b)
behind_pair c d byte behind more no_blank digits (Pair {byte = first} {bytes = later} found h) = let same : first ≡ byte = cc in (later, ap (λ x. x ∷ later) same, h)

nothing_more : (more : List ℕ) → IsHexOf [] more → more ≡ []
nothing_more more End = refl

no_digits : (c d : ℕ) (behind more : List ℕ) → (IsBlank c → ⊥) → None ≡ byte_of c d → IsHexOf (c ∷ d ∷ behind) more → ⊥
no_digits c d behind more no_blank none (Blank b h) = no_blank b
no_digits c d behind more no_blank none (Pair digits h) = cc

one_digit : (c : ℕ) (more : List ℕ) → (IsBlank c → ⊥) → IsHexOf (c ∷ []) more → ⊥
one_digit c more no_blank (Blank b h) = no_blank b

-- ---- a text that is read so far

-- so much of a text is read: it is hex of some bytes exactly where they are those read so far and those of the rest
pub record IsRead (text done rest : List ℕ) : Type 0 where
  pub sound : (more : List ℕ) → IsHexOf rest more → IsHexOf text (done ++ more)
  pub whole : (bytes : List ℕ) → IsHexOf text bytes → (more : List ℕ) × (bytes ≡ done ++ more) × IsHexOf rest more

pub nothing_read : (text : List ℕ) → IsRead text [] text
nothing_read text = record { sound = λ more h. h; whole = λ bytes h. (bytes, refl, h) }

module _ (text done : List ℕ) where
  pub blank_read : (c : ℕ) (after : List ℕ) → IsBlank c → IsRead text done (c ∷ after) → IsRead text done after
  blank_read c after is_blank read = record {
    sound = λ more h. read.sound more (Blank is_blank h);
    whole = λ bytes h. let left = read.whole bytes h in (left.0, left.1, behind_blank c after left.0 is_blank left.2);
  }

  pub pair_read : (c d byte : ℕ) (behind : List ℕ) → (IsBlank c → ⊥) → byte_of c d ≡ Some byte → IsRead text done (c ∷ d ∷ behind)
      → IsRead text (done ++ byte ∷ []) behind
  pair_read c d byte behind no_blank digits read = record {
    sound = λ more h. rw append_assoc (read.sound (byte ∷ more) (Pair digits h));
    whole = λ bytes h.
        let left = read.whole bytes h in
        let first = behind_pair c d byte behind left.0 no_blank digits left.2 in
        (first.0, rw append_assoc (left.1 ∙ ap (λ l. done ++ l) first.1), first.2);
  }

  pub all_read : IsRead text done [] → IsHexOf text done
  all_read read = rw (append-nil done) at (read.sound [] End)

  pub only_read : IsRead text done [] → (other : List ℕ) → IsHexOf text other → other ≡ done
  only_read read other h = let left = read.whole other h in left.1 ∙ ap (λ l. done ++ l) (nothing_more left.0 left.2) ∙ append-nil done

  pub odd_digit : (c : ℕ) → (IsBlank c → ⊥) → IsRead text done (c ∷ []) → IsNoHex text
  odd_digit c no_blank read bytes h = let left = read.whole bytes h in one_digit c left.0 no_blank left.2

  pub no_pair : (c d : ℕ) (behind : List ℕ) → (IsBlank c → ⊥) → None ≡ byte_of c d → IsRead text done (c ∷ d ∷ behind) → IsNoHex text
  no_pair c d behind no_blank none read bytes h = let left = read.whole bytes h in no_digits c d behind left.0 no_blank none left.2
