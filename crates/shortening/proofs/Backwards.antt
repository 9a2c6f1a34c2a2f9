-- What is known of the changes behind, with one more in front.
use Rattle.std.proofs.Common.{◌≡◌, ℕ, List, ◌∷◌, Bool, true, cond, Option, None, Some, ap, sym, ◌∙◌, arith}
use Rattle.std.specs.Prelude.{◌&&◌, ◌||◌, bit_and, not}
use Rattle.std.specs.List.{list_any}
use Rattle.std.specs.HashSet.{contains_text}
use Rattle.std.specs.Map.{lookup}
use Rattle.std.specs.Str.{bytes_eq}
use Rattle.std.specs.String.{string_bytes}
use Rattle.consent.specs.Consents.{is_parties}
use Rattle.consent.specs.History.{Event, event_at, Terms, is_within, lowers}
use Rattle.consent.specs.History.Change.{Consented, HookGone}
use Rattle.consent.specs.declared.parties.Parties.{Parties}
use Rattle.shortening.specs.FilterLaws.{bytes_eq_sym}
use Rattle.shortening.specs.Known.{IsBehind, is_out_of, parties_of_terms}
use Rattle.shortening.specs.Left.{any_lowers}
use Rattle.shortening.specs.declared.behind.Behind.{Behind}
use Rattle.shortening.proofs.Lowering.{same_two, within_both}

-- whether the terms are lowered with a consent more
lowered_more : (two : Parties) (terms : Terms) (mask kept : ℕ) (lowered : Bool) (old new : Option ℕ) → lowered ≡ is_out_of terms.scope old →
    new ≡ cond (is_parties two (parties_of_terms terms)) (Some kept) old →
    (is_parties two (parties_of_terms terms) ≡ true → is_within terms.scope kept ≡ (is_within terms.scope mask && not (is_out_of terms.scope old))) →
    (lowers terms (Consented two.owner two.client mask) || lowered) ≡ is_out_of terms.scope new
lowered_more two terms mask kept lowered old new was now within = grind (arith, was, now, within)

-- what is kept with a mask more
pub within_some : (s kept mask k : ℕ) (o : Option ℕ) → kept ≡ bit_and k mask → o ≡ Some k → is_within s kept ≡ (is_within s mask && not (is_out_of s o))
within_some s kept mask k o is at = ap (is_within s) is ∙ within_both s k mask ∙ (grind (arith, at))

pub within_none : (s kept mask : ℕ) (o : Option ℕ) → kept ≡ mask → o ≡ None → is_within s kept ≡ (is_within s mask && not (is_out_of s o))
within_none s kept mask o is at = ap (is_within s) is ∙ (grind (arith, at))

-- a consent
pub behind_consent : (stays : ℕ → Bool) (old new : Behind) (later : List Event) (moment : ℕ) (two : Parties) (mask kept : ℕ) →
    ((q : Parties) → list_any (is_parties q) new.superseded.keys ≡ cond (is_parties two q) true (list_any (is_parties q) old.superseded.keys)) →
    ((q : Parties) → lookup (is_parties q) new.kept.entries ≡ cond (is_parties two q) (Some kept) (lookup (is_parties q) old.kept.entries)) →
    ((s : ℕ) → is_within s kept ≡ (is_within s mask && not (is_out_of s (lookup (is_parties two) old.kept.entries)))) →
    new.gone.keys ≡ old.gone.keys → IsBehind stays old later → IsBehind stays new (event_at moment (Consented two.owner two.client mask) ∷ later)
behind_consent stays old new later moment two mask kept over puts within names behind = record {
  superseded = λ q. (let was = behind.superseded q in let now = over q in grind (arith, was, now));
  lowered = λ terms. (
      let p = parties_of_terms terms in
      let was = behind.lowered terms in
      let now = puts p in
      lowered_more two terms mask kept (any_lowers terms later) (lookup (is_parties p) old.kept.entries) (lookup (is_parties p) new.kept.entries) was now
      (λ is. within terms.scope
      ∙ ap (λ x. is_within terms.scope mask && not (is_out_of terms.scope (lookup (is_parties x) old.kept.entries))) (same_two two p is))
      );
  gone = λ name. ap (λ ks. list_any (λ n. bytes_eq name (string_bytes n)) ks) names ∙ behind.gone name;
}

-- a hook that is taken away
pub behind_gone : (stays : ℕ → Bool) (old new : Behind) (later : List Event) (moment : ℕ) (name : List ℕ) →
    ((q : List ℕ) → contains_text new.gone q ≡ cond (bytes_eq name q) true (contains_text old.gone q)) →
    new.superseded.keys ≡ old.superseded.keys → new.kept.entries ≡ old.kept.entries →
    IsBehind stays old later → IsBehind stays new (event_at moment (HookGone name) ∷ later)
behind_gone stays old new later moment name takes over kept behind = record {
  superseded = λ two. ap (λ ks. list_any (is_parties two) ks) over ∙ behind.superseded two;
  lowered = λ terms. behind.lowered terms ∙ ap (λ es. is_out_of terms.scope (lookup (is_parties (parties_of_terms terms)) es)) (sym kept);
  gone = λ q. (let was = behind.gone q in let now = takes q in let turned = bytes_eq_sym q name in grind (arith, was, now, turned));
}
