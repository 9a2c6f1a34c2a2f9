-- How a code or token that a store keeps is spelled.
use Rattle.std.specs.Prelude.{◌≡◌, ◌⊎◌, ℕ, List, Bool, Option, refl}
use Rattle.std.proofs.Common.{inl, inr, arith}
use Rattle.consent.specs.declared.grant.TokenKind.TheVariants.{Access, Refresh}
use Rattle.consent.specs.Formats.{party_format, moment_format}
use Rattle.consent.specs.RecordFacts.{KindFact, Code, Token, RecordFact}
use Rattle.wire.specs.declared.fault.Fault.TheVariants as faults
use Rattle.wire.specs.Format.{Format, Same, seen, fixed, ◌then◌, u32_format, u64_format, text_format}
use Rattle.wire.specs.Lists.{told, ◌or◌, no_more, nothing, option_of, bool_format}

abbrev pub KindParts : Type 0
KindParts = Unit {0} ⊎ (Unit {0} ⊎ ((ℕ × (List ℕ × List ℕ)) ⊎ ⊥))

abbrev pub kind_to : KindParts → KindFact
kind_to (inl _) = Token Access
kind_to (inr (inl _)) = Token Refresh
kind_to (inr (inr (inl p))) = Code p.0 p.1.0 p.1.1
kind_to (inr (inr (inr none))) = absurd none

abbrev pub kind_from : KindFact → KindParts
kind_from (Token Access) = inl tt
kind_from (Token Refresh) = inr (inl tt)
kind_from (Code owner redirect challenge) = inr (inr (inl (owner, (redirect, challenge))))

pub kind_from_to : (p : KindParts) → kind_from (kind_to p) ≡ p
kind_from_to p = grind arith

pub kind_to_from : (k : KindFact) → kind_to (kind_from k) ≡ k
kind_to_from k = grind arith

abbrev pub as_kept_kind : Same KindParts KindFact
as_kept_kind = record { to = kind_to; from = kind_from; from_to = kind_from_to; to_from = kind_to_from }

unfoldable pub kept_kind_format : Format KindFact
kept_kind_format =
    seen as_kept_kind (told 0 (nothing or nothing or (party_format then text_format then text_format) or no_more 3 faults.Kind))

abbrev pub RecordParts : Type 0
RecordParts = List ℕ × (KindFact × (ℕ × (ℕ × (ℕ × (ℕ × (ℕ × (ℕ × (Option ℕ × (Bool × Bool)))))))))

abbrev pub as_record : Same RecordParts RecordFact
as_record = record {
  to = λ p. record {
    digest = p.0;
    kind = p.1.0;
    family = p.1.1.0;
    client = p.1.1.1.0;
    owner = p.1.1.1.1.0;
    scope = p.1.1.1.1.1.0;
    moment = p.1.1.1.1.1.1.0;
    life = p.1.1.1.1.1.1.1.0;
    code_scope = p.1.1.1.1.1.1.1.1.0;
    spent = p.1.1.1.1.1.1.1.1.1.0;
    ended = p.1.1.1.1.1.1.1.1.1.1;
  };
  from = λ r. (r.digest, (r.kind, (r.family, (r.client, (r.owner, (r.scope, (r.moment, (r.life, (r.code_scope, (r.spent, r.ended))))))))));
  from_to = λ _. refl;
  to_from = λ _. refl;
}

unfoldable pub record_format : Format RecordFact
record_format =
    seen as_record (
    fixed 32 then kept_kind_format then u64_format then party_format then u32_format then u64_format then moment_format
    then u32_format then option_of u64_format then bool_format then bool_format)
