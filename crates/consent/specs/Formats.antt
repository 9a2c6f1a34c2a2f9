-- How changes are spelled.
use Rattle.std.proofs.Common.{◌≡◌, ◌<◌, ◌≤◌, ◌^◌, ℕ, Bool, true, false, cond, eqb, ltb, List, None, Some, ◌⊎◌, inl, inr, refl, sym, ap, ◌∙◌, arith}
use Rattle.std.proofs.lemmas.Bool.{ltb-true, lt-ltb, eqb-true}
use Rattle.consent.specs.declared.grant.TokenKind.{TokenKind}
use Rattle.consent.specs.declared.grant.TokenKind.TheVariants.{Access, Refresh}
use Rattle.consent.specs.Versions.{version_number, version_numbered}
use Rattle.consent.specs.declared.record_version.RecordVersion.{RecordVersion}
use Rattle.consent.specs.declared.record_version.RecordVersion.TheVariants.{First, Second}
use Rattle.consent.specs.declared.change.NewToken.{NewToken}
use Rattle.consent.specs.declared.kept_consent.KeptConsent.{KeptConsent}
use Rattle.wire.specs.declared.fault.Fault.TheVariants as faults
use Rattle.wire.specs.Format.{Format, Decides, Picks, Same, only, picked, seen, fixed, ◌then◌, u32_format, u64_format, text_format, bytes_format}
use Rattle.wire.specs.Lists.{told, ◌or◌, no_more, nothing}
use Rattle.consent.specs.declared.parties.Parties.{Parties}
use Rattle.consent.specs.Facts.{GivenCode}
use Rattle.consent.specs.History.{Change}
use Rattle.consent.specs.History.Change.{Consented, CodeGiven, Issued, Spent, FamilyEnded, HookSet, HookGone, Numbered}

pub from_1 : Decides (λ n. ltb 0 n) (λ n. 1 ≤ n)
from_1 = record { holds = λ n e. ltb-true _ _ e; passes = λ n le. lt-ltb _ _ le }

-- the number of a client or an owner
abbrev pub party_format : Format ℕ
party_format = only (λ n. ltb 0 n) (λ n. 1 ≤ n) from_1 faults.Number u32_format

pub in_range : Decides (λ n. ltb n (2 ^ 63)) (λ n. n < 2 ^ 63)
in_range = record { holds = λ n e. ltb-true _ _ e; passes = λ n lt. lt-ltb _ _ lt }

abbrev pub moment_format : Format ℕ
moment_format = only (λ n. ltb n (2 ^ 63)) (λ n. n < 2 ^ 63) in_range faults.Moment u64_format

has_number : (n : ℕ) (v : RecordVersion) → version_numbered n ≡ Some v → version_number v ≡ n
has_number n v e = by (eqb n 1) refl (eqb n 2) refl e
  where
    by : (one : Bool) → eqb n 1 ≡ one → (two : Bool) → eqb n 2 ≡ two → cond one (Some First) (cond two (Some Second) None) ≡ Some v → version_number v ≡ n
    by true is two other e = let same : First ≡ v = cc in ap version_number (sym same) ∙ sym (eqb-true _ _ is)
    by false other true is e = let same : Second ≡ v = cc in ap version_number (sym same) ∙ sym (eqb-true _ _ is)
    by false other false another e = absurd cc

pub numbers : Picks version_numbered version_number
numbers = record { holds = has_number; passes = elim [ First ↦ refl | Second ↦ refl ] }

abbrev pub version_format : Format RecordVersion
version_format = picked version_numbered version_number numbers faults.RecordVersion u64_format

abbrev pub kind_to : Unit {0} ⊎ (Unit {0} ⊎ ⊥) → TokenKind
kind_to (inl _) = Access
kind_to (inr (inl _)) = Refresh
kind_to (inr (inr a)) = absurd a

abbrev pub kind_from : TokenKind → Unit {0} ⊎ (Unit {0} ⊎ ⊥)
kind_from Access = inl tt
kind_from Refresh = inr (inl tt)

abbrev pub as_token_kind : Same (Unit {0} ⊎ (Unit {0} ⊎ ⊥)) TokenKind
as_token_kind = record {
  to = kind_to;
  from = kind_from;
  from_to = elim [ inl _ ↦ refl | inr (inl a) ↦ refl | inr (inr a) ↦ absurd a ];
  to_from = elim [ Access ↦ refl | Refresh ↦ refl ];
}

abbrev pub kind_format : Format TokenKind
kind_format = seen as_token_kind (told 0 (nothing or nothing or no_more 2 faults.Kind))

abbrev pub as_token : Same (TokenKind × (List ℕ × (ℕ × ℕ))) NewToken
as_token = record {
  to = λ p. record { kind = p.0; digest = p.1.0; scope = p.1.1.0; life = p.1.1.1 };
  from = λ t. (t.kind, (t.digest, (t.scope, t.life)));
  from_to = λ _. refl;
  to_from = λ _. refl;
}

unfoldable pub token_format : Format NewToken
token_format = seen as_token (kind_format then (fixed 32 then (u64_format then u32_format)))

abbrev pub as_consent : Same (ℕ × (ℕ × ℕ)) KeptConsent
as_consent = record {
  to = λ p. record { owner = p.0; client = p.1.0; mask = p.1.1 };
  from = λ c. (c.owner, (c.client, c.mask));
  from_to = λ _. refl;
  to_from = λ _. refl;
}

unfoldable pub consent_format : Format KeptConsent
consent_format = seen as_consent (party_format then party_format then u64_format)

abbrev pub as_code : Same (ℕ × (ℕ × (ℕ × (List ℕ × List ℕ)))) GivenCode
as_code = record {
  to = λ p. record { client = p.0; owner = p.1.0; scope = p.1.1.0; redirect = p.1.1.1.0; challenge = p.1.1.1.1 };
  from = λ c. (c.client, (c.owner, (c.scope, (c.redirect, c.challenge))));
  from_to = λ _. refl;
  to_from = λ _. refl;
}

unfoldable pub code_format : Format GivenCode
code_format = seen as_code (party_format then (party_format then (u64_format then (text_format then text_format))))

abbrev pub as_parties : Same (ℕ × ℕ) Parties
as_parties = record {
  to = λ p. record { owner = p.1; client = p.0 };
  from = λ q. (q.client, q.owner);
  from_to = λ _. refl;
  to_from = λ _. refl;
}

-- a family's number, its client and its owner, who is 0 where there is none
unfoldable pub home_format : Format (ℕ × Parties)
home_format = u64_format then seen as_parties (party_format then u32_format)

-- the fields of each variant, in its order
abbrev pub Variants : Type 0
Variants = (ℕ × (ℕ × ℕ)) ⊎ ((ℕ × (GivenCode × List ℕ)) ⊎ (((ℕ × Parties) × NewToken) ⊎ (List ℕ ⊎ (ℕ ⊎ ((List ℕ × (RecordVersion × List ℕ)) ⊎ (List ℕ ⊎ (ℕ ⊎ ⊥)))))))

abbrev pub change_to : Variants → Change
change_to (inl p) = Consented p.0 p.1.0 p.1.1
change_to (inr (inl p)) = CodeGiven p.0 p.1.0 p.1.1
change_to (inr (inr (inl p))) = Issued p.0.0 p.0.1 p.1
change_to (inr (inr (inr (inl digest)))) = Spent digest
change_to (inr (inr (inr (inr (inl family))))) = FamilyEnded family
change_to (inr (inr (inr (inr (inr (inl p)))))) = HookSet p.0 p.1.0 p.1.1
change_to (inr (inr (inr (inr (inr (inr (inl name))))))) = HookGone name
change_to (inr (inr (inr (inr (inr (inr (inr (inl last)))))))) = Numbered last
change_to (inr (inr (inr (inr (inr (inr (inr (inr none)))))))) = absurd none

abbrev pub change_from : Change → Variants
change_from (Consented owner client mask) = inl (owner, (client, mask))
change_from (CodeGiven family code digest) = inr (inl (family, (code, digest)))
change_from (Issued family parties token) = inr (inr (inl ((family, parties), token)))
change_from (Spent digest) = inr (inr (inr (inl digest)))
change_from (FamilyEnded family) = inr (inr (inr (inr (inl family))))
change_from (HookSet name version code) = inr (inr (inr (inr (inr (inl (name, (version, code)))))))
change_from (HookGone name) = inr (inr (inr (inr (inr (inr (inl name))))))
change_from (Numbered last) = inr (inr (inr (inr (inr (inr (inr (inl last)))))))

pub change_from_to : (v : Variants) → change_from (change_to v) ≡ v
change_from_to v = grind arith

pub change_to_from : (c : Change) → change_to (change_from c) ≡ c
change_to_from c = grind arith

abbrev pub as_change : Same Variants Change
as_change = record { to = change_to; from = change_from; from_to = change_from_to; to_from = change_to_from }

unfoldable pub change_format : Format Change
change_format =
    seen as_change (told 1 (
    (party_format then (party_format then u64_format))
    or (u64_format then (code_format then fixed 32))
    or (home_format then token_format)
    or fixed 32
    or u64_format
    or (text_format then (version_format then bytes_format))
    or text_format
    or u64_format
    or no_more 9 faults.Variant))
