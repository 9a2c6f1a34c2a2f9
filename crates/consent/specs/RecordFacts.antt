-- What a code or token says that a store keeps, without where its texts lie in memory.
use Rattle.std.specs.Prelude.{ℕ, List, Bool, Option}
use Rattle.consent.specs.declared.grant.TokenKind.{TokenKind}
use Rattle.consent.specs.declared.kept_record.KeptKind.{KeptKind}
use Rattle.consent.specs.declared.kept_record.KeptKind.TheVariants as kept
use Rattle.consent.specs.declared.kept_record.KeptRecord.{KeptRecord}

-- what was given
pub data KindFact : Type 0 where
  Code : (owner : ℕ) → (redirect challenge : List ℕ) → KindFact
  Token : (kind : TokenKind) → KindFact

-- a code or token as a store keeps it
pub record RecordFact : Type 0 where
  pub digest : List ℕ
  pub kind : KindFact
  pub family : ℕ
  pub client : ℕ
  pub owner : ℕ
  pub scope : ℕ
  pub moment : ℕ
  pub life : ℕ
  pub code_scope : Option ℕ
  pub spent : Bool
  pub ended : Bool

abbrev pub kind_fact : KeptKind → KindFact
kind_fact (kept.Code owner redirect challenge) = Code owner redirect.now challenge.now
kind_fact (kept.Token kind) = Token kind

abbrev pub record_fact : KeptRecord → RecordFact
record_fact r = record {
  digest = r.digest;
  kind = kind_fact r.kind;
  family = r.family;
  client = r.client;
  owner = r.owner;
  scope = r.scope;
  moment = r.moment;
  life = r.life;
  code_scope = r.code_scope;
  spent = r.spent;
  ended = r.ended;
}
