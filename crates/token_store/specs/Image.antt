-- What a store keeps, as a list.
use Rattle.std.specs.Prelude.{ℕ, List, [], option_map, map}
use Rattle.consent.specs.declared.grant.Kind.{Kind}
use Rattle.consent.specs.declared.grant.Kind.TheVariants as kind
use Rattle.consent.specs.History.{Terms}
use Rattle.consent.specs.RecordFacts.{KindFact, Code, Token, RecordFact, record_fact}
use Rattle.consent.specs.declared.kept_record.KeptRecord.{KeptRecord}
use Rattle.token_store.specs.Kept.{Kept}

abbrev pub kind_told : KindFact → Kind
kind_told (Code owner redirect challenge) = kind.Code
kind_told (Token token) = kind.Token token

abbrev pub owner_told : ℕ → KindFact → ℕ
owner_told owner (Code o redirect challenge) = o
owner_told owner (Token token) = owner

abbrev pub redirect_told : KindFact → List ℕ
redirect_told (Code owner redirect challenge) = redirect
redirect_told (Token token) = []

abbrev pub challenge_told : KindFact → List ℕ
challenge_told (Code owner redirect challenge) = challenge
challenge_told (Token token) = []

-- the terms of a code of this scope
abbrev pub terms_by : ℕ → ℕ → ℕ → Terms
terms_by client owner scope = record { client = client; owner = owner; scope = scope }

-- what is kept, from what is said of it
abbrev pub kept_told : RecordFact → Kept
kept_told f = record {
  grant = record {
    digest = f.digest;
    kind = kind_told f.kind;
    family = f.family;
    client = f.client;
    owner = owner_told f.owner f.kind;
    scope = f.scope;
    moment = f.moment;
    life = f.life;
    redirect = redirect_told f.kind;
    challenge = challenge_told f.kind;
  };
  terms = option_map (terms_by f.client f.owner) f.code_scope;
  spent = f.spent;
  ended = f.ended;
}

-- what the record says is kept
abbrev pub kept_record : KeptRecord → Kept
kept_record r = kept_told (record_fact r)

-- what the records say is kept
abbrev pub as_kept : List KeptRecord → List Kept
as_kept records = map kept_record records
