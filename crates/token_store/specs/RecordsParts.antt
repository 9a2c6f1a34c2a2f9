-- Beside Records: only the contracts of this crate's own parts and their proofs cite this, no public clause.
use Rattle.std.specs.Prelude.{◌≡◌, ◌≢◌, ◌+◌, ◌-◌, ◌<◌, ◌≤◌, ℕ, List, [], ◌∷◌, ◌++◌, Bool, true, false, not, nat_lt, nat_le, ◌==◌, ◌&&◌, if◌then◌else◌, ◌||◌, Option, Some, None, is_some, max, option_map, unwrap_or}
use Rattle.std.specs.Str.{bytes_eq}
use Rattle.std.specs.declared.ops.Bound.{Bound}
use Rattle.std.specs.declared.ops.Bound.TheVariants.{Included, Excluded}
use Rattle.std.specs.BTreeMap.{is_at}
use Rattle.std.specs.Map.{lookup}
use Rattle.consent.specs.RecordFacts as fact
use Rattle.consent.specs.Limits.{code_life}
use Rattle.consent.specs.History.{is_named, is_beyond, is_within, ends}
use Rattle.consent.specs.History as told
use Rattle.consent.specs.History.Change.{Consented}
use Rattle.consent.specs.Seen.{told_as}
use Rattle.shelf.specs.Shelved as shelved
use Rattle.shelf.specs.Shelved.{Named}
use Rattle.shelf.specs.declared.shelf.Slot.{Slot}
use Rattle.consent.specs.declared.kept_record.KeptRecord.{KeptRecord}
use Rattle.token_store.specs.declared.record.Record.{Record}
use Rattle.token_store.specs.declared.record.Shared.{Shared}
use Rattle.token_store.specs.declared.tables.Tables.{Tables}
use Rattle.consent.specs.declared.change.CodeFacts.{CodeFacts}
use Rattle.consent.specs.declared.change.NewToken.{NewToken}
use Rattle.token_store.specs.Kept.{Kept, kept_at, kept_unexpired}
use Rattle.token_store.specs.Image.{kept_record, terms_by, kept_told}
use Rattle.token_store.specs.Records.{kept_under, kept_in, family_numbered, shared_at, kept_of, shared_seen, expiry_of, OwnerKey, owner_cmp, has_owner, code_scope, code_shared, expiry, texts_given, turned, used}
use Rattle.std.specs.Option.{option_and_then}

-- what a family without records shares
abbrev pub bare_shared : (client owner scope : ℕ) → Bool → Shared
bare_shared client owner scope coded =
    record { client = client; owner = owner; scope = scope; until = 0; count = 0; coded = coded; ended = false }

abbrev pub is_live_at : ℕ → Record → Bool
is_live_at moment r = nat_lt moment (expiry r)

-- and of a family of the client's
abbrev pub is_live_of : List (ℕ × Shared) → ℕ → ℕ → Record → Bool
is_live_of families client moment r = is_live_at moment r && ((shared_at families r.family).client == client)

-- the family is of the owner, a code opened it, and it has not ended
abbrev pub is_open_for : ℕ → Shared → Bool
is_open_for owner s = not s.ended && is_some (code_scope s) && (s.owner == owner)

-- and it lives
abbrev pub is_open_of : ℕ → (ℕ → Bool) → ℕ × Shared → Bool
is_open_of owner lives e = is_open_for owner e.1 && lives e.0

-- such a family is in the slot
abbrev pub open_in : ℕ → (ℕ → Bool) → Option (Slot ℕ Shared) → Bool
open_in owner lives None = false
open_in owner lives (Some s) = is_open_of owner lives (s.key, s.kept)

-- what is found under the digest, as it is seen
abbrev pub kept_found : Tables → List ℕ → Option Record → Option Kept
kept_found t digest found = option_map (λ r. kept_in t.families.entries (digest, r)) found

-- the family of what is in the slot is there
abbrev pub IsFamilyOf : List (ℕ × Shared) → Option (Named Record) → Type 0
IsFamilyOf families None = Unit {0}
IsFamilyOf families (Some s) = is_some (family_numbered families s.kept.family) ≡ true

-- what is in the slot is shown, if it is unexpired
abbrev pub shown_in : List (ℕ × Shared) → ℕ → Option (Named Record) → List Kept
shown_in families moment None = []
shown_in families moment (Some s) = if is_live_at moment s.kept then kept_in families (s.key, s.kept) ∷ [] else []

abbrev pub IsShownIn : List (ℕ × Shared) → ℕ → Option (Named Record) → Option KeptRecord → Type 0
IsShownIn families moment slot None = shown_in families moment slot ≡ []
IsShownIn families moment slot (Some k) = shown_in families moment slot ≡ kept_record k ∷ []

-- what is kept, with the record under the digest
abbrev pub kept_with : Tables → List ℕ → Record → List Kept
kept_with t digest r = kept_of t ++ kept_under (shared_at t.families.entries r.family) digest r ∷ []

-- From the moment on both are seen alike, though some that have expired may be gone.
pub record TellsSame (kept kept' : List Kept) (moment : ℕ) : Type 0 where
  pub finds : (digest : List ℕ) (t : ℕ) → moment ≤ t → kept_at kept' digest t ≡ kept_at kept digest t
  pub counts : (t : ℕ) → moment ≤ t → kept_unexpired kept' t ≡ kept_unexpired kept t

-- where the digest names nothing, the record is kept too
abbrev pub KeepsToo : (old new : Tables) → List ℕ → Record → Type 0
KeepsToo old new digest r = (moment : ℕ) → kept_at (kept_of old) digest moment ≡ None → TellsSame (kept_with old digest r) (kept_of new) moment

-- where the digest names nothing, the record of such a family is kept too
abbrev pub KeepsAs : (old new : Tables) → Shared → List ℕ → Record → Type 0
KeepsAs old new s digest r = (moment : ℕ) → kept_at (kept_of old) digest moment ≡ None →
    TellsSame (kept_of old ++ kept_under s digest r ∷ []) (kept_of new) moment

-- none has expired
abbrev pub AllLive : List (List ℕ × Record) → ℕ → Type 0
AllLive records moment = (digest : List ℕ) (t : ℕ) → expiry_of (lookup (bytes_eq digest) records) ≡ Some t → moment < t

-- each family looks as it did
abbrev pub SeenSame : (old new : List (ℕ × Shared)) → Type 0
SeenSame old new = (n : ℕ) → option_map shared_seen (family_numbered new n) ≡ option_map shared_seen (family_numbered old n)

-- each but the family with the number is as it was
abbrev pub OthersStay : (old new : List (ℕ × Shared)) → ℕ → Type 0
OthersStay old new n = (k : ℕ) → k ≢ n → family_numbered new k ≡ family_numbered old k

-- one record more is of the family, which expires then
pub record HasEntered (old new : List (ℕ × Shared)) (n until : ℕ) : Type 0 where
  pub here : family_numbered new n ≡ option_map (λ (s : Shared). record s { count = s.count + 1; until = max s.until until }) (family_numbered old n)
  pub others : OthersStay old new n

-- the family with one record fewer, which goes with the last unless it is kept
abbrev pub left_by : Bool → Shared → Option Shared
left_by keeps s = if keeps || nat_lt 1 s.count then Some (record s { count = s.count - 1 }) else None

-- one record fewer is of the family
pub record HasLeft (old new : List (ℕ × Shared)) (n : ℕ) (keeps : Bool) : Type 0 where
  pub here : family_numbered new n ≡ option_and_then (left_by keeps) (family_numbered old n)
  pub others : OthersStay old new n

-- a family is not there any more
pub record HasClosed (old new : List (ℕ × Shared)) (n : ℕ) : Type 0 where
  pub here : family_numbered new n ≡ None
  pub others : OthersStay old new n

-- each of the family looks as it did
abbrev pub SharesSame : List (ℕ × Shared) → List (ℕ × Shared) → ℕ → Type 0
SharesSame old new n = (digest : List ℕ) (r : Record) → kept_under (shared_at new n) digest r ≡ kept_under (shared_at old n) digest r

-- a change of records, and which it is meant for
pub data RecordChange : Type 0 where
  Spent : (digest : List ℕ) → (moment : ℕ) → RecordChange
  Ended : (family : ℕ) → RecordChange
  Lowered : (owner client mask : ℕ) → RecordChange

-- what is kept of a record that is used
abbrev pub spent_kept : Kept → Kept
spent_kept k = record k { grant = told_as true k.grant; spent = true }

-- what is kept of a record, with such a change
abbrev pub changed : RecordChange → Kept → Kept
changed (RecordChange.Spent digest moment) k = if is_named digest moment k.grant then spent_kept k else k
changed (RecordChange.Ended family) k = if k.grant.family == family then record k { ended = true } else k
changed (RecordChange.Lowered owner client mask) k =
    if is_beyond (Consented owner client mask) k.terms then record k { ended = true } else k

-- the family has ended, if it is there
pub record HasEnded (old new : List (ℕ × Shared)) (n : ℕ) : Type 0 where
  pub here : family_numbered new n ≡ option_map (λ (s : Shared). record s { ended = true }) (family_numbered old n)
  pub others : OthersStay old new n

-- the records, with that of the digest spent
abbrev pub spent_in : List ℕ → List (List ℕ × Record) → Option Record → List (List ℕ × Record)
spent_in digest es o = shelved.spent_in used digest es o

-- the family, ended if it is of the two and goes beyond the mask
abbrev pub lowered_shared : ℕ → ℕ → ℕ → Shared → Shared
lowered_shared owner client mask s =
    if is_beyond (Consented owner client mask) (option_map (terms_by s.client s.owner) (code_scope s)) then record s { ended = true } else s

-- the family, ended if the change ends it or is a consent to less than its code's scope
abbrev pub altered : told.Change → ℕ → Shared → Shared
altered change n s =
    if ends n change || is_beyond change (option_map (terms_by s.client s.owner) (code_scope s)) then record s { ended = true } else s

-- each family is as the change leaves it
abbrev pub HasAltered : (old new : List (ℕ × Shared)) → told.Change → Type 0
HasAltered old new change = (n : ℕ) → family_numbered new n ≡ option_map (altered change n) (family_numbered old n)

-- what the family shares, or this where it is not there
abbrev pub shared_or : List (ℕ × Shared) → ℕ → Shared → Shared
shared_or families n s = unwrap_or (family_numbered families n) s

-- the family is there, and looks like this if it was not there
pub record BecomesKnown (old new : List (ℕ × Shared)) (n : ℕ) (s : Shared) : Type 0 where
  pub here : option_map shared_seen (family_numbered new n) ≡ Some (shared_seen (shared_or old n s))
  pub others : OthersStay old new n

-- the family has records
abbrev pub is_peopled : Shared → Bool
is_peopled s = nat_lt 0 s.count

-- the family, if it has records
abbrev pub where_peopled : Shared → Option Shared
where_peopled s = if nat_lt 0 s.count then Some s else None

abbrev pub HasLowered : List (ℕ × Shared) → List (ℕ × Shared) → ℕ → ℕ → ℕ → Type 0
HasLowered old new owner client mask =
    (k : ℕ) → family_numbered new k ≡ option_map (lowered_shared owner client mask) (family_numbered old k)

-- the index's key of the family, unless it has ended or no code is known
abbrev pub key_of : Shared → ℕ → Option OwnerKey
key_of s n = if s.ended || not s.coded then None else Some ((s.owner, s.client), turned n)

-- the index has the key too, if there is one
abbrev pub HasIndexed : (old new : List OwnerKey) → Option OwnerKey → Type 0
HasIndexed old new None = new ≡ old
HasIndexed old new (Some key) = (q : OwnerKey) → has_owner new q ≡ (if is_at (owner_cmp key) q then true else has_owner old q)

-- the index has the key no more, if there is one
abbrev pub HasStruck : (old new : List OwnerKey) → Option OwnerKey → Type 0
HasStruck old new None = new ≡ old
HasStruck old new (Some key) = (q : OwnerKey) → has_owner new q ≡ (if is_at (owner_cmp key) q then false else has_owner old q)

-- the place does not come after this one, if there is this one
abbrev pub is_past : Option ℕ → ℕ → Bool
is_past None n = false
is_past (Some last) n = nat_le n last

-- where those begin whose place comes after
abbrev pub start_of : ℕ × ℕ → Option ℕ → Bound OwnerKey
start_of parties None = Included (parties, 0)
start_of parties (Some n) = Excluded (parties, n)

-- the place of the first of the two's families in the index that comes after; or there is none
abbrev pub IsNextOwned : List OwnerKey → ℕ × ℕ → Option ℕ → Option ℕ → Type 0
IsNextOwned owners parties after None = (n : ℕ) → is_past after n ≡ false → has_owner owners (parties, n) ≡ false
IsNextOwned owners parties after (Some found) =
    (is_past after found ≡ false) × (has_owner owners (parties, found) ≡ true)
    × ((n : ℕ) → is_past after n ≡ false → n < found → has_owner owners (parties, n) ≡ false)

-- a code opened the family, whose scope is not within the mask
abbrev pub goes_beyond : ℕ → Option Shared → Bool
goes_beyond mask None = false
goes_beyond mask (Some s) = s.coded && not (is_within s.scope mask)

-- what is kept of a new code, in the family with the number
abbrev pub code_kept : ℕ → List ℕ → CodeFacts → ℕ → Kept
code_kept family digest facts moment = kept_told (record {
  digest = digest;
  kind = texts_given facts;
  family = family;
  client = facts.client;
  owner = facts.owner;
  scope = facts.scope;
  moment = moment;
  life = code_life;
  code_scope = Some facts.scope;
  spent = false;
  ended = false;
})

-- the record is that of a new code, in the family with the number
abbrev pub IsCodeRecord : ℕ → CodeFacts → ℕ → Record → Type 0
IsCodeRecord family facts moment r =
    (digest : List ℕ) (count : ℕ) → kept_under (code_shared facts count) digest r ≡ code_kept family digest facts moment

-- what is kept of a new token, in the family with the number
abbrev pub token_kept : ℕ → Shared → ℕ → NewToken → Kept
token_kept family s moment token = kept_told (record {
  digest = token.digest;
  kind = fact.Token token.kind;
  family = family;
  client = s.client;
  owner = s.owner;
  scope = token.scope;
  moment = moment;
  life = token.life;
  code_scope = code_scope s;
  spent = false;
  ended = s.ended;
})
