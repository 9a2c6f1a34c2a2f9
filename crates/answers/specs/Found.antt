-- What was found under a digest, as the history has it.
use Rattle.std.specs.Prelude.{◌≡◌, ◌&&◌, ℕ, List, Bool, not, Some}
use Rattle.answers.specs.Names.{Event, Grant, told_at, is_spent, has_ended, RegistryRecord, has_room, has_client_room, is_taken, Seen, found_seen, Found}
use Rattle.answers.specs.Quotas.{records_of}

-- what is seen, under its digest
abbrev pub grant_seen : List ℕ → Seen → Grant
grant_seen digest seen = record {
  digest = digest;
  kind = seen.kind;
  family = seen.family;
  client = seen.client;
  owner = seen.owner;
  scope = seen.scope;
  moment = seen.moment;
  life = seen.life;
  redirect = seen.redirect;
  challenge = seen.challenge;
}

-- the code or token that was found
abbrev pub grant_found : List ℕ → Found → Grant
grant_found digest found = grant_seen digest (found_seen found)

-- the digest names it, as it is told, and it is spent and has ended as in the history
pub record IsFound (history : List Event) (digest : List ℕ) (m : ℕ) (found : Found) : Type 0 where
  pub named : told_at history digest m ≡ Some (grant_found digest found)
  pub spent_is : found.spent ≡ is_spent history digest m
  pub ended_is : found.ended ≡ has_ended history found.family

-- there is room for as many, so there is among the client's, and none of the digests is taken
abbrev pub is_free : RegistryRecord → List Event → ℕ → ℕ → List (List ℕ) → Bool
is_free rules history m client digests =
    has_room rules.limits.records history m digests && has_client_room (records_of rules client) history client m digests
    && not (is_taken history m digests)
