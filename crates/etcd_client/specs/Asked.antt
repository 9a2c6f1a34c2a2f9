-- What is asked of etcd for a list: which transactions, by what is wanted.
use Rattle.std.specs.Prelude.{ℕ, List, [], ◌∷◌, ◌==◌, codes, flat_map, if◌then◌else◌}
use Rattle.etcd_json.specs.Requests.{CompareFact, DeleteIn, GetAt, OperationFact, PastIn, PutAt, PutLeasedAt, RangeIn, TransactionFact}
use Rattle.etcd_json.specs.declared.request.Target.{Target}
use Rattle.etcd_json.specs.declared.request.Target.TheVariants.{Created, Written}
use Rattle.etcd_cluster.specs.Stands.{ChangeFact, Clears, Forgets, Lays, WriteFact}
use Rattle.etcd_cluster.specs.declared.change.Wanted.{Wanted}
use Rattle.etcd_keys.specs.Keys.{before_key, behind_key, first_key, head_bytes, head_key, last_key, leader_key, piece_key}

abbrev pub compares : List ℕ → Target → ℕ → CompareFact
compares key target revision = record { key = key; target = target; revision = revision }

-- the last of all places stands behind each piece
abbrev pub end_key : List ℕ → ℕ → ℕ → List ℕ
end_key prefix generation to = if to == 0xffffffffffffffff then behind_key prefix generation else piece_key prefix generation to

-- what a write does
abbrev pub write_operations : List ℕ → WriteFact → List OperationFact
write_operations prefix (Lays generation at bytes) = PutAt (piece_key prefix generation at) bytes ∷ []
write_operations prefix (Clears generation from to) = DeleteIn (piece_key prefix generation from) (end_key prefix generation to) ∷ []
write_operations prefix (Forgets generation) =
    DeleteIn (first_key prefix) (before_key prefix generation) ∷ DeleteIn (behind_key prefix generation) (last_key prefix) ∷ []

-- WHAT IS SENT

abbrev pub change_compares : List ℕ → ℕ → ℕ → List CompareFact
change_compares prefix server after = compares (head_key prefix) Written after ∷ compares (leader_key prefix) Created server ∷ []

abbrev pub change_operations : List ℕ → ℕ → ChangeFact → List OperationFact
change_operations prefix cluster change = PutAt (head_key prefix) (head_bytes cluster change.head) ∷ flat_map (write_operations prefix) change.writes

-- A change, in that cluster: where the head was written last at the version that it names, and this server leads, the head is put and
-- the pieces are changed. Else the head is told.
abbrev pub change_asked : List ℕ → ℕ → ℕ → ChangeFact → TransactionFact
change_asked prefix server cluster change = record {
  compares = change_compares prefix server change.after;
  success = change_operations prefix cluster change;
  failure = GetAt (head_key prefix) ∷ [];
}

-- the head is to be told
abbrev pub head_asked : List ℕ → TransactionFact
head_asked prefix = record { compares = []; success = GetAt (head_key prefix) ∷ []; failure = [] }

-- pieces are, where the head is of that version
abbrev pub pieces_asked : List ℕ → Wanted → TransactionFact
pieces_asked prefix wanted = record {
  compares = compares (head_key prefix) Written wanted.version ∷ [];
  success = RangeIn (piece_key prefix wanted.generation wanted.from) (behind_key prefix wanted.generation) wanted.most ∷ [];
  failure = GetAt (head_key prefix) ∷ [];
}

-- pieces are that stood there when the head was put at that version
abbrev pub past_asked : List ℕ → Wanted → TransactionFact
past_asked prefix wanted = record {
  compares = [];
  success = PastIn (piece_key prefix wanted.generation wanted.from) (behind_key prefix wanted.generation) wanted.most wanted.version ∷ [];
  failure = [];
}

-- whether somebody leads
abbrev pub leader_asked : List ℕ → TransactionFact
leader_asked prefix = record { compares = []; success = GetAt (leader_key prefix) ∷ []; failure = [] }

-- by this lease, where nobody does, this server is to lead
abbrev pub lead_asked : List ℕ → ℕ → TransactionFact
lead_asked prefix lease = record {
  compares = compares (leader_key prefix) Created 0 ∷ [];
  success = PutLeasedAt (leader_key prefix) (codes "oauthd") lease ∷ [];
  failure = GetAt (leader_key prefix) ∷ [];
}
