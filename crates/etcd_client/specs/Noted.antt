-- The calls that a client made, noted one by one in numbers and bytes.
use Rattle.std.specs.Prelude.{ℕ, List, [], ◌∷◌, ◌++◌, ◌==◌, slice_index, if◌then◌else◌, Option, None, Some, Result, Ok, Err}
use Rattle.etcd_cluster.specs.Calls.{AskedHead, AskedPieces, Called, Compacted, Forgot, Kept, Sent}
use Rattle.etcd_cluster.specs.Stands.{ChangeFact, Clears, Forgets, Lays, PieceFact, WriteFact}
use Rattle.etcd_cluster.specs.declared.change.Answer.TheVariants.{Done, NotDone}
use Rattle.etcd_cluster.specs.declared.change.CallFault.TheVariants.{Refused, Unclear}
use Rattle.etcd_cluster.specs.declared.change.Head.{Head}
use Rattle.etcd_cluster.specs.declared.change.Standing.{Standing}
use Rattle.etcd_cluster.specs.declared.change.Wanted.{Wanted}
use Rattle.etcd_client.specs.Exchanges.{Exchange, exchange}
use Rattle.etcd_client.specs.Tries.{Came, Try, came_as}
use Rattle.etcd_client.specs.declared.members.AskFault.{AskFault}
use Rattle.etcd_client.specs.declared.members.AskFault.TheVariants as ask

-- The calls, the requests, and how often each was sent, the last one first; and what is noted of the next one: what a change writes, the
-- pieces that were told, and a request with its token.
pub record Log : Type 0 where
  pub path : List ℕ
  pub body : List ℕ
  pub token : Option (List ℕ)
  pub tries : List Try
  pub exchanges : List Exchange
  pub writes : List WriteFact
  pub pieces : List PieceFact
  pub calls : List Called

abbrev pub no_log : Log
no_log = record { path = []; body = []; token = None; tries = []; exchanges = []; writes = []; pieces = []; calls = [] }

-- five numbers from that place on are a head
abbrev pub head_in : List ℕ → ℕ → ℕ → ℕ → ℕ → ℕ → Head
head_in numbers a b c d e = record {
  server = slice_index numbers a;
  turn = slice_index numbers b;
  generation = slice_index numbers c;
  end = slice_index numbers d;
  room = slice_index numbers e;
}

abbrev pub change_in : List ℕ → List WriteFact → ChangeFact
change_in numbers writes = record { after = slice_index numbers 1; head = head_in numbers 2 3 4 5 6; writes = writes }

abbrev pub wanted_in : List ℕ → Wanted
wanted_in numbers = record {
  version = slice_index numbers 1;
  generation = slice_index numbers 2;
  from = slice_index numbers 3;
  most = slice_index numbers 4;
}

abbrev pub standing_in : ℕ → Head → Standing
standing_in version head = record { version = version; head = head }

abbrev pub piece_in : ℕ → List ℕ → PieceFact
piece_in at bytes = record { at = at; bytes = bytes }

-- one write more, one piece more, one call more
abbrev pub with_write : WriteFact → Log → Log
with_write write log = record log { writes = log.writes ++ write ∷ [] }

abbrev pub with_piece : PieceFact → Log → Log
with_piece piece log = record log { pieces = log.pieces ++ piece ∷ [] }

abbrev pub with_call : Called → Log → Log
with_call call log = record log { calls = call ∷ log.calls }

abbrev pub with_told : Result (List ℕ) AskFault → Log → Log
with_told told log = record log { exchanges = exchange log.path log.body told ∷ log.exchanges }

-- sent to that member, within that time
abbrev pub with_try : ℕ → ℕ → Option Came → Log → Log
with_try member limit came log = record log {
  tries = record {
    member = member;
    token = log.token;
    path = log.path;
    body = log.body;
    limit = limit;
    came = came;
  } ∷ log.tries;
}

-- by the kind, which is the first of the numbers
abbrev pub noted_call : ℕ → List ℕ → Log → Called
noted_call kind numbers log =
    if kind == 4 then Sent (change_in numbers log.writes) (Ok (Done (slice_index numbers 7)))
    else if kind == 5 then Sent (change_in numbers log.writes) (Ok (NotDone None))
    else if kind == 6 then Sent (change_in numbers log.writes) (Ok (NotDone (Some (standing_in (slice_index numbers 7) (head_in numbers 8 9 10 11 12)))))
    else if kind == 7 then Sent (change_in numbers log.writes) (Err Unclear)
    else if kind == 8 then Sent (change_in numbers log.writes) (Err Refused)
    else if kind == 9 then AskedHead (Ok None)
    else if kind == 10 then AskedHead (Ok (Some (standing_in (slice_index numbers 1) (head_in numbers 2 3 4 5 6))))
    else if kind == 11 then AskedHead (Err Unclear)
    else if kind == 12 then AskedHead (Err Refused)
    else if kind == 13 then AskedPieces (wanted_in numbers) (Ok (Some log.pieces))
    else if kind == 14 then AskedPieces (wanted_in numbers) (Ok None)
    else if kind == 15 then AskedPieces (wanted_in numbers) (Err Unclear)
    else if kind == 16 then AskedPieces (wanted_in numbers) (Err Refused)
    else if kind == 17 then Kept
    else if kind == 18 then Compacted (slice_index numbers 1)
    else Forgot

abbrev pub noted_by : ℕ → List ℕ → List ℕ → Log → Log
noted_by kind numbers bytes log =
    if kind == 0 then record log { writes = []; pieces = [] }
    else if kind == 1 then with_write (Lays (slice_index numbers 1) (slice_index numbers 2) bytes) log
    else if kind == 2 then with_write (Clears (slice_index numbers 1) (slice_index numbers 2) (slice_index numbers 3)) log
    else if kind == 3 then with_write (Forgets (slice_index numbers 1)) log
    else if kind == 20 then with_piece (piece_in (slice_index numbers 1) bytes) log
    else if kind == 21 then record log { path = bytes }
    else if kind == 22 then record log { body = bytes }
    else if kind == 23 then with_told (Ok bytes) log
    else if kind == 24 then with_told (Err ask.Unclear) log
    else if kind == 25 then with_told (Err (ask.Refused (slice_index numbers 1))) log
    else if kind == 30 then with_told (Err ask.Memory) log
    else if kind == 26 then record log { token = Some bytes }
    else if kind == 27 then record log { token = None }
    else if kind == 28 then with_try (slice_index numbers 1) (slice_index numbers 2) (Some (came_as (slice_index numbers 3) bytes)) log
    else if kind == 29 then with_try (slice_index numbers 1) (slice_index numbers 2) None log
    else with_call (noted_call kind numbers log) log

abbrev pub with_note : List ℕ → List ℕ → Log → Log
with_note numbers bytes log = noted_by (slice_index numbers 0) numbers bytes log
