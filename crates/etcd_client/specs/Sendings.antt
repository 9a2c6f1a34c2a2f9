-- A request that is sent once, and what comes of it.
use Rattle.std.specs.Prelude.{ℕ, List, Option}
use Rattle.etcd_client.specs.Tries.{Came, Try}
use Rattle.etcd_client.specs.declared.call_log.Attempt.{Attempt}

abbrev pub attempted : Option (List ℕ) → Attempt → Option Came → Try
attempted token attempt came = record {
  member = attempt.member;
  token = token;
  path = attempt.path.now;
  body = attempt.body.now;
  limit = attempt.limit;
  came = came;
}
