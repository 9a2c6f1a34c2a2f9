-- What is said on a connection.
use Rattle.std.specs.Prelude.{◌≡◌, ◌++◌, ℕ, List, Option, Some}
use Rattle.heads.specs.Message.{Messages}
use Rattle.http_edge.specs.Schedule.{Connection, untaken}

-- What was read of a connection and written to it, as an edge knows it. The bytes that were read are its stream, but for those that
-- were lost, and its requests are the messages in it. What was written is a front of all its output: of the replies to its
-- requests, as the schedule has them.
pub record Talk (read written lost : List ℕ) (known : Option Connection) : Type 0 where
  pub connection : Connection
  pub here : known ≡ Some connection
  pub stream : read ≡ connection.stream ++ lost
  pub rest : List ℕ
  pub requests : Messages connection.stream connection.messages rest
  pub front : written ++ untaken (Some connection) ≡ connection.output
