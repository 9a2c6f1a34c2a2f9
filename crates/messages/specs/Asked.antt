-- What a request asks, wherever its bytes lie.
use Rattle.std.specs.Prelude.{ℕ, List, Option}
use Rattle.std.specs.Option.{option_copied}
use Rattle.messages.specs.declared.request.Request.{Request}

-- a request: its method, target and body, and the values of the fields that count, where they were sent
pub record Asked : Type 0 where
  pub method : List ℕ
  pub target : List ℕ
  pub body : List ℕ
  pub authorization : Option (List ℕ)
  pub content_type : Option (List ℕ)
  pub owner_key : Option (List ℕ)
  pub operator_key : Option (List ℕ)

abbrev pub asked_of : Request → Asked
asked_of r = record {
  method = r.method.now;
  target = r.target.now;
  body = r.body.now;
  authorization = option_copied r.authorization;
  content_type = option_copied r.content_type;
  owner_key = option_copied r.owner_key;
  operator_key = option_copied r.operator_key;
}
