-- As whom the members of a list are asked.
use Rattle.std.specs.Prelude.{◌≡◌, ℕ, List, Option, option_map, string_bytes}
use Rattle.etcd_client.specs.declared.asking.Access.{Access}
use Rattle.standby.specs.declared.opening.ListTerms.{ListTerms}

-- a user's name and password
abbrev pub user_said : ListTerms → Option (List ℕ × List ℕ)
user_said terms = option_map (λ user. (user.0.now, user.1.now)) terms.user

abbrev pub user_of : Access → Option (List ℕ × List ℕ)
user_of access = option_map (λ user. (string_bytes user.0, string_bytes user.1)) access.user

-- those members are asked, as that user
pub record IsAccessOf (terms : ListTerms) (access : Access) : Type 0 where
  pub members : access.members.items ≡ terms.members.now
  pub user : user_of access ≡ user_said terms
