-- Where a server keeps its state.
use Rattle.std.specs.Prelude.{ℕ, List, Option, Some, None, option_map}
use Rattle.start_words.specs.declared.list.ListWords.{ListWords}
use Rattle.start_words.specs.declared.list.StatePlace.{StatePlace}
use Rattle.start_words.specs.declared.list.StatePlace.TheVariants as places
use Rattle.start_words.specs.declared.list.UserWords.{UserWords}
use Rattle.start_words.specs.Options.{Said}

-- as whom the members are asked: the user's name, and the path of the file of the password
pub record UserSaid : Type 0 where
  pub name : List ℕ
  pub password_file : List ℕ

abbrev pub user_said : UserWords → UserSaid
user_said words = record { name = words.name.now; password_file = words.password_file.now }

-- a list in etcd: where the members listen, and with what its keys begin
pub record ListSaid : Type 0 where
  pub members : List ℕ
  pub prefix : List ℕ
  pub user : Option UserSaid

abbrev pub list_said : ListWords → ListSaid
list_said words = record { members = words.members.now; prefix = words.prefix.now; user = option_map user_said words.user }

-- nowhere, in a file, or in a list
pub data Place : Type 0 where
  nowhere : Place
  at_file : (path : List ℕ) → Place
  at_list : (list : ListSaid) → Place

abbrev pub place_said : StatePlace → Place
place_said places.Nowhere = nowhere
place_said (places.File path) = at_file path.now
place_said (places.Etcd words) = at_list (list_said words)

-- as whom they are asked, where both are said
abbrev pub user_by : (name password : Option (List ℕ)) → Option UserSaid
user_by (Some name) (Some path) = Some (record { name = name; password_file = path })
user_by (Some name) None = None
user_by None password = None

abbrev pub user_of : Said → Option UserSaid
user_of said = user_by said.user said.password

-- the list, where members and prefix are said
abbrev pub list_by : (members prefix : Option (List ℕ)) → Option UserSaid → Place
list_by (Some members) (Some prefix) user = at_list (record { members = members; prefix = prefix; user = user })
list_by (Some members) None user = nowhere
list_by None prefix user = nowhere

abbrev pub place_by : Option (List ℕ) → Said → Place
place_by (Some path) said = at_file path
place_by None said = list_by said.etcd said.prefix (user_of said)

abbrev pub place_of : Said → Place
place_of said = place_by said.state said
