-- The commands on a list in etcd: their words.
use Rattle.std.specs.Prelude.{◌≡◌, ◌≢◌, ℕ, List, [], ◌∷◌, codes, Option, Some, None}
use Rattle.start_words.specs.declared.list.ListWords.{ListWords}
use Rattle.start_words.specs.declared.list.UserWords.{UserWords}
use Rattle.command_line.specs.declared.list_command.ListCommand.{ListCommand}
use Rattle.command_line.specs.declared.list_command.ListCommand.TheVariants.{From, New, Show, To, Trial}

-- the words that name a user, if there is one
abbrev pub words_of_user : Option UserWords → List (List ℕ)
words_of_user None = []
words_of_user (Some user) = codes "--etcd-user" ∷ user.name.now ∷ codes "--etcd-password-file" ∷ user.password_file.now ∷ []

-- the words that name a list
abbrev pub words_of_list : ListWords → List (List ℕ)
words_of_list list = codes "--etcd" ∷ list.members.now ∷ codes "--prefix" ∷ list.prefix.now ∷ words_of_user list.user

abbrev pub NameUser : List (List ℕ) → Option UserWords → Type 0
NameUser words user = words ≡ words_of_user user

abbrev pub NameNoUser : List (List ℕ) → Type 0
NameNoUser words = (user : Option UserWords) → words ≢ words_of_user user

abbrev pub IsList : List (List ℕ) → ListWords → Type 0
IsList words list = words ≡ words_of_list list

abbrev pub IsNoList : List (List ℕ) → Type 0
IsNoList words = (list : ListWords) → words ≢ words_of_list list

-- the words that name a command
abbrev pub words_of_list_command : ListCommand → List (List ℕ)
words_of_list_command (Show list) = codes "state" ∷ words_of_list list
words_of_list_command (New list) = codes "state" ∷ codes "--new" ∷ words_of_list list
words_of_list_command (From path list) = codes "state" ∷ codes "--from" ∷ path.now ∷ words_of_list list
words_of_list_command (To path list) = codes "state" ∷ codes "--to" ∷ path.now ∷ words_of_list list
words_of_list_command (Trial config list) = codes "registry" ∷ config.now ∷ words_of_list list

abbrev pub NameList : List (List ℕ) → ListCommand → Type 0
NameList words command = words ≡ words_of_list_command command

abbrev pub NameNoList : List (List ℕ) → Type 0
NameNoList words = (command : ListCommand) → words ≢ words_of_list_command command

-- those behind `state`
abbrev pub NameState : List (List ℕ) → ListCommand → Type 0
NameState words command = NameList (codes "state" ∷ words) command

abbrev pub NameNoState : List (List ℕ) → Type 0
NameNoState words = NameNoList (codes "state" ∷ words)

-- the path of the file that is read for it
abbrev pub file_of_list : ListCommand → Option (List ℕ)
file_of_list (From path list) = Some path.now
file_of_list (Trial config list) = Some config.now
file_of_list command = None

abbrev pub password_by : Option UserWords → Option (List ℕ)
password_by None = None
password_by (Some user) = Some user.password_file.now

-- the list of a command
abbrev pub list_of : ListCommand → ListWords
list_of (Show list) = list
list_of (New list) = list
list_of (From path list) = list
list_of (To path list) = list
list_of (Trial config list) = list

-- the path of the file of the user's password, where there is a user
abbrev pub password_of_list : ListCommand → Option (List ℕ)
password_of_list command = password_by (list_of command).user
