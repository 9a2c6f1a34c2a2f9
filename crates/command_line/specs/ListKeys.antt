-- What a list in etcd is asked by.
use Rattle.std.specs.Prelude.{◌≡◌, ℕ, List, IfSome, IsSomeAnd, MatchOption, None, option_map}
use Rattle.std.specs.Str.{IsUtf8, trim_end}
use Rattle.commands.specs.NamedFiles.{bytes_in}
use Rattle.hook_commands.specs.File.{File}
use Rattle.start_words.specs.declared.list.ListWords.{ListWords}
use Rattle.standby.specs.declared.opening.ListTerms.{ListTerms}
use Rattle.command_line.specs.declared.list_keys.ListKeys.{ListKeys}

-- what stands in the file of the password
abbrev pub password_in : ListKeys → File
password_in keys = option_map (λ bytes. bytes.items) keys.password

-- the password: what stands there is text, and this, without white space at its end
abbrev pub HoldsPassword : File → List ℕ → Type 0
HoldsPassword file password = IsSomeAnd file (λ bytes. IsUtf8 bytes × (password ≡ trim_end bytes))

-- there is none
abbrev pub HoldsNoPassword : File → Type 0
HoldsNoPassword file = IfSome file (λ bytes. IsUtf8 bytes → ⊥)

-- The list that words name is asked by who would lead for so many seconds, as the user whom they name, with that one's password, or as
-- nobody, where they name none.
pub record AreTermsOf (list : ListWords) (file : File) (seconds : ℕ) (terms : ListTerms) : Type 0 where
  pub prefix_is : terms.prefix ≡ list.prefix
  pub seconds_is : terms.seconds ≡ seconds
  pub user_is : MatchOption terms.user (list.user ≡ None) (λ asked. IsSomeAnd list.user (λ user. (asked.0 ≡ user.name) × HoldsPassword file asked.1.now))

-- words name a user whose password is not had
abbrev pub LacksPassword : ListWords → File → Type 0
LacksPassword list file = IsSomeAnd list.user (λ user. HoldsNoPassword file)
