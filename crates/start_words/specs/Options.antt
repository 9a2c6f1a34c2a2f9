-- What the words behind the registry's file give.
use Rattle.std.specs.Prelude.{◌≡◌, ⊤, ℕ, List, [], ◌∷◌, ◌++◌, length, Bool, ◌==◌, nat_lt, codes, take, if◌then◌else◌, Option, Some, None, is_some, Result, Ok, Err}
use Rattle.std.specs.Option.{ok_or}
use Rattle.std.specs.List.{after_first, before_first, position_or_len}
use Rattle.std.specs.Str.{bytes_eq}
use Rattle.insn.specs.declared.layout.Layout.{Layout}
use Rattle.insn.specs.declared.layout.Layout.TheVariants.{V1, V2}
use Rattle.start_words.specs.declared.fault.StartFault.{StartFault}
use Rattle.start_words.specs.declared.fault.StartFault.TheVariants.{BadWords, NoAddress, NoConfig, Word, Memory}
use Rattle.start_words.specs.declared.fault.WordFault.{WordFault}
use Rattle.start_words.specs.declared.fault.WordFault.TheVariants.{BadValue, BesideState, NoEtcd, NoPassword, NoPrefix, NoUser, NoValue, Twice, Unknown}
use Rattle.start_words.specs.declared.option.FarClock.{FarClock}
use Rattle.start_words.specs.declared.option.FarClock.TheVariants as clocks
use Rattle.start_words.specs.declared.option.FlagName.{FlagName}
use Rattle.start_words.specs.declared.option.FlagName.TheVariants.{AcceptClock, StandbyAnswers}
use Rattle.start_words.specs.declared.option.HookFile.{HookFile}
use Rattle.start_words.specs.declared.option.OptionName.{OptionName}
use Rattle.start_words.specs.declared.option.ListOption.{ListOption}
use Rattle.start_words.specs.declared.option.ListOption.TheVariants.{Etcd, Lease, Password, Prefix, User}
use Rattle.start_words.specs.declared.option.OptionName.TheVariants.{Audit, Full, Hook, List as OfList, Report, Silence, State}
use Rattle.start_words.specs.declared.option.Waiting.{Waiting}
use Rattle.start_words.specs.declared.option.Waiting.TheVariants.{Answers, Deaf}
use Rattle.start_words.specs.Numbers.{number_said}

-- a hook's name, the layout of the record that it reads, and the path of its file
pub record HookSaid : Type 0 where
  pub name : List ℕ
  pub layout : Layout
  pub path : List ℕ

abbrev pub hook_said : HookFile → HookSaid
hook_said file = record { name = file.name.now; layout = file.layout; path = file.path.now }

-- what has been said: seconds of silence, and where all places are taken, and from report to report, the path of the file in which it
-- is told of each request, that of the state's file, or what says a list in etcd, what comes of a clock that is far ahead of it, and the
-- hooks in their order
pub record Said : Type 0 where
  pub silence : Option ℕ
  pub full : Option ℕ
  pub report : Option ℕ
  pub audit : Option (List ℕ)
  pub state : Option (List ℕ)
  pub etcd : Option (List ℕ)
  pub prefix : Option (List ℕ)
  pub user : Option (List ℕ)
  pub password : Option (List ℕ)
  pub lease : Option ℕ
  pub waiting : Waiting
  pub clock : FarClock
  pub hooks : List HookSaid

abbrev pub nothing_said : Said
nothing_said = record {
  silence = None;
  full = None;
  report = None;
  audit = None;
  state = None;
  etcd = None;
  prefix = None;
  user = None;
  password = None;
  lease = None;
  waiting = Deaf;
  clock = clocks.Refused;
  hooks = [];
}

-- why words are refused: the address or the registry's file is missing, numbers by place are none, or one word is wrong
pub data Refused : Type 0 where
  no_address : Refused
  no_config : Refused
  bad_words : Refused
  wrong : (word : List ℕ) → (fault : WordFault) → Refused

-- the next step, unless this one has a fault
infixl 10 ◌>>=◌
abbrev pub ◌>>=◌ : {A B E : Type 0} → Result A E → (A → Result B E) → Result B E
Ok x >>= next = next x
Err e >>= next = Err e

-- the seconds of a year: by so many a clock may be ahead of a state, unless one that is farther ahead is accepted
abbrev pub year : ℕ
year = 31536000

abbrev pub clock_limit : FarClock → Option ℕ
clock_limit clocks.Refused = Some year
clock_limit clocks.Accepted = None

-- ---- one option

-- the option of a name
abbrev pub option_named : List ℕ → Option OptionName
option_named word =
    if bytes_eq word (codes "--silence") then Some Silence
    else (if bytes_eq word (codes "--full") then Some Full
    else (if bytes_eq word (codes "--report") then Some Report
    else (if bytes_eq word (codes "--audit") then Some Audit
    else (if bytes_eq word (codes "--state") then Some State
    else (if bytes_eq word (codes "--etcd") then Some (OfList Etcd)
    else (if bytes_eq word (codes "--prefix") then Some (OfList Prefix)
    else (if bytes_eq word (codes "--etcd-user") then Some (OfList User)
    else (if bytes_eq word (codes "--etcd-password-file") then Some (OfList Password)
    else (if bytes_eq word (codes "--lease") then Some (OfList Lease)
    else (if bytes_eq word (codes "--hook") then Some (Hook V1)
    else (if bytes_eq word (codes "--hook2") then Some (Hook V2) else None)))))))))))

-- a number that is not 0
abbrev pub not_0 : Option ℕ → Option ℕ
not_0 None = None
not_0 (Some n) = if n == 0 then None else Some n

abbrev pub above_0 : List ℕ → Option ℕ
above_0 text = not_0 (number_said text)

-- a number that is 2 at least
abbrev pub not_below_2 : Option ℕ → Option ℕ
not_below_2 None = None
not_below_2 (Some n) = if nat_lt n 2 then None else Some n

abbrev pub above_1 : List ℕ → Option ℕ
above_1 text = not_below_2 (number_said text)

-- a text has an equals sign
abbrev pub is_pair : List ℕ → Bool
is_pair text = nat_lt (position_or_len (λ b. b == 61) text) (length text)

-- NAME=FILE: the name ends at the first equals sign
abbrev pub hook_in : Layout → List ℕ → Option HookSaid
hook_in layout text =
    if is_pair text then Some (record { name = before_first (λ b. b == 61) text; layout = layout; path = after_first (λ b. b == 61) text })
    else None

-- a path that is not empty
abbrev pub path_in : List ℕ → Option (List ℕ)
path_in text = if length text == 0 then None else Some text

-- a value, unless one was said before
abbrev pub once : {A : Type 0} → Option A → Option A → Result (Option A) WordFault
once (Some said) value = Err Twice
once None None = Err BadValue
once None (Some value) = Ok (Some value)

-- with what an option and its value say of a list in etcd
abbrev pub with_list_value : Said → ListOption → List ℕ → Result Said WordFault
with_list_value said Etcd value = do
  members ← once said.etcd (path_in value)
  Ok (record said { etcd = members })
with_list_value said Prefix value = do
  prefix ← once said.prefix (path_in value)
  Ok (record said { prefix = prefix })
with_list_value said User value = do
  name ← once said.user (path_in value)
  Ok (record said { user = name })
with_list_value said Password value = do
  path ← once said.password (path_in value)
  Ok (record said { password = path })
with_list_value said Lease value = do
  seconds ← once said.lease (above_1 value)
  Ok (record said { lease = seconds })

-- with what an option and its value say
abbrev pub with_option_value : Said → OptionName → List ℕ → Result Said WordFault
with_option_value said Silence value = do
  seconds ← once said.silence (above_0 value)
  Ok (record said { silence = seconds })
with_option_value said Full value = do
  seconds ← once said.full (number_said value)
  Ok (record said { full = seconds })
with_option_value said Report value = do
  seconds ← once said.report (above_0 value)
  Ok (record said { report = seconds })
with_option_value said Audit value = do
  path ← once said.audit (path_in value)
  Ok (record said { audit = path })
with_option_value said State value = do
  path ← once said.state (path_in value)
  Ok (record said { state = path })
with_option_value said (OfList option) value = with_list_value said option value
with_option_value said (Hook layout) value = do
  hook ← ok_or (hook_in layout value) BadValue
  Ok (record said { hooks = said.hooks ++ hook ∷ [] })

-- with what two words say
abbrev pub with_option : Said → List ℕ → List ℕ → Result Said WordFault
with_option said word value = do
  name ← ok_or (option_named word) Unknown
  with_option_value said name value

-- the option of a name that has no value
abbrev pub flag_named : List ℕ → Option FlagName
flag_named word =
    if bytes_eq word (codes "--accept-clock") then Some AcceptClock
    else (if bytes_eq word (codes "--standby-answers") then Some StandbyAnswers else None)

-- a clock that is far ahead is taken, unless that was said before
abbrev pub clock_taken : FarClock → Result FarClock WordFault
clock_taken clocks.Refused = Ok clocks.Accepted
clock_taken clocks.Accepted = Err Twice

-- who waits answers, unless that was said before
abbrev pub waiting_taken : Waiting → Result Waiting WordFault
waiting_taken Deaf = Ok Answers
waiting_taken Answers = Err Twice

-- with what such an option says
abbrev pub flag_taken : Said → FlagName → Result Said WordFault
flag_taken said AcceptClock = do
  clock ← clock_taken said.clock
  Ok (record said { clock = clock })
flag_taken said StandbyAnswers = do
  waiting ← waiting_taken said.waiting
  Ok (record said { waiting = waiting })

-- with what the option of a word says that has no value
abbrev pub with_flag : Said → List ℕ → Result Said WordFault
with_flag said word = do
  flag ← ok_or (flag_named word) Unknown
  flag_taken said flag

abbrev pub is_flag : List ℕ → Bool
is_flag word = is_some (flag_named word)

-- ---- the words

-- a fault is one of a word
abbrev pub blamed : {A : Type 0} → List ℕ → Result A WordFault → Result A Refused
blamed word (Ok x) = Ok x
blamed word (Err fault) = Err (wrong word fault)

-- the fault of an option without a value
abbrev pub lone_fault : List ℕ → WordFault
lone_fault word = if is_some (option_named word) then NoValue else Unknown

-- what these words say beside what was said before: the options, each with its value, where it has one
abbrev pub options_after : Said → List (List ℕ) → Result Said Refused
options_after said [] = Ok said
options_after said (word ∷ []) =
    if is_flag word then blamed word (with_flag said word)
    else Err (wrong word (lone_fault word))
options_after said (word ∷ value ∷ words) =
    if is_flag word then (blamed word (with_flag said word) >>= λ more. options_after more (value ∷ words))
    else (blamed word (with_option said word value) >>= λ more. options_after more words)

-- a word begins with two hyphens
abbrev pub is_option : List ℕ → Bool
is_option word = bytes_eq (take 2 word) (codes "--")

-- the first word, where it counts by its place, and those behind it
abbrev pub by_place : List (List ℕ) → Option (List ℕ × List (List ℕ))
by_place [] = None
by_place (word ∷ words) = if is_option word then None else Some (word, words)

-- behind SILENCE and FULL no word counts by its place
abbrev pub none_placed : Said → List (List ℕ) → Option (List ℕ × List (List ℕ)) → Result (Said × List (List ℕ)) Refused
none_placed said words None = Ok (said, words)
none_placed said words (Some more) = Err bad_words

-- FULL, which may be left out
abbrev pub full_placed : Said → List (List ℕ) → Option (List ℕ × List (List ℕ)) → Result (Said × List (List ℕ)) Refused
full_placed said words None = Ok (said, words)
full_placed said words (Some (full, rest)) = do
  seconds ← ok_or (number_said full) bad_words
  none_placed (record said { full = Some seconds }) rest (by_place rest)

-- SILENCE, which may be left out
abbrev pub silence_placed : Said → List (List ℕ) → Option (List ℕ × List (List ℕ)) → Result (Said × List (List ℕ)) Refused
silence_placed said words None = Ok (said, words)
silence_placed said words (Some (silence, rest)) = do
  seconds ← ok_or (above_0 silence) bad_words
  full_placed (record said { silence = Some seconds }) rest (by_place rest)

-- what the words say that count by their places, beside what was said before, and the words behind them
abbrev pub placed_after : Said → List (List ℕ) → Result (Said × List (List ℕ)) Refused
placed_after said words = silence_placed said words (by_place words)

-- who waits to lead is to answer, though nobody does
abbrev pub lone_waiting : Waiting → Option (List ℕ × WordFault)
lone_waiting Answers = Some (codes "--standby-answers", NoEtcd)
lone_waiting Deaf = None

-- an option that says something of a list in etcd alone, where there is none
abbrev pub listless : Said → Option (List ℕ × WordFault)
listless said =
    if is_some said.prefix then Some (codes "--prefix", NoEtcd)
    else (if is_some said.user then Some (codes "--etcd-user", NoEtcd)
    else (if is_some said.password then Some (codes "--etcd-password-file", NoEtcd)
    else (if is_some said.lease then Some (codes "--lease", NoEtcd) else lone_waiting said.waiting)))

-- a user without a password, or a password without a user
abbrev pub lone_user : (user password : Option (List ℕ)) → Option (List ℕ × WordFault)
lone_user (Some name) None = Some (codes "--etcd-user", NoPassword)
lone_user None (Some path) = Some (codes "--etcd-password-file", NoUser)
lone_user (Some name) (Some path) = None
lone_user None None = None

-- an option that lacks another one, or stands beside one that it does not go with
abbrev pub lone_option : Said → Option (List ℕ × WordFault)
lone_option said =
    if is_some said.etcd then
    (if is_some said.state then Some (codes "--etcd", BesideState)
    else (if is_some said.prefix then lone_user said.user said.password else Some (codes "--etcd", NoPrefix)))
    else listless said

-- where there is such an option it is refused
abbrev pub unless_lone : Said → Option (List ℕ × WordFault) → Result Said Refused
unless_lone said None = Ok said
unless_lone said (Some (word, fault)) = Err (wrong word fault)

-- what the words behind CONFIG say
abbrev pub options_in : List (List ℕ) → Result Said Refused
options_in words = do
  placed ← placed_after nothing_said words
  said ← options_after placed.0 placed.1
  unless_lone said (lone_option said)

-- ---- faults

-- why a reading has no result
abbrev pub IsWhyRefused : {A : Type 0} → Result A Refused → StartFault → Type 0
IsWhyRefused reading NoAddress = reading ≡ Err no_address
IsWhyRefused reading NoConfig = reading ≡ Err no_config
IsWhyRefused reading BadWords = reading ≡ Err bad_words
IsWhyRefused reading (Word word fault) = reading ≡ Err (wrong word.now fault)
IsWhyRefused reading Memory = ⊤
