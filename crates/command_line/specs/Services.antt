-- The commands that serve connections: their words, and the file that they name.
use Rattle.std.specs.Prelude.{◌≡◌, ⊤, ℕ, List, [], ◌∷◌, map, codes, length, None, Option, Some, unwrap_or, Ok, Err}
use Rattle.command_line.specs.Names.{string_bytes, HookSaid, Said, clock_limit, wrong, StartWords, CommandFault, BadWord, NoAddress, NoConfig, OutOfMemory, Serve, Start, IsHexOf, Arguments}
use Rattle.start_words.specs.Numbers.{number_said}
use Rattle.start_words.specs.Options.{no_address, no_config}
use Rattle.start_words.specs.Start.{given_by, start_in}
use Rattle.daemon.specs.declared.starting.Pace.{Pace}
use Rattle.event_loop.specs.declared.limits.Limits.{Limits}
use Rattle.command_line.specs.declared.service.ServeWords.{ServeWords}
use Rattle.command_line.specs.declared.service.Service.{Service}

-- a text is hex of a seed, which has 32 bytes
abbrev pub IsSeed : List ℕ → List ℕ → Type 0
IsSeed text seed = IsHexOf text seed × (length seed ≡ 32)

-- the words behind `serve` are ADDR CONFIG SEEDHEX COUNT
pub record GiveServe (words : List (List ℕ)) (given : ServeWords) : Type 0 where
  pub seed_hex : List ℕ
  pub count : List ℕ
  pub words_are : words ≡ given.address.now ∷ given.config.now ∷ seed_hex ∷ count ∷ []
  pub seed_is : IsSeed seed_hex given.seed
  pub count_is : number_said count ≡ Some given.count

-- the words behind `start` are ADDR CONFIG, and its options
abbrev pub GiveStart : List (List ℕ) → StartWords → Type 0
GiveStart words given = start_in words ≡ Ok (given_by given)

-- why the words behind `start` are refused: one is missing, or is wrong; memory may be wanted, too
abbrev pub StartFails : List (List ℕ) → CommandFault → Type 0
StartFails words NoAddress = start_in words ≡ Err no_address
StartFails words NoConfig = start_in words ≡ Err no_config
StartFails words (BadWord word fault) = start_in words ≡ Err (wrong word.now fault)
StartFails words OutOfMemory = ⊤
StartFails words fault = ⊥

-- words name a service: its name, and what it is given
abbrev pub NameService : List (List ℕ) → Service → Type 0
NameService [] service = ⊥
NameService (name ∷ words) (Serve given) = (name ≡ codes "serve") × GiveServe words given
NameService (name ∷ words) (Start given) = (name ≡ codes "start") × GiveStart words given

abbrev pub IsService : Arguments → Service → Type 0
IsService words service = NameService (map string_bytes words) service

abbrev pub IsNoService : Arguments → Type 0
IsNoService words = (service : Service) → NameService (map string_bytes words) service → ⊥

-- why words that begin with a service's name are refused
abbrev pub ServiceFails : List (List ℕ) → CommandFault → Type 0
ServiceFails words OutOfMemory = ⊤
ServiceFails (name ∷ words) NoAddress = (name ≡ codes "start") × StartFails words NoAddress
ServiceFails (name ∷ words) NoConfig = (name ≡ codes "start") × StartFails words NoConfig
ServiceFails (name ∷ words) (BadWord word fault) = (name ≡ codes "start") × StartFails words (BadWord word fault)
ServiceFails words fault = ⊥

-- the hooks that are installed before it listens
abbrev pub hooks_installed : Service → List HookSaid
hooks_installed (Serve given) = []
hooks_installed (Start given) = given.options.hooks

-- the seconds for which its server is patient, 60 and 5 where they are left out, and by how many the clock may be ahead; it is measured
-- each second
abbrev pub limits_of : Said → Limits
limits_of said = record { idle = unwrap_or said.silence 60; crowded = unwrap_or said.full 5; report = Some 1; ahead = clock_limit said.clock }

-- the pace at which it goes on: by these limits, and with a report each so many seconds of a life, if at all
abbrev pub pace_of : Said → Pace
pace_of said = record { limits = limits_of said; report = said.report }

-- the path of the registry's file
abbrev pub config_of : Service → List ℕ
config_of (Serve given) = given.config.now
config_of (Start given) = given.config.now

-- where its server listens
abbrev pub address_of : Service → List ℕ
address_of (Serve given) = given.address.now
address_of (Start given) = given.address.now

-- the path of the file in which the password of a user of etcd stands, where there is one
abbrev pub password_of : Service → Option (List ℕ)
password_of (Serve given) = None
password_of (Start given) = given.options.password
