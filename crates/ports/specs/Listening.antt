-- Where a server listens.
use Rattle.std.specs.Prelude.{ℕ, List, ◌++◌, codes, Option}
use Rattle.std.specs.Io.KnownBytes.{Appends}
use Rattle.std.specs.Net.Text.{socket_text}
use Rattle.std.specs.declared.net.socket_addr.SocketAddr.{SocketAddr}

-- the line that tells where a server listens
abbrev pub listening_text : SocketAddr → List ℕ
listening_text address = codes "listening " ++ socket_text address ++ codes "\n"

-- it is written where a server listens
abbrev pub Announces : Option (List ℕ) → Option (List ℕ) → Type 0
Announces old new = (address : SocketAddr) × Appends old new (listening_text address)
