-- Where the members of a cluster listen.
use Rattle.std.specs.Prelude.{◌≡◌, ◌≢◌, ◌<◌, ◌⊎◌, ℕ, List, [], ◌∷◌, ◌++◌, codes, length, slice_index}
use Rattle.std.specs.Net.Grammar.{IsSocketText}
use Rattle.std.specs.declared.net.socket_addr.SocketAddr.{SocketAddr}
use Rattle.standby.specs.declared.fault.ListFault.{ListFault}
use Rattle.standby.specs.declared.fault.ListFault.TheVariants.{Memory, NoMember, Unresolved}

-- what each URL begins with
abbrev pub scheme : List ℕ
scheme = codes "http://"

-- A URL names a host and its port, with a slash behind them, or without one.
pub data NamesHost (url host : List ℕ) : Type 0 where
  slashed : url ≡ scheme ++ (host ++ 47 ∷ []) → NamesHost url host
  plain : url ≡ scheme ++ host → ((front : List ℕ) → host ≢ front ++ 47 ∷ []) → NamesHost url host

-- it is of no such form
abbrev pub NamesNone : List ℕ → Type 0
NamesNone url = (rest : List ℕ) → url ≢ scheme ++ rest

-- Where a text spells an address, that is where it listens. The system says where others do.
abbrev pub IsWhere : List ℕ → List SocketAddr → Type 0
IsWhere host found = (address : SocketAddr) → IsSocketText host address → (same : SocketAddr) × (found ≡ same ∷ []) × IsSocketText host same

-- a member listens there
abbrev pub IsMember : List ℕ → List SocketAddr → Type 0
IsMember url found = (host : List ℕ) × NamesHost url host × IsWhere host found

-- such addresses come behind those that are there
abbrev pub Adds : (List SocketAddr → Type 0) → List SocketAddr → List SocketAddr → Type 0
Adds are old new = (more : List SocketAddr) × are more × (new ≡ old ++ more)

-- why it is not known where a host listens: the system knows no such name, or memory was refused
pub data IsNowhere (host : List ℕ) : ListFault → Type 0 where
  unresolved : ((address : SocketAddr) → IsSocketText host address → ⊥) → IsNowhere host Unresolved
  memory : IsNowhere host Memory

-- why a URL names none
pub data IsBad (url : List ℕ) : ListFault → Type 0 where
  unnamed : NamesNone url → IsBad url NoMember
  nowhere : (host : List ℕ) (fault : ListFault) → NamesHost url host → IsNowhere host fault → IsBad url fault

-- no comma is in a text
abbrev pub HasNoComma : List ℕ → Type 0
HasNoComma text = (i : ℕ) → i < length text → slice_index text i ≢ 44

-- MEMBERS BY THEIR URLS, with commas between them: where they listen, in their order
pub data AreMembers : List ℕ → List SocketAddr → Type 0 where
  last : (url : List ℕ) (found : List SocketAddr) → HasNoComma url → IsMember url found → AreMembers url found
  first : (url rest : List ℕ) (found later : List SocketAddr) → HasNoComma url → IsMember url found → AreMembers rest later
      → AreMembers (url ++ 44 ∷ rest) (found ++ later)

-- the first that names none says why
pub data StopsAt : List ℕ → ListFault → Type 0 where
  at_last : (url : List ℕ) (fault : ListFault) → HasNoComma url → IsBad url fault → StopsAt url fault
  at_first : (url rest : List ℕ) (fault : ListFault) → HasNoComma url → IsBad url fault → StopsAt (url ++ 44 ∷ rest) fault
  later : (url rest : List ℕ) (found : List SocketAddr) (fault : ListFault) → HasNoComma url → IsMember url found → StopsAt rest fault
      → StopsAt (url ++ 44 ∷ rest) fault

-- Members are refused for the first URL that names none, or where the system knows the names of all, and no address.
abbrev pub AreRefused : List ℕ → ListFault → Type 0
AreRefused members fault = StopsAt members fault ⊎ ((fault ≡ NoMember) × AreMembers members [])
