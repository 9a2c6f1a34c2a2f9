-- URLs that are read one after the other.
use Rattle.std.proofs.Common.{◌≡◌, ℕ, zero, suc, ◌+◌, ◌-◌, ◌<◌, Bor, List, [], ◌∷◌, ◌++◌, ◌∙◌, add-one, ap, append-nil, append_assoc, arith, length, lit<, refl, subst, sym, take}
use Rattle.std.proofs.Math.Seq.{take-nil}
use Rattle.std.proofs.lemmas.Bool.Decides.{nat_tests}
use Rattle.std.proofs.lemmas.List.{nil_from_length}
use Rattle.std.proofs.lemmas.Str.Pattern.{IsSplitOnceResult, split_parts, strip_suffix_char}
use Rattle.std.specs.Array.Iter.{array_into_iter_items, array_steps}
use Rattle.std.specs.Iterator.Adapters.{take_count, take_source, take_steps}
use Rattle.std.specs.Global.{Vec}
use Rattle.std.specs.Net.ToAddrs.{GivesAddrOfText, HostAddrs, host_addrs}
use Rattle.std.specs.Option.{MatchOption}
use Rattle.std.specs.Prelude.{◌==◌, Bool, Err, IfErr, None, Ok, Option, Result, Some, true, vec_len}
use Rattle.std.specs.Str.Pattern.{FindsCharSuffix}
use Rattle.std.specs.declared.io.Error.{Error}
use Rattle.std.specs.declared.net.socket_addr.SocketAddr.{SocketAddr}
use Rattle.standby.specs.Members.{AreMembers, HasNoComma, IsBad, IsMember, IsNowhere, IsWhere, NamesHost, StopsAt, at_first, at_last, first, last, later, nowhere, plain, scheme, unresolved}
use Rattle.standby.specs.declared.fault.ListFault.{ListFault}
use Rattle.standby.specs.declared.fault.ListFault.TheVariants.{Unresolved}

none_taken : (n : ℕ) (xs : List SocketAddr) → (0 < n → length xs ≡ 0) → take n xs ≡ []
none_taken n [] none = take-nil n
none_taken zero (x ∷ xs) none = refl
none_taken (suc n) (x ∷ xs) none = absurd (omega (arith, none (omega arith)))

-- Some URLs are read, and what the rest says of members or of a fault they all say.
pub record IsReadTo (members rest : List ℕ) (found : List SocketAddr) : Type 0 where
  pub more : (others : List SocketAddr) → AreMembers rest others → AreMembers members (found ++ others)
  pub stops : (fault : ListFault) → StopsAt rest fault → StopsAt members fault

pub none_read : (members : List ℕ) (found : List SocketAddr) → found ≡ [] → IsReadTo members members found
none_read members found empty = record { more = λ others are. rw empty are; stops = λ fault stops. stops }

-- one more is read
pub one_read : (members rest url behind : List ℕ) (found piece all : List SocketAddr) → IsReadTo members rest found → rest ≡ url ++ 44 ∷ behind → HasNoComma url
    → IsMember url piece → all ≡ found ++ piece → IsReadTo members behind all
one_read members rest url behind found piece all read is none member so = record {
  more = λ others are.
      let whole : AreMembers (url ++ 44 ∷ behind) (piece ++ others) = first url behind piece others none member are in
      let here : AreMembers rest (piece ++ others) = subst (λ (t : List ℕ). AreMembers t (piece ++ others)) (sym is) whole in
      let all_of : AreMembers members (found ++ (piece ++ others)) = read.more (piece ++ others) here in
      rw (so, append_assoc) all_of;
  stops = λ fault stops.
      let whole : StopsAt (url ++ 44 ∷ behind) fault = later url behind piece fault none member stops in
      read.stops fault (subst (λ (t : List ℕ). StopsAt t fault) (sym is) whole);
}

-- the last is read
pub all_read : (members rest : List ℕ) (found piece all : List SocketAddr) → IsReadTo members rest found → HasNoComma rest → IsMember rest piece
    → all ≡ found ++ piece → AreMembers members all
all_read members rest found piece all read none member so = rw so (read.more piece (last rest piece none member))

-- one names none
pub one_bad : (members rest url behind : List ℕ) (found : List SocketAddr) (fault : ListFault) → IsReadTo members rest found → rest ≡ url ++ 44 ∷ behind
    → HasNoComma url → IsBad url fault → StopsAt members fault
one_bad members rest url behind found fault read is none bad =
    read.stops fault (subst (λ (t : List ℕ). StopsAt t fault) (sym is) (at_first url behind fault none bad))

-- or the last
pub last_bad : (members rest : List ℕ) (found : List SocketAddr) (fault : ListFault) → IsReadTo members rest found → HasNoComma rest → IsBad rest fault
    → StopsAt members fault
last_bad members rest found fault read none bad = read.stops fault (at_last rest fault none bad)

-- so it is where a text was split
pub split_at : (text : List ℕ) (r : Option (Bor (List ℕ) × Bor (List ℕ))) (url rest : Bor (List ℕ)) → IsSplitOnceResult 44 text r → r ≡ Some (url, rest)
    → (text ≡ url.now ++ 44 ∷ rest.now) × HasNoComma url.now
split_at text r url rest cases is = rw is at (split_parts 44 text r cases (lit< tt))

-- or was not
pub split_none : (text : List ℕ) (r : Option (Bor (List ℕ) × Bor (List ℕ))) → IsSplitOnceResult 44 text r → r ≡ None → HasNoComma text
split_none text r cases is = rw is at (split_parts 44 text r cases (lit< tt))

-- THE HOST OF A URL

-- what stands behind the scheme names it, where no slash is at its end
pub plain_host : (url host : List ℕ) (r : Option (Bor (List ℕ))) → url ≡ scheme ++ host
    → MatchOption r (FindsCharSuffix 47 host None) (λ x. (n : ℕ) × FindsCharSuffix 47 host (Some n) × (x.now ≡ take (length host - n) host) × (length x.now + n ≡ length host))
    → r ≡ None → NamesHost url host
plain_host url host r is cases none = plain is (rw none at (strip_suffix_char 47 host r cases (lit< tt)))

-- WHERE A HOST LISTENS

-- one address more, and those that are still to come
pub address_next : (s t : HostAddrs) (address : SocketAddr) → take_steps (array_steps {A = SocketAddr} {n = 32}) s (Some address) t → host_addrs s ≡ address ∷ host_addrs t
address_next s t address step = rw (sym step.1, add-one, step.0) refl

-- none is
pub address_none : (s t : HostAddrs) → take_steps (array_steps {A = SocketAddr} {n = 32}) s None t → host_addrs s ≡ []
address_none s t step = none_taken (take_count s) (array_into_iter_items (take_source s)) (λ some. (step some).0)

-- what is read so far, and what is to come
pub address_read : (before found : List SocketAddr) (s t : HostAddrs) (address : SocketAddr) (all : List SocketAddr) → take_steps (array_steps {A = SocketAddr} {n = 32}) s (Some address) t
    → found ++ host_addrs s ≡ all → (found ++ address ∷ []) ++ host_addrs t ≡ all
address_read before found s t address all step so = rw append_assoc (rw (address_next s t address step) at so)

-- all are read
pub addresses_all : (before found : List SocketAddr) (s t start given : HostAddrs) → take_steps (array_steps {A = SocketAddr} {n = 32}) s None t
    → found ++ host_addrs s ≡ before ++ host_addrs start → start ≡ given → found ≡ before ++ host_addrs given
addresses_all before found s t start given step so same =
    sym (append-nil found) ∙ sym (ap (λ (xs : List SocketAddr). found ++ xs) (address_none s t step)) ∙ so ∙ ap (λ (it : HostAddrs). before ++ host_addrs it) same

-- an address that a host spells is the one that comes
pub where_by : (host : List ℕ) (r : Result HostAddrs Error) (it : HostAddrs) → GivesAddrOfText host r → r ≡ Ok it → IsWhere host (host_addrs it)
where_by host r it gives is = λ address spells. rw is at (gives address spells)

-- none does where nothing comes
pub nowhere_by : (host : List ℕ) (r : Result HostAddrs Error) (error : Error) → GivesAddrOfText host r → r ≡ Err error → IsNowhere host Unresolved
nowhere_by host r error gives is = unresolved (λ address spells. rw is at (gives address spells))

-- A URL of such a host is bad.
pub bad_by : {T : Type 0} (url host : List ℕ) (r : Result T ListFault) → NamesHost url host → IfErr r (IsNowhere host) → IfErr r (IsBad url)
bad_by url host (Ok x) names bad = tt
bad_by url host (Err fault) names bad = nowhere host fault names bad

-- a list of no length is empty
pub none_in : (found : Vec SocketAddr) (r : Bool) → r ≡ (vec_len found == 0) → r ≡ true → found.items ≡ []
none_in found r is holds =
    let short : (vec_len found == 0) ≡ true = sym is ∙ holds in
    let none : length found.items ≡ 0 = grind (arith, nat_tests, found.ok.0, short) in
    nil_from_length found.items none
