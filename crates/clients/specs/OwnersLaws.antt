-- Laws of owners: what is read are owners, each the only one of its number, and its own key is that of nobody else.
use Rattle.std.proofs.Common.{◌≡◌, ◌≤◌, ◌<◌, ℕ, ◌+◌, eqb, List, [], ◌∷◌, ◌++◌, length, length-append, Bool, true, false, cond, if◌then◌else◌, refl, sym, ap, ◌∙◌, subst, arith, Option, Some, None, is_some, option_map, Result, Ok, Err, codes}
use Rattle.std.specs.Prelude.{All, IfSome, bytes_eq}
use Rattle.std.specs.List.{find}
use Rattle.std.specs.Option.{option_or, option_and_then}
use Rattle.std.proofs.lemmas.Bool.Decides.{nat_tests}
use Rattle.std.proofs.lemmas.List.Elements.{All-nil, All-push, All-head, All-tail, All-weaker}
use Rattle.std.proofs.lemmas.List.Folds.{find-append}
use Rattle.std.proofs.lemmas.Slice.Eq.{bytes_eq-Decides}
use Rattle.sha2.specs.Sha256.{sha256}
use Rattle.clients.specs.Names.{ok_or, get, as_number, as_u64, Data, Items, no_items, item, ConfigFault, Twice, OutOfRange, BadShape}
use Rattle.registry_json.specs.Faults.{◌>>=◌}
use Rattle.clients.specs.FaultsLaws.{then_ok, located_ok, test_passed}
use Rattle.registry_json.specs.Json.{text_of, number_within, number_to, number_if_any}
use Rattle.clients.specs.Limits.{owner_number_limit}
use Rattle.registry_json.specs.Texts.{is_key, key_of}
use Rattle.clients.specs.Keys.{sent_digest, key_digest}
use Rattle.clients.specs.OwnerRecord.{OwnerRecord, Listed}
use Rattle.clients.specs.Owners.{owner_keyed, owner_listed, own_owner, key_in, key_if_any, sub_member, new_key, new_among_keys, number_after, owner_of, owners_after, are_numbered, owners_of}
use Rattle.clients.specs.RegistryRules.{IsOwner, AreOwners}

-- a number that is read is from 1 to the most
pub number-read : (most : ℕ) (value : Data) (n : ℕ) → number_to most value ≡ Ok n → (1 ≤ n) × (n ≤ most)
number-read most value n ok =
    let number = then_ok (ok_or (as_number value) BadShape) _ n ok in
    within (as_u64 number.0) number.2
  where
    within : (o : Option ℕ) → number_within most o ≡ Ok n → (1 ≤ n) × (n ≤ most)
    within None is = cc is
    within (Some m) is = grind (arith, nat_tests, is)

pub stated-read : (most : ℕ) (value : Option Data) (stated : Option ℕ) → number_if_any most value ≡ Ok stated → IfSome stated (λ n. (1 ≤ n) × (n ≤ most))
stated-read most None stated ok = let same : None ≡ stated = cc ok in subst (λ (o : Option ℕ). IfSome o (λ n. (1 ≤ n) × (n ≤ most))) same tt
stated-read most (Some value) stated ok =
    let number = then_ok (number_to most value) _ stated ok in
    let same : Some number.0 ≡ stated = cc number.2 in
    subst (λ (o : Option ℕ). IfSome o (λ n. (1 ≤ n) × (n ≤ most))) same (number-read most value number.0 number.1)

-- what is taken where nothing is found
found_none : {A B : Type 0} (o : Option B) (x y : A) → (if is_some o then Err Twice else Ok x) ≡ Ok y → (o ≡ None) × (x ≡ y)
found_none None x y ok = (refl, cc ok)
found_none (Some b) x y ok = absurd (grind (arith, ok))

key-read : (owners : List OwnerRecord) (value : Data) (key : List ℕ) → new_key owners value ≡ Ok key → owner_keyed key owners ≡ None
key-read owners value key ok =
    let digest = then_ok (key_digest (key_in value)) _ key ok in
    let new = found_none (owner_keyed digest.0 owners) digest.0 key digest.2 in
    subst (λ (k : List ℕ). owner_keyed k owners ≡ None) new.1 new.0

sub-read : (value : Option Data) (sub : Option (List ℕ)) → key_if_any value ≡ Ok sub → IfSome sub (λ text. is_key text ≡ true)
sub-read None sub ok = let same : None ≡ sub = cc ok in subst (λ (o : Option (List ℕ)). IfSome o (λ text. is_key text ≡ true)) same tt
sub-read (Some value) sub ok =
    let key = then_ok (key_of value) _ sub ok in
    let text = then_ok (text_of value) _ key.0 key.1 in
    let same : Some key.0 ≡ sub = cc key.2 in
    subst (λ (o : Option (List ℕ)). IfSome o (λ t. is_key t ≡ true)) same (test_passed is_key text.0 key.0 OutOfRange text.2)

-- where owners state no numbers, none is above their count
abbrev pub AreFree : Bool → List OwnerRecord → Type 0
AreFree numbered owners = numbered ≡ false → (n : ℕ) → length owners < n → owner_listed n owners ≡ None

number_after-read : (numbered : Bool) (owners : List OwnerRecord) (stated : Option Data) (n : ℕ) → AreFree numbered owners → number_after numbered owners stated ≡ Ok n
    → (1 ≤ n) × (owner_listed n owners ≡ None) × (numbered ≡ false → n ≡ length owners + 1)
number_after-read true owners (Some value) n free ok =
    let number = then_ok (number_to owner_number_limit value) _ n ok in
    let new = found_none (owner_listed number.0 owners) number.0 n number.2 in
    let least = (number-read owner_number_limit value number.0 number.1).0 in
    (subst (λ (m : ℕ). 1 ≤ m) new.1 least, subst (λ (m : ℕ). owner_listed m owners ≡ None) new.1 new.0, λ not. cc not)
number_after-read true owners None n free ok = cc ok
number_after-read false owners (Some value) n free ok = cc ok
number_after-read false owners None n free ok =
    let same : length owners + 1 ≡ n = cc ok in
    subst (λ (m : ℕ). (1 ≤ m) × (owner_listed m owners ≡ None) × (false ≡ false → m ≡ length owners + 1)) same (omega arith, free refl (length owners + 1) (omega arith), λ _. refl)

-- what is read as an owner is one, and nobody has its key or its number
pub record IsNew (numbered : Bool) (owners : List OwnerRecord) (owner : OwnerRecord) : Type 0 where
  pub is : IsOwner owner
  pub key : owner_keyed owner.key owners ≡ None
  pub number : owner_listed owner.number owners ≡ None
  pub place : numbered ≡ false → owner.number ≡ length owners + 1

pub owner-read : (numbered : Bool) (owners : List OwnerRecord) (value : Data) (owner : OwnerRecord) → AreFree numbered owners → owner_of numbered owners value ≡ Ok owner
    → IsNew numbered owners owner
owner-read numbered owners value owner free ok =
    let key = then_ok (new_key owners value) _ owner ok in
    let sub = then_ok (sub_member value) _ owner key.2 in
    let number = then_ok (number_after numbered owners (get (codes "number") value)) _ owner sub.2 in
    let same : record { number = number.0; key = key.0; sub = sub.0; sub_digest = option_map sha256 sub.0 } ≡ owner = cc number.2 in
    let right = number_after-read numbered owners (get (codes "number") value) number.0 free number.1 in
    subst (IsNew numbered owners) same (record {
      is = record { number = right.0; sub = called sub.0 (sub-read (get (codes "sub") value) sub.0 sub.1) };
      key = key-read owners value key.0 key.1;
      number = right.1;
      place = right.2;
    })
  where
    called : (sub : Option (List ℕ)) → IfSome sub (λ text. is_key text ≡ true) → IfSome sub (λ text. (is_key text ≡ true) × (option_map sha256 sub ≡ Some (sha256 text)))
    called None is = tt
    called (Some text) is = (is, refl)

-- the owner is the one of its number, also where there is one more
abbrev Apart : List OwnerRecord → OwnerRecord → OwnerRecord → Type 0
Apart owners owner o = owner_listed o.number (owners ++ owner ∷ []) ≡ Some o

-- a further owner is the only one of its number
pub AreOwners-push : (owners : List OwnerRecord) (owner : OwnerRecord) → AreOwners owners → IsOwner owner → owner_listed owner.number owners ≡ None → AreOwners (owners ++ owner ∷ [])
AreOwners-push owners owner are is new = record {
  each = All-push IsOwner owners owner are.each is;
  apart = All-push (Apart owners owner) owners owner (All-weaker (λ o. owner_listed o.number owners ≡ Some o) (Apart owners owner) before owners are.apart) last;
}
  where
    before : (o : OwnerRecord) → owner_listed o.number owners ≡ Some o → Apart owners owner o
    before o at = find-append (λ x. eqb o.number x.number) owners (owner ∷ []) ∙ ap (λ f. option_or f (owner_listed o.number (owner ∷ []))) at

    last : Apart owners owner owner
    last = find-append (λ x. eqb owner.number x.number) owners (owner ∷ []) ∙ ap (λ f. option_or f (owner_listed owner.number (owner ∷ []))) new ∙ grind (arith, nat_tests)

-- and after it those above the count are free
pub AreFree-push : (numbered : Bool) (owners : List OwnerRecord) (owner : OwnerRecord) → AreFree numbered owners → (numbered ≡ false → owner.number ≡ length owners + 1)
    → AreFree numbered (owners ++ owner ∷ [])
AreFree-push numbered owners owner free place = λ not n above.
    let more = length-append owners (owner ∷ []) in
    let here = place not in
    let before = free not n (omega (arith, more, above)) in
    let all = find-append (λ x. eqb n x.number) owners (owner ∷ []) in
    let other : eqb n owner.number ≡ false = grind (arith, nat_tests, here, more, above) in
    all ∙ ap (λ f. option_or f (owner_listed n (owner ∷ []))) before ∙ ap (λ b. cond b (Some owner) None) other

owners-read : (numbered : Bool) (owners : List OwnerRecord) (items : Items) (all : List OwnerRecord) → AreOwners owners → AreFree numbered owners
    → owners_after numbered owners items ≡ Ok all → AreOwners all
owners-read numbered owners no_items all are free ok = let same : owners ≡ all = cc ok in subst AreOwners same are
owners-read numbered owners (item d ds) all are free ok =
    let owner = located_ok _ (owner_of numbered owners d) _ all ok in
    let new = owner-read numbered owners d owner.0 free owner.1 in
    owners-read numbered (owners ++ owner.0 ∷ []) ds all (AreOwners-push owners owner.0 are new.is new.number) (AreFree-push numbered owners owner.0 free new.place) owner.2

pub AreOwners-nil : AreOwners []
AreOwners-nil = record { each = All-nil IsOwner; apart = All-nil (λ o. owner_listed o.number [] ≡ Some o) }

-- what is read are owners
pub owners_of-read : (items : Items) (listed : Listed) → owners_of items ≡ Ok listed → AreOwners listed.owners
owners_of-read items listed ok =
    let owners = then_ok (owners_after (are_numbered items) [] items) _ listed ok in
    let same : record { owners = owners.0; numbered = are_numbered items } ≡ listed = cc owners.2 in
    subst (λ (l : Listed). AreOwners l.owners) same (owners-read (are_numbered items) [] items owners.0 AreOwners-nil (λ _ n _. refl) owners.1)

-- who is found passes the test, and what holds of each
found_holds : (P : OwnerRecord → Type 0) (test : OwnerRecord → Bool) (owners : List OwnerRecord) (o : OwnerRecord) → All P owners → find test owners ≡ Some o → (test o ≡ true) × P o
found_holds P test [] o are at = cc at
found_holds P test (x ∷ xs) o are at = here (test x) refl (λ later. found_holds P test xs o (All-tail P x xs are) later)
  where
    here : (b : Bool) → test x ≡ b → (find test xs ≡ Some o → (test o ≡ true) × P o) → (test o ≡ true) × P o
    here true is rest =
        let same : x ≡ o = cc (sym (ap (λ t. cond t (Some x) (find test xs)) is) ∙ at) in
        subst (λ (y : OwnerRecord). (test y ≡ true) × P y) same (is, All-head P x xs are)
    here false is rest = rest (sym (ap (λ t. cond t (Some x) (find test xs)) is) ∙ at)

-- an own key is the key of the owner who is listed under the number, and of nobody else
pub own-listed : (key : List ℕ) (owners : List OwnerRecord) (number : ℕ) → AreOwners owners → own_owner key owners ≡ Some number
    → (o : OwnerRecord) × (owner_listed number owners ≡ Some o) × (sent_digest key ≡ Some o.key)
own-listed key owners number are at = by (sent_digest key) refl
  where
    of_found : (digest : List ℕ) (f : Option OwnerRecord) → sent_digest key ≡ Some digest → owner_keyed digest owners ≡ f → option_map (λ o. o.number) f ≡ Some number
        → (o : OwnerRecord) × (owner_listed number owners ≡ Some o) × (sent_digest key ≡ Some o.key)
    of_found digest None sent found is = cc is
    of_found digest (Some o) sent found is =
        let holds = found_holds (λ x. owner_listed x.number owners ≡ Some x) (λ x. bytes_eq digest x.key) owners o are.apart found in
        let same : o.number ≡ number = cc is in
        (o, subst (λ (n : ℕ). owner_listed n owners ≡ Some o) same holds.1, sent ∙ ap (λ d. Some d) ((bytes_eq-Decides digest o.key).0 holds.0))

    by : (s : Option (List ℕ)) → sent_digest key ≡ s → (o : OwnerRecord) × (owner_listed number owners ≡ Some o) × (sent_digest key ≡ Some o.key)
    by None sent = cc (sym (ap (λ d. option_map (λ o. o.number) (option_and_then (λ k. owner_keyed k owners) d)) sent) ∙ at)
    by (Some digest) sent =
        of_found digest (owner_keyed digest owners) sent refl (sym (ap (λ d. option_map (λ o. o.number) (option_and_then (λ k. owner_keyed k owners) d)) sent) ∙ at)
