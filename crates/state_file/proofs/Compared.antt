-- Rules that are as wide as those told are wider.
use Rattle.std.proofs.Common.{◌≡◌, ◌≤◌, ◌+◌, ℕ, List, [], ◌∷◌, ◌++◌, Bool, true, false, Option, None, Some, map, refl, sym, ap, subst, arith}
use Rattle.std.specs.Prelude.{◌==◌, is_some}
use Rattle.clients.specs.Owners.{owner_listed}
use Rattle.consent.specs.ListLaws.{find-map}
use Rattle.state_file.proofs.Names.{if◌then◌else◌, bytes_eq, bytes_eq-Decides, ClientRecord, RegistryRecord, is_within, token_life_limit, AreAsWide, client_names, first_moved, first_narrowed}
use Rattle.state_file.proofs.Names.{client_told, rules_of}
use Rattle.consent.specs.declared.grant.TokenKind.{TokenKind}
use Rattle.consent.specs.declared.grant.TokenKind.TheVariants.{Access, Refresh}
use Rattle.endpoints.specs.Widening.{AreWider, IsWider}
use Rattle.rules_beside.specs.Beside.{beside, is_former}
use Rattle.state_file.specs.Telling.{fact_of}

-- a choice that gave nothing was the one way
stays : {A : Type 0} (test : Bool) (x : A) (rest : Option A) → (if test then rest else Some x) ≡ None → (test ≡ true) × (rest ≡ None)
stays true x rest is = (refl, is)
stays false x rest is = absurd cc

moved_front : (told now : List (List ℕ)) → first_moved told now ≡ None → (more : List (List ℕ)) × (now ≡ told ++ more)
moved_front [] now none = (now, refl)
moved_front (name ∷ names) [] none = absurd cc
moved_front (name ∷ names) (other ∷ others) none =
    let here = stays (bytes_eq name other) name (first_moved names others) none in
    let same : name ≡ other = (bytes_eq-Decides name other).0 here.0 in
    let front = moved_front names others here.1 in
    (front.0, subst (λ (n : List ℕ). other ∷ others ≡ n ∷ (names ++ front.0)) (sym same) (ap (λ (xs : List (List ℕ)). other ∷ xs) front.1))

clients_wider : (told now : List ClientRecord) → first_moved (client_names (map client_told told)) (client_names (map client_told now)) ≡ None →
    first_narrowed (map client_told told) (map client_told now) ≡ None → AreWider told now
clients_wider [] now names within = tt
clients_wider (c ∷ cs) [] names within = absurd cc
clients_wider (c ∷ cs) (d ∷ ds) names within =
    let named = stays (bytes_eq c.id d.id) c.id (first_moved (client_names (map client_told cs)) (client_names (map client_told ds))) names in
    let allowed = stays (is_within c.allowed d.allowed) c.id (first_narrowed (map client_told cs) (map client_told ds)) within in
    (sym ((bytes_eq-Decides c.id d.id).0 named.0), allowed.0, clients_wider cs ds named.1 allowed.1)

lives_longer : (old new : RegistryRecord) → old.access_life ≤ new.access_life → old.refresh_life ≤ new.refresh_life → (kind : TokenKind) → token_life_limit old kind ≤ token_life_limit new kind
lives_longer old new access refresh Access = access
lives_longer old new access refresh Refresh = refresh

-- who was listed is, where no owner is a former one
listed_still : (old new : RegistryRecord) (number : ℕ) → is_former (beside (rules_of old) (rules_of new)) number ≡ false →
    is_some (owner_listed number old.owners) ≡ true → is_some (owner_listed number new.owners) ≡ true
unfolding is_former
listed_still old new number still was =
    let told = find-map fact_of (λ o. number == o.number) old.owners in
    let now = find-map fact_of (λ o. number == o.number) new.owners in grind (arith, told, now, still, was)

pub wider : (old new : RegistryRecord) → AreAsWide (rules_of old) (rules_of new) → IsWider old new
wider old new wide = record {
  scopes = moved_front old.scopes new.scopes wide.0.0.0.0.0;
  owners = λ number. listed_still old new number (wide.0.0.1 number);
  clients = clients_wider old.clients new.clients wide.0.0.0.1 wide.0.1;
  lives = lives_longer old new wide.1 wide.2;
}
