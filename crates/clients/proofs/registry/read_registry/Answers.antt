use Rattle.std.proofs.Common.{◌≡◌, rules, refl, codes, Ok, Err}
use Rattle.clients.proofs.Names.{view, registry_of, registry-read}
use Rattle.registry_json.specs.Faults.{GivesUnless}
use Rattle.clients.specs.Registry.{AreLivesAndOperatorRight, life_member, operator_member, owners_member, scopes_member, clients_member, gateway_member, limits_member}
use Rattle.clients.specs.RegistryRecord.{RegistryRecord}
use Rattle.registry_json.specs.Spots.{located}
use Rattle.registry_json.specs.declared.spot.Spot.TheVariants as spot
use Rattle.registry_json.specs.declared.fault.Refusal.TheVariants.{Memory}
use Rattle.clients.proofs.Later.{later_gives}
use Rattle.clients.proofs.registry.read_registry.Goals as goal

pub returns-in_err-clients : goal.returns-in_err-clients
returns-in_err-clients c =
    let value = view c.args.value.now in
    let scopes = c.in_ok-catalogue.catalogue in
    let e = c.in_err-clients.field-0.0 in
    let access : located spot.AccessLife (life_member (codes "access_life") value) ≡ Ok c.in_ok-access_life.access_life = search rules in
    let refresh : located spot.RefreshLife (life_member (codes "refresh_life") value) ≡ Ok c.in_ok-refresh_life.refresh_life = search rules in
    let operator : located spot.Operator (operator_member value) ≡ Ok c.in_ok-operator.operator = search rules in
    let owners : owners_member value ≡ Ok c.in_ok-owners.owners = search rules in
    let catalogue : scopes_member value ≡ Ok scopes = search rules in
    let right : AreLivesAndOperatorRight value = search rules in
    let given : GivesUnless Memory (Unit {0}) (Err e) (clients_member scopes value) = search rules in
    let all : GivesUnless Memory (AreLivesAndOperatorRight value) (Err e) (registry_of value) =
    rw (access, refresh, operator, owners, catalogue) (later_gives e (clients_member scopes value) _ right given) in
    search rules

pub invariant_of-result : goal.invariant_of-result
invariant_of-result c =
    let value = view c.args.value.now in
    let read : RegistryRecord = record {
      access_life = c.in_ok-access_life.access_life;
      refresh_life = c.in_ok-refresh_life.refresh_life;
      operator = c.in_ok-operator.operator;
      owners = c.in_ok-owners.owners.owners;
      numbered = c.in_ok-owners.owners.numbered;
      scopes = c.in_ok-catalogue.catalogue;
      clients = c.in_ok-clients.clients;
      gateway = c.in_ok-gateway.gateway;
      limits = c.in_ok-limits.limits;
    } in
    let access : located spot.AccessLife (life_member (codes "access_life") value) ≡ Ok c.in_ok-access_life.access_life = search rules in
    let refresh : located spot.RefreshLife (life_member (codes "refresh_life") value) ≡ Ok c.in_ok-refresh_life.refresh_life = search rules in
    let operator : located spot.Operator (operator_member value) ≡ Ok c.in_ok-operator.operator = search rules in
    let owners : owners_member value ≡ Ok c.in_ok-owners.owners = search rules in
    let scopes : scopes_member value ≡ Ok c.in_ok-catalogue.catalogue = search rules in
    let clients : clients_member c.in_ok-catalogue.catalogue value ≡ Ok c.in_ok-clients.clients = search rules in
    let gateway : located spot.Gateway (gateway_member value) ≡ Ok c.in_ok-gateway.gateway = search rules in
    let limits : limits_member value ≡ Ok c.in_ok-limits.limits = search rules in
    let ok : registry_of value ≡ Ok read = rw (access, refresh, operator, owners, scopes, clients, gateway, limits) refl in
    registry-read value read ok
