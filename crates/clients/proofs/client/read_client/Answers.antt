use Rattle.std.proofs.Common.{◌≡◌, rules, length, map, string_bytes, refl, Ok, Err, codes}
use Rattle.clients.specs.Names.{Refusal, Id, Secret, Scope, Records, Client, get}
use Rattle.std.specs.Prelude.{IsOk}
use Rattle.clients.proofs.Names.{view, id_member, secret_member, redirects_member, id-read, secret-read, redirects_member-read}
use Rattle.clients.specs.Clients.{scope_member, grants_member, client_of}
use Rattle.registry_json.specs.Faults.{GivesUnless}
use Rattle.registry_json.specs.Spots.{located}
use Rattle.registry_json.specs.Json.{number_if_any}
use Rattle.clients.specs.Limits.{greatest_limit}
use Rattle.clients.specs.OwnersLaws.{stated-read}
use Rattle.registry_json.specs.declared.fault.Refusal.TheVariants.{Memory}
use Rattle.clients.proofs.Later.{later_gives}
use Rattle.clients.proofs.client.read_client.Goals as goal

pub returns-in_err-redirects : goal.returns-in_err-redirects
returns-in_err-redirects c =
    let clients = c.args.clients.now in
    let value = view c.args.value.now in
    let n = length clients in
    let e = c.in_err-redirects.field-0.0 in
    let id : located (Client n Id) (id_member clients value) ≡ Ok c.in_ok-id.id.now = search rules in
    let secrets : located (Client n Secret) (secret_member value) ≡ Ok c.in_ok-secrets.secrets = search rules in
    let right : IsOk (id_member clients value) × IsOk (secret_member value) = search rules in
    let given : GivesUnless Memory (Unit {0}) (Err e) (redirects_member n value) = search rules in
    let all : GivesUnless Memory (IsOk (id_member clients value) × IsOk (secret_member value)) (Err e) (client_of c.args.catalogue.now clients value) = rw (id, secrets) (later_gives e (redirects_member n value) _ right given) in
    search rules

pub returns-in_err-allowed : goal.returns-in_err-allowed
returns-in_err-allowed c =
    let clients = c.args.clients.now in
    let value = view c.args.value.now in
    let n = length clients in
    let e = c.in_err-allowed.field-0.0 in
    let id : located (Client n Id) (id_member clients value) ≡ Ok c.in_ok-id.id.now = search rules in
    let secrets : located (Client n Secret) (secret_member value) ≡ Ok c.in_ok-secrets.secrets = search rules in
    let redirects : redirects_member n value ≡ Ok (map string_bytes c.in_ok-redirects.redirects.items) = search rules in
    let allowed : located (Client n Scope) (scope_member c.args.catalogue.now value) ≡ Err e = search rules in
    let all : client_of c.args.catalogue.now clients value ≡ Err e = rw (id, secrets, redirects, allowed) refl in
    search rules

pub returns-in_err-grants : goal.returns-in_err-grants
returns-in_err-grants c =
    let clients = c.args.clients.now in
    let value = view c.args.value.now in
    let n = length clients in
    let e = c.in_err-grants.field-0.0 in
    let id : located (Client n Id) (id_member clients value) ≡ Ok c.in_ok-id.id.now = search rules in
    let secrets : located (Client n Secret) (secret_member value) ≡ Ok c.in_ok-secrets.secrets = search rules in
    let redirects : redirects_member n value ≡ Ok (map string_bytes c.in_ok-redirects.redirects.items) = search rules in
    let allowed : located (Client n Scope) (scope_member c.args.catalogue.now value) ≡ Ok c.in_ok-allowed.allowed = search rules in
    let grants : grants_member n value ≡ Err e = search rules in
    let all : client_of c.args.catalogue.now clients value ≡ Err e = rw (id, secrets, redirects, allowed, grants) refl in
    search rules

pub returns-in_err-records : goal.returns-in_err-records
returns-in_err-records c =
    let clients = c.args.clients.now in
    let value = view c.args.value.now in
    let n = length clients in
    let e = c.in_err-records.field-0.0 in
    let id : located (Client n Id) (id_member clients value) ≡ Ok c.in_ok-id.id.now = search rules in
    let secrets : located (Client n Secret) (secret_member value) ≡ Ok c.in_ok-secrets.secrets = search rules in
    let redirects : redirects_member n value ≡ Ok (map string_bytes c.in_ok-redirects.redirects.items) = search rules in
    let allowed : located (Client n Scope) (scope_member c.args.catalogue.now value) ≡ Ok c.in_ok-allowed.allowed = search rules in
    let grants : grants_member n value ≡ Ok c.in_ok-grants.grants = search rules in
    let records : located (Client n Records) (number_if_any greatest_limit (get (codes "records") value)) ≡ Err e = search rules in
    let all : client_of c.args.catalogue.now clients value ≡ Err e = rw (id, secrets, redirects, allowed, grants, records) refl in
    search rules

pub invariant_of-result : goal.invariant_of-result
invariant_of-result c =
    let id : id_member c.args.clients.now (view c.args.value.now) ≡ Ok (string_bytes c.in_ok-own_id.own_id) = search rules in
    let secrets : secret_member (view c.args.value.now) ≡ Ok c.in_ok-secrets.secrets = search rules in
    let redirects : redirects_member (length c.args.clients.now) (view c.args.value.now) ≡ Ok (map string_bytes c.in_ok-redirects.redirects.items) = search rules in
    let records : number_if_any greatest_limit (get (codes "records") (view c.args.value.now)) ≡ Ok c.in_ok-records.records = search rules in
    record {
      id = (id-read c.args.clients.now (view c.args.value.now) (string_bytes c.in_ok-own_id.own_id) id).0;
      secrets = secret-read (view c.args.value.now) c.in_ok-secrets.secrets secrets;
      redirects = redirects_member-read (length c.args.clients.now) (view c.args.value.now) (map string_bytes c.in_ok-redirects.redirects.items) redirects;
      records = stated-read greatest_limit (get (codes "records") (view c.args.value.now)) c.in_ok-records.records records;
    }
