-- Laws of registries: what is read is a registry, and its clients are clients.
use Rattle.std.proofs.Common.{◌≡◌, ◌≤◌, ◌<◌, ◌^◌, ℕ, ◌-◌, List, [], ◌∷◌, ◌++◌, length, Bool, true, false, if◌then◌else◌, refl, sym, ap, ◌∙◌, subst, arith, Option, Some, None, is_some, Result, Ok, Err, codes}
use Rattle.clients.specs.Names.{list_all, list_any, ok_or, option_map_or, get, as_object, Data, Items, no_items, item, CatalogueFault, any_twice, IsCatalogue, name_fault}
use Rattle.clients.specs.Names.{BadRedirect, BadShape}
use Rattle.std.specs.Prelude.{All, IfSome, slice_get, unwrap_or, bytes_eq}
use Rattle.std.proofs.lemmas.Bool.{and_from, leb-true}
use Rattle.std.proofs.lemmas.Bool.Decides.{nat_tests}
use Rattle.std.proofs.lemmas.List.{map-append}
use Rattle.std.proofs.lemmas.List.Folds.{list_all-append}
use Rattle.std.proofs.lemmas.List.Elements.{All-nil, All-push, All-get_or}
use Rattle.std.proofs.lemmas.Option.{slice_get_within, get_or_from_slice_get}
use Rattle.std.proofs.lemmas.Slice.Eq.{bytes_eq-Decides}
use Rattle.params.specs.FormLaws.{any_twice-append}
use Rattle.params.specs.ScopeLaws.{IsCatalogue-push, IsCatalogue-nil, is_some-position_from, scope_mask-within}
use Rattle.clients.specs.Limits.{redirect_limit, life_limit, greatest_limit, usual_record_limit, usual_consent_limit}
pub use Rattle.clients.specs.FaultsLaws.{then_ok, located_ok, option_ok}
use Rattle.clients.specs.FaultsLaws.{ok_same, test_passed}
use Rattle.clients.specs.OwnersLaws.{number-read, stated-read, owners_of-read}
use Rattle.registry_json.specs.Faults.{◌>>=◌}
use Rattle.registry_json.specs.Json.{member_of, text_of, number_if_any, items_in}
use Rattle.registry_json.specs.Texts.{is_identifier, is_key}
use Rattle.clients.specs.Redirect.{is_redirect, redirect_of, redirects_after}
use Rattle.clients.specs.Scopes.{with_name, name_after, scopes_after}
use Rattle.clients.specs.Numbers.{number_among}
use Rattle.clients.specs.Clients.{ids, id_member, one_or_two, secret_member, redirects_member, scope_member, grants_member, client_of, clients_after, client_at, has_secret}
use Rattle.clients.specs.ClientRecord.{ClientRecord}
use Rattle.clients.specs.RegistryRecord.{RegistryRecord}
use Rattle.clients.specs.Registry.{life_member, operator_member, owner_count_limit, owners_member, scopes_member, clients_member, gateway_member, limit_member, limits_of, usual_limits, limits_member, registry_of}
use Rattle.clients.specs.declared.limits.Limits.{Limits}
use Rattle.clients.specs.RegistryRules.{IsClientOf, IsLife, IsLimit, IsRegistry}

life-read : (name : List ℕ) (value : Data) (life : ℕ) → life_member name value ≡ Ok life → IsLife life
life-read name value life ok =
    let member = then_ok (member_of name value) _ life ok in
    number-read life_limit member.0 life member.2

catalogue-read : (names : List (List ℕ)) (items : Items) (all : List (List ℕ)) → IsCatalogue names → scopes_after names items ≡ Ok all → IsCatalogue all
catalogue-read names no_items all is ok = let same : names ≡ all = cc ok in subst IsCatalogue same is
catalogue-read names (item d ds) all is ok =
    let more = located_ok _ (name_after names d) _ all ok in
    let name = then_ok (text_of d) _ more.0 more.1 in
    let made : (name_fault names name.0 ≡ None) × (names ++ name.0 ∷ [] ≡ more.0) = with_name_ok names name.0 more.0 (name_fault names name.0) name.2 in
    catalogue-read more.0 ds all (subst IsCatalogue made.1 (IsCatalogue-push names name.0 is made.0)) more.2
  where
    with_name_ok : (names : List (List ℕ)) (name : List ℕ) (more : List (List ℕ)) (o : Option CatalogueFault) → with_name names name o ≡ Ok more → (o ≡ None) × (names ++ name ∷ [] ≡ more)
    with_name_ok names name more o made = grind (arith, made)

redirects-read : (client : ℕ) (redirects : List (List ℕ)) (items : Items) (all : List (List ℕ)) → list_all is_redirect redirects ≡ true → redirects_after client redirects items ≡ Ok all
    → list_all is_redirect all ≡ true
redirects-read client redirects no_items all are ok = let same : redirects ≡ all = cc ok in subst (λ (l : List (List ℕ)). list_all is_redirect l ≡ true) same are
redirects-read client redirects (item d ds) all are ok =
    let redirect = located_ok _ (redirect_of d) _ all ok in
    let text = then_ok (text_of d) _ redirect.0 redirect.1 in
    let is : is_redirect redirect.0 ≡ true = test_passed is_redirect text.0 redirect.0 BadRedirect text.2 in
    redirects-read client (redirects ++ redirect.0 ∷ []) ds all
    (list_all-append is_redirect redirects (redirect.0 ∷ []) ∙ and_from _ _ are (and_from _ _ is refl)) redirect.2

pub id-read : (clients : List ClientRecord) (value : Data) (id : List ℕ) → id_member clients value ≡ Ok id
    → (is_identifier id ≡ true) × (number_among id (ids clients) ≡ None)
id-read clients value id ok = grind (arith, ok)

one_or_two-read : (items : Items) (secrets : List (List ℕ)) → one_or_two items ≡ Ok secrets → (1 ≤ length secrets) × (length secrets ≤ 2)
one_or_two-read items secrets ok = grind (arith, ok)

pub secret-read : (value : Data) (secrets : List (List ℕ)) → secret_member value ≡ Ok secrets → (1 ≤ length secrets) × (length secrets ≤ 2)
secret-read value secrets ok =
    let read = λ (items : Items). one_or_two-read items secrets in
    grind (arith, ok, read)

pub redirects_member-read : (client : ℕ) (value : Data) (redirects : List (List ℕ)) → redirects_member client value ≡ Ok redirects → list_all is_redirect redirects ≡ true
redirects_member-read client value redirects ok =
    let items = located_ok _ (items_in (codes "redirects") 0 8 value) _ redirects ok in
    redirects-read client [] items.0 redirects refl items.2

allowed-read : (scopes : List (List ℕ)) (value : Data) (allowed : ℕ) → scope_member scopes value ≡ Ok allowed → (0 < allowed) × (allowed < 2 ^ length scopes)
allowed-read scopes value allowed ok =
    let within = λ (text : List ℕ). scope_mask-within scopes text allowed in
    grind (arith, ok, within)

-- what is read as a client is one, and its identifier is new
pub client-read : (scopes : List (List ℕ)) (clients : List ClientRecord) (value : Data) (client : ClientRecord) → client_of scopes clients value ≡ Ok client
    → IsClientOf scopes client × (number_among client.id (ids clients) ≡ None)
client-read scopes clients value client ok =
    let n = length clients in
    let id = located_ok _ (id_member clients value) _ client ok in
    let secrets = located_ok _ (secret_member value) _ client id.2 in
    let redirects = then_ok (redirects_member n value) _ client secrets.2 in
    let allowed = located_ok _ (scope_member scopes value) _ client redirects.2 in
    let grants = then_ok (grants_member n value) _ client allowed.2 in
    let records = located_ok _ (number_if_any greatest_limit (get (codes "records") value)) _ client grants.2 in
    let known = id-read clients value id.0 id.1 in
    let same : record { id = id.0; secrets = secrets.0; redirects = redirects.0; allowed = allowed.0; grants = grants.0; records = records.0 } ≡ client = cc records.2 in
    subst (λ (c : ClientRecord). IsClientOf scopes c × (number_among c.id (ids clients) ≡ None)) same (
      record {
        is_client = record {
          id = known.0;
          secrets = secret-read value secrets.0 secrets.1;
          redirects = redirects_member-read n value redirects.0 redirects.1;
          records = stated-read greatest_limit (get (codes "records") value) records.0 records.1;
        };
        allowed = allowed-read scopes value allowed.0 allowed.1;
      },
      known.1,
    )

clients-read : (scopes : List (List ℕ)) (clients : List ClientRecord) (items : Items) (all : List ClientRecord)
    → All (IsClientOf scopes) clients → any_twice (ids clients) ≡ false → clients_after scopes clients items ≡ Ok all
    → All (IsClientOf scopes) all × (any_twice (ids all) ≡ false)
clients-read scopes clients no_items all are once ok =
    let same : clients ≡ all = cc ok in subst (λ (cs : List ClientRecord). All (IsClientOf scopes) cs × (any_twice (ids cs) ≡ false)) same (are, once)
clients-read scopes clients (item d ds) all are once ok =
    let client = then_ok (client_of scopes clients d) _ all ok in
    let known = client-read scopes clients d client.0 client.1 in
    let new : list_any (bytes_eq client.0.id) (ids clients) ≡ false =
    sym (is_some-position_from (bytes_eq client.0.id) 1 (ids clients)) ∙ ap (λ o. is_some o) known.1 in
    clients-read scopes (clients ++ client.0 ∷ []) ds all (All-push (IsClientOf scopes) clients client.0 are known.0)
    (ap any_twice (map-append (λ (c : ClientRecord). c.id) clients (client.0 ∷ [])) ∙ any_twice-append (ids clients) client.0.id once new) client.2

limit-read : (name : List ℕ) (usual : ℕ) (value : Data) (limit : ℕ) → IsLimit usual → limit_member name usual value ≡ Ok limit → IsLimit limit
limit-read name usual value limit is ok =
    let stated = then_ok (number_if_any greatest_limit (get name value)) _ limit ok in
    let same : unwrap_or stated.0 usual ≡ limit = cc stated.2 in
    subst IsLimit same (either stated.0 (stated-read greatest_limit (get name value) stated.0 stated.1))
  where
    either : (o : Option ℕ) → IfSome o IsLimit → IsLimit (unwrap_or o usual)
    either None right = is
    either (Some n) right = right

-- what is read are limits
pub limits-read : (stated : Option Data) (limits : Limits) → option_map_or limits_of stated (Ok usual_limits) ≡ Ok limits → IsLimit limits.records × IsLimit limits.consents
limits-read None limits ok =
    let same : usual_limits ≡ limits = cc ok in
    subst (λ (l : Limits). IsLimit l.records × IsLimit l.consents) same ((omega arith, omega arith), (omega arith, omega arith))
limits-read (Some value) limits ok =
    let object = located_ok _ (ok_or (as_object value) BadShape) _ limits ok in
    let records = located_ok _ (limit_member (codes "records") usual_record_limit value) _ limits object.2 in
    let consents = located_ok _ (limit_member (codes "consents") usual_consent_limit value) _ limits records.2 in
    let same : record { records = records.0; consents = consents.0 } ≡ limits = cc consents.2 in
    subst (λ (l : Limits). IsLimit l.records × IsLimit l.consents) same (
      limit-read (codes "records") usual_record_limit value records.0 (omega arith, omega arith) records.1,
      limit-read (codes "consents") usual_consent_limit value consents.0 (omega arith, omega arith) consents.1,
    )

-- what is read is a registry
pub registry-read : (value : Data) (rules : RegistryRecord) → registry_of value ≡ Ok rules → IsRegistry rules
registry-read value rules ok =
    let access = located_ok _ (life_member (codes "access_life") value) _ rules ok in
    let refresh = located_ok _ (life_member (codes "refresh_life") value) _ rules access.2 in
    let operator = located_ok _ (operator_member value) _ rules refresh.2 in
    let owners = then_ok (owners_member value) _ rules operator.2 in
    let scopes = then_ok (scopes_member value) _ rules owners.2 in
    let clients = then_ok (clients_member scopes.0 value) _ rules scopes.2 in
    let gateway = located_ok _ (gateway_member value) _ rules clients.2 in
    let limits = then_ok (limits_member value) _ rules gateway.2 in
    let owners_items = located_ok _ (items_in (codes "owners") 0 (owner_count_limit value) value) _ owners.0 owners.1 in
    let scopes_items = located_ok _ (items_in (codes "scopes") 1 64 value) _ scopes.0 scopes.1 in
    let clients_items = located_ok _ (items_in (codes "clients") 0 256 value) _ clients.0 clients.1 in
    let known = clients-read scopes.0 [] clients_items.0 clients.0 (All-nil (IsClientOf scopes.0)) refl clients_items.2 in
    let limited = limits-read (get (codes "limits") value) limits.0 limits.1 in
    let read : RegistryRecord = record {
      access_life = access.0;
      refresh_life = refresh.0;
      operator = operator.0;
      owners = owners.0.owners;
      numbered = owners.0.numbered;
      scopes = scopes.0;
      clients = clients.0;
      gateway = gateway.0;
      limits = limits.0;
    } in
    let same = ok_same (Ok read) read rules refl limits.2 in
    subst IsRegistry same (record {
      access_life = life-read (codes "access_life") value access.0 access.1;
      refresh_life = life-read (codes "refresh_life") value refresh.0 refresh.1;
      owners = owners_of-read owners_items.0 owners.0 owners_items.2;
      scopes = catalogue-read [] scopes_items.0 scopes.0 IsCatalogue-nil scopes_items.2;
      clients = known.0;
      distinct = known.1;
      records = limited.0;
      consents = limited.1;
    })

-- a redirect URI of a client is one, and short
pub redirect-among : (uri : List ℕ) (redirects : List (List ℕ)) → list_all is_redirect redirects ≡ true → list_any (bytes_eq uri) redirects ≡ true → length uri ≤ redirect_limit
redirect-among uri [] are among = cc among
redirect-among uri (r ∷ redirects) are among =
    let same = (bytes_eq-Decides uri r).0 in
    let short = leb-true (length r) redirect_limit in
    let later = redirect-among uri redirects in
    grind (arith, same, short, later, are, among)

-- a secret of a client has the form of a key
pub secret-key : (secret : List ℕ) (client : ClientRecord) → has_secret secret client ≡ true → is_key secret ≡ true
secret-key secret client has = grind (arith, has)

-- a client of a registry is one of its scope names
pub client-of : (rules : RegistryRecord) (number : ℕ) (client : ClientRecord) → IsRegistry rules → client_at number rules.clients ≡ Some client → IsClientOf rules.scopes client
client-of rules number client is at =
    let found : slice_get rules.clients (number - 1) ≡ Some client = grind (arith, at) in
    let one = All-get_or (IsClientOf rules.scopes) rules.clients (number - 1) client (slice_get_within rules.clients (number - 1) client found) is.clients in
    subst (IsClientOf rules.scopes) (get_or_from_slice_get rules.clients (number - 1) client client found) one
