use Rattle.std.proofs.Common.{◌≡◌, ℕ, ◌+◌, ◌∷◌, ◌++◌, [], List, length, length-append, map, take, false, is_some, ap, sym, ◌∙◌, arith}
use Rattle.std.specs.Prelude.{All, bytes_eq}
use Rattle.std.specs.List.{list_any}
use Rattle.std.proofs.lemmas.List.{map-append, map_push, take_more}
use Rattle.std.proofs.lemmas.List.Elements.{All-push}
use Rattle.params.specs.FormLaws.{any_twice-append}
use Rattle.params.specs.ScopeLaws.{is_some-position_from}
use Rattle.params.specs.Form.{any_twice}
use Rattle.clients.specs.Bounds.{client_had, client_said}
use Rattle.clients.specs.ClientRecord.{ClientRecord}
use Rattle.clients.specs.declared.bounds.ClientBounds.{ClientBounds}
use Rattle.clients.specs.Clients.{ids}
use Rattle.clients.specs.RegistryRules.{IsClientOf}
use Rattle.clients.proofs.client.clients_within.Goals as goal

-- a further client of which no other has the name
with_client : (clients : List ClientRecord) (client : ClientRecord) → any_twice (ids clients) ≡ false → list_any (bytes_eq client.id) (ids clients) ≡ false →
    any_twice (ids (clients ++ client ∷ [])) ≡ false
with_client clients client once new = ap any_twice (map-append (λ (c : ClientRecord). c.id) clients (client ∷ [])) ∙ any_twice-append (ids clients) client.id once new

-- a further client of the next bounds
more_said : (clients : List ClientRecord) (client : ClientRecord) (bounds : List ClientBounds) (i : ℕ) (bound : ClientBounds) →
    map client_had clients ≡ map client_said (take i bounds) → take (i + 1) bounds ≡ take i bounds ++ bound ∷ [] → client_had client ≡ client_said bound →
    map client_had (clients ++ client ∷ []) ≡ map client_said (take (i + 1) bounds)
more_said clients client bounds i bound so_far next same =
    map_push client_had clients client ∙ ap (λ (said : List (List ℕ × ℕ)). said ++ client_had client ∷ []) so_far
    ∙ ap (λ (one : List ℕ × ℕ). map client_said (take i bounds) ++ one ∷ []) same
    ∙ sym (ap (λ (bs : List ClientBounds). map client_said bs) next ∙ map_push client_said (take i bounds) bound)

pub loop-bound-preserved : goal.loop-bound-preserved
loop-bound-preserved c =
    let clients = c.loop-bound.clients in
    let client = c.in_ok-client_within.field-0 in
    let i = c.loop-bound.bound-index in
    let bounds = c.args.bounds.now in
    let bound = c.bound-item.result in
    let right = c.args.catalogue.now in
    let before = c.loop-bound.invariant in
    let next : take (i + 1) bounds ≡ take i bounds ++ bound ∷ [] =
    take_more bounds i bound c.loop-bound-test.true ∙ ap (λ b. take i bounds ++ b ∷ []) (sym c.bound-item.is) in
    let new : list_any (bytes_eq client.id) (ids clients) ≡ false =
    sym (is_some-position_from (bytes_eq client.id) 1 (ids clients)) ∙ ap (λ o. is_some o) c.in_ok-client_within.ensures.new in
    let count : length (clients ++ client ∷ []) ≡ i + 1 = omega (arith, length-append clients (client ∷ []), before.0) in
    rw c.in_ok-push.ensures.ok (
      count,
      more_said clients client bounds i bound before.1 next c.in_ok-client_within.ensures.bounds,
      All-push (IsClientOf right) clients client before.2 c.in_ok-client_within.ensures.right,
      with_client clients client before.3 new,
    )
