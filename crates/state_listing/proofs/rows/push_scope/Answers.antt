use Rattle.std.proofs.Common.{◌≡◌, ◌∙◌, ◌∷◌, [], Bor, List, ℕ, ap, append_assoc, codes, map}
use Rattle.json.specs.Token.{Token, begin_array, end_array, key, string}
use Rattle.params.specs.Scope.{names_in_mask}
use Rattle.state_listing.proofs.Names.{strings_of}
use Rattle.state_listing.proofs.rows.push_scope.Goals as goal

pub returns : goal.returns
returns c =
    let same : map (λ (s : Bor (List ℕ)). string s.now) c.deref.result.now ≡ map string (names_in_mask (map (λ s. s.now) c.args.rules.now.scopes.items) c.args.scope) =
    strings_of c.deref.result.now ∙ ap (λ (xs : List (Bor (List ℕ))). map string (map (λ s. s.now) xs)) c.deref.ensures.value ∙ ap (λ (names : List (List ℕ)). map string names) c.in_ok-names.ensures in
    let names : List Token = map string (names_in_mask (map (λ s. s.now) c.args.rules.now.scopes.items) c.args.scope) in
    let flat = append_assoc c.args.line.now.json.tokens (key (codes "scope") ∷ begin_array ∷ names) (end_array ∷ []) in
    rw (same, flat) at c.texts.ensures
