-- What happens in a family is told with its number.
use Rattle.std.proofs.Common.{◌≡◌, ℕ, List, [], ◌∷◌, Bool, true, false, cond, map, Option, Some, None, refl, sym, subst, arith}
use Rattle.std.specs.List.{range_with_len}
use Rattle.std.specs.Option.{option_or}
use Rattle.std.specs.Prelude.{All, bytes_eq, length, not}
use Rattle.headline.proofs.Names.{All-cons, All-nil, RegistryRecord, Change, Consented, Spent, grant_at, path_of, Endpoint, IssueToken, Outcome, bare, Kind, Extent, access_issued, Asked, endpoint_at, method_at, Setting, outcome_at, Occasion, outcome_of, setting_on, Ask}
use Rattle.answers.specs.Outcomes.{chosen, need, point}
use Rattle.consent.specs.History.{Event}
use Rattle.consent.specs.LeavingLaws.{withdrawn}
use Rattle.endpoints.proofs.Walking.{same_some}
use Rattle.endpoints.proofs.Ways.{IsAt, TokenWay, Use, Way, Quiet, ByToken, Turned, Coded, Consents, Revokes, Tells, Installs, Removes, Leaves, Refused, Wanting, Again, InVain, Once, Twice, Refreshed, Own, both_issued, one_issued, outcome_by, token_outcome}
use Rattle.endpoints.specs.Telling.{told_at}
use Rattle.hook_host.specs.Verdicts.{Verdict}
use Rattle.headline.proofs.InVain.{IsVainly, at_token_path, under_its_own}
use Rattle.headline.proofs.Ways.{IsSentTo, at_each, at_each_sent}
use Rattle.headline.specs.Audited.{IsAudited, IsOfFamily}
use Rattle.telling.specs.Telling.{bare_told, family_in, family_shown, first_told, shown_of, told_of}

-- who leaves spends nothing
withdraws : (owner : ℕ) (clients : List ℕ) (digest : List ℕ) → withdrawn owner clients ≡ Spent digest ∷ [] → ⊥
withdraws owner [] digest e = absurd (cc)
withdraws owner (client ∷ clients) digest e = absurd (cc)

module _ (rules : RegistryRecord) (history : List Event) (occasion : Occasion) where
  abbrev s : Setting
  s = setting_on rules history occasion

  abbrev asked : Asked
  asked = occasion.arrival.asked

  abbrev Of : Option ℕ → Change → Type 0
  Of told change = IsOfFamily s.history s.moment told change

  -- of whatever family what is presented is, unless it is spent in vain
  abbrev IsOfOne : Outcome → Type 0
  IsOfOne o =
      (shown : Option ℕ) → IsVainly s.history s.moment shown o.changes → All (Of (option_or (first_told family_in o.changes) shown)) o.changes

  one : (told : Option ℕ) (change : Change) → Of told change → All (Of told) (change ∷ [])
  one told change of = All-cons (Of told) change [] of (All-nil (Of told))

  -- what is used is found
  uses : (type name : List ℕ) (test : Kind → Bool) (x : Use s asked type name test) → Of (Some x.grant.family) (Spent x.grant.digest)
  uses type name test x = (x.grant, under_its_own s.history x.digest s.moment x.grant x.named, refl)

  withdrawn_of : (told : Option ℕ) (owner : ℕ) (clients : List ℕ) → All (Of told) (withdrawn owner clients)
  withdrawn_of told owner [] = All-nil (Of told)
  withdrawn_of told owner (client ∷ clients) = All-cons (Of told) (Consented owner client 0) (withdrawn owner clients) tt (withdrawn_of told owner clients)

  token_of_one : (way : TokenWay s asked) → IsOfOne (token_outcome way)
  token_of_one (Refused error) shown vain = All-nil (Of shown)
  token_of_one Wanting shown vain = All-nil (Of shown)
  token_of_one (Again type name test x spent) shown vain = one (Some x.grant.family) _ refl
  token_of_one (InVain x error) shown vain = one shown _ (vain x.code.grant.digest refl)
  token_of_one (Once x left is untaken) shown vain =
      let of = Of (Some x.code.grant.family) in
      All-cons of _ (Spent x.code.grant.digest ∷ []) refl (one (Some x.code.grant.family) _ (uses _ _ _ x.code))
  token_of_one (Twice x left is untaken) shown vain =
      let of = Of (Some x.code.grant.family) in
      All-cons of _ (_ ∷ Spent x.code.grant.digest ∷ []) refl (All-cons of _ (Spent x.code.grant.digest ∷ []) refl (one (Some x.code.grant.family) _ (uses _ _ _ x.code)))
  token_of_one (Refreshed x left is untaken) shown vain =
      let of = Of (Some x.token.grant.family) in
      All-cons of _ (_ ∷ Spent x.token.grant.digest ∷ []) refl (All-cons of _ (Spent x.token.grant.digest ∷ []) refl (one (Some x.token.grant.family) _ (uses _ _ _ x.token)))
  token_of_one (Own sender typed scope left family new is untaken) shown vain = one (Some family) _ refl

  of_one : (way : Way s asked) → IsOfOne (outcome_by way)
  of_one (Quiet status body moves active) shown vain = All-nil (Of shown)
  of_one (ByToken way) shown vain = token_of_one way shown vain
  of_one (Turned x error) shown vain = All-nil (Of shown)
  of_one (Coded x code family new key of) shown vain = one (Some family) _ refl
  of_one (Consents owner client mask key) shown vain = one shown _ tt
  of_one (Revokes x own) shown vain = one (Some x.token.family) _ refl
  of_one (Tells x) shown vain = All-nil (Of shown)
  of_one (Installs name version code operator) shown vain = one shown _ tt
  of_one (Removes name operator) shown vain = one shown _ tt
  of_one (Leaves owner params form named operator) shown vain = withdrawn_of _ owner (range_with_len 1 (length rules.clients))

  -- only at the token endpoint a code is spent in vain
  abbrev IsVainThere : Outcome → Type 0
  IsVainThere o = (digest : List ℕ) → o.changes ≡ Spent digest ∷ [] → IsSentTo occasion IssueToken

  vain_there : (way : Way s asked) → IsAt (IsSentTo occasion) way → IsVainThere (outcome_by way)
  vain_there (ByToken Wanting) here digest e = absurd (cc)
  vain_there (ByToken (Refused error)) here digest e = absurd (cc)
  vain_there (ByToken way) here digest e = here
  vain_there (Leaves owner params form named operator) here digest e = absurd (withdraws owner (range_with_len 1 (length rules.clients)) digest e)
  vain_there _ here digest e = absurd (cc)

  module _ (verdicts : Ask → List Verdict) where
    abbrev shown_at : Endpoint → Option ℕ
    shown_at endpoint = family_shown (shown_of verdicts s endpoint asked).lineage

    abbrev IsVainAt : Endpoint → Type 0
    IsVainAt endpoint = IsVainly s.history s.moment (shown_at endpoint) (outcome_at endpoint s asked).changes

    vain_at : (endpoint : Endpoint) → endpoint_at (path_of asked.target) ≡ Some endpoint → IsVainThere (outcome_at endpoint s asked) → IsVainAt endpoint
    vain_at endpoint is only digest e =
        let same : IssueToken ≡ endpoint = same_some IssueToken endpoint (endpoint_at (path_of asked.target)) (only digest e).0 is in
        subst (λ (at : Endpoint). IsVainAt at) same (at_token_path s asked verdicts) digest e

    by_refused : (endpoint : Endpoint) → endpoint_at (path_of asked.target) ≡ Some endpoint → (refused : Bool) →
        IsOfOne (chosen refused (outcome_at endpoint s asked)) → IsVainThere (chosen refused (outcome_at endpoint s asked)) →
        All (Of (cond refused (bare_told s.moment (Some endpoint) 503) (told_of verdicts s endpoint asked (outcome_at endpoint s asked))).family)
        (chosen refused (outcome_at endpoint s asked)).changes
    by_refused endpoint is true all only = All-nil (Of None)
    by_refused endpoint is false all only = all (shown_at endpoint) (vain_at endpoint is only)

    by_method : (endpoint : Endpoint) → endpoint_at (path_of asked.target) ≡ Some endpoint → (refused same : Bool) →
        IsOfOne (point (not same) (bare 405) (chosen refused (outcome_at endpoint s asked))) →
        IsVainThere (point (not same) (bare 405) (chosen refused (outcome_at endpoint s asked))) →
        All (Of (cond (not same) (bare_told s.moment (Some endpoint) 405) (cond refused (bare_told s.moment (Some endpoint) 503) (told_of verdicts s endpoint asked (outcome_at endpoint s asked)))).family)
        (point (not same) (bare 405) (chosen refused (outcome_at endpoint s asked))).changes
    by_method endpoint is refused false all only = All-nil (Of None)
    by_method endpoint is refused true all only = by_refused endpoint is refused all only

    by_path : (refused : Bool) (at : Option Endpoint) → endpoint_at (path_of asked.target) ≡ at →
        IsOfOne (need at (bare 404) (λ endpoint. point (not (bytes_eq asked.method (method_at endpoint))) (bare 405) (chosen refused (outcome_at endpoint s asked)))) →
        IsVainThere (need at (bare 404) (λ endpoint. point (not (bytes_eq asked.method (method_at endpoint))) (bare 405) (chosen refused (outcome_at endpoint s asked)))) →
        All (Of (told_at refused verdicts s asked at).family)
        (need at (bare 404) (λ endpoint. point (not (bytes_eq asked.method (method_at endpoint))) (bare 405) (chosen refused (outcome_at endpoint s asked)))).changes
    by_path refused None is all only = All-nil (Of None)
    by_path refused (Some endpoint) is all only = by_method endpoint is refused (bytes_eq asked.method (method_at endpoint)) all only

pub audited : (rules : RegistryRecord) (history : List Event) (occasion : Occasion) → IsAudited rules history occasion
audited rules history occasion verdicts =
    by_path rules history occasion verdicts occasion.refused (endpoint_at (path_of occasion.arrival.asked.target)) refl
    (at_each (IsOfOne rules history occasion) rules history occasion (of_one rules history occasion))
    (at_each_sent (IsVainThere rules history occasion) rules history occasion (vain_there rules history occasion))
