-- A replayed code or refresh token ends its family.
use Rattle.std.proofs.Common.{arith, ◌≡◌, ℕ, List, [], ◌∷◌, Bool, true, Some, None, refl, sym, ap, ◌∙◌, subst}
use Rattle.headline.proofs.Names.{◌==◌, codes, not, if◌then◌else◌, and_from, eq-eqb, RegistryRecord, grant_named, AuthorizationCode, RefreshToken, Grant, grant_at, is_code, FamilyEnded, Kind}
use Rattle.headline.proofs.Names.{InvalidGrant, Failure, Outcome, bare, chosen, Setting, where_passes, is_own, is_refresh, issue_token, Occasion, outcome_of, setting_on, Replays}
use Rattle.std.specs.Prelude.{bytes_eq}
use Rattle.consent.specs.History.{Event}
use Rattle.headline.proofs.Exchanged.{at_path}
use Rattle.endpoints.proofs.Walking.{at_chosen, at_point}

module _ (rules : RegistryRecord) (history : List Event) (occasion : Occasion) (text : List ℕ) (g : Grant) (it : Replays rules history occasion text g) where
  abbrev s : Setting
  s = setting_on rules history occasion

  abbrev Ended : Outcome → Type 0
  Ended o = o.reply.body ≡ Failure InvalidGrant → o.changes ≡ FamilyEnded g.family ∷ []

  own : (test : Kind → Bool) → test g.kind ≡ true → where_passes (is_own test g.client) (grant_at history g.digest occasion.arrival.moment) ≡ Some g
  own test kind =
      ap (where_passes (is_own test g.client)) it.unexpired
      ∙ ap (λ b. if b then Some g else None) (and_from (test g.kind) (g.client == g.client) kind (eq-eqb g.client g.client refl))

  issued : Ended (issue_token s occasion.arrival.asked)
  issued =
      let form = it.bears.form in
      let authentic = it.bears.authentic in
      let presents = it.presents in
      let by_code : grant_named (codes "authorization_code") ≡ Some AuthorizationCode = refl in
      let by_token : grant_named (codes "refresh_token") ≡ Some RefreshToken = refl in
      let told = it.told in
      let code = own is_code in
      let token = own is_refresh in
      let used = it.used in
      grind (arith, form, authentic, presents, by_code, by_token, told, code, token, used)

  pub ended : (outcome_of rules history occasion).changes ≡ FamilyEnded g.family ∷ []
  ended =
      let o = issue_token s occasion.arrival.asked in
      let there : outcome_of rules history occasion ≡ at_path rules history occasion (codes "/token") = ap (at_path rules history occasion) it.goes_to in
      subst Ended (sym there)
      (at_point Ended (not (bytes_eq occasion.arrival.asked.method (codes "POST"))) (bare 405) (chosen occasion.refused o) (λ _ e. absurd (cc)) (λ _.
      at_chosen Ended occasion.refused o (λ e. absurd (cc)) issued)) it.denied
