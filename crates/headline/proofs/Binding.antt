-- An exchanged code is bound to what it was given with.
use Rattle.std.proofs.Common.{◌≡◌, List, Some, arith, refl, sym, ap, ◌∙◌, subst}
use Rattle.headline.proofs.Names.{codes, and_parts, bytes_eq-Decides, challenge_of, is_verifier, value_sent, RegistryRecord, grant_at, under_digest, IssueToken, Outcome, Parameters, form_of}
use Rattle.headline.proofs.Names.{BearsWith, Occasion, setting_on}
use Rattle.std.specs.Prelude.{bytes_eq}
use Rattle.consent.specs.History.{Event}
use Rattle.headline.specs.Codes.{IsBound, BindsCodes}
use Rattle.headline.proofs.Exchanged.{granted_there}
use Rattle.endpoints.proofs.Walking.{same_some}
use Rattle.endpoints.proofs.Ways.{Sender, Proven, TokenWay, Once, Twice, Refreshed, Own, at_token, token_outcome}

module _ (rules : RegistryRecord) (history : List Event) (occasion : Occasion) (params : Parameters) where
  bound : (x : Proven (setting_on rules history occasion) occasion.arrival.asked) → x.code.sender.params ≡ params → IsBound rules history occasion params
  bound x same =
      let g = x.code.grant in
      let digest = under_digest history x.code.digest occasion.arrival.moment g x.code.named in
      let proof = and_parts (is_verifier x.verifier) (bytes_eq (challenge_of x.verifier) g.challenge) x.proven in
      subst (λ p. IsBound rules history occasion p) same (record {
        text = x.code.text;
        sent = x.code.sent;
        code = g;
        told = x.code.told ∙ ap (λ d. Some d) digest;
        is_code = x.code.kind_is;
        given = subst (λ d. grant_at history d occasion.arrival.moment ≡ Some g) digest x.code.named;
        bears = subst (λ n. BearsWith rules occasion.arrival.asked x.code.sender.params n) (sym x.code.own) (record { form = x.code.sender.form; authentic = x.code.sender.authenticates });
        led = x.redirected;
        verifier = x.verifier;
        verified = x.verified;
        proven = sym ((bytes_eq-Decides (challenge_of x.verifier) g.challenge).0 proof.1);
      })

  abbrev P : Outcome → Type 0
  P o = o.reply.status ≡ 200 → IsBound rules history occasion params

  same_params : form_of occasion.arrival.asked ≡ Some params → (sender : Sender rules occasion.arrival.asked) → sender.params ≡ params
  same_params form sender = same_some sender.params params (form_of occasion.arrival.asked) sender.form form

  by_way : form_of occasion.arrival.asked ≡ Some params → value_sent (codes "grant_type") params ≡ Some (codes "authorization_code") →
      (way : TokenWay (setting_on rules history occasion) occasion.arrival.asked) → P (token_outcome way)
  by_way form typed (Once x left is untaken) e = bound x (same_params form x.code.sender)
  by_way form typed (Twice x left is untaken) e = bound x (same_params form x.code.sender)
  by_way form typed (Refreshed x left is untaken) e =
      let theirs = x.token.sender.form in let refreshes = x.token.typed in absurd (grind (arith, form, typed, theirs, refreshes))
  by_way form typed (Own sender own scope left family new is untaken) e =
      let theirs = sender.form in absurd (grind (arith, form, typed, theirs, own))
  by_way form typed _ e = absurd (grind (arith, e))

pub binds_codes : (rules : RegistryRecord) (history : List Event) (occasion : Occasion) → BindsCodes rules history occasion
binds_codes rules history occasion params goes form typed =
    granted_there rules history occasion (λ _. IsBound rules history occasion params) (codes "/token") IssueToken refl
    (at_token (λ o _. P rules history occasion params o) (setting_on rules history occasion) occasion.arrival.asked
    (λ way _. by_way rules history occasion params form typed way)) goes
