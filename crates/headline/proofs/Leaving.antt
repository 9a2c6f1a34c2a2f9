-- What an owner leaves whom the operator ends: nothing.
use Rattle.std.proofs.Common.{◌≡◌, ◌≢◌, ◌≤◌, ◌<◌, ◌+◌, ◌-◌, ℕ, List, [], ◌++◌, Bool, true, false, Option, Some, None, refl, sym, ap, subst, ◌∙◌, arith}
use Rattle.headline.proofs.Names.{client_at, codes, false≢true, not, bytes_eq-Decides, RegistryRecord, ClientRecord, AllRight, EndOwner, IsHistory, Terms, code_terms, has_ended, Outcome, bare, chosen, point}
use Rattle.headline.proofs.Names.{Occasion, history_after, is_operator, nat_tests, outcome_of, reply_on, setting_on}
use Rattle.std.specs.Prelude.{◌==◌, bytes_eq, find, is_some, length, option_map, slice_get}
use Rattle.std.specs.List.{list_any, range_with_len}
use Rattle.std.specs.Option.{option_map_or}
use Rattle.std.proofs.lemmas.Option.{slice_get_within}
use Rattle.clients.specs.Registry.{is_operator_key}
use Rattle.consent.specs.History.{Event, consented_scope, is_code_of, terms_of, with_changes}
use Rattle.consent.specs.LeavingLaws.{consented-withdrawn, ended-stays, ended-withdrawn, grants-withdrawn, in_range, withdrawn}
use Rattle.endpoints.proofs.Sound.{right_terms}
use Rattle.endpoints.specs.OwnerPath.{end_owner, owner_ended}
use Rattle.headline.proofs.Exchanged.{at_path, granted_there}
use Rattle.headline.proofs.Spending.{live_is}
use Rattle.headline.specs.Authority.{IsEndOf}
use Rattle.headline.specs.Leaving.{EndsOwner, IsGone}
use Rattle.headline.specs.Uses.{IsDead}

-- a client that is listed has one of the numbers from 1 on
listed : (rules : RegistryRecord) (client : ℕ) → is_some (client_at client rules.clients) ≡ true →
    list_any (λ c. c == client) (range_with_len 1 (length rules.clients)) ≡ true
listed rules client is = by_client (client_at client rules.clients) refl is
  where
    by_client : (o : Option ClientRecord) → client_at client rules.clients ≡ o → is_some o ≡ true → list_any (λ c. c == client) (range_with_len 1 (length rules.clients)) ≡ true
    by_client None at some = absurd (false≢true some)
    by_client (Some record_of) at some =
        let from_1 : 1 ≤ client = grind (arith, nat_tests, at) in
        let there : slice_get rules.clients (client - 1) ≡ Some record_of = grind (arith, nat_tests, at) in
        let below = slice_get_within rules.clients (client - 1) record_of there in
        in_range 1 (length rules.clients) client from_1 (omega (arith, from_1, below))

module _ (rules : RegistryRecord) (history : List Event) (m : ℕ) (is : IsHistory history m) (right : AllRight rules [] history) (occasion : Occasion) where
  abbrev clients : List ℕ
  clients = range_with_len 1 (length rules.clients)

  -- the points come to what ends an owner
  ended_is : (owner : ℕ) → IsEndOf rules occasion owner →
      end_owner (setting_on rules history occasion) occasion.arrival.asked ≡ owner_ended (setting_on rules history occasion) owner
  ended_is owner end =
      let operator : is_operator rules occasion.arrival.asked ≡ true =
      ap (λ (o : Option (List ℕ)). option_map_or (λ key. is_operator_key key rules) o false) end.1.1 ∙ end.1.2 in
      rw (operator, end.2.1, end.2.2) refl

  granted_is : (owner : ℕ) → IsEndOf rules occasion owner → (reply_on rules history occasion).status ≡ 200 →
      outcome_of rules history occasion ≡ owner_ended (setting_on rules history occasion) owner
  granted_is owner end granted =
      granted_there rules history occasion (λ o. o ≡ owner_ended (setting_on rules history occasion) owner) (codes "/owners/end") EndOwner refl
      (λ _. ended_is owner end) end.0 granted

  -- what that leaves
  abbrev left : ℕ → List Event
  left owner = with_changes history occasion.arrival.moment (withdrawn owner clients)

  dead : (owner family : ℕ) (terms : Terms) (later : List Event) → code_terms (left owner) family ≡ Some terms → terms.owner ≡ owner → terms.scope ≢ 0 →
      IsDead (left owner ++ later) family
  dead owner family terms later at his some digest moment found live kin =
      let before : code_terms history family ≡ Some terms =
      ap (λ gs. option_map terms_of (find (is_code_of family) gs)) (sym (grants-withdrawn history occasion.arrival.moment owner clients)) ∙ at in
      let may = right_terms rules history family terms right before in
      let ended = ended-withdrawn history occasion.arrival.moment owner family terms clients (is.one_code family) before his some (listed rules terms.client may.is_client) in
      let alive = (live_is (left owner ++ later) digest moment found live).1 in
      false≢true (sym alive ∙ ap (has_ended (left owner ++ later)) kin ∙ ended-stays (left owner) later family ended)

  gone : (owner : ℕ) → IsGone rules (left owner) owner
  gone owner = record {
    families = dead owner;
    consents = λ client there.
        consented-withdrawn history occasion.arrival.moment owner client clients
        (let one = listed rules client there in grind (arith, one));
  }

  done : (owner : ℕ) → IsEndOf rules occasion owner → occasion.arrival.asked.method ≡ codes "POST" → occasion.refused ≡ false →
      (reply_on rules history occasion).status ≡ 200
  done owner end posted unrefused =
      let asked = occasion.arrival.asked in
      let o = end_owner (setting_on rules history occasion) asked in
      let goes_there : outcome_of rules history occasion ≡ o =
      ap (at_path rules history occasion) end.0
      ∙ ap (λ b. point (not b) (bare 405) (chosen occasion.refused o)) ((bytes_eq-Decides asked.method (codes "POST")).1 posted)
      ∙ ap (λ b. chosen b o) unrefused in
      ap (λ (x : Outcome). x.reply.status) (goes_there ∙ ended_is owner end)

  pub ends_owner : EndsOwner rules history occasion
  ends_owner = record {
    gone = λ owner end granted.
        subst (λ (o : Outcome). IsGone rules (with_changes history occasion.arrival.moment o.changes) owner) (sym (granted_is owner end granted)) (gone owner);
    told = λ owner end granted. ap (λ (o : Outcome). o.reply.body) (granted_is owner end granted);
    done = done;
  }
