-- A decision is a ruling that the server can carry out.
use Rattle.std.proofs.Common.{◌≡◌, inl, ◌∙◌, ap, sym, subst, ℕ, List, [], ◌∷◌, Bool, true, Option, Some, None, arith}
use Rattle.endpoints.proofs.Names.{IfOk, result_ok, read_params, change_of, changes_of, as_list, Event}
use Rattle.endpoints.proofs.Names.{happening, HookFault, Hosting, Asked, query_of, InvalidRequest, AccessDenied, Draws, Halts, Outcome, bare, need, point, refuse, reply_of}
use Rattle.endpoints.proofs.Names.{Parameters, form_of, Setting, outcome_told, Halt, store_history, Checked, NoHook, Installs, Removes, Ruling, hook_change_at, hook_gone}
use Rattle.endpoints.proofs.Names.{hook_set_by, is_operator, with_operator, IsHostFault, hook_points, CanMake, CanMakeAll, CanTake}
use Rattle.endpoints.proofs.Names.{RulesHooks, Asking, FitsNow, IsRuled, IsRuling, asking_of, comes_to, setting_now, IsAlone, SeenServer}
use Rattle.std.specs.Prelude.{not, Result, Ok, Err, option_and_then}
use Rattle.consent.specs.declared.change.Change.{Change}
use Rattle.answers.specs.declared.decision.Decision.{Decision}
use Rattle.endpoints.specs.declared.reading.Reading.{Reading}
use Rattle.endpoints.specs.declared.reading.Reading.TheVariants as reading
use Rattle.endpoints.specs.Reading.{IsRequestRead}
use Rattle.endpoints.proofs.Fair.{AllUnhooked, IsHookless, IsUnhooked, way_fair, way_unhooked}
use Rattle.endpoints.proofs.ReadingOn.{points_of}
use Rattle.endpoints.proofs.Sound.{IsFair}
use Rattle.endpoints.proofs.Ways.{IsAt, Way, ByToken, token_at, at_authorize, at_consent, at_document, at_hooks, at_introspect, at_owner, at_revoke, at_token, is_of_hooks, outcome_by}
use Rattle.endpoints.specs.HookPaths.{change_hooks, installation, removal}

-- WITHOUT A CHANGE OF THE HOOKS

module _ {H : Type 0} (hosting : Hosting H) where
  made : (host : H) (c : Change) → IsUnhooked (change_of c) → CanMake hosting host c NoHook
  made host c tame = grind (arith, tame)

  made_all : (host : H) (cs : List Change) → AllUnhooked (changes_of cs) → CanMakeAll hosting host cs NoHook
  made_all host [] tame = tt
  made_all host (c ∷ d ∷ cs) tame = tt
  made_all host (c ∷ []) tame = made host c tame.0

  -- what was told of a decision is what its changes say, and its reply
  pub told_parts : (s : Setting) (d : Decision) (o : Outcome) → outcome_told s d ≡ o →
      (changes_of (as_list d.changes) ≡ o.changes) × (o.reply ≡ reply_of s.rules s.host.names d.answer)
  told_parts s d o is = (ap (λ (o : Outcome). o.changes) is, sym (ap (λ (o : Outcome). o.reply) is))

  -- an outcome without a change of the hooks
  pub alone_ruling : (server : SeenServer H) (history : List Event) (asking : Asking) (d : Decision) →
      IsFair (setting_now hosting server history asking.draws None) (comes_to hosting server history asking None) × AllUnhooked (comes_to hosting server history asking None).changes →
      outcome_told (setting_now hosting server history asking.draws None) d ≡ comes_to hosting server history asking None →
      IsRuling hosting server history asking (record { decision = d; checked = NoHook })
  alone_ruling server history asking d fair is =
      let changes = (told_parts (setting_now hosting server history asking.draws None) d (comes_to hosting server history asking None) is).0 in
      record {
        fault = None;
        host_has = tt;
        told_is = is;
        follow = fair.0.follow;
        right = fair.0.right;
        hooks = made_all server.host (as_list d.changes) (subst AllUnhooked (sym changes) fair.1);
      }

module _ {H : Type 0} (hosting : Hosting H) (server : SeenServer H) (first : H) (history : List Event) (asked : Asked) (draws : Draws) (fits : FitsNow hosting server first history) where
  -- whichever way a request goes, what comes of it may come next and is right
  ways : (fault : Option HookFault) (way : Way (setting_now hosting server history draws fault) asked) → IsFair (setting_now hosting server history draws fault) (outcome_by way)
  ways fault = way_fair (setting_now hosting server history draws fault) (store_history server.store history server.greatest fits.store) fits.right asked

  abbrev scene : Setting
  scene = setting_now hosting server history draws None

  abbrev Fair : Outcome → Type 0
  Fair o = IsFair scene o × AllUnhooked o.changes

  hookless : (way : Way scene asked) → IsAt IsHookless way → Fair (outcome_by way)
  hookless way free = (ways None way, way_unhooked scene asked way free)

  -- each endpoint's is fair that changes no hooks
  pub alone_fair : (what : Reading) → IsAlone what → Fair (comes_to hosting server history (asking_of asked what draws) None)
  alone_fair (reading.Authorize params) alone = at_authorize Fair scene asked IsHookless hookless tt
  alone_fair reading.GiveConsent alone = at_consent Fair scene asked IsHookless hookless tt
  alone_fair reading.IssueToken alone = at_token (λ o _. Fair o) scene asked (λ way _. hookless (ByToken way) (token_at IsHookless way tt))
  alone_fair reading.RevokeToken alone = at_revoke Fair scene asked IsHookless hookless tt
  alone_fair reading.Introspect alone = at_introspect Fair scene asked IsHookless hookless
  alone_fair reading.EndOwner alone = at_owner Fair scene asked IsHookless hookless tt
  alone_fair (reading.Read document) alone = at_document Fair scene asked IsHookless hookless _
  alone_fair (reading.InstallHook params) alone = absurd alone
  alone_fair (reading.RemoveHook params) alone = absurd alone

  -- and so is each change of the hooks
  hooks_fair : (change : Option happening) → ((c : happening) → change ≡ Some c → is_of_hooks c ≡ true) → (fault : Option HookFault) →
      IsFair (setting_now hosting server history draws fault) (change_hooks (setting_now hosting server history draws fault) asked change)
  hooks_fair change of fault = let s = setting_now hosting server history draws fault in at_hooks (IsFair s) s asked (λ _. Unit {0}) (λ way _. ways fault way) (inl tt) change of

-- what is read that asks for no hook and takes none away
pub alone_of : (what : Reading) → ((p : Parameters) → what ≡ reading.InstallHook p → ⊥) → ((p : Parameters) → what ≡ reading.RemoveHook p → ⊥) → IsAlone what
alone_of what one other = grind (arith, one, other)

-- CHANGES OF THE HOOKS

-- an outcome that shows which change there is
abbrev probe : Option happening → Outcome
probe None = bare 200
probe (Some change) = record { reply = (bare 200).reply; changes = change ∷ [] }

-- what the points lead on to with any outcome is what was read
pub read_same : (operator : Bool) (o : Option Parameters) (params : Parameters) (change : Parameters → Option happening) →
    ((next : Parameters → Outcome) → point (not operator) (refuse AccessDenied) (need o (refuse InvalidRequest) next) ≡ next params) →
    option_and_then change o ≡ change params
read_same operator o params change leads = let shown = leads (λ p. probe (change p)) in grind (arith, shown)

module _ {H : Type 0} (hosting : Hosting H) (server : SeenServer H) (history : List Event) (asking : Asking) (change : Option happening) where
  hooks_ruled : (result : Result (Ruling H) Halt) → ((fault : Option HookFault) → comes_to hosting server history asking fault ≡ hook_points change fault) →
      hook_change_at asking.endpoint asking.asked ≡ change → ((fault : Option HookFault) → IsFair (setting_now hosting server history asking.draws fault) (comes_to hosting server history asking fault)) →
      RulesHooks hosting server.host (setting_now hosting server history asking.draws None) change result → IsRuled hosting server history asking result
  hooks_ruled (Err halt) points same fair rules = subst (λ o. Halts halt o) (sym (points None)) rules
  hooks_ruled (Ok ruling) points same fair rules =
      let fault = rules.0 in
      let told_is : outcome_told (setting_now hosting server history asking.draws fault) ruling.decision ≡ comes_to hosting server history asking fault =
      rules.2 ∙ sym (points fault) in
      record {
        fault = fault;
        host_has = subst (λ c. IsHostFault hosting server.host c fault) (sym same) rules.1;
        told_is = told_is;
        follow = (fair fault).follow;
        right = (fair fault).right;
        hooks = rules.3;
      }

is_removal : (asked : Asked) (c : happening) → removal asked ≡ Some c → is_of_hooks c ≡ true
is_removal asked c is = grind (arith, is)

module _ {H : Type 0} (hosting : Hosting H) (server : SeenServer H) (history : List Event) (asked : Asked) (params : Parameters) (draws : Draws)
    (first : H) (fits : FitsNow hosting server first history) where
  -- a hook that the parameters ask for
  pub install_ruled : (result : Result (Ruling H) Halt) → IsRequestRead server.rules asked (reading.InstallHook params) →
      RulesHooks hosting server.host (setting_now hosting server history draws None) (hook_set_by params asked.body) result →
      IsRuled hosting server history (asking_of asked (reading.InstallHook params) draws) result
  install_ruled result leads rules =
      hooks_ruled hosting server history (asking_of asked (reading.InstallHook params) draws) (hook_set_by params asked.body) result
      (λ fault. ap (with_operator server.rules asked) (points_of (result_ok (read_params (query_of asked.target))) (λ p. hook_set_by p asked.body) fault)
      ∙ leads (λ p. hook_points (hook_set_by p asked.body) fault))
      (read_same (is_operator server.rules asked) (result_ok (read_params (query_of asked.target))) params (λ p. hook_set_by p asked.body) leads)
      (hooks_fair hosting server first history asked draws fits (installation asked) (λ c is. grind (arith, is))) rules

  -- and one that they take away
  pub remove_ruled : (result : Result (Ruling H) Halt) → IsRequestRead server.rules asked (reading.RemoveHook params) →
      RulesHooks hosting server.host (setting_now hosting server history draws None) (hook_gone params) result →
      IsRuled hosting server history (asking_of asked (reading.RemoveHook params) draws) result
  remove_ruled result leads rules =
      hooks_ruled hosting server history (asking_of asked (reading.RemoveHook params) draws) (hook_gone params) result
      (λ fault. ap (with_operator server.rules asked) (points_of (form_of asked) hook_gone fault) ∙ leads (λ p. hook_points (hook_gone p) fault))
      (read_same (is_operator server.rules asked) (form_of asked) params hook_gone leads)
      (hooks_fair hosting server first history asked draws fits (removal asked) (is_removal asked)) rules

module _ {H : Type 0} (hosting : Hosting H) (host : H) where
  can_take : (cs : List Change) (checked : Checked H) → CanMakeAll hosting host cs checked → CanTake hosting host cs checked
  can_take cs NoHook can = tt
  can_take cs (Installs hook) can = can
  can_take cs Removes can = can

  -- what is taken with a ruling was checked
  pub if_can_take : (s : Setting) (change : Option happening) (result : Result (Ruling H) Halt) → RulesHooks hosting host s change result →
      IfOk result (λ ruling. CanTake hosting host (as_list ruling.decision.changes) ruling.checked)
  if_can_take s change (Ok ruling) rules = can_take (as_list ruling.decision.changes) ruling.checked rules.3
  if_can_take s change (Err halt) rules = tt
