-- What a ruling comes to is answered, at its endpoint and by its path.
use Rattle.std.proofs.Common.{◌≡◌, ◌≤◌, ℕ, List, [], ◌++◌, Bool, true, false, max, refl, ap, sym, ◌∙◌, arith, append-nil, subst, Result, Ok, Err, Option, Some, None}
use Rattle.endpoints.specs.Names.{all_dated, Endpoint}
use Rattle.endpoints.proofs.Names.{RegistryRecord, changes_of, as_list, AllFollowAt, Event, happening, with_changes, Changes, HookFault, Hosting, Asked, path_of, Written, in_writing, Draws}
use Rattle.endpoints.proofs.Names.{Held, FitsStore, fits_later, Outcome, bare, reply_of, Ruling, hook_change_at, HostRun, IsHostFault, says_with, IsSame, Makes, MakesHost, with_notes}
use Rattle.endpoints.proofs.Names.{AllRightAfter, Allowed, CanMakeAll, Setting, endpoint_at, method_at, Asking, FitsNow, IsRuling, comes_to, setting_now, AnswersRequest, before_now, SeenServer, Outset, Before}
use Rattle.endpoints.proofs.Names.{FitsServer, AreUnkept, AreNoted, IsStep, outset_of}
use Rattle.std.specs.Prelude.{bytes_eq}
use Rattle.change_codec.specs.HappenedLaws.{all_dated-own}
use Rattle.consent.specs.History.{AllFollow, all_past, are_in_order, last_moment}
use Rattle.consent.specs.HistoryLaws.{Happened-joined, in_order-now}
use Rattle.endpoints.specs.Replies.{outcome_at, request_outcome, hook_change}
use Rattle.endpoints.proofs.Ruled.{told_parts}
use Rattle.answers.specs.declared.halt.Halt.{Halt}
use Rattle.answers.specs.declared.halt.Halt.TheVariants.{Refuse, NoMemory}
use Rattle.answers.specs.Halts.{Halts}
use Rattle.answers.specs.Outcomes.{refuse}
use Rattle.endpoints.specs.RulingsParts.{EndsBy, Heeding, IsToldBy, heeding, shown_now, told_then}
use Rattle.endpoints.specs.Telling.{request_told}
use Rattle.hook_host.specs.Verdicts.{last_left}
use Rattle.hook_record.specs.declared.Ask.{Ask}
use Rattle.std.specs.Prelude.{IfOk}
use Rattle.telling.specs.InterestLaws.{sought_is_wanted}
use Rattle.telling.specs.Interests.{wanted_of}
use Rattle.telling.specs.Sought.{told_sought, upshot_of}
use Rattle.telling.specs.Telling.{outcome_so}
use Rattle.telling.specs.declared.interest.Interest.{Interest}
use Rattle.telling.specs.declared.telling.Stepped.{Stepped}
use Rattle.telling.specs.declared.told.Told.{Told}

pub at_moment : (greatest m moment n : ℕ) → n ≡ max greatest moment → greatest ≡ m → (m ≤ n) × (n ≡ max m moment)
at_moment greatest m moment n is same = (omega (arith, is, same), is ∙ ap (λ x. max x moment) same)

-- what is noted at the moment is what is changed
pub notes_on : (unkept : Option (List Event)) (kept : Option (List Event)) (history : List Event) (m : ℕ) (changes : Changes) →
    AllFollowAt history m (changes_of (as_list changes)) → all_past history m ≡ true →
    AreUnkept unkept kept history → AreUnkept (with_notes unkept m changes) kept (with_changes history m (changes_of (as_list changes)))
notes_on None None history m changes follow past noted = tt
notes_on None (Some kept) history m changes follow past noted = absurd noted
notes_on (Some facts) None history m changes follow past noted = absurd noted
notes_on (Some facts) (Some kept) history m changes follow past noted =
    let own = all_dated-own m changes in
    Happened-joined kept history (with_changes history m (changes_of (as_list changes))) facts (all_dated m changes) noted
    (record {
      follow = subst (AllFollow history) (sym own) follow;
      in_order = subst (λ es. are_in_order (last_moment 0 history) es ≡ true) (sym own) (in_order-now history m (changes_of (as_list changes)) past);
      leads = ap (λ es. history ++ es) (sym own);
    })

-- nothing is noted where nothing happens
still_noted : {H : Type 0} (old new : SeenServer H) (history : List Event) → new.unkept ≡ old.unkept → AreNoted old new history (history ++ [])
still_noted old new history same kept noted = rw (append-nil history) (subst (λ u. AreUnkept u kept history) (sym same) noted)

module _ {H : Type 0} (hosting : Hosting H) where
  -- time goes on, and what has expired is let go of
  pub swept : (old : SeenServer H) (outset : Outset H) (history : List Event) (n m : ℕ) (kept : Held) → n ≤ m →
      FitsServer hosting old outset history n → (FitsStore old.store history m → FitsStore kept history m) →
      FitsServer hosting (record old { store = kept; greatest = m }) outset history m
  swept old outset history n m kept le fits dropped = record {
    rules_are = fits.rules_are;
    greatest_is = refl;
    store = dropped (fits_later old.store history n m le fits.store);
    consents = fits.consents;
    hosts = fits.hosts;
    right = fits.right;
  }

  -- nothing happens
  pub bare_step : (before : Before H) (new : SeenServer H) (status : ℕ) (reply : Written) →
      FitsServer hosting new before.outset before.history before.moment → reply ≡ in_writing (bare status).reply →
      new.unkept ≡ before.server.unkept → new.host ≡ before.server.host → IsStep hosting before (bare status) reply new
  bare_step before new status reply fits is same host_same = record {
    reply_is = is;
    fits = rw (append-nil before.history) fits;
    hosts = host_same;
    noted = still_noted before.server new before.history same;
  }

  -- what is looked for is what is wanted
  module _ (answers : (host : H) (ask : Ask) → last_left (Allowed ask.scope ask.life) (hosting.verdicts host ask) ≡ hosting.answer host ask) where
    pub wanted_then : (old : SeenServer H) (history : List Event) (heeding : Heeding) (fault : Option HookFault) (o : Outcome) →
        o ≡ comes_to hosting old history heeding.asking fault →
        told_sought heeding.interest old.greatest heeding.asking.endpoint (shown_now hosting old history heeding.asking fault) (upshot_of o)
        ≡ wanted_of heeding.interest (told_then hosting old history heeding.asking fault)
    wanted_then old history heeding fault o is =
        let asking : Asking = heeding.asking in
        let s : Setting = setting_now hosting old history asking.draws fault in
        ap (λ (o : Outcome). told_sought heeding.interest old.greatest asking.endpoint (shown_now hosting old history asking fault) (upshot_of o)) is
        ∙ sought_is_wanted heeding.interest (hosting.verdicts old.host) s asking.endpoint asking.asked (comes_to hosting old history asking fault)
        (answers old.host) (λ e. ap (λ (endpoint : Endpoint). outcome_at endpoint s asking.asked) e)

    -- what ended the request is answered, and nothing happens
    pub halts : {E : Type 0} (old : SeenServer H) (heeding : Heeding) (halt : Halt) (made : Result Stepped E) →
        IfOk made (EndsBy hosting old heeding halt) →
        ((first : H) (history : List Event) → FitsNow hosting old first history → Halts halt (comes_to hosting old history heeding.asking None)) →
        AnswersRequest hosting old heeding made old
    halts old heeding (Refuse error) (Ok stepped) is ends = λ first history fits.
        let o : comes_to hosting old history heeding.asking None ≡ refuse error = ends first history fits in (
          None,
          tt,
          subst (λ (o : Outcome). IsStep hosting (before_now old first history) o stepped.reply old) (sym o)
              (record { reply_is = is.0; fits = rw (append-nil history) fits; hosts = refl; noted = still_noted old old history refl }),
          is.2 first history None fits ∙ wanted_then old history heeding None (refuse error) (sym o),
        )
    halts old heeding NoMemory (Ok stepped) is ends = absurd is
    halts old heeding halt (Err e) is ends = record { rules = refl; host = refl; greatest = refl; unkept = refl; fits = λ outset history m fits. fits }

    -- the ruling is written, room is made for its changes, and they are made
    pub answered : (old mid new : SeenServer H) (first : H) (history : List Event) (heeding : Heeding) (ruling : Ruling H) (reply : Written) (told : Option Told) →
        IsRuling hosting old history heeding.asking ruling →
        IsToldBy hosting old heeding (upshot_of (outcome_so old.rules (hosting.names old.host) ruling.decision.answer ruling.decision.changes)) told →
        IsSame hosting old mid → Makes hosting mid (as_list ruling.decision.changes) ruling.checked new →
        MakesHost hosting mid.host (as_list ruling.decision.changes) ruling.checked new.host → new.unkept ≡ with_notes mid.unkept mid.greatest ruling.decision.changes →
        reply ≡ in_writing (reply_of old.rules (hosting.names old.host) ruling.decision.answer) → FitsNow hosting old first history →
        (fault : Option HookFault) × IsHostFault hosting old.host (hook_change_at heeding.asking.endpoint heeding.asking.asked) fault
        × IsStep hosting (before_now old first history) (comes_to hosting old history heeding.asking fault) reply new
        × (told ≡ wanted_of heeding.interest (told_then hosting old history heeding.asking fault))
    answered old mid new first history heeding ruling reply told r told_is same makes runs noted is fits =
        let asking : Asking = heeding.asking in
        let outset = outset_of old.rules first in
        let o = comes_to hosting old history asking r.fault in
        let parts = told_parts hosting (setting_now hosting old history asking.draws r.fault) ruling.decision o r.told_is in
        let changes = parts.0 in
        let own = subst (λ (cs : List happening). FitsServer hosting mid outset history mid.greatest → AllFollowAt history mid.greatest cs →
        AllRightAfter old.rules history mid.greatest cs → CanMakeAll hosting mid.host (as_list ruling.decision.changes) ruling.checked →
        FitsServer hosting new outset (with_changes history mid.greatest cs) mid.greatest) changes (makes outset history) in
        let go = subst (λ (n : ℕ). FitsServer hosting mid outset history n → AllFollowAt history n o.changes → AllRightAfter old.rules history n o.changes →
        CanMakeAll hosting mid.host (as_list ruling.decision.changes) ruling.checked → FitsServer hosting new outset (with_changes history n o.changes) n)
        same.greatest own in (
          r.fault,
          r.host_has,
          record {
            reply_is = is ∙ ap in_writing (sym parts.1);
            fits = go (same.fits outset history old.greatest fits) r.follow r.right (rw same.host r.hooks);
            hosts =
                subst (λ (h : H). HostRun hosting h (with_changes [] old.greatest o.changes) new.host) same.host
                (subst (λ (cs : List happening). HostRun hosting mid.host (with_changes [] old.greatest cs) new.host) changes (runs old.greatest (rw same.host r.hooks)));
            noted = λ kept before.
                let now : new.unkept ≡ with_notes old.unkept old.greatest ruling.decision.changes =
                noted ∙ ap (λ u. with_notes u mid.greatest ruling.decision.changes) same.unkept ∙ ap (λ n. with_notes old.unkept n ruling.decision.changes) same.greatest in
                subst (λ u. AreUnkept u kept (with_changes history old.greatest o.changes)) (sym now)
                (subst (λ (cs : List happening). AreUnkept (with_notes old.unkept old.greatest ruling.decision.changes) kept (with_changes history old.greatest cs)) changes
                (notes_on old.unkept kept history old.greatest ruling.decision.changes (subst (AllFollowAt history old.greatest) (sym changes) r.follow)
                fits.store.kept.is_history.past before));
          },
          told_is first history r.fault fits ∙ wanted_then old history heeding r.fault _ r.told_is,
        )

  -- no reply was made, and nothing happened
  pub none_made : {E : Type 0} (old new : SeenServer H) (heeding : Heeding) (result : Result Stepped E) → ((stepped : Stepped) → result ≡ Ok stepped → ⊥) →
      AnswersRequest hosting old heeding result new → IsSame hosting old new
  none_made old new heeding (Ok stepped) none made = absurd (none stepped refl)
  none_made old new heeding (Err e) none made = made

  -- what was noted before time went on is noted still
  noted_before : (older : SeenServer H) (before : Before H) (new : SeenServer H) (outcome : Outcome) (reply : Written) → before.server.unkept ≡ older.unkept →
      before.server.host ≡ older.host → IsStep hosting before outcome reply new → IsStep hosting (record before { server = older }) outcome reply new
  noted_before older before new outcome reply same host_same step = record {
    reply_is = step.reply_is;
    fits = step.fits;
    hosts = subst (λ (h : H). HostRun hosting h (with_changes [] before.moment outcome.changes) new.host) host_same step.hosts;
    noted = λ kept notes. step.noted kept (subst (λ u. AreUnkept u kept before.history) (sym same) notes);
  }

  -- what has expired is let go of, behind a step
  pub swept_step : (before : Before H) (mid : SeenServer H) (kept : Held) (outcome : Outcome) (reply : Written) →
      ((history : List Event) → FitsStore mid.store history mid.greatest → FitsStore kept history mid.greatest) →
      IsStep hosting before outcome reply mid → IsStep hosting before outcome reply (record mid { store = kept })
  swept_step before mid kept outcome reply dropped step =
      let fits = step.fits in
      let after = with_changes before.history before.moment outcome.changes in
      record {
        reply_is = step.reply_is;
        fits = record {
          rules_are = fits.rules_are;
          greatest_is = fits.greatest_is;
          store =
              subst (λ (n : ℕ). FitsStore mid.store after n → FitsStore kept after n) fits.greatest_is (dropped after) fits.store;
          consents = fits.consents;
          hosts = fits.hosts;
          right = fits.right;
        };
        hosts = step.hosts;
        noted = step.noted;
      }

  -- what happens at an endpoint is what happens at its path
  pub stepped : (older old new : SeenServer H) (outset : Outset H) (history : List Event) (endpoint : Endpoint) (asked : Asked) (draws : Draws) (interest : Interest) (s : Stepped) →
      endpoint_at (path_of asked.target) ≡ Some endpoint → bytes_eq asked.method (method_at endpoint) ≡ true →
      FitsServer hosting old outset history old.greatest →
      AnswersRequest {E = ℕ} hosting old (heeding (record { endpoint = endpoint; asked = asked; draws = draws }) interest) (Ok s) new → old.host ≡ older.host → old.unkept ≡ older.unkept →
      (refused : Bool) × (fault : Option HookFault) × IsHostFault hosting older.host (hook_change asked) fault
      × IsStep hosting (record { server = older; outset = outset; history = history; moment = old.greatest })
      (request_outcome refused (record { rules = outset.rules; history = history; host = says_with hosting older.host fault; moment = old.greatest; draws = draws }) asked) s.reply new
      × (s.told ≡ wanted_of interest (request_told refused (hosting.verdicts older.host) (record { rules = outset.rules; history = history; host = says_with hosting older.host fault; moment = old.greatest; draws = draws }) asked))
  stepped older old new outset history endpoint asked draws interest s at method fits answers host_same unkept_same =
      let own = subst (λ (r : RegistryRecord). FitsServer hosting old (outset_of r outset.first) history old.greatest) (sym fits.rules_are) fits in
      let done = answers outset.first history own in
      let IsStepped : RegistryRecord → H → Type 0 = λ r host. (refused : Bool) × (fault : Option HookFault) × IsHostFault hosting host (hook_change asked) fault
      × IsStep hosting (record { server = older; outset = outset_of r outset.first; history = history; moment = old.greatest })
      (request_outcome refused (record { rules = r; history = history; host = says_with hosting host fault; moment = old.greatest; draws = draws }) asked) s.reply new
      × (s.told ≡ wanted_of interest (request_told refused (hosting.verdicts host) (record { rules = r; history = history; host = says_with hosting host fault; moment = old.greatest; draws = draws }) asked)) in
      let here : IsStepped old.rules old.host =
      rw (at, method) (false, done.0, done.1, noted_before older (before_now old outset.first history) new (comes_to hosting old history (record { endpoint = endpoint; asked = asked; draws = draws }) done.0) s.reply unkept_same host_same done.2, done.3) in
      subst (λ (host : H). IsStepped outset.rules host) host_same (subst (λ (r : RegistryRecord). IsStepped r old.host) fits.rules_are here)

-- two that are seen alike have noted the same, and have the same host
pub unkept_as : {H : Type 0} (one other : SeenServer H) → one ≡ other → one.unkept ≡ other.unkept
unkept_as one other same = ap (λ server. server.unkept) same

pub host_as : {H : Type 0} (one other : SeenServer H) → one ≡ other → one.host ≡ other.host
host_as one other same = ap (λ server. server.host) same
