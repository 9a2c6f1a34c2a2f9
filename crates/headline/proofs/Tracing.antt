-- Whatever has happened is told of.
use Rattle.std.proofs.Common.{◌≡◌, inl, inr, ℕ, List, [], ◌∷◌, ◌++◌, Bool, true, false, cond, map, append_assoc, append-nil, Option, Some, None, refl, ap, sym, subst, ◌∙◌, arith}
use Rattle.std.specs.Prelude.{◌⊎◌, All, Contains, bytes_eq, not}
use Rattle.std.proofs.lemmas.List.Elements.{All-contains_itself, All-map, Contains-append_left, Contains-append_right}
use Rattle.headline.proofs.Names.{flat_map, map-append, All-append, All-nil, All-weaker, Change, Consented, CodeGiven, Issued, Spent, FamilyEnded, HookSet, HookGone, event_at, grant_at, with_changes, path_of, Endpoint, endpoint_at, method_at, Ask, Asked, Setting, outcome_at}
use Rattle.headline.proofs.Names.{Hosting, says_with, Outset, AnsweredRequest, AreAnswered, IsOutcomeOfRequest, changes_made, AnsweredPiece, Happening, Came, Taken, Resumed, Happens, PieceComes, Run, World, first_world, Occasion, setting_on}
use Rattle.consent.specs.GrowthLaws.{grant_at-keep}
use Rattle.consent.specs.History.{Event}
use Rattle.consent.specs.History.Change.{Numbered}
use Rattle.endpoints.specs.Telling.{request_told, told_at}
use Rattle.hook_host.specs.Verdicts.{Verdict}
use Rattle.http_edge.specs.Answers.{answerer, tellings_of}
use Rattle.headline.proofs.Auditing.{audited}
use Rattle.headline.specs.Audited.{AreAudited, IsOfFamily, IsToldOf, resumed_by, resumed_in, tellings_by, tellings_in}
use Rattle.telling.specs.Telling.{bare_told, told_of}
use Rattle.telling.specs.declared.told.Told.{Told}

-- THE MOMENT

module _ (verdicts : Ask → List Verdict) (s : Setting) (asked : Asked) where
  at_refused : (endpoint : Endpoint) (refused : Bool) →
      (cond refused (bare_told s.moment (Some endpoint) 503) (told_of verdicts s endpoint asked (outcome_at endpoint s asked))).moment ≡ s.moment
  at_refused endpoint true = refl
  at_refused endpoint false = refl

  at_method : (endpoint : Endpoint) (refused same : Bool) →
      (cond (not same) (bare_told s.moment (Some endpoint) 405) (cond refused (bare_told s.moment (Some endpoint) 503) (told_of verdicts s endpoint asked (outcome_at endpoint s asked)))).moment
      ≡ s.moment
  at_method endpoint refused true = at_refused endpoint refused
  at_method endpoint refused false = refl

  at_path : (refused : Bool) (at : Option Endpoint) → (told_at refused verdicts s asked at).moment ≡ s.moment
  at_path refused None = refl
  at_path refused (Some endpoint) = at_method endpoint refused (bytes_eq asked.method (method_at endpoint))

-- WHAT HAPPENS LATER

-- a family stays the same
of_later : (history more : List Event) (m : ℕ) (told : Option ℕ) (change : Change) → IsOfFamily history m told change → IsOfFamily (history ++ more) m told change
of_later history more m told (CodeGiven family code digest) of = of
of_later history more m told (Issued family parties token) of = of
of_later history more m told (Spent digest) of = (of.0, grant_at-keep history more digest m of.0 of.1, of.2)
of_later history more m told (FamilyEnded family) of = of
of_later history more m told (Consented owner client mask) of = tt
of_later history more m told (HookSet name version code) of = tt
of_later history more m told (HookGone name) of = tt
of_later history more m told (Numbered last) of = tt

told_later : (history more : List Event) (tellings : List Told) (e : Event) → IsToldOf history tellings e → IsToldOf (history ++ more) tellings e
told_later history more tellings e it = (it.0, it.1, it.2, of_later history more e.moment it.0.family e.change it.3)

told_before : (history : List Event) (tellings others : List Told) (e : Event) → IsToldOf history tellings e → IsToldOf history (tellings ++ others) e
told_before history tellings others e it = (it.0, Contains-append_left tellings others it.0 it.1, it.2, it.3)

told_behind : (history : List Event) (others tellings : List Told) (e : Event) → IsToldOf history tellings e → IsToldOf history (others ++ tellings) e
told_behind history others tellings e it = (it.0, Contains-append_right others tellings it.0 it.1, it.2, it.3)

-- SCHEDULES

module _ {H : Type 0} (hosting : Hosting H) (outset : Outset H) where
  -- the request's own line tells of what happens with it
  of_request : (m : ℕ) (history : List Event) (host after : H) (request : AnsweredRequest) → IsOutcomeOfRequest hosting (answerer outset history host m) request after →
      All (IsToldOf history (request.told ∷ [])) (map (event_at m) request.outcome.changes)
  of_request m history host after request is =
      let occasion : Occasion = record {
        arrival = record { asked = request.asked; moment = m; draws = request.draws };
        host = says_with hosting host request.mishap.fault;
        refused = request.mishap.refused;
      } in
      let moment : request.told.moment ≡ m =
      ap (λ (t : Told). t.moment) is.told_is ∙ at_path (hosting.verdicts host) (setting_on outset.rules history occasion) request.asked request.mishap.refused (endpoint_at (path_of request.asked.target)) in
      let all : All (IsOfFamily history m request.told.family) request.outcome.changes =
      rw (is.told_is, is.outcome_is) (audited outset.rules history occasion (hosting.verdicts host)) in
      All-map (IsToldOf history (request.told ∷ [])) (event_at m) request.outcome.changes
      (All-weaker (IsOfFamily history m request.told.family) (λ (c : Change). IsToldOf history (request.told ∷ []) (event_at m c))
      (λ c of. (request.told, (0, omega arith, refl), moment, of)) request.outcome.changes all)

  of_requests : (m : ℕ) (history : List Event) (host after : H) (requests : List AnsweredRequest) → AreAnswered hosting (answerer outset history host m) requests after →
      All (IsToldOf (with_changes history m (changes_made requests)) (tellings_of requests)) (map (event_at m) (changes_made requests))
  of_requests m history host after [] answered = All-nil (IsToldOf (history ++ []) [])
  of_requests m history host after (r ∷ requests) answered =
      let first = map (event_at m) r.outcome.changes in
      let others = map (event_at m) (changes_made requests) in
      let both : map (event_at m) (r.outcome.changes ++ changes_made requests) ≡ first ++ others = map-append (event_at m) r.outcome.changes (changes_made requests) in
      let Here = λ (e : Event). IsToldOf (history ++ (first ++ others)) (r.told ∷ tellings_of requests) e in
      rw both
      (All-append Here first others
      (All-weaker (IsToldOf history (r.told ∷ [])) Here
      (λ e it. told_later history (first ++ others) (r.told ∷ tellings_of requests) e (told_before history (r.told ∷ []) (tellings_of requests) e it))
      first (of_request m history host answered.0 r answered.1))
      (All-weaker (IsToldOf ((history ++ first) ++ others) (tellings_of requests)) Here
      (λ e it. told_behind (history ++ (first ++ others)) (r.told ∷ []) (tellings_of requests) e
      (subst (λ h. IsToldOf h (tellings_of requests) e) (append_assoc history first others) it))
      others (of_requests m (history ++ first) answered.0 after requests answered.2)))

  -- it was there already, or is told of
  abbrev Traced : List Event → List Told → List Event → Event → Type 0
  Traced before tellings history e = Contains before e ⊎ IsToldOf history tellings e

  traced_on : (before more : List Event) (tellings others : List Told) (history later : List Event) (e : Event) → Traced before tellings history e →
      Traced (before ++ more) (tellings ++ others) (history ++ later) e
  traced_on before more tellings others history later e (inl there) = inl (Contains-append_left before more e there)
  traced_on before more tellings others history later e (inr it) =
      inr (told_before (history ++ later) tellings others e (told_later history later tellings e it))

  abbrev AreTraced : List Event → List Told → List Event → Type 0
  AreTraced before tellings history = All (Traced before tellings history) history

  -- requests were answered
  of_piece : (before : List Event) (tellings : List Told) (old new : World) (came : AnsweredPiece) → PieceComes hosting outset old came new →
      AreTraced before tellings old.history → AreTraced (before ++ []) (tellings ++ came.tellings) new.history
  of_piece before tellings old new came comes all =
      let more = map (event_at new.greatest) (changes_made comes.requests) in
      let Here = λ (e : Event). Traced (before ++ []) (tellings ++ came.tellings) (old.history ++ more) e in
      rw comes.history
      (All-append Here old.history more
      (All-weaker (Traced before tellings old.history) Here (λ e it. traced_on before [] tellings came.tellings old.history more e it) old.history all)
      (All-weaker (IsToldOf (old.history ++ more) (tellings_of comes.requests)) Here
      (λ e it. inr (told_behind (old.history ++ more) tellings came.tellings e (subst (λ (ts : List Told). IsToldOf (old.history ++ more) ts e) (sym comes.tellings) it)))
      more (of_requests new.greatest old.history comes.host comes.after comes.requests comes.answered)))

  -- what happens without requests
  still : (before more : List Event) (tellings others : List Told) (old new : World) → new.history ≡ old.history → AreTraced before tellings old.history →
      AreTraced (before ++ more) (tellings ++ others) new.history
  still before more tellings others old new same all =
      rw same
      (All-weaker (Traced before tellings old.history) (Traced (before ++ more) (tellings ++ others) old.history)
      (λ e it. subst (λ (h : List Event). Traced (before ++ more) (tellings ++ others) h e) (append-nil old.history) (traced_on before more tellings others old.history [] e it))
      old.history all)

  -- the server goes on from what was kept
  resumes : (before history : List Event) (tellings others : List Told) (new : World) → new.history ≡ history →
      AreTraced (before ++ history) (tellings ++ others) new.history
  resumes before history tellings others new same =
      rw same
      (All-weaker (Contains history) (Traced (before ++ history) (tellings ++ others) history)
      (λ e there. inl (Contains-append_right before history e there)) history (All-contains_itself history))

  one_more : (before : List Event) (tellings : List Told) (old new : World) (e : Happening) → Happens hosting outset old e new →
      AreTraced before tellings old.history → AreTraced (before ++ resumed_by e) (tellings ++ tellings_by e) new.history
  one_more before tellings old new (Came came) (fits, inl comes) all = of_piece before tellings old new came comes all
  one_more before tellings old new (Came came) (fits, inr passes) all =
      still before [] tellings came.tellings old new (ap (λ (w : World). w.history) passes.same) all
  one_more before tellings old new (Taken c n) (inl takes) all = still before [] tellings [] old new takes.still.history all
  one_more before tellings old new (Taken c n) (inr nothing) all = still before [] tellings [] old new (ap (λ (w : World). w.history) nothing.same) all
  one_more before tellings old new (Resumed history greatest kept) happens all =
      resumes before history tellings [] new (ap (λ (w : World). w.history) happens.1)
  one_more before tellings old new _ happens all = still before [] tellings [] old new (cc) all

  traced_from : (before : List Event) (tellings : List Told) (old new : World) (schedule : List Happening) → Run hosting outset old schedule new →
      AreTraced before tellings old.history → AreTraced (before ++ resumed_in schedule) (tellings ++ tellings_in schedule) new.history
  traced_from before tellings old new [] run all = still before [] tellings [] old new (ap (λ (w : World). w.history) run) all
  traced_from before tellings old new (e ∷ later) run all =
      rw (← append_assoc before (resumed_by e) (resumed_in later), ← append_assoc tellings (tellings_by e) (tellings_in later))
      (traced_from (before ++ resumed_by e) (tellings ++ tellings_by e) run.0 new later run.2 (one_more before tellings old run.0 e run.1 all))

pub are_audited : {H : Type 0} (hosting : Hosting H) → AreAudited hosting
are_audited hosting outset schedule last run =
    traced_from hosting outset [] [] first_world last schedule run (All-nil (λ e. Contains [] e ⊎ IsToldOf [] [] e))
