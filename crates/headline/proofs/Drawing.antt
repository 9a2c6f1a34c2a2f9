-- The digests of codes and tokens are those of draws.
use Rattle.std.proofs.Common.{arith, ◌≡◌, inl, inr, ℕ, List, [], ◌∷◌, ◌++◌, Bool, true, false, map, append_assoc, append-nil, refl, sym, ap, ◌∙◌, subst}
use Rattle.headline.proofs.Names.{flat_map, map-append, sha256, RegistryRecord, event_at, grants, with_changes, grants-append, Hosting, Outcome, says_with, Outset, AnsweredRequest, AreAnswered}
use Rattle.headline.proofs.Names.{IsOutcomeOfRequest, changes_made, AnsweredPiece, Happening, Came, Taken, Resumed, Happens, PieceComes, Run, World, first_world, Occasion}
use Rattle.headline.proofs.Names.{outcome_of, setting_on, if◌then◌else◌, Authorize, IssueToken}
use Rattle.std.specs.List.{range_with_len}
use Rattle.std.specs.Prelude.{length}
use Rattle.consent.specs.History.{Event}
use Rattle.consent.specs.LeavingLaws.{grants-withdrawn, withdrawn}
use Rattle.messages.specs.declared.request.Draws.{Draws}
use Rattle.http_edge.specs.Answers.{answerer}
use Rattle.headline.specs.Drawn.{AreAmong, AreDrawn, digests_by, digests_for, digests_in}
use Rattle.http_edge.specs.Sources.{wants_draws}
use Rattle.endpoints.proofs.Ways.{IsAt, Way, ByToken, Coded, Leaves, Refused, Wanting, outcome_by}
use Rattle.headline.proofs.Ways.{IsSentTo, at_each_sent, path_is}

-- the digests of two draws
abbrev digests_of : Draws → List (List ℕ)
digests_of draws = sha256 draws.first ∷ sha256 draws.second ∷ []

-- those of all codes and tokens that were given
abbrev digests_given : List Event → List (List ℕ)
digests_given history = map (λ g. g.digest) (grants history)

-- AMONG OTHERS

among_later : (xs ys zs : List (List ℕ)) → AreAmong xs zs → AreAmong xs (ys ++ zs)
among_later [] ys zs a = tt
among_later (x ∷ xs) [] zs a = a
among_later (x ∷ xs) (y ∷ ys) zs a = inr (among_later (x ∷ xs) ys zs a)

among_both : (xs ys zs us : List (List ℕ)) → AreAmong xs zs → AreAmong ys us → AreAmong (xs ++ ys) (zs ++ us)
among_both [] ys zs us a b = among_later ys zs us b
among_both (x ∷ xs) ys [] us a b = absurd a
among_both (x ∷ xs) ys (z ∷ zs) us (inl here) b = inl (here.0, among_both xs ys zs us here.1 b)
among_both (x ∷ xs) ys (z ∷ zs) us (inr there) b = inr (among_both (x ∷ xs) ys zs us there b)

among_more : (xs ys zs : List (List ℕ)) → AreAmong xs ys → AreAmong xs (ys ++ zs)
among_more xs ys zs a = subst (λ l. AreAmong l (ys ++ zs)) (append-nil xs) (among_both xs [] ys zs a tt)

among_self : (xs : List (List ℕ)) → AreAmong xs xs
among_self [] = tt
among_self (x ∷ xs) = inl (refl, among_self xs)

-- ONE REQUEST

given_append : (history more : List Event) → digests_given (history ++ more) ≡ digests_given history ++ digests_given more
given_append history more = ap (map (λ g. g.digest)) (grants-append history more) ∙ map-append (λ g. g.digest) (grants history) (grants more)

-- what is among those of the draws is among those of a request that wants them
where_wanted : (wants : Bool) (xs : List (List ℕ)) (draws : Draws) → wants ≡ true → AreAmong xs (digests_of draws) →
    AreAmong xs (if wants then digests_of draws else [])
where_wanted true xs draws is a = a
where_wanted false xs draws is a = absurd (cc)

-- codes are given and tokens are issued where draws are wanted
wants_code : (occasion : Occasion) → IsSentTo occasion Authorize → wants_draws occasion.arrival.asked ≡ true
wants_code occasion sent = let path = path_is occasion Authorize sent in let method = sent.1 in grind (arith, path, method)

wants_tokens : (occasion : Occasion) → IsSentTo occasion IssueToken → wants_draws occasion.arrival.asked ≡ true
wants_tokens occasion sent = let path = path_is occasion IssueToken sent in let method = sent.1 in grind (arith, path, method)

module _ (rules : RegistryRecord) (history : List Event) (occasion : Occasion) (m : ℕ) where
  abbrev Given : Outcome → List (List ℕ) → Type 0
  Given o digests = AreAmong (digests_given (map (event_at m) o.changes)) digests

  abbrev P : Outcome → Type 0
  P o = Given o (if wants_draws occasion.arrival.asked then digests_of occasion.arrival.draws else [])

  abbrev given_by : (way : Way (setting_on rules history occasion) occasion.arrival.asked) → List (List ℕ)
  given_by way = digests_given (map (event_at m) (outcome_by way).changes)

  -- who leaves is given nothing
  none_given : (owner : ℕ) (clients : List ℕ) → digests_given (map (event_at m) (withdrawn owner clients)) ≡ []
  none_given owner clients = ap (map (λ g. g.digest)) (grants-withdrawn [] m owner clients)

  nothing_given : (owner : ℕ) (digests : List (List ℕ)) →
      AreAmong (digests_given (map (event_at m) (withdrawn owner (range_with_len 1 (length rules.clients))))) digests
  nothing_given owner digests = subst (λ ds. AreAmong ds digests) (sym (none_given owner (range_with_len 1 (length rules.clients)))) tt

  by_draws : (way : Way (setting_on rules history occasion) occasion.arrival.asked) → Given (outcome_by way) (digests_of occasion.arrival.draws)
  by_draws (ByToken Wanting) = tt
  by_draws (Leaves owner params form named operator) = nothing_given owner (digests_of occasion.arrival.draws)
  by_draws _ = grind arith

  by_way : (way : Way (setting_on rules history occasion) occasion.arrival.asked) → IsAt (IsSentTo occasion) way → P (outcome_by way)
  by_way (ByToken Wanting) here = tt
  by_way (ByToken (Refused error)) here = tt
  by_way (ByToken way) here =
      where_wanted (wants_draws occasion.arrival.asked) (given_by (ByToken way)) occasion.arrival.draws (wants_tokens occasion here) (by_draws (ByToken way))
  by_way (Coded x code family new key of) here =
      where_wanted (wants_draws occasion.arrival.asked) (given_by (Coded x code family new key of)) occasion.arrival.draws (wants_code occasion here)
      (by_draws (Coded x code family new key of))
  by_way (Leaves owner params form named operator) here =
      nothing_given owner (if wants_draws occasion.arrival.asked then digests_of occasion.arrival.draws else [])
  by_way _ here = tt

  drawn_once : P (outcome_of rules history occasion)
  drawn_once = at_each_sent P rules history occasion by_way

-- SCHEDULES

module _ {H : Type 0} (hosting : Hosting H) (outset : Outset H) where
  of_request : (m : ℕ) (history : List Event) (host after : H) (request : AnsweredRequest) → IsOutcomeOfRequest hosting (answerer outset history host m) request after →
      AreAmong (digests_given (map (event_at m) request.outcome.changes)) (digests_for request)
  of_request m history host after request is =
      let occasion : Occasion = record {
        arrival = record { asked = request.asked; moment = m; draws = request.draws };
        host = says_with hosting host request.mishap.fault;
        refused = request.mishap.refused;
      } in
      rw is.outcome_is (drawn_once outset.rules history occasion m)

  of_requests : (m : ℕ) (history : List Event) (host after : H) (requests : List AnsweredRequest) → AreAnswered hosting (answerer outset history host m) requests after →
      AreAmong (digests_given (map (event_at m) (changes_made requests))) (flat_map digests_for requests)
  of_requests m history host after [] answered = tt
  of_requests m history host after (r ∷ requests) answered =
      subst (λ ds. AreAmong ds (digests_for r ++ flat_map digests_for requests))
      (sym (ap digests_given (map-append (event_at m) r.outcome.changes (changes_made requests))
      ∙ given_append (map (event_at m) r.outcome.changes) (map (event_at m) (changes_made requests))))
      (among_both (digests_given (map (event_at m) r.outcome.changes)) (digests_given (map (event_at m) (changes_made requests)))
      (digests_for r) (flat_map digests_for requests)
      (of_request m history host answered.0 r answered.1)
      (of_requests m (with_changes history m r.outcome.changes) answered.0 after requests answered.2))

  of_piece : (old new : World) (came : AnsweredPiece) (comes : PieceComes hosting outset old came new) → (before : List (List ℕ)) →
      AreAmong (digests_given old.history) before → AreAmong (digests_given new.history) (before ++ flat_map digests_for comes.requests)
  of_piece old new came comes before a =
      let more = map (event_at new.greatest) (changes_made comes.requests) in
      subst (λ ds. AreAmong ds (before ++ flat_map digests_for comes.requests)) (sym (ap digests_given comes.history ∙ given_append old.history more))
      (among_both (digests_given old.history) (digests_given more) before (flat_map digests_for comes.requests) a
      (of_requests new.greatest old.history comes.host comes.after comes.requests comes.answered))

  -- what happens without requests
  still : (old new : World) (before more : List (List ℕ)) → new.history ≡ old.history → AreAmong (digests_given old.history) before →
      AreAmong (digests_given new.history) (before ++ more)
  still old new before more same a =
      among_more (digests_given new.history) before more (subst (λ h. AreAmong (digests_given h) before) (sym same) a)

  one_more : (old new : World) (e : Happening) (happens : Happens hosting outset old e new) → (before : List (List ℕ)) →
      AreAmong (digests_given old.history) before → AreAmong (digests_given new.history) (before ++ digests_by hosting outset old e new happens)
  one_more old new (Came came) (fits, inl comes) before a = of_piece old new came comes before a
  one_more old new (Came came) (fits, inr passes) before a = still old new before [] (ap (λ (w : World). w.history) passes.same) a
  one_more old new (Taken c n) (inl takes) before a = still old new before [] takes.still.history a
  one_more old new (Taken c n) (inr nothing) before a = still old new before [] (ap (λ (w : World). w.history) nothing.same) a
  one_more old new (Resumed history greatest kept) happens before a =
      among_later (digests_given new.history) before (digests_given history)
      (subst (λ h. AreAmong (digests_given h) (digests_given history)) (sym (ap (λ (w : World). w.history) happens.1)) (among_self (digests_given history)))
  one_more old new _ happens before a = still old new before [] (cc) a

  drawn_from : (old new : World) (schedule : List Happening) (run : Run hosting outset old schedule new) → (before : List (List ℕ)) →
      AreAmong (digests_given old.history) before → AreAmong (digests_given new.history) (before ++ digests_in hosting outset old schedule new run)
  drawn_from old new [] run before a = still old new before [] (ap (λ (w : World). w.history) run) a
  drawn_from old new (e ∷ later) run before a =
      subst (λ ds. AreAmong (digests_given new.history) ds) (append_assoc before (digests_by hosting outset old e run.0 run.1) (digests_in hosting outset run.0 later new run.2))
      (drawn_from run.0 new later run.2 (before ++ digests_by hosting outset old e run.0 run.1) (one_more old run.0 e run.1 before a))

pub are_drawn : {H : Type 0} (hosting : Hosting H) → AreDrawn hosting
are_drawn hosting outset schedule last run = drawn_from hosting outset first_world last schedule run [] tt
