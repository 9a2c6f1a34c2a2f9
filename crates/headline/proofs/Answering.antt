-- Conversations are answers of one page.
use Rattle.std.proofs.Common.{◌≡◌, List, [], ◌∷◌, ◌++◌, refl, sym, ap, subst, ◌∙◌}
use Rattle.std.specs.Prelude.{All, map}
use Rattle.std.specs.List.{flat_map}
use Rattle.std.proofs.lemmas.List.Elements.{All-head, All-tail}
use Rattle.endpoints.specs.Answer.{answer}
use Rattle.endpoints.specs.Answered.{bytes_of, on_page}
use Rattle.endpoints.specs.Hosts.{IsHostFault, says_with}
use Rattle.endpoints.specs.Replies.{hook_change}
use Rattle.endpoints.proofs.AnswerWhole.{answered}
use Rattle.heads.specs.Message.{Message, asked_of_message}
use Rattle.headline.proofs.Names.{Hosting, Asked, AnsweredRequest, Connection, replies_of, faulty_if, is_closing_phase}
use Rattle.headline.specs.Answering.{IsAnswerTo, AreAnswersTo, SaysAnswers, AllSayAnswers}
use Rattle.headline.specs.Conversations.{Conversation, HasConversations, HasOutcome}
use Rattle.http_edge.specs.Answers.{answerer, setting_by}
use Rattle.http_edge.specs.Reached.{Journey}
use Rattle.messages.specs.declared.request.Draws.{Draws}

module _ {H : Type 0} (hosting : Hosting H) (journey : Journey H) where
  answer_to : (message : Message) (draws : Draws) (r : AnsweredRequest) → HasOutcome hosting journey.outset journey.world r →
      r.asked ≡ asked_of_message message → r.draws ≡ draws → IsAnswerTo hosting journey message draws (on_page r.outcome)
  answer_to message draws r has asked drawn = record {
    moment = has.moment;
    so_far = has.so_far;
    history = has.history;
    front = has.front;
    host = has.host;
    comes = has.comes;
    fault = r.mishap.fault;
    fault_is = subst (λ (a : Asked). IsHostFault hosting has.host (hook_change a) r.mishap.fault) asked has.answered.fault;
    no_memory = r.mishap.refused;
    answer_is =
        ap on_page has.answered.outcome_is
        ∙ sym (answered r.mishap.refused (setting_by hosting (answerer journey.outset has.history has.host has.moment) r) r.asked)
        ∙ (λ i. answer (record {
          rules = journey.outset.rules;
          history = has.history;
          host = says_with hosting has.host r.mishap.fault;
          moment = has.moment;
          draws = drawn i;
        }) (asked i) r.mishap.refused);
  }

  answers_to : (messages : List Message) (ds : List Draws) (rs : List AnsweredRequest) → map (λ r. r.asked) rs ≡ map asked_of_message messages →
      map (λ r. r.draws) rs ≡ ds → All (HasOutcome hosting journey.outset journey.world) rs → AreAnswersTo hosting journey messages ds (map (λ r. on_page r.outcome) rs)
  answers_to [] [] [] asked drawn has = tt
  answers_to (m ∷ ms) (d ∷ ds) (r ∷ rs) asked drawn has =
      let here : r.asked ≡ asked_of_message m = cc asked in
      let later : map (λ r. r.asked) rs ≡ map asked_of_message ms = cc asked in
      let draw : r.draws ≡ d = cc drawn in
      let draws : map (λ r. r.draws) rs ≡ ds = cc drawn in (
        answer_to m d r (All-head (HasOutcome hosting journey.outset journey.world) r rs has) here draw,
        answers_to ms ds rs later draws (All-tail (HasOutcome hosting journey.outset journey.world) r rs has),
      )
  answers_to [] (d ∷ ds) rs asked drawn has = absurd (unlike rs asked drawn) where
    unlike : (rs : List AnsweredRequest) → map (λ r. r.asked) rs ≡ [] → map (λ r. r.draws) rs ≡ d ∷ ds → ⊥
    unlike [] asked drawn = cc drawn
    unlike (r ∷ rs) asked drawn = cc asked
  answers_to [] [] (r ∷ rs) asked drawn has = cc asked
  answers_to (m ∷ ms) [] rs asked drawn has = absurd (unlike rs asked drawn) where
    unlike : (rs : List AnsweredRequest) → map (λ r. r.asked) rs ≡ asked_of_message m ∷ map asked_of_message ms → map (λ r. r.draws) rs ≡ [] → ⊥
    unlike [] asked drawn = cc asked
    unlike (r ∷ rs) asked drawn = cc drawn
  answers_to (m ∷ ms) (d ∷ ds) [] asked drawn has = cc asked

  bytes_same : (rs : List AnsweredRequest) → replies_of rs ≡ flat_map bytes_of (map (λ r. on_page r.outcome) rs)
  bytes_same [] = refl
  bytes_same (r ∷ rs) = ap (λ later. bytes_of (on_page r.outcome) ++ later) (bytes_same rs)

  says_answers : (connection : Connection) → Conversation hosting journey connection → SaysAnswers hosting journey connection
  says_answers connection talk = record {
    rest = talk.rest;
    reads = talk.reads;
    outcomes = map (λ r. on_page r.outcome) talk.requests;
    each = answers_to connection.messages _ talk.requests talk.asked talk.draws talk.each;
    output = talk.replies ∙ ap (λ bytes. bytes ++ faulty_if (is_closing_phase connection.phase)) (bytes_same talk.requests);
  }

  pub all_say_answers : HasConversations hosting journey → AllSayAnswers hosting journey
  all_say_answers talks c connection at = says_answers connection (talks c connection at)
