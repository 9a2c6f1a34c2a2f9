-- What stays where somebody asks for a reload.
use Rattle.std.proofs.Common.{◌≡◌, ◌∙◌, Bool, true, false, List, ℕ, Option, None, Some, ap, drop, inl, inr, map, refl, subst, sym, take}
use Rattle.std.proofs.lemmas.Bool.{false≢true}
use Rattle.std.specs.Option.{option_map_or}
use Rattle.std.specs.Char.{to_ascii_lowercase}
use Rattle.std.specs.Prelude.{◌&&◌, ◌||◌, IfSome, bytes_eq, codes, option_map}
use Rattle.clients.specs.Registry.{is_key_of}
use Rattle.heads.specs.Message.{asked_of_message}
use Rattle.desk.specs.Judging.{IsJudged, bears_key, has_operator_key}
use Rattle.desk.specs.declared.judging.Judged.{Judged}
use Rattle.desk.specs.declared.judging.Judged.TheVariants.{Asks, AsksMetrics}
use Rattle.daemon.specs.Reloading.{AreHeirs, IsAsked, IsSent, KeepsServing, KeepsWanted, Replies, begins, no_key, no_state, not_begun, not_now, untold_of}
use Rattle.daemon.specs.Scraping.{IsScraped, MayBeScraped}
use Rattle.daemon.specs.declared.reloads.Reloads.{Reloads}

-- what is told to be the operator's key was sent
of_field : (key : List ℕ) (field : Option (List ℕ)) → option_map_or (λ text. is_key_of text key) field false ≡ true → IsSent key
of_field key (Some text) is = (text, is)
of_field key None is = absurd (false≢true is)

second_holds : (a b : Bool) → (a && b) ≡ true → b ≡ true
second_holds true b is = is
second_holds false b is = absurd (false≢true is)

-- also behind `Bearer`
of_header : (key : List ℕ) (header : Option (List ℕ)) → option_map_or (bears_key key) header false ≡ true → IsSent key
of_header key (Some header) is =
    (drop 7 header, second_holds (bytes_eq (map to_ascii_lowercase (take 7 header)) (codes "bearer ")) (is_key_of (drop 7 header) key) is)
of_header key None is = absurd (false≢true is)

of_either : (key : List ℕ) (own : Bool) (header : Option (List ℕ)) → (own ≡ true → IsSent key) → (own || option_map_or (bears_key key) header false) ≡ true → IsSent key
of_either key true header sent is = sent refl
of_either key false header sent is = of_header key header is

sent_of : (bytes key : List ℕ) (with_key : Bool) → IsJudged bytes key (Asks with_key) → with_key ≡ true → IsSent key
sent_of bytes key with_key asks is = of_field key (asked_of_message asks.0.message).operator_key (sym asks.1 ∙ is)

sent_for_metrics : (bytes key : List ℕ) (with_key : Bool) → IsJudged bytes key (AsksMetrics with_key) → with_key ≡ true → IsSent key
sent_for_metrics bytes key with_key asks is =
    let asked = asked_of_message asks.0.message in
    of_either key (has_operator_key asked key) asked.authorization (of_field key asked.operator_key) (sym asks.1 ∙ is)

pub sent_by : (bytes key : List ℕ) (judged : Judged) → IsJudged bytes key judged → (with_key : Bool) → judged ≡ Asks with_key → with_key ≡ true → IsSent key
sent_by bytes key judged is with_key same = sent_of bytes key with_key (subst (λ (j : Judged). IsJudged bytes key j) same is)

pub sent_too_by : (bytes key : List ℕ) (judged : Judged) → IsJudged bytes key judged → (with_key : Bool) → judged ≡ AsksMetrics with_key → with_key ≡ true → IsSent key
sent_too_by bytes key judged is with_key same = sent_for_metrics bytes key with_key (subst (λ (j : Judged). IsJudged bytes key j) same is)

module _ {R : Type 0} (old new : Reloads R) where
  by_reply : (IsSo : List ℕ → Type 0) → Replies IsSo old new → KeepsServing old new
  by_reply IsSo replies =
      record { config = ap (λ (r : Reloads R). r.config) replies.same; key = ap (λ (r : Reloads R). r.key) replies.same; text = ap (λ (r : Reloads R). r.text) replies.same }

  pub serving_of : (with_key : Bool) → IsAsked with_key old new → KeepsServing old new
  serving_of with_key (no_key key replies) = by_reply _ replies
  serving_of with_key (no_state key config replies) = by_reply _ replies
  serving_of with_key (not_now key config wanted replies) = by_reply _ replies
  serving_of with_key (not_begun key config unwanted why replies) = by_reply _ replies
  serving_of with_key (begins is) =
      record { config = ap (λ (r : Reloads R). r.config) is.same; key = ap (λ (r : Reloads R). r.key) is.same; text = ap (λ (r : Reloads R). r.text) is.same }

  unmoved : (IsSo : List ℕ → Type 0) → Replies IsSo old new → KeepsWanted old new
  unmoved IsSo replies = inl (ap (λ (r : Reloads R). option_map untold_of r.wanted) replies.same)

  pub wanted_of : (with_key : Bool) → (with_key ≡ true → IsSent old.key) → IsAsked with_key old new → KeepsWanted old new
  wanted_of with_key sent (no_key key replies) = unmoved _ replies
  wanted_of with_key sent (no_state key config replies) = unmoved _ replies
  wanted_of with_key sent (not_now key config wanted replies) = unmoved _ replies
  wanted_of with_key sent (not_begun key config unwanted why replies) = unmoved _ replies
  wanted_of with_key sent (begins is) = inr (record {
    first = is.first;
    sent = sent is.key;
    heirs = subst (λ (r : Reloads R). IfSome r.wanted (λ wanted. AreHeirs old.text.items wanted.heirs)) (sym is.same) is.heirs;
  })

  serving_answered : (with_key : Bool) (page : Option (List ℕ)) → IsScraped with_key page old new → KeepsServing old new
  serving_answered with_key page told =
      record { config = ap (λ (r : Reloads R). r.config) told.same; key = ap (λ (r : Reloads R). r.key) told.same; text = ap (λ (r : Reloads R). r.text) told.same }

  pub serving_told : (with_key : Bool) → MayBeScraped with_key old new → KeepsServing old new
  serving_told with_key (inl same) =
      record { config = ap (λ (r : Reloads R). r.config) same; key = ap (λ (r : Reloads R). r.key) same; text = ap (λ (r : Reloads R). r.text) same }
  serving_told with_key (inr told) = serving_answered with_key told.0 told.2

  pub wanted_told : (with_key : Bool) → MayBeScraped with_key old new → KeepsWanted old new
  wanted_told with_key (inl same) = inl (ap (λ (r : Reloads R). option_map untold_of r.wanted) same)
  wanted_told with_key (inr told) = inl (ap (λ (r : Reloads R). option_map untold_of r.wanted) told.2.same)
