-- What a file stands for that tells what is left of another one's list.
use Rattle.std.proofs.Common.{◌≡◌, inl, inr, ℕ, ◌-◌, zero, suc, max, List, [], ◌∷◌, true, None, Some, refl, ap, sym, subst, ◌∙◌, arith}
use Rattle.narrowing.proofs.Names.{is_some, slice_get, map, recovered, ClientFact, RulesFact, StandingFact, kept_told, FitsHistory, as_kept, KeptRecord, KeepClients, client_names}
use Rattle.narrowing.proofs.Names.{first_moved, AreTold, StandFor, StandsFor, until_of, client_told, last_rules, rules_of}
use Rattle.narrowing.proofs.Names.{tell_one, HasLeftOfEach, IsNarrower, EndsOfEach, TellLeft, under_in}
use Rattle.std.proofs.lemmas.Bool.Decides.{nat_tests}
use Rattle.clients.specs.ClientRecord.{ClientRecord}
use Rattle.clients.specs.RegistryRecord.{RegistryRecord}
use Rattle.consent.specs.History.{Event, IsHistory, greatest_family, last_moment}
use Rattle.endpoints.specs.Bounded.{AllRight}
use Rattle.hook_host.specs.declared.host.HookHost.{Ghosts as Hosting}
use Rattle.consent.specs.RecordFacts.{record_fact}
use Rattle.token_store.specs.ImageLaws.{all_same}
use Rattle.narrowing.specs.FormerLaws.{no_former}
use Rattle.narrowing.specs.Left.{KeepsClients, Under, ended_count, is_beyond_rules, left_under}
use Rattle.narrowing.specs.LeftLaws.{last_left}
use Rattle.narrowing.specs.RightLaws.{all_right-left, host_run-left}
use Rattle.narrowing.specs.StandingLaws.{greatest_still, is_left_still}
use Rattle.shortening.specs.Shortened.{shortened}
use Rattle.shortening.specs.Standing.{IsLeftOf}
use Rattle.shortening.specs.StandingLaws.{greatest-renewed, last-numbered, left-renewed}
use Rattle.token_store.specs.Kept.{Kept}
use Rattle.state_account.specs.Accounts.{IsAccountOf, IsStandingIn, TellIfAny}
use Rattle.state_file.specs.Renewing.{left_numbered}
use Rattle.state_file.specs.StandingLaws.{one_told}
use Rattle.state_file.specs.ResumingLaws.{right_now}
use Rattle.state_file.specs.Telling.{Tell}
use Rattle.state_account.specs.declared.account.Account.{Account}
use Rattle.narrowing.specs.declared.narrowed.Narrowed.{Narrowed}

-- CLIENTS

some_mapped : {X Y : Type 0} (f : X → Y) (xs : List X) (i : ℕ) → is_some (slice_get (map f xs) i) ≡ is_some (slice_get xs i)
some_mapped f [] i = refl
some_mapped f (x ∷ xs) zero = refl
some_mapped f (x ∷ xs) (suc i) = some_mapped f xs i

-- a name that stays is there
there_at : (told now : List (List ℕ)) (i : ℕ) → first_moved told now ≡ None → is_some (slice_get told i) ≡ true → is_some (slice_get now i) ≡ true
there_at (name ∷ names) (other ∷ others) zero stays is = refl
there_at (name ∷ names) (other ∷ others) (suc i) stays is = let rest : first_moved names others ≡ None = grind (arith, nat_tests, stays) in there_at names others i rest is
there_at _ _ i stays is = absurd (cc)

keeps_clients : (old new : RegistryRecord) → KeepClients (rules_of old) (rules_of new) → KeepsClients old new
keeps_clients old new keep client =
    let named : (clients : List ClientRecord) → is_some (slice_get (client_names (map client_told clients)) (client - 1)) ≡ is_some (slice_get clients (client - 1)) =
    λ clients. some_mapped (λ (c : ClientFact). c.name) (map client_told clients) (client - 1) ∙ some_mapped client_told clients (client - 1) in
    let there = there_at (client_names (map client_told old.clients)) (client_names (map client_told new.clients)) (client - 1) keep.1 in
    let was = named old.clients in
    let is = named new.clients in
    λ some. grind (arith, nat_tests, there, was, is, some)

-- what was right is right when it is narrowed
right_left : (left : List ℕ) (history : List Event) (old : RegistryRecord) (under : Under) (m : ℕ) → IsNarrower left (rules_of under.rules) → IsHistory history m →
    AllRight old [] history → TellIfAny left (rules_of old) → AllRight under.rules [] (left_under under history)
right_left left history old under m narrower is all (inl none) =
    let some : last_rules [] ≡ Some narrower.tells.0 = sym (ap last_rules none) ∙ narrower.tells.1 in absurd cc
right_left left history old under m narrower is all (inr told) =
    let same : narrower.told ≡ rules_of old = tell_one (recovered left) narrower.told (rules_of old) narrower.tells told in
    let keep : KeepClients (rules_of old) (rules_of under.rules) = subst (λ (r : RulesFact). KeepClients r (rules_of under.rules)) same narrower.less.0 in
    all_right-left old under history m (keeps_clients old under.rules keep) is all

-- LISTS

-- batches that tell what is left of a list, and its number, stand for what is left of what happened
stands_left : (under : Under) (list history : List Event) (batches : List (List ℕ)) → AreTold batches (left_numbered (left_under under list)) →
    IsLeftOf list history (last_moment 0 history) → last_moment 0 list ≡ last_moment 0 history → greatest_family list ≡ greatest_family history →
    StandFor batches (left_under under history)
stands_left under list history batches told of at number =
    let l : List Event = left_under under list in
    let h : List Event = left_under under history in
    let last : last_moment 0 l ≡ last_moment 0 history = last_left under (is_beyond_rules under list) 0 list ∙ at in
    let moment : last_moment 0 l ≡ last_moment 0 h = last ∙ sym (last_left under (is_beyond_rules under history) 0 history) in
    let left : IsLeftOf l h (last_moment 0 l) = subst (λ (m : ℕ). IsLeftOf l h m) (sym last) (is_left_still under list history (last_moment 0 history) of) in
    let same : greatest_family l ≡ greatest_family h = greatest_still under list history number in
    record {
      facts = left_numbered l;
      told = told;
      left = subst (λ (m : ℕ). IsLeftOf (left_numbered l) h m) moment (left-renewed l h (last_moment 0 l) left same);
      moment = last-numbered (shortened (last_moment 0 l) l) h (last_moment 0 l) (greatest_family l) ∙ moment;
      number = greatest-renewed l h (last_moment 0 l) left same;
    }

module _ {H : Type 0} (hosting : Hosting H) where
  -- what is counted of the records of an account ends of each history
  pub ends_of : (account : Account H) (left : List ℕ) (first : H) (under : Under) (standing : StandingFact) (records : List KeptRecord) (ended : ℕ) →
      map record_fact records ≡ standing.records → ((history : List Event) → FitsHistory (as_kept records) history standing.greatest → ended ≡ ended_count under history standing.greatest) →
      IsNarrower left (rules_of under.rules) → IsAccountOf hosting left first account → IsStandingIn hosting left first standing → EndsOfEach hosting first left under ended
  ends_of account left first under standing records ended were counts narrower of is_in history stands was run =
      let one = is_in.each history stands was run in
      let server = (of.answers history stands (right_now left history of.registry of.wider was) run).0 in
      let at : standing.greatest ≡ max (last_moment 0 history) (until_of (recovered left)) =
      is_in.moment_is stands.facts stands.told ∙ ap (λ (m : ℕ). max m (until_of (recovered left))) stands.moment in
      let before : map kept_told standing.records ≡ as_kept records = ap (map kept_told) (sym were) ∙ all_same records in
      record {
        right = right_left left history of.registry under standing.greatest narrower one.records.is_history server.right of.told;
        owners = no_former of.registry under history one.records.is_history.one_code server.right;
        host = account.restored.server.host;
        ran = host_run-left hosting under (is_beyond_rules under history) history first account.restored.server.host server.hosts;
        counted = counts history (subst (λ (ks : List Kept). FitsHistory ks history standing.greatest) before one.records) ∙ ap (ended_count under history) at;
      }

  -- a file that tells what is left stands for it
  pub has_left : (left : List ℕ) (first : H) (rules : RegistryRecord) (file : Narrowed) → EndsOfEach hosting first left (under_in left rules) file.ended →
      TellLeft (recovered left) (under_in left rules) file.frames → HasLeftOfEach hosting first left rules file
  has_left left first rules file ends tell history stands was run =
      let end = ends history stands was run in
      let same : stands.facts ≡ tell.facts = one_told (recovered left) stands.facts tell.facts stands.told tell.of in
      let of : IsLeftOf tell.facts history (last_moment 0 history) = subst (λ (fs : List Event). IsLeftOf fs history (last_moment 0 history)) same stands.left in
      let under : Under = under_in left rules in
      let new : StandFor file.frames (left_under under history) =
      stands_left under tell.facts history file.frames tell.told of (ap (last_moment 0) (sym same) ∙ stands.moment) (ap greatest_family (sym same) ∙ stands.number) in
      record {
        goes_on = λ bytes are. record {
          stands = subst (λ (bs : List (List ℕ)). StandFor bs (left_under under history)) (sym are) new;
          right = inr (rules, subst (λ (bs : List (List ℕ)). Tell bs (rules_of rules)) (sym are) tell.rules_are, end.right);
          host = end.host;
          ran = end.ran;
        };
        owners = end.owners;
        list = tell.facts;
        of = of;
        told = tell.told;
        ended = end.counted ∙ ap (λ (until : ℕ). ended_count under history (max (last_moment 0 history) until)) (sym tell.until_is);
      }
