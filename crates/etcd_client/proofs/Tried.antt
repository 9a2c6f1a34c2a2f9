-- How often a request was sent, and who is next.
use Rattle.std.proofs.Common.{◌≡◌, ◌∙◌, inl, inr, ℕ, List, ◌∷◌, refl, sym, ap, subst, length, true, false}
use Rattle.std.specs.Prelude.{Option, None, Some, Result, Ok, Err, IfErr, String, is_some, option_map, string_bytes}
use Rattle.std.specs.Global.{Global, Vec}
use Rattle.etcd_json.specs.Outcomes.{ReadsAs}
use Rattle.etcd_json.specs.Replies.{login_told}
use Rattle.etcd_json.specs.Requests.{login_text}
use Rattle.etcd_json.specs.declared.reply.ReplyFault.{ReplyFault}
use Rattle.etcd_json.specs.declared.reply.ReplyFault.TheVariants as reply
use Rattle.http_call.specs.declared.call.Response.{Response}
use Rattle.etcd_client.specs.Heard.{IsHeardOf}
use Rattle.etcd_client.specs.Sendings.{attempted}
use Rattle.etcd_client.specs.Told.{IsRefusedRight, unread_by}
use Rattle.etcd_client.specs.Tries.{Asker, AsksKnown, AsksOnce, AsksToken, Came, HasNoToken, HasToken, IsNext, IsNoToken, IsSent, LacksToken, LogsIn, Try, User, asker, came_as, code_in, limit_of, login_path, next_of, sent_by, try_by, turned, unknown}
use Rattle.etcd_client.specs.declared.asking.Access.{Access}
use Rattle.etcd_client.specs.declared.asking.Heard.{Heard}
use Rattle.etcd_client.specs.declared.asking.Heard.TheVariants as heard
use Rattle.etcd_client.specs.declared.call_log.Attempt.{Attempt}
use Rattle.etcd_client.specs.declared.members.AskFault.{AskFault}
use Rattle.etcd_client.specs.declared.members.AskFault.TheVariants.{Memory, Refused, Unclear}

-- SENT ONCE

-- by whom it was sent
pub tried_by : (by : Asker) (token : Option (List ℕ)) (attempt : Attempt) (came : Option Came) → attempt.member ≡ by.at → token ≡ by.token
    → attempt.limit ≡ limit_of (length attempt.body.now) → attempted token attempt came ≡ try_by by attempt.path.now attempt.body.now came
tried_by by token attempt came at known within =
    let sent : Try = attempted token attempt came in
    ap (λ (n : ℕ). record sent { member = n }) at
    ∙ ap (λ (t : Option (List ℕ)). record sent { member = by.at; token = t }) known
    ∙ ap (λ (l : ℕ). record sent { member = by.at; token = by.token; limit = l }) within

-- the same one, if all is the same
pub same_asker : (access access' : Access) (at at' : ℕ) (token token' : Option (String Global)) (tries tries' : List Try) → access' ≡ access → at' ≡ at
    → token' ≡ token → tries' ≡ tries → asker access' at' token' tries' ≡ asker access at token tries
same_asker access access' at at' token token' tries tries' same place known long =
    ap (λ (a : Access). asker a at' token' tries') same ∙ ap (λ (n : ℕ). asker access n token' tries') place
    ∙ ap (λ (t : Option (String Global)). asker access at t tries') known ∙ ap (λ (l : List Try). asker access at token l) long

pub with_tries : (access : Access) (at : ℕ) (token : Option (String Global)) (before after : List Try) (path body : List ℕ) (came : Option Came)
    → after ≡ try_by (asker access at token before) path body came ∷ before → asker access at token after ≡ sent_by path body came (asker access at token before)
with_tries access at token before after path body came is = ap (λ (tries : List Try). asker access at token tries) is

pub sent_once : (access access' : Access) (at at' : ℕ) (token token' : Option (String Global)) (before after : List Try) (path body : List ℕ) (came : Option Came)
    → access' ≡ access → at' ≡ at → token' ≡ token → after ≡ try_by (asker access at token before) path body came ∷ before
    → asker access' at' token' after ≡ sent_by path body came (asker access at token before)
sent_once access access' at at' token token' before after path body came same place known is =
    same_asker access access' at at' token token' after after same place known refl ∙ with_tries access at token before after path body came is

-- WHO IS NEXT

pub next_turned : (access : Access) (at at' : ℕ) (token : Option (String Global)) (tries : List Try) (count : ℕ) → count ≡ (asker access at token tries).count
    → at' ≡ next_of count at → asker access at' token tries ≡ turned (asker access at token tries)
next_turned access at at' token tries count as_many is =
    ap (λ (n : ℕ). asker access n token tries) (is ∙ ap (λ (n : ℕ). next_of n at) as_many)

no_response : (response : Response) → ◌≡◌ {A = Result Response AskFault} (Ok response) (Err Unclear) → ⊥
no_response response is = cc

no_code : (code : ℕ) → ◌≡◌ {A = Option ℕ} None (Some code) → ⊥
no_code code is = cc

module _ (response : Response) (old new : Asker) where
  abbrev came : Option Came
  came = Some (came_as response.status response.body.items)

  pub hears_done : (h : Heard) (text : Vec ℕ) → IsHeardOf response h → h ≡ heard.Done text → new ≡ old → IsNext came (Ok text) old new
  hears_done h text told is same =
      let of = subst (λ (x : Heard). IsHeardOf response x) is told in
      (ap (λ (n : ℕ). Some (came_as n response.body.items)) of.0 ∙ ap (λ (b : List ℕ). Some (came_as 200 b)) (sym of.1), same)

  pub hears_refused : (h : Heard) (code : ℕ) → IsHeardOf response h → h ≡ heard.Refused code → new ≡ old → IsNext came (Err (Refused code)) old new
  hears_refused h code told is same =
      let of = subst (λ (x : Heard). IsHeardOf response x) is told in
      (of.1, of.2, same)

  pub hears_forgotten : (h : Heard) → IsHeardOf response h → h ≡ heard.Forgotten → new ≡ unknown old → IsNext came (Err Unclear) old new
  hears_forgotten h told is same =
      let of = subst (λ (x : Heard). IsHeardOf response x) is told in
      inr (of.1, same)

  pub hears_unclear : (h : Heard) → IsHeardOf response h → h ≡ heard.Unclear → new ≡ turned old → IsNext came (Err Unclear) old new
  hears_unclear h told is same =
      let of = subst (λ (x : Heard). IsHeardOf response x) is told in
      inl (of.1, same)

-- what is asked over a connection, and then heard
module _ (path body : List ℕ) (old mid new : Asker) where
  pub asks_heard : (response : Response) (result : Result (Vec ℕ) AskFault) → IsSent path body (Ok response) old mid
      → IsNext (Some (came_as response.status response.body.items)) result mid new → AsksOnce path body result old new
  asks_heard response result (inr none) next = absurd (no_response response none.0)
  asks_heard response result (inl sent) next =
      let from = subst (λ (a : Asker). IsNext (Some (came_as response.status response.body.items)) result a new) sent.1 next in
      inl (sent.0, subst (λ (c : Option Came). IsNext c result (sent_by path body sent.0 old) new) (sym sent.2) from)

  -- where nothing came
  pub asks_lost : (fault : AskFault) → IsSent path body (Err fault) old mid → new ≡ turned mid → AsksOnce path body (Err Unclear) old new
  asks_lost fault (inl sent) is =
      inl (sent.0, inl ((λ code. no_code 16 (sym (ap code_in sent.2) ∙ code)), is ∙ ap (λ (a : Asker). turned a) sent.1))
  asks_lost fault (inr none) is = inr (refl, is ∙ ap (λ (a : Asker). turned a) none.1)

-- it is refused only for a code that says so
pub once_right : (path body : List ℕ) (old new : Asker) (fault : AskFault) → AsksOnce path body (Err fault) old new → IsRefusedRight fault
once_right path body old new Unclear asks = tt
once_right path body old new Memory asks = tt
once_right path body old new (Refused code) (inl sent) = (sent.1).1
once_right path body old new (Refused code) (inr none) = let no = none.0 in absurd cc

-- A TOKEN IS AT HAND

pub some_token : (token : Option (String Global)) → is_some token ≡ true → (text : List ℕ) × (option_map string_bytes token ≡ Some text)
some_token None is = absurd cc
some_token (Some token) is = (string_bytes token, refl)

pub no_token : (token : Option (String Global)) → is_some token ≡ false → option_map string_bytes token ≡ None
no_token None is = refl
no_token (Some token) is = absurd cc

-- a token is asked for with the user's words
pub with_words : (user : User) (body : List ℕ) (result : Result (Unit {0}) AskFault) (old new : Asker) → LacksToken user old
    → body ≡ login_text user.name user.password → AsksToken body result old new → LogsIn result old new
with_words user body (Ok done) old new lacks words asks = inr (user, lacks, subst (λ (b : List ℕ). HasToken b old new) words asks)
with_words user body (Err fault) old new lacks words asks = inr (user, lacks, subst (λ (b : List ℕ). HasNoToken b fault old new) words asks)

no_refusal : {P : Type 0} (code : ℕ) (text : Vec ℕ) → IsNoToken text (Refused code) → P
no_refusal code text (inl strange) = let no = strange.0 in absurd cc
no_refusal code text (inr memory) = absurd cc

-- a reply in which there is none
pub no_token_in : (text : Vec ℕ) (unread : ReplyFault) (read : Option (List ℕ)) → login_told text.items ≡ read → ReadsAs {A = String Global} string_bytes (Err unread) read
    → IsNoToken text (unread_by unread)
no_token_in text reply.Memory read is none = inr refl
no_token_in text reply.Strange read is none = inl (refl, is ∙ none)

module _ (old new : Asker) where
  not_right : (body : List ℕ) (fault : AskFault) → HasNoToken body fault old new → IsRefusedRight fault
  not_right body Unclear not = tt
  not_right body Memory not = tt
  not_right body (Refused code) (inl asks) = once_right login_path body old new (Refused code) asks
  not_right body (Refused code) (inr strange) = no_refusal code strange.0 strange.2

  logs_right : (fault : AskFault) → LogsIn (Err fault) old new → IsRefusedRight fault
  logs_right fault (inl none) = subst (λ (f : AskFault). IsRefusedRight f) (sym none.0) tt
  logs_right fault (inr asks) = not_right (login_text (asks.0).name (asks.0).password) fault asks.2

  same_right : (fault other : AskFault) → ◌≡◌ {A = Result (Vec ℕ) AskFault} (Err fault) (Err other) → IsRefusedRight other → IsRefusedRight fault
  same_right fault other is right = let same : other ≡ fault = cc in subst (λ (f : AskFault). IsRefusedRight f) same right

  pub known_right : (path body : List ℕ) (fault : AskFault) → AsksKnown path body (Err fault) old new → IsRefusedRight fault
  known_right path body fault (inl it) = once_right path body it.0 new fault (it.1).1
  known_right path body fault (inr it) = same_right fault it.0 (it.1).0 (logs_right it.0 (it.1).1)

pub right_of : (path body : List ℕ) (result : Result (Vec ℕ) AskFault) (old new : Asker) → AsksKnown path body result old new → IfErr result IsRefusedRight
right_of path body (Ok text) old new asks = tt
right_of path body (Err fault) old new asks = known_right old new path body fault asks
