-- A request, part after part.
use Rattle.std.proofs.Common.{◌≡◌, ◌++◌, ◌∙◌, ℕ, List, [], ◌∷◌, length, append_assoc, sym, ap, codes, Bor}
use Rattle.std.specs.Prelude.{Option, None, Some}
use Rattle.http1.specs.Client.{after_end, after_request, planned_request, with_writing, writing}
use Rattle.http1.specs.Conn.{after_data, data_text, finish_text}
use Rattle.http1.specs.Fields.{Header}
use Rattle.http1.specs.declared.client.Client.{Client}
use Rattle.http1.specs.declared.conn.BodySize.TheVariants.{Known}
use Rattle.http_call.specs.Sent.{asked, head_text, lines, proof_line, spelled, with_body, with_head}
use Rattle.http_call.specs.declared.call.Request.{Request}

module _ (client : Client) (request : Request) (one two : Client) (first : one ≡ with_head client request)
    (second : two ≡ with_writing one (after_data (writing one) (length request.body.now))) where
  two_is : two ≡ with_body client request
  two_is = second ∙ ap (λ (c : Client). with_writing c (after_data (writing c) (length request.body.now))) first

  pub all_spelled : (none head body whole : List ℕ) → none ≡ [] → head ≡ none ++ head_text client request → body ≡ head ++ data_text (writing one) request.body.now
      → whole ≡ body ++ finish_text (writing two) [] → whole ≡ spelled client request
  all_spelled none head body whole none_is head_is body_is whole_is =
      let front : head ≡ head_text client request = head_is ∙ ap (λ (l : List ℕ). l ++ head_text client request) none_is in
      let both : body ≡ head_text client request ++ data_text (writing (with_head client request)) request.body.now =
      body_is ∙ ap (λ (l : List ℕ). l ++ data_text (writing one) request.body.now) front
      ∙ ap (λ (c : Client). head_text client request ++ data_text (writing c) request.body.now) first in
      whole_is ∙ ap (λ (l : List ℕ). l ++ finish_text (writing two) []) both
      ∙ ap (λ (c : Client). (head_text client request ++ data_text (writing (with_head client request)) request.body.now) ++ finish_text (writing c) []) two_is
      ∙ append_assoc (head_text client request) (data_text (writing (with_head client request)) request.body.now) (finish_text (writing (with_body client request)) [])

  pub is_asked : (last : Client) → last ≡ after_end two → last ≡ asked client request
  is_asked last is = is ∙ ap (λ (c : Client). after_end c) two_is

-- THE HEAD

abbrev kind : Header
kind = (codes "Content-Type", codes "application/json")

pub lines_none : (request : Request) (host : List ℕ) → host ≡ request.host.now → request.token ≡ None → (codes "Host", host) ∷ kind ∷ [] ≡ lines request
lines_none request host host_is is =
    ap (λ (h : List ℕ). (codes "Host", h) ∷ kind ∷ []) host_is
    ∙ ap (λ (t : Option (Bor (List ℕ))). (codes "Host", request.host.now) ∷ kind ∷ proof_line t) (sym is)

pub lines_some : (request : Request) (host token : List ℕ) (given : Bor (List ℕ)) → host ≡ request.host.now → token ≡ given.now → request.token ≡ Some given
    → (codes "Host", host) ∷ kind ∷ (codes "Authorization", token) ∷ [] ≡ lines request
lines_some request host token given host_is token_is is =
    ap (λ (h : List ℕ). (codes "Host", h) ∷ kind ∷ (codes "Authorization", token) ∷ []) host_is
    ∙ ap (λ (t : List ℕ). (codes "Host", request.host.now) ∷ kind ∷ (codes "Authorization", t) ∷ []) token_is
    ∙ ap (λ (t : Option (Bor (List ℕ))). (codes "Host", request.host.now) ∷ kind ∷ proof_line t) (sym is)

module _ (client : Client) (request : Request) (path : List ℕ) (headers : List Header) (path_is : path ≡ request.path.now) (headers_is : headers ≡ lines request) where
  pub head_is : (old new : List ℕ) → new ≡ old ++ planned_request client (codes "POST") path (Known (length request.body.now)) headers → new ≡ old ++ head_text client request
  head_is old new is =
      is
      ∙ ap (λ (p : List ℕ). old ++ planned_request client (codes "POST") p (Known (length request.body.now)) headers) path_is
      ∙ ap (λ (hs : List Header). old ++ planned_request client (codes "POST") request.path.now (Known (length request.body.now)) hs) headers_is

  pub headed : (new : Client) → new ≡ after_request client (codes "POST") (Known (length request.body.now)) headers → new ≡ with_head client request
  headed new is = is ∙ ap (λ (hs : List Header). after_request client (codes "POST") (Known (length request.body.now)) hs) headers_is
