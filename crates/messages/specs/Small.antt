-- How long a reply may be.
use Rattle.std.specs.Prelude.{◌≤◌, ◌<◌, ◌^◌, ◌+◌, ◌==◌, ◌||◌, ◌≡◌, ℕ, List, [], ◌∷◌, Option, Some, None, Bool, true, decimal, length, unwrap_or}
use Rattle.messages.specs.Reply.{Redirection, Body, Reply}
use Rattle.messages.specs.Reply.Body.{Empty, Failure, Tokens, Active, Inactive, Told}
use Rattle.messages.specs.Members.{Member}
use Rattle.messages.specs.Members.Member.{Text, Number, Texts}

-- each reply has fewer bytes
abbrev pub reply_limit : ℕ
reply_limit = 32768

-- the statuses that replies have
abbrev pub is_reply_status : ℕ → Bool
is_reply_status status =
    status == 200 || status == 302 || status == 400 || status == 401 || status == 403 || status == 404 || status == 405 || status == 503

-- the bytes of all names and values
abbrev pub pairs_size : List (List ℕ × List ℕ) → ℕ
pairs_size [] = 0
pairs_size ((name, value) ∷ pairs) = length name + length value + pairs_size pairs

-- of a redirection: a form takes three bytes at most for one
pub record IsSmallRedirection (r : Redirection) : Type 0 where
  pub uri : length r.uri ≤ 2048
  pub few : length r.pairs ≤ 2
  pub texts : pairs_size r.pairs ≤ 8400

-- the bytes of all texts, with one for each
abbrev pub texts_size : List (List ℕ) → ℕ
texts_size [] = 0
texts_size (text ∷ texts) = length text + 1 + texts_size texts

-- the bytes of all names and values
abbrev pub member_size : Member → ℕ
member_size (Text name text) = length name + 1 + length text
member_size (Number name n) = length name + 1 + length (decimal n)
member_size (Texts name texts) = length name + 1 + texts_size texts

abbrev pub members_size : List Member → ℕ
members_size [] = 0
members_size (m ∷ ms) = member_size m + members_size ms

-- of texts: JSON takes six bytes at most for one
abbrev pub IsSmallBody : Body → Type 0
IsSmallBody Empty = Unit {0}
IsSmallBody (Failure error) = Unit {0}
IsSmallBody (Tokens access life refresh scope) =
    (length access ≤ 64) × (life < 2 ^ 64) × (length (unwrap_or refresh []) ≤ 64) × (length scope ≤ 2111)
IsSmallBody (Active client expires issued scope sub kind) =
    (length client ≤ 64) × (expires < 2 ^ 64) × (issued < 2 ^ 64) × (length scope ≤ 2111) × (length (unwrap_or sub []) ≤ 128)
IsSmallBody Inactive = Unit {0}
IsSmallBody (Told members) = members_size members ≤ 2500

-- a reply says where to go or has a body, and what it says is short
abbrev pub IsSmallContent : Option Redirection → Body → Type 0
IsSmallContent None body = IsSmallBody body
IsSmallContent (Some r) body = IsSmallRedirection r × (body ≡ Empty)

pub record IsSmallReply (reply : Reply) : Type 0 where
  pub status : is_reply_status reply.status ≡ true
  pub short : IsSmallContent reply.location reply.body
