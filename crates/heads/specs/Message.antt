-- A stream of bytes as requests and a rest (RFC 9112, section 2), over the grammar of `httparse`.
use Rattle.std.specs.Prelude.{◌≡◌, ℕ, ◌≤◌, ◌⊎◌, List, [], ◌∷◌, ◌++◌, length, map, Some, codes}
use Rattle.httparse.specs.Ascii.{line_feed}
use Rattle.httparse.specs.Grammar.{RequestHead, print_request, IsRequestHead, ReadsRequest, HasNoRequest, NeverHasRequest, MayBecomeRequest}
use Rattle.httparse.specs.Spans.{name_and_value, RequestExceeds}
use Rattle.messages.specs.Asked.{Asked}
use Rattle.heads.specs.Limits.{head_size_limit, field_line_limit}
use Rattle.heads.specs.Fields.{AreGoodFields, content_length, field_value}

-- the names and the values of a head's fields
abbrev pub head_fields : RequestHead → List (List ℕ × List ℕ)
head_fields head = map name_and_value head.fields

-- HTTP/1.1, within the limits, and no faulty field. A head that is not good is faulty
pub record IsGood (head : RequestHead) : Type 0 where
  pub version : head.minor ≡ 1
  pub lines : length head.fields ≤ field_line_limit
  pub size : length (print_request head) ≤ head_size_limit
  pub fields : AreGoodFields (head_fields head)

-- a request as it came
pub record Message : Type 0 where
  pub head : RequestHead
  pub body : List ℕ

-- the bytes are the message, a good head and as many bytes as its Content-Length says, and then rest
pub record BeginsWithMessage (bytes : List ℕ) (m : Message) (rest : List ℕ) : Type 0 where
  pub head : IsRequestHead m.head
  pub good : IsGood m.head
  pub body : content_length (head_fields m.head) ≡ Some (length m.body)
  pub text : bytes ≡ print_request m.head ++ (m.body ++ rest)

-- no front of the bytes is a message
abbrev pub HasNone : List ℕ → Type 0
HasNone bytes = (m : Message) (rest : List ℕ) → ¬ (BeginsWithMessage bytes m rest)

-- the stream is these messages and then rest
abbrev pub ReadsMessages : List ℕ → List Message → List ℕ → Type 0
ReadsMessages stream [] rest = stream ≡ rest
ReadsMessages stream (m ∷ ms) rest = (middle : List ℕ) × BeginsWithMessage stream m middle × ReadsMessages middle ms rest

-- the stream is these messages and then a rest of which no front is a message
pub record Messages (stream : List ℕ) (messages : List Message) (rest : List ℕ) : Type 0 where
  pub reads : ReadsMessages stream messages rest
  pub none : HasNone rest

-- no continuation of the bytes begins with a message
abbrev pub IsHopeless : List ℕ → Type 0
IsHopeless bytes = (more : List ℕ) → HasNone (bytes ++ more)

-- a whole head stands at the front, and it is faulty
pub record BeginsFaulty (bytes : List ℕ) : Type 0 where
  pub head : RequestHead
  pub after : List ℕ
  pub reads : ReadsRequest bytes head after
  pub faulty : ¬ (IsGood head)

-- no bytes can follow that make a head of these; a target is judged at its end
pub record CannotBecomeHead (bytes : List ℕ) : Type 0 where
  pub none : HasNoRequest bytes
  pub never : ¬ (MayBecomeRequest bytes)

-- a line has ended with which the bytes cannot become a head
pub record HasSpoilingLine (bytes : List ℕ) : Type 0 where
  pub before : List ℕ
  pub after : List ℕ
  pub text : bytes ≡ before ++ line_feed ∷ after
  pub spoiled : CannotBecomeHead (before ++ line_feed ∷ [])

-- as many bytes as a head may have, and no good head at their front
pub record IsHeadTooLong (bytes : List ℕ) : Type 0 where
  pub size : head_size_limit ≤ length bytes
  pub none : (head : RequestHead) (after : List ℕ) → ReadsRequest bytes head after → ¬ (IsGood head)

-- a faulty head has to be told at the latest now
abbrev pub MustTell : List ℕ → Type 0
MustTell bytes = BeginsFaulty bytes ⊎ (HasSpoilingLine bytes ⊎ IsHeadTooLong bytes)

-- more lines than a head may have, before its end came
abbrev pub HasTooManyLines : List ℕ → Type 0
HasTooManyLines bytes = RequestExceeds field_line_limit bytes

-- a faulty head may be told now: it has to be, or none can come of the bytes, or there are too many lines
abbrev pub MayTell : List ℕ → Type 0
MayTell bytes = MustTell bytes ⊎ (NeverHasRequest bytes ⊎ HasTooManyLines bytes)

-- what a message asks
abbrev pub asked_of_message : Message → Asked
asked_of_message m = record {
  method = m.head.method;
  target = m.head.target;
  body = m.body;
  authorization = field_value (codes "authorization") (head_fields m.head);
  content_type = field_value (codes "content-type") (head_fields m.head);
  owner_key = field_value (codes "x-owner-key") (head_fields m.head);
  operator_key = field_value (codes "x-operator-key") (head_fields m.head);
}
