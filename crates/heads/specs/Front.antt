-- What is read at the front of the bytes.
use Rattle.std.specs.Prelude.{◌≡◌, ◌≤◌, ◌<◌, ℕ, List, length, drop, slice_range, codes}
use Rattle.httparse.specs.Spans.{span_bytes, IsWithin}
use Rattle.heads.specs.Fields.{field_value}
use Rattle.heads.specs.Places.{bytes_at_place, IsOptionWithin}
use Rattle.heads.specs.Message.{Message, BeginsWithMessage, IsHopeless, MayTell, head_fields}
use Rattle.heads.specs.Waiting.{Wants}
use Rattle.heads.specs.declared.front.Found.{Found}
use Rattle.heads.specs.declared.front.Front.{Front}
use Rattle.heads.specs.declared.front.Front.TheVariants.{Whole, More, Faulty}

-- the places lie in the bytes
pub record IsFoundWithin (bytes : List ℕ) (found : Found) : Type 0 where
  pub method : IsWithin (length bytes) found.head.method
  pub target : IsWithin (length bytes) found.head.path
  pub authorization : IsOptionWithin (length bytes) found.fields.authorization
  pub content_type : IsOptionWithin (length bytes) found.fields.content_type
  pub owner_key : IsOptionWithin (length bytes) found.fields.owner_key
  pub operator_key : IsOptionWithin (length bytes) found.fields.operator_key
  pub body : found.head.len ≤ found.end
  pub end : found.end ≤ length bytes
  pub some : 0 < found.end

-- the bytes begin with the message, and its parts lie at these places
pub record IsWholeAt (bytes : List ℕ) (found : Found) (m : Message) : Type 0 where
  pub begins : BeginsWithMessage bytes m (drop found.end bytes)
  pub method : span_bytes bytes found.head.method ≡ m.head.method
  pub target : span_bytes bytes found.head.path ≡ m.head.target
  pub body : slice_range bytes found.head.len found.end ≡ m.body
  pub authorization : bytes_at_place bytes found.fields.authorization ≡ field_value (codes "authorization") (head_fields m.head)
  pub content_type : bytes_at_place bytes found.fields.content_type ≡ field_value (codes "content-type") (head_fields m.head)
  pub owner_key : bytes_at_place bytes found.fields.owner_key ≡ field_value (codes "x-owner-key") (head_fields m.head)
  pub operator_key : bytes_at_place bytes found.fields.operator_key ≡ field_value (codes "x-operator-key") (head_fields m.head)

-- a whole message; or more bytes are wanted; or none can help
abbrev pub IsFront : List ℕ → Front → Type 0
IsFront bytes (Whole found) = IsFoundWithin bytes found × ((m : Message) × IsWholeAt bytes found m)
IsFront bytes (More waits) = Wants bytes waits
IsFront bytes Faulty = IsHopeless bytes × MayTell bytes
