-- What a reply has beside its status.
use Rattle.std.specs.Prelude.{ℕ, List, Option, None, Some, string_bytes}
use Rattle.messages.specs.declared.response.Content.{Content}
use Rattle.messages.specs.declared.response.Content.TheVariants.{Nothing, Location, Text}

-- where it sends the user agent
abbrev pub location_in : Content → Option (List ℕ)
location_in (Location uri) = Some (string_bytes uri)
location_in Nothing = None
location_in (Text _) = None

-- its JSON text
abbrev pub text_in : Content → Option (List ℕ)
text_in (Text text) = Some text.items
text_in Nothing = None
text_in (Location _) = None
