-- What is told of a live token (RFC 7662, section 2.2).
use Rattle.std.specs.Prelude.{option_copied}
use Rattle.messages.specs.declared.token.ActiveToken.{ActiveToken}
use Rattle.messages.specs.Reply.{Body}
use Rattle.messages.specs.Reply.Body.{Active}

-- its client, when it expires and was issued, its scope, what its owner is called, and its kind
abbrev pub live_body : ActiveToken → Body
live_body token = Active token.client.now token.expires token.issued token.scope.now (option_copied token.sub) token.kind
