-- What is asked of the host before a grant, and the tokens that are issued for it.
use Rattle.std.specs.Prelude.{ℕ, List, [], ◌∷◌}
use Rattle.token_endpoint.specs.Names.{sha256, Change, Grant, consented_scope, Spent, NewToken, Access, Ask, Narrowed, Draws, Extent, Outcome, unless_taken, access_reply, both_reply, KnownClient}
use Rattle.token_endpoint.specs.Names.{Setting}
use Rattle.consent.specs.Changes.{issued_with, token_issued}
use Rattle.consent.specs.declared.grant.TokenKind.{TokenKind}
use Rattle.consent.specs.declared.grant.TokenKind.TheVariants.{Refresh}
use Rattle.hook_record.specs.declared.Kind.{Kind}
use Rattle.hook_host.specs.Decisions.{met_with}

-- a grant of this kind to the client, by this owner and of this scope: an owner of 0 is none
abbrev pub ask_for : Setting → KnownClient → Kind → ℕ → ℕ → Ask
ask_for setting known kind owner scope = record {
  kind = kind;
  now = setting.moment;
  client = known.number;
  owner = owner;
  asked = scope;
  scope = scope;
  life = setting.rules.access_life;
  allowed = known.client.allowed;
  consented = consented_scope setting.history owner known.number;
  access_limit = setting.rules.access_life;
  refresh_limit = setting.rules.refresh_life;
}

-- what the host's answer leaves of an ask
abbrev pub left_by_host : Setting → Ask → Narrowed
left_by_host setting ask = met_with ask (setting.host.answer ask)

-- a token of the draw, of what is left
abbrev pub new_token : TokenKind → List ℕ → Extent → NewToken
new_token kind draw left = record { kind = kind; digest = sha256 draw; scope = left.scope; life = left.life }

-- an access token of the client's own, which opens the family
abbrev pub issued_alone : Setting → ℕ → ℕ → Extent → Change
issued_alone setting family client left = token_issued family client 0 (new_token Access setting.draws.first left)

-- a token of the draw comes of the code or refresh token that is used
abbrev pub access_issued : Grant → List ℕ → Extent → Change
access_issued used draw left = issued_with (new_token Access draw left) used

abbrev pub refresh_issued : Grant → List ℕ → Extent → Change
refresh_issued used draw left = issued_with (new_token Refresh draw left) used

-- an access token comes of what is used, which is spent
abbrev pub access_for : Setting → Grant → Extent → Outcome
access_for setting used left =
    unless_taken setting used.client (sha256 setting.draws.first ∷ [])
    (record {
      reply = access_reply setting.rules setting.draws.first left.scope left.life;
      changes = access_issued used setting.draws.first left ∷ Spent used.digest ∷ [];
    })

-- those of the tokens of both draws
abbrev pub both_digests : Draws → List (List ℕ)
both_digests draws = sha256 draws.first ∷ sha256 draws.second ∷ []

-- and a refresh token of this scope too
abbrev pub both_for : Setting → Grant → Extent → ℕ → Outcome
both_for setting used left kept =
    unless_taken setting used.client (both_digests setting.draws)
    (record {
      reply = both_reply setting.rules setting.draws left.scope left.life;
      changes = access_issued used setting.draws.first left
          ∷ refresh_issued used setting.draws.second (record { scope = kept; life = setting.rules.refresh_life })
          ∷ Spent used.digest
          ∷ [];
    })
