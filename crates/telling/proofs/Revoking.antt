-- Where the live token comes from that a client wants revoked.
use Rattle.std.proofs.Common.{◌≡◌, ℕ, List, Bool, true, false, Option, Some, None, refl, ap, sym, ◌∙◌}
use Rattle.std.specs.Prelude.{◌==◌, codes, not, option_map}
use Rattle.answers.specs.Found.{grant_found}
use Rattle.answers.specs.Live.{FindsLive}
use Rattle.answers.specs.Names.{Found, Grant}
use Rattle.answers.specs.Requesters.{Parameters}
use Rattle.answers.specs.Setting.{Setting}
use Rattle.answers.specs.Texts.{digest_told, where_passes}
use Rattle.params.specs.Form.{value_sent}
use Rattle.token_endpoint.specs.Asks.{lineage_of}
use Rattle.telling.specs.Telling.{revoked_lineage}

differs : (b same : Bool) → b ≡ not same → b ≡ true → same ≡ false
differs b true is so = absurd (cc)
differs b false is so = refl

agrees : (b same : Bool) → b ≡ not same → b ≡ false → same ≡ true
agrees b true is so = refl
agrees b false is so = absurd (cc)

module _ (s : Setting) (params : Parameters) (client : ℕ) (text digest : List ℕ) where
  by_live : (found : Option Found) → value_sent (codes "token") params ≡ Some text → digest_told text ≡ Some digest → FindsLive digest s found →
      revoked_lineage s params client ≡ option_map lineage_of (where_passes (λ g. g.client == client) (option_map (grant_found digest) found))
  by_live found sent told live = rw (sent, told) (ap (λ (o : Option Grant). option_map lineage_of (where_passes (λ (g : Grant). g.client == client) o)) (sym live))

  -- none is live
  pub none_live : value_sent (codes "token") params ≡ Some text → digest_told text ≡ Some digest → FindsLive digest s None → None ≡ revoked_lineage s params client
  none_live sent told live = sym (by_live None sent told live)

  module _ (found : Found) (ne : Bool) where
    -- it is another client's
    pub other_live : value_sent (codes "token") params ≡ Some text → digest_told text ≡ Some digest → FindsLive digest s (Some found) →
        ne ≡ not (found.client == client) → ne ≡ true → None ≡ revoked_lineage s params client
    other_live sent told live is other = sym (by_live (Some found) sent told live ∙ rw (differs ne (found.client == client) is other) refl)

    -- it is the client's own
    pub own_live : value_sent (codes "token") params ≡ Some text → digest_told text ≡ Some digest → FindsLive digest s (Some found) →
        ne ≡ not (found.client == client) → ne ≡ false → Some (lineage_of (grant_found digest found)) ≡ revoked_lineage s params client
    own_live sent told live is own = sym (by_live (Some found) sent told live ∙ rw (agrees ne (found.client == client) is own) refl)
