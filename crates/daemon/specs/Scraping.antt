-- What becomes of who asks for metrics.
use Rattle.std.specs.Prelude.{◌≡◌, ◌⊎◌, ℕ, List, ◌∷◌, Bool, Option, Some, IfSome}
use Rattle.desk.specs.Replies.{metrics_reply, scrape_reply}
use Rattle.metrics.specs.Text.{IsMetricsText}
use Rattle.daemon.specs.Calls.{Replied}
use Rattle.daemon.specs.declared.reloads.Reloads.{Reloads}

-- a reply that tells what was measured
abbrev pub IsMetricsPage : List ℕ → Type 0
IsMetricsPage page = (text : List ℕ) × IsMetricsText text × (page ≡ metrics_reply text)

-- It is replied by whether the operator's key was sent, and by the page, where memory was had for it: he never goes without a reply.
pub record IsScraped {R : Type 0} (with_key : Bool) (page : Option (List ℕ)) (old new : Reloads R) : Type 0 where
  pub noted : new.log.calls ≡ Replied (Some (scrape_reply with_key page)) ∷ old.log.calls
  pub same : new ≡ record old { log = new.log }

-- whoever is at a place where there is a connection
abbrev pub MayBeScraped : {R : Type 0} → Bool → Reloads R → Reloads R → Type 0
MayBeScraped with_key old new = (new ≡ old) ⊎ ((page : Option (List ℕ)) × IfSome page IsMetricsPage × IsScraped with_key page old new)
