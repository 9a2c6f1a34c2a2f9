-- Beside Left: only the contracts of this crate's own parts and their proofs cite this, no public clause.
use Rattle.std.specs.Prelude.{ℕ, Bool, not, ◌&&◌}
use Rattle.consent.specs.History.{is_single_use, is_unexpired}
use Rattle.token_store.specs.Kept.{Kept}
use Rattle.narrowing.specs.Left.{Under, do_go_beyond}
use Rattle.narrowing.specs.LeftKept.{left_grant}

-- its family has not ended and, if it is for one use, it is not spent
abbrev pub is_kept_good : Kept → Bool
is_kept_good k = not k.ended && not (is_single_use k.grant.kind && k.spent)

-- something of it is left that is good at the moment
abbrev pub is_kept_left : Under → ℕ → Kept → Bool
is_kept_left under moment k = not (do_go_beyond under k.terms) && is_unexpired moment (left_grant under.rules k.grant)

-- it is good at the moment, and nothing is left of it
abbrev pub ends_kept : Under → ℕ → Kept → Bool
ends_kept under moment k = is_unexpired moment k.grant && is_kept_good k && not (is_kept_left under moment k)
