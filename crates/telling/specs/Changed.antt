-- Beside Telling: what one change tells, as one value. Only the contracts of this crate's own parts and their proofs cite this.
use Rattle.consent.specs.History.{Change}
use Rattle.telling.specs.declared.changed.Changed.{Changed}
use Rattle.telling.specs.Telling.{family_in, life_in, owner_in, scope_in}

abbrev pub one_changed : Change → Changed
one_changed change = record { family = family_in change; owner = owner_in change; scope = scope_in change; life = life_in change }
