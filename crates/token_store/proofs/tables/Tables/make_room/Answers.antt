use Rattle.std.proofs.Common.{refl}
use Rattle.token_store.proofs.tables.Tables.make_room.Goals as goal

pub reserve-requires : goal.reserve-requires
reserve-requires c = c.requires.standing

pub returns-clause-tied : goal.returns-clause-tied
returns-clause-tied c = record { standing = c.reserve.ensures.standing; ties = rw c.reserve.ensures.same c.requires.ties }

pub returns-clause-same : goal.returns-clause-same
returns-clause-same c = λ m. rw c.reserve.ensures.same (record { finds = λ d t le. refl; counts = λ t le. refl })
