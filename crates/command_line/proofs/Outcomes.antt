-- What is so of a value, in each outcome.
use Rattle.std.proofs.Common.{Ok, Err, Result}
use Rattle.std.specs.Prelude.{IfErr, IfOk}

pub each_ok : {T F : Type 0} (P : T → Type 0) (r : Result T F) → ((v : T) → P v) → IfOk r P
each_ok P (Ok v) all = all v
each_ok P (Err f) all = tt

pub map_ok : {T F : Type 0} (P Q : T → Type 0) (r : Result T F) → ((v : T) → P v → Q v) → IfOk r P → IfOk r Q
map_ok P Q (Ok v) on is = on v is
map_ok P Q (Err f) on is = tt

pub map_err : {T F : Type 0} (P Q : F → Type 0) (r : Result T F) → ((f : F) → P f → Q f) → IfErr r P → IfErr r Q
map_err P Q (Ok v) on is = tt
map_err P Q (Err f) on is = on f is
