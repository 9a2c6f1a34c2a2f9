-- Lines that are appended one after another.
use Rattle.std.proofs.Common.{◌≡◌, ℕ, List, ◌++◌, append_assoc}

pub joined : (out status type cache location challenge count end text opened guided whole : List ℕ) →
    opened ≡ out ++ status ++ type ++ cache → guided ≡ opened ++ location ++ challenge → whole ≡ guided ++ count ++ end ++ text →
    whole ≡ out ++ (status ++ type ++ cache ++ location ++ challenge ++ count ++ end ++ text)
joined out status type cache location challenge count end text opened guided whole a b c =
    rw c (rw b (rw a (simp append_assoc)))
