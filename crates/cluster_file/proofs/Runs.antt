-- Where a run stands once a change was made.
use Rattle.std.proofs.Common.{◌≡◌, ◌<◌, ◌+◌, ℕ, List, length, length-append, sym, subst, arith}
use Rattle.std.specs.Prelude.{Option, Some}
use Rattle.etcd_cluster.specs.Bytes.{Make, none, one_more}
use Rattle.etcd_cluster.specs.Stands.{Stand}
use Rattle.cluster_file.specs.Places.{OthersStay}
use Rattle.cluster_file.specs.Runs.{IsRunOf, IsRunTo}
use Rattle.cluster_file.specs.declared.merging.Run.{Run}

-- pieces up to there that are what they were make the same bytes
pub made_below : (pieces others : ℕ → Option (List ℕ)) (at : ℕ) (bytes : List ℕ)
    → ((p : ℕ) (piece : List ℕ) → p < at + length bytes → pieces p ≡ Some piece → others p ≡ Some piece) → Make pieces at bytes → Make others at bytes
made_below pieces others at bytes same (none _) = none at
made_below pieces others at bytes same (one_more _ piece rest is long later) =
    let whole = length-append piece rest in
    one_more at piece rest (same at piece (omega (arith, whole, long)) is) long
    (made_below pieces others (at + length piece) rest (λ p other below is. same p other (omega (arith, below, whole)) is) later)

pub run_below : (pieces others : ℕ → Option (List ℕ)) (run : Run) (end : ℕ) → ((p : ℕ) (piece : List ℕ) → p < end → pieces p ≡ Some piece → others p ≡ Some piece)
    → IsRunTo pieces run end → IsRunTo others run end
run_below pieces others run end same is =
    let size = is.front.size in
    let ends = is.ends in
    record {
      front = record {
        bytes = is.front.bytes;
        made = made_below pieces others 0 is.front.bytes (λ p piece below there. same p piece (omega (arith, below, size, ends)) there) is.front.made;
        size = size;
      };
      rest = made_below pieces others run.start run.bytes.items (λ p piece below there. same p piece (omega (arith, below, ends)) there) is.rest;
      ends = ends;
    }

-- so a run stands there still, where the end is what it was
pub run_counted : (old new : Stand) (run : Run)
    → ((p : ℕ) (piece : List ℕ) → p < old.head.end → old.pieces old.head.generation p ≡ Some piece → new.pieces new.head.generation p ≡ Some piece)
    → new.head.end ≡ old.head.end → IsRunOf old run → IsRunOf new run
run_counted old new run counted end is some =
    subst (λ (n : ℕ). IsRunTo (new.pieces new.head.generation) run n) (sym end)
    (run_below (old.pieces old.head.generation) (new.pieces new.head.generation) run old.head.end counted (is some))

pub runs_stay : (old new : Stand) (run : Run) → OthersStay old new → new.head.end ≡ old.head.end → IsRunOf old run → IsRunOf new run
runs_stay old new run others end is = run_counted old new run (λ p piece below there. others.counted p piece below there) end is
