-- What becomes of a run once a piece was laid.
use Rattle.std.proofs.Common.{◌≡◌, inl, inr, ◌<◌, ◌+◌, ◌-◌, ◌++◌, ◌∙◌, ℕ, List, [], ◌∷◌, append-nil, drop, length, length-append, refl, sym, ap, subst, arith}
use Rattle.std.proofs.lemmas.List.{length-drop}
use Rattle.std.specs.Prelude.{Some}
use Rattle.etcd_cluster.specs.Bytes.{Make, none, one_more}
use Rattle.etcd_cluster.specs.Stands.{Stand}
use Rattle.etcd_cluster.proofs.Made.{made_longer}
use Rattle.cluster_file.specs.Runs.{IsLastAt, IsNoted, IsRunOf, IsRunTo, MakeTo}
use Rattle.cluster_file.specs.declared.merging.Run.{Run}

-- there is none
pub run_none : (stand : Stand) (run : Run) → run.bytes.items ≡ [] → IsRunOf stand run
run_none stand run empty some = let size = ap (λ (l : List ℕ). length l) empty in absurd (omega (arith, some, size))

-- that piece alone
run_alone : (stand : Stand) (run : Run) (at : ℕ) (piece : List ℕ) → IsLastAt stand at piece → run.start ≡ at → run.bytes.items ≡ piece → IsRunOf stand run
run_alone stand run at piece last start bytes some =
    let size = ap (λ (l : List ℕ). length l) bytes in
    let ends = last.ends in
    record {
      front = subst (λ (n : ℕ). MakeTo (stand.pieces stand.head.generation) n) (sym start) last.front;
      rest = subst (λ (l : List ℕ). Make (stand.pieces stand.head.generation) run.start l) (append-nil run.bytes.items)
          (one_more run.start run.bytes.items [] (ap (stand.pieces stand.head.generation) start ∙ last.is ∙ ap (λ (l : List ℕ). Some l) (sym bytes)) some
          (none (run.start + length run.bytes.items)));
      ends = omega (arith, start, size, ends);
    }

-- with it
run_joined : (stand : Stand) (old new : Run) (at : ℕ) (piece : List ℕ) → IsRunTo (stand.pieces stand.head.generation) old at → IsLastAt stand at piece → 0 < length piece
    → new.start ≡ old.start → new.bytes.items ≡ old.bytes.items ++ piece → IsRunOf stand new
run_joined stand old new at piece before last long start bytes some =
    let whole = length-append old.bytes.items piece in
    let size = ap (λ (l : List ℕ). length l) bytes in
    let here = before.ends in
    let ends = last.ends in
    record {
      front = subst (λ (n : ℕ). MakeTo (stand.pieces stand.head.generation) n) (sym start) before.front;
      rest = subst (λ (n : ℕ). Make (stand.pieces stand.head.generation) n new.bytes.items) (sym start)
          (subst (λ (l : List ℕ). Make (stand.pieces stand.head.generation) old.start l) (sym bytes)
          (made_longer (stand.pieces stand.head.generation) old.start old.bytes.items piece (ap (stand.pieces stand.head.generation) here ∙ last.is) long before.rest));
      ends = omega (arith, start, size, whole, here, ends);
    }

-- what was written last, from there on
pub run_after : (stand : Stand) (old new : Run) (at from : ℕ) (items : List ℕ)
    → (from ≡ 0 → 0 < length old.bytes.items → IsRunTo (stand.pieces stand.head.generation) old at) → (from < length items → IsLastAt stand at (drop from items))
    → at + (length items - from) ≡ stand.head.end → IsNoted at from (drop from items) old new → IsRunOf stand new
run_after stand old new at from items before last end noted = by_noted noted
  where
    by_piece : (piece : List ℕ) → length piece ≡ length items - from → (from < length items → IsLastAt stand at piece) → from ≡ 0 → at ≡ old.start + length old.bytes.items
        → new.start ≡ old.start → new.bytes.items ≡ old.bytes.items ++ piece → IsRunOf stand new
    by_piece [] size there first behind start bytes some =
        let same : new.bytes.items ≡ old.bytes.items = bytes ∙ append-nil old.bytes.items in
        let count = ap (λ (l : List ℕ). length l) same in
        let run = before first (omega (arith, count, some)) in
        let ended = run.ends in
        record {
          front = subst (λ (n : ℕ). MakeTo (stand.pieces stand.head.generation) n) (sym start) run.front;
          rest = subst (λ (n : ℕ). Make (stand.pieces stand.head.generation) n new.bytes.items) (sym start)
              (subst (λ (l : List ℕ). Make (stand.pieces stand.head.generation) old.start l) (sym same) run.rest);
          ends = omega (arith, start, count, ended, end, size);
        }
    by_piece (byte ∷ more) size there first behind start bytes some =
        by_bytes old.bytes.items refl
      where
        by_bytes : (had : List ℕ) → old.bytes.items ≡ had → IsRunTo (stand.pieces stand.head.generation) new stand.head.end
        by_bytes [] is =
            let none_had = ap (λ (l : List ℕ). length l) is in
            run_alone stand new at (byte ∷ more) (there (omega (arith, size))) (omega (arith, start, behind, none_had))
            (bytes ∙ ap (λ (l : List ℕ). l ++ byte ∷ more) is) some
        by_bytes (one ∷ others) is =
            let some_had = ap (λ (l : List ℕ). length l) is in
            run_joined stand old new at (byte ∷ more) (before first (omega (arith, some_had))) (there (omega (arith, size))) (omega arith) start bytes some

    by_noted : IsNoted at from (drop from items) old new → IsRunOf stand new
    by_noted (inl empty) = run_none stand new empty
    by_noted (inr (inl (first, behind, start, bytes))) = by_piece (drop from items) (length-drop from items) last first behind start bytes
    by_noted (inr (inr (start, bytes))) = λ some.
        let size = length-drop from items in
        let count = ap (λ (l : List ℕ). length l) bytes in
        run_alone stand new at (drop from items) (last (omega (arith, size, count, some))) start bytes some
