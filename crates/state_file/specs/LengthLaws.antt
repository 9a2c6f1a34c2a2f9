-- How many bytes batches have once there is one more. For proofs alone.
use Rattle.std.proofs.Common.{◌≡◌, ◌+◌, ℕ, List, [], ◌∷◌, ◌++◌, length, Bool, true, false, refl, arith}
use Rattle.std.specs.Prelude.{◌||◌, if◌then◌else◌}
use Rattle.std.specs.List.{list_any}
use Rattle.std.proofs.lemmas.List.Folds.{list_any-append}
use Rattle.state_file.specs.Names.{frames_size}
use Rattle.state_file.specs.Knowing.{shortened_size, tells_number}

pub frames_size-push : (batches : List (List ℕ)) (batch : List ℕ) → frames_size (batches ++ batch ∷ []) ≡ frames_size batches + (21 + length batch)
frames_size-push [] batch = omega arith
frames_size-push (b ∷ batches) batch = let later = frames_size-push batches batch in omega (arith, later)

chosen : (any m n : Bool) (size frames old later : ℕ) → any ≡ (m || (n || false)) → later ≡ (if n then frames else old) →
    (if any then size + later else 0) ≡ (if n then size + frames else (if m then size + old else 0))
chosen any true true size frames old later some is = rw (some, is) refl
chosen any false true size frames old later some is = rw (some, is) refl
chosen any true false size frames old later some is = rw (some, is) refl
chosen any false false size frames old later some is = rw some refl

-- up to the last batch that tells a number
pub shortened_size-push : (batches : List (List ℕ)) (batch : List ℕ) →
    shortened_size (batches ++ batch ∷ []) ≡ (if tells_number batch then frames_size (batches ++ batch ∷ []) else shortened_size batches)
shortened_size-push [] batch = chosen (list_any tells_number (batch ∷ [])) false (tells_number batch) (21 + length batch) 0 0 0 refl (by (tells_number batch))
  where
    by : (n : Bool) → ◌≡◌ {A = ℕ} 0 (if n then 0 else 0)
    by true = refl
    by false = refl
shortened_size-push (b ∷ batches) batch =
    chosen (list_any tells_number ((b ∷ batches) ++ batch ∷ [])) (list_any tells_number (b ∷ batches)) (tells_number batch) (21 + length b)
    (frames_size (batches ++ batch ∷ [])) (shortened_size batches) (shortened_size (batches ++ batch ∷ []))
    (list_any-append tells_number (b ∷ batches) (batch ∷ [])) (shortened_size-push batches batch)

-- batches, and others behind them
pub frames_size-append : (batches more : List (List ℕ)) → frames_size (batches ++ more) ≡ frames_size batches + frames_size more
frames_size-append [] more = omega arith
frames_size-append (b ∷ batches) more = let later = frames_size-append batches more in omega (arith, later)
