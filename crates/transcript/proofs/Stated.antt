-- Lines that state something, and their calls, one after the other.
use Rattle.std.proofs.Common.{◌≡◌, ◌<◌, ◌≤◌, ◌+◌, ℕ, List, [], ◌∷◌, ◌++◌, Bor, Option, Some, None, IfSome, map, take, drop, get_or, length, refl, sym, ap, ◌∙◌, subst, arith}
use Rattle.std.proofs.lemmas.List.{append-nil, drop_more, length-map, length-take-le, map-append, map_push, take-append-drop, take_more}
use Rattle.headline.specs.declared.call.EdgeCall.{EdgeCall}
use Rattle.headline.specs.declared.call.Upshot.{Upshot}
use Rattle.headline.specs.declared.call.Upshot.TheVariants as upshot
use Rattle.transcript.proofs.Names.{take_all, Statement, AreCalls, AreDone, HaveStated, IsCallOf, IsFirstRefusal, StateEach, ReplayFault}
use Rattle.transcript.specs.Lines.{States}
use Rattle.transcript.specs.Seen.{stated}
use Rattle.transcript.specs.Faults.{of_event}
use Rattle.transcript.specs.declared.line.Line.{Line}
use Rattle.http_edge.specs.declared.fault.EdgeFault.{EdgeFault}

abbrev pub texts : List (Bor (List ℕ)) → List (List ℕ)
texts lines = map (λ line. line.now) lines

texts_to : (lines : List (Bor (List ℕ))) (i : ℕ) (d : Bor (List ℕ)) → i < length lines → texts (take (i + 1) lines) ≡ texts (take i lines) ++ (get_or lines i d).now ∷ []
texts_to lines i d below = rw (take_more lines i d below) (map_push _ (take i lines) (get_or lines i d))

texts_at : (lines : List (Bor (List ℕ))) (i : ℕ) (d : Bor (List ℕ)) → i < length lines
    → texts lines ≡ texts (take i lines) ++ (get_or lines i d).now ∷ texts (drop (i + 1) lines)
texts_at lines i d below =
    ap texts (sym (take-append-drop i lines) ∙ ap (λ (rest : List (Bor (List ℕ))). take i lines ++ rest) (drop_more lines i d below))
    ∙ map-append (λ line. line.now) (take i lines) (get_or lines i d ∷ drop (i + 1) lines)

each_on : (lines : List (List ℕ)) (statements : List Statement) (line : List ℕ) (statement : Statement) → StateEach lines statements → States line statement
    → StateEach (lines ++ line ∷ []) (statements ++ statement ∷ [])
each_on [] [] line statement each one = (one, tt {0})
each_on (l ∷ lines) (s ∷ statements) line statement each one = (each.0, each_on lines statements line statement each.1 one)
each_on _ _ line statement each one = absurd each

-- one line more states something
pub state_on : (lines : List (Bor (List ℕ))) (i : ℕ) (d : Bor (List ℕ)) (read : List Line) (line : Line) (o : Option Line) → i < length lines → StateEach (texts (take i lines)) (map stated read)
    → o ≡ Some line → IfSome o (λ next. States (get_or lines i d).now (stated next)) → StateEach (texts (take (i + 1) lines)) (map stated (read ++ line ∷ []))
state_on lines i d read line (Some next) below each is one =
    let same : next ≡ line = cc in
    let states : States (get_or lines i d).now (stated line) = subst (λ (l : Line). States (get_or lines i d).now (stated l)) same one in
    rw (texts_to lines i d below, map_push stated read line) (each_on (texts (take i lines)) (map stated read) (get_or lines i d).now (stated line) each states)
state_on lines i d read line None below each is one = cc

-- all of them do
pub have_all : (lines : List (Bor (List ℕ))) (i : ℕ) (read : List Line) → length lines ≤ i → StateEach (texts (take i lines)) (map stated read)
    → HaveStated (texts lines) (map stated read) None
have_all lines i read past each = record {
  front = texts lines;
  rest = [];
  are = sym (append-nil (texts lines));
  each = subst (λ (front : List (Bor (List ℕ))). StateEach (texts front) (map stated read)) (take_all i lines past) each;
  end = refl;
}

-- the next one does not
pub have_front : (lines : List (Bor (List ℕ))) (i : ℕ) (d : Bor (List ℕ)) (read : List Line) (number : ℕ) → i < length lines → StateEach (texts (take i lines)) (map stated read)
    → number ≡ length read + 2 → ((statement : Statement) → States (get_or lines i d).now statement → ⊥) → HaveStated (texts lines) (map stated read) (Some number)
have_front lines i d read number below each is none = record {
  front = texts (take i lines);
  rest = (get_or lines i d).now ∷ texts (drop (i + 1) lines);
  are = texts_at lines i d below;
  each = each;
  end = ((get_or lines i d).now, texts (drop (i + 1) lines), refl, is ∙ ap (λ (n : ℕ). n + 2) (sym (length-map read stated)), none);
}

are_on : (statements : List Statement) (calls : List EdgeCall) (statement : Statement) (call : EdgeCall) → AreCalls statements calls → IsCallOf statement call
    → AreCalls (statements ++ statement ∷ []) (calls ++ call ∷ [])
are_on [] [] statement call are one = (one, tt {0})
are_on (s ∷ statements) (c ∷ calls) statement call are one = (are.0, are_on statements calls statement call are.1 one)
are_on _ _ statement call are one = absurd are

-- one line more was made a call
pub call_on : (lines : List Line) (i : ℕ) (d : Line) (calls : List EdgeCall) (call : EdgeCall) → i < length lines → AreCalls (map stated (take i lines)) calls
    → IsCallOf (stated (get_or lines i d)) call → AreCalls (map stated (take (i + 1) lines)) (calls ++ call ∷ [])
call_on lines i d calls call below are one =
    rw (take_more lines i d below, map_push stated (take i lines) (get_or lines i d))
    (are_on (map stated (take i lines)) calls (stated (get_or lines i d)) call are one)

done_more : (upshots : List Upshot) (one : Upshot) → AreDone upshots → AreDone (one ∷ []) → AreDone (upshots ++ one ∷ [])
done_more [] one done last = last
done_more (upshot.Done bytes ∷ upshots) one done last = done_more upshots one done last
done_more (upshot.Refused fault ∷ upshots) one done last = absurd done

-- one more was done
pub done_on : (upshots : List Upshot) (i : ℕ) (d : Upshot) → i < length upshots → AreDone (get_or upshots i d ∷ []) → AreDone (take i upshots)
    → AreDone (take (i + 1) upshots)
done_on upshots i d below last done = rw (take_more upshots i d below) (done_more (take i upshots) (get_or upshots i d) done last)

-- the next one was refused
pub refused_at : (upshots : List Upshot) (i : ℕ) (d : Upshot) (cause : EdgeFault) (number : ℕ) (fault : ReplayFault) → i < length upshots → AreDone (take i upshots)
    → get_or upshots i d ≡ upshot.Refused cause → fault ≡ of_event number cause → number ≡ i + 2 → IsFirstRefusal upshots fault
refused_at upshots i d cause number fault below done is fault_is count = record {
  before = take i upshots;
  cause = cause;
  behind = drop (i + 1) upshots;
  are = sym (take-append-drop i upshots) ∙ ap (λ (rest : List Upshot). take i upshots ++ rest) (drop_more upshots i d below ∙ ap (λ (u : Upshot). u ∷ drop (i + 1) upshots) is);
  done = done;
  fault_is = fault_is ∙ ap (λ (n : ℕ). of_event n cause) (count ∙ ap (λ (n : ℕ). n + 2) (sym (length-take-le i upshots (omega arith))));
}
