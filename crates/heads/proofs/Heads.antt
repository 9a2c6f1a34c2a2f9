-- What the parser's answers say of the front of the bytes.
use Rattle.std.proofs.Common.{◌≡◌, ℕ, ◌+◌, ◌<◌, ◌≤◌, inl, inr, List, [], ◌∷◌, ◌++◌, Some, length, take, drop, false, refl, sym, ap, subst, ◌∙◌, arith, append_assoc, append-nil, length-append}
use Rattle.std.specs.Prelude.{is_some, IsTrue, Option}
use Rattle.std.proofs.lemmas.Bool.{ltb-true, lt-ltb}
use Rattle.std.proofs.lemmas.List.{take_at, take-append-drop, take-append-le, length-take-le, length-take, length-drop, drop-drop, length-map}
use Rattle.httparse.specs.Ascii.{line_feed}
use Rattle.httparse.specs.Grammar.{RequestHead, print_request, ReadsRequest, HasNoRequest, MayBecomeRequest, Field}
use Rattle.httparse.specs.Spans.{IsWithin, AreFieldsAt, header_bytes, name_and_value}
use Rattle.httparse.specs.declared.spans.Span.{Span}
use Rattle.httparse.specs.declared.spans.HeaderSpan.{HeaderSpan}
use Rattle.httparse.proofs.GrammarLemmas.{request_unique, request_prefix_free, ReadsRequest-append}
use Rattle.heads.specs.Limits.{head_size_limit, field_line_limit, body_size_limit}
use Rattle.heads.specs.Fields.{content_length, AreGoodFields}
use Rattle.heads.specs.PlacesParts.{AreFieldsIn}
use Rattle.heads.specs.Message.{BeginsWithMessage, IsHopeless, MayTell, HasSpoilingLine, IsGood, head_fields}
use Rattle.heads.specs.Waiting.{ends_line, still_waits, IsUnfinished, IsWaiting, Wants}
use Rattle.heads.specs.ReadingLaws.{some_head, reads_head, same_some}
use Rattle.heads.specs.WaitingLaws.{line_waits}
use Rattle.heads.specs.declared.fields.FieldSpans.{FieldSpans}
use Rattle.heads.specs.declared.waits.Waits.TheVariants.{ForLine, ForBytes}
use Rattle.heads.proofs.Lines.{two_fronts, ended_before, head_ends, may_front, nothing_may}

-- a whole head that is not good
hopeless_head : (bytes : List ℕ) (head : RequestHead) (after : List ℕ) → ReadsRequest bytes head after → ¬ (IsGood head) → IsHopeless bytes
hopeless_head bytes head after whole bad more m rest b =
    let same = request_prefix_free bytes more head m.head after (m.body ++ rest) whole (reads_head _ m rest b) in
    bad (rw same.0 b.good)

-- as many bytes as a head may have, and no head at their front
hopeless_long : (bytes : List ℕ) → head_size_limit ≤ length bytes → HasNoRequest bytes → IsHopeless bytes
hopeless_long bytes long none more m rest b =
    let t : List ℕ = print_request m.head in
    let size = b.good.size in
    let fits : length t ≤ length bytes = omega (arith, long, size) in
    let front : take (length t) bytes ≡ t =
    sym (take-append-le (length t) bytes more fits) ∙ ap (take (length t)) b.text ∙ take_at t (m.body ++ rest) (length t) refl in
    none m.head (drop (length t) bytes) (b.head, sym (take-append-drop (length t) bytes) ∙ ap (λ (l : List ℕ). l ++ drop (length t) bytes) front)

-- ---- a faulty head is told

pub faulty_head : (bytes : List ℕ) (head : RequestHead) (after : List ℕ) → ReadsRequest bytes head after → ¬ (IsGood head) → IsHopeless bytes × MayTell bytes
faulty_head bytes head after whole bad =
    (hopeless_head bytes head after whole bad, inl (inl (record { head = head; after = after; reads = whole; faulty = bad })))

pub faulty_long : (bytes : List ℕ) → head_size_limit ≤ length bytes → HasNoRequest bytes → IsHopeless bytes × MayTell bytes
faulty_long bytes long none =
    (hopeless_long bytes long none, inl (inr (inr (record { size = long; none = λ head after reads good. none head after reads }))))

-- ---- a rest waits

still_bytes : (size count : ℕ) (more : List ℕ) → count + length more < size → IsTrue (still_waits (ForBytes size) count more)
still_bytes size count more fewer = lt-ltb _ _ fewer

bytes_wait : (size count : ℕ) (more : List ℕ) → IsTrue (still_waits (ForBytes size) count more) → count + length more < size
bytes_wait size count more is = ltb-true _ _ is

line_still : (count : ℕ) → count < head_size_limit → IsTrue (still_waits ForLine count [])
line_still count fewer = rw (lt-ltb (count + 0) head_size_limit (omega (arith, fewer))) refl

-- where a head stands, no line has spoiled it
spoils_no_head : (bytes : List ℕ) (head : RequestHead) (rest : List ℕ) → ReadsRequest bytes head rest → ¬ (HasSpoilingLine bytes)
spoils_no_head bytes head rest whole s =
    let lines : List ℕ = s.before ++ line_feed ∷ [] in
    let text : lines ++ s.after ≡ print_request head ++ rest = append_assoc s.before (10 ∷ []) s.after ∙ sym s.text ∙ whole.1 in
    elim (two_fronts lines s.after (print_request head) rest text) [
      | inl q ↦ s.spoiled.never (inl (q.0, head, (whole.0, sym q.1 ∙ sym (append-nil (print_request head)))))
      | inr q ↦ s.spoiled.none head q.0 (whole.0, q.1)
    ]

-- with no line's end behind it there is no head
no_head_more : (bytes more : List ℕ) → HasNoRequest bytes → ends_line more ≡ false → HasNoRequest (bytes ++ more)
no_head_more bytes more none unended head rest reads =
    let end = head_ends head in
    let cut : bytes ++ more ≡ end.0 ++ line_feed ∷ rest = reads.1 ∙ ap (λ (l : List ℕ). l ++ rest) end.1 ∙ append_assoc end.0 (10 ∷ []) rest in
    let before = ended_before bytes more end.0 rest unended cut in
    none head before.0 (reads.0, before.1 ∙ sym (append_assoc end.0 (10 ∷ []) before.0) ∙ ap (λ (l : List ℕ). l ++ before.0) (sym end.1))

-- nor has a line ended that spoils what may become one
no_line_more : (bytes more : List ℕ) → MayBecomeRequest bytes → ends_line more ≡ false → ¬ (HasSpoilingLine (bytes ++ more))
no_line_more bytes more may unended s =
    let before = ended_before bytes more s.before s.after unended s.text in
    let text : bytes ≡ (s.before ++ line_feed ∷ []) ++ before.0 = before.1 ∙ sym (append_assoc s.before (10 ∷ []) before.0) in
    s.spoiled.never (may_front (s.before ++ line_feed ∷ []) before.0 (subst MayBecomeRequest text may))

unfinished_head : (bytes more : List ℕ) → HasNoRequest bytes → MayBecomeRequest bytes → length bytes + length more < head_size_limit → ends_line more ≡ false
    → IsUnfinished (bytes ++ more) ForLine
unfinished_head bytes more none may fewer unended =
    let no_head = no_head_more bytes more none unended in
    let all = length-append bytes more in
    record {
      none = λ m rest b. no_head m.head (m.body ++ rest) (reads_head (bytes ++ more) m rest b);
      untold = λ must. elim must [
        | inl f ↦ no_head f.head f.after f.reads
        | inr other ↦ elim other [ inl s ↦ no_line_more bytes more may unended s | inr l ↦ (let size = l.size in omega (arith, size, all, fewer)) ]
      ];
      short = omega (arith, all, fewer);
      line = λ some none. refl;
      message = λ head after size reads good body. absurd (no_head head after reads);
    }

-- nothing has a head
no_head : HasNoRequest []
no_head head after reads =
    let some = some_head head in
    let all = ap length reads.1 ∙ length-append (print_request head) after in
    omega (arith, some, all)

nothing_waits : IsWaiting [] (ForBytes 1)
nothing_waits [] is =
    let unfinished = unfinished_head [] [] no_head nothing_may (omega arith) refl in
    record {
      none = unfinished.none;
      untold = unfinished.untold;
      short = unfinished.short;
      line = λ some none. absurd (omega (arith, some));
      message = λ head after size reads good body. absurd (no_head head after reads);
    }
nothing_waits (b ∷ more) is = (let fewer = bytes_wait 1 0 (b ∷ more) is in absurd (omega (arith, fewer)))

-- no head yet, and fewer bytes than a head may have
pub wants_head : (bytes : List ℕ) → length bytes < head_size_limit → HasNoRequest bytes → MayBecomeRequest bytes → Wants bytes ForLine
wants_head bytes short none may = record {
  now = line_still (length bytes) short;
  waiting = λ more is. (let parts = line_waits (length bytes) more is in unfinished_head bytes more none may parts.0 parts.1);
}

-- nothing yet
pub wants_first : (bytes : List ℕ) → length bytes ≡ 0 → Wants bytes (ForBytes 1)
wants_first [] e = record { now = refl; waiting = nothing_waits }
wants_first (b ∷ bytes) e = absurd (omega (arith, e))

-- a good head, and not its whole body
module _ (head : RequestHead) (size : ℕ) (good : IsGood head) (body : content_length (head_fields head) ≡ Some size) (small : size ≤ body_size_limit) where
  unfinished_body : (bytes after : List ℕ) → ReadsRequest bytes head after → length bytes < length (print_request head) + size → IsUnfinished bytes (ForBytes (length (print_request head) + size))
  unfinished_body bytes after whole short = record {
    none = λ m rest b.
        let same = request_unique bytes head m.head after (m.body ++ rest) whole (reads_head bytes m rest b) in
        let long : size ≡ length m.body = same_some _ _ (sym body ∙ ap (λ h. content_length (head_fields h)) same.0 ∙ b.body) in
        let all : length bytes ≡ length (print_request head) + length after = ap length whole.1 ∙ length-append (print_request head) after in
        let behind : length after ≡ length m.body + length rest = ap length same.1 ∙ length-append m.body rest in
        omega (arith, long, all, behind, short);
    untold = λ must. elim must [
      | inl f ↦ f.faulty (rw (request_unique bytes head f.head after f.after whole f.reads).0 at good)
      | inr other ↦ elim other [ inl s ↦ spoils_no_head bytes head after whole s | inr l ↦ l.none head after whole good ]
    ];
    short = (let most = good.size in omega (arith, most, short, small));
    line = λ some none. absurd (none head after whole);
    message = λ other behind n reads fine is.
        let same = request_unique bytes head other after behind whole reads in
        let long : size ≡ n = same_some _ _ (sym body ∙ ap (λ h. content_length (head_fields h)) same.0 ∙ is) in
        ap (λ h. ForBytes (length (print_request h) + size)) same.0 ∙ ap (λ k. ForBytes (length (print_request other) + k)) long;
  }

  pub wants_body : (bytes after : List ℕ) → ReadsRequest bytes head after → length bytes < length (print_request head) + size → Wants bytes (ForBytes (length (print_request head) + size))
  wants_body bytes after whole short = record {
    now = still_bytes (length (print_request head) + size) (length bytes) [] (omega (arith, short));
    waiting = λ more is.
        let fewer = bytes_wait (length (print_request head) + size) (length bytes) more is in
        let all = length-append bytes more in
        unfinished_body (bytes ++ more) (after ++ more) (ReadsRequest-append bytes head after more whole) (omega (arith, fewer, all));
  }

-- ---- a whole message

-- a good head, and its whole body
pub begins_whole : (bytes : List ℕ) (head : RequestHead) (len size : ℕ) → ReadsRequest bytes head (drop len bytes) → IsGood head → content_length (head_fields head) ≡ Some size → len + size ≤ length bytes →
    BeginsWithMessage bytes (record { head = head; body = take size (drop len bytes) }) (drop (len + size) bytes)
begins_whole bytes head len size whole good body fits =
    let few : size ≤ length (drop len bytes) = (let l = length-drop len bytes in omega (arith, l, fits)) in
    record {
      head = whole.0;
      good = good;
      body = body ∙ ap Some (sym (length-take-le size (drop len bytes) few));
      text = whole.1 ∙ ap (λ r. print_request head ++ r) (sym (take-append-drop size (drop len bytes)) ∙ ap (λ r. take size (drop len bytes) ++ r) (drop-drop size len bytes));
    }

-- no more lines than places for them
pub few_lines : (bytes : List ℕ) (headers : List HeaderSpan) (count : ℕ) (fields : List Field) → AreFieldsAt bytes headers count fields → length headers ≤ field_line_limit → length fields ≤ field_line_limit
few_lines bytes headers count fields at room =
    let same = sym (length-map fields name_and_value) ∙ sym (ap length at) ∙ length-map (take count headers) (header_bytes bytes) in
    let le = length-take count headers in
    omega (arith, same, le, room)

-- fields whose places were found are good
pub good_fields : (bytes : List ℕ) (fields : List (List ℕ × List ℕ)) (spans : FieldSpans) → AreFieldsIn bytes fields spans → AreGoodFields fields
good_fields bytes fields spans is = record {
  transfer = is.transfer;
  authorization = is.authorization.once;
  content_type = is.content_type.once;
  owner_key = is.owner_key.once;
  operator_key = is.operator_key.once;
  body = sym (ap (λ (o : Option ℕ). is_some o) (sym is.body));
}

pub within_more : (n k : ℕ) (span : Span) → n ≤ k → IsWithin n span → IsWithin k span
within_more n k span le w = (w.0, (let a = w.1 in omega (arith, a, le)))
