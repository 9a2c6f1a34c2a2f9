-- Bytes that begin as a request for a reload, or for metrics.
use Rattle.std.proofs.Common.{◌≡◌, ◌≤◌, ◌<◌, ℕ, List, [], ◌∷◌, ◌++◌, None, Some, length, ap, refl, sym, ◌∙◌, inl, inr, arith, append-nil, length-append}
use Rattle.std.specs.Prelude.{flat_map}
use Rattle.httparse.specs.Ascii.{space}
use Rattle.httparse.specs.Grammar.{Field, LineEnd, RequestHead, IsRequestHead, crlf, lf, print_blank, print_end, print_field, print_request, print_section, print_version}
use Rattle.heads.proofs.Lines.{two_fronts}
use Rattle.heads.specs.Message.{Message, BeginsWithMessage, HasNone, IsHopeless, asked_of_message}
use Rattle.desk.specs.Judging.{BeginsWith, IsJudged, IsWish, MayAsk, NeverAsks, NeverAsksBy, asks_for, metrics_front, peek_limit, reload_front}
use Rattle.desk.specs.declared.judging.Judged.TheVariants as judged
use Rattle.desk.specs.declared.judging.Wish.{Wish}
use Rattle.desk.specs.declared.judging.Wish.TheVariants as wish

-- the end of a line has a byte
end_long : (end : LineEnd) → 1 ≤ length (print_end end)
end_long crlf = omega arith
end_long lf = omega arith

section_long : (fields : List Field) (last : LineEnd) → 1 ≤ length (print_section fields last)
section_long fields last = let all = length-append (flat_map print_field fields) (print_end last) in omega (arith, all, end_long last)

-- a head has at least as many bytes as that begins with
long_of : (a b c d e f : List ℕ) → 0 < length c → 8 ≤ length d → 1 ≤ length e → 1 ≤ length f → 13 ≤ length (a ++ b ++ space ∷ c ++ space ∷ d ++ e ++ f)
long_of a b c d e f target version end section = simp length-append (omega arith)

head_long : (h : RequestHead) → IsRequestHead h → 13 ≤ length (print_request h)
unfolding print_request
head_long h is =
    long_of (print_blank h.blank) h.method h.target (print_version h.minor) (print_end h.line_end) (print_section h.fields h.last) is.target.0 (omega arith)
    (end_long h.line_end) (section_long h.fields h.last)

-- so a message that begins as far as it goes begins so
begins_so : (front bytes : List ℕ) (m : Message) (rest : List ℕ) → length front ≡ 13 → BeginsWithMessage bytes m rest → MayAsk bytes front → BeginsWith bytes front
begins_so front bytes m rest size begins (inl so) = so
begins_so front bytes m rest size begins (inr (more, is)) =
    let long = head_long m.head begins.head in
    let text = ap length begins.text in
    let parts = length-append (print_request m.head) (m.body ++ rest) in
    let sizes : length front ≡ length (bytes ++ more) = ap length is in
    let both = length-append bytes more in
    ([], sym (append-nil bytes) ∙ ap (λ (l : List ℕ). bytes ++ l) (sym (nothing_of more (omega (arith, size, long, text, parts, sizes, both)))) ∙ sym is ∙ sym (append-nil front))
  where
    nothing_of : (l : List ℕ) → length l ≡ 0 → l ≡ []
    nothing_of [] none = refl
    nothing_of (n ∷ l) none = absurd (omega (arith, none))

-- what does not begin so never comes to
never_by : (front bytes : List ℕ) → (MayAsk bytes front → ⊥) → NeverAsksBy front bytes
never_by front bytes not = record {
  none = λ asks. not (inl asks.front);
  never = λ short more asks. elim (two_fronts bytes more front asks.front.0 asks.front.1) [
    | inl q ↦ not (inr (q.0, q.1))
    | inr q ↦ not (inl (q.0, q.1))
  ];
}

pub never_wished : (bytes : List ℕ) → IsWish bytes None → NeverAsks bytes
never_wished bytes not = record { reload = never_by reload_front bytes not.0; metrics = never_by metrics_front bytes not.1 }

-- what is no whole request and is as long as is looked at never comes to, nor what never is one
long_by : (front bytes : List ℕ) → HasNone bytes → peek_limit ≤ length bytes → NeverAsksBy front bytes
long_by front bytes none long = record {
  none = λ asks. none asks.message asks.behind asks.begins;
  never = λ short more asks. omega (arith, short, long);
}

pub never_long : (bytes : List ℕ) → HasNone bytes → peek_limit ≤ length bytes → NeverAsks bytes
never_long bytes none long = record { reload = long_by reload_front bytes none long; metrics = long_by metrics_front bytes none long }

hopeless_by : (front bytes : List ℕ) → HasNone bytes → IsHopeless bytes → NeverAsksBy front bytes
hopeless_by front bytes none hopeless = record {
  none = λ asks. none asks.message asks.behind asks.begins;
  never = λ short more asks. hopeless more asks.message asks.behind asks.begins;
}

pub never_hopeless : (bytes : List ℕ) → HasNone bytes → IsHopeless bytes → NeverAsks bytes
never_hopeless bytes none hopeless = record { reload = hopeless_by reload_front bytes none hopeless; metrics = hopeless_by metrics_front bytes none hopeless }

-- a whole request asks for what it begins as
pub asks_whole : (bytes key : List ℕ) (what : Wish) (m : Message) (rest : List ℕ) → BeginsWithMessage bytes m rest → IsWish bytes (Some what) →
    IsJudged bytes key (asks_for what (asked_of_message m) key)
asks_whole bytes key wish.Reload m rest begins may = (record { message = m; behind = rest; begins = begins; front = begins_so reload_front bytes m rest refl begins may }, refl)
asks_whole bytes key wish.Metrics m rest begins may = (record { message = m; behind = rest; begins = begins; front = begins_so metrics_front bytes m rest refl begins may }, refl)

-- and what is none yet may come to
pub may_come : (bytes key : List ℕ) (what : Wish) → HasNone bytes → IsWish bytes (Some what) → IsJudged bytes key judged.More
may_come bytes key wish.Reload none may = (none, inl may)
may_come bytes key wish.Metrics none may = (none, inr may)
