-- One step of a response, by its event.
use Rattle.std.proofs.Common.{◌≡◌, ◌++◌, ◌∙◌, ℕ, List, [], drop, sym, ap, subst}
use Rattle.http1.specs.Client.{ClientReads}
use Rattle.http1.specs.declared.client.Client.{Client}
use Rattle.http1.specs.declared.conn.Event.{Event}
use Rattle.http1.specs.declared.conn.Event.TheVariants.{NeedMore, Head, Informational, Data, End}
use Rattle.http1.specs.declared.conn.Progress.{Progress}
use Rattle.httparse.specs.Spans.{span_bytes}
use Rattle.httparse.specs.declared.spans.HeaderSpan.{HeaderSpan}
use Rattle.httparse.specs.declared.spans.ResponseSpans.{ResponseSpans}
use Rattle.httparse.specs.declared.spans.Span.{Span}
use Rattle.http_call.specs.Answers.{Ends, GoesOn, Reading, Steps, body_by, reads, reads_more, status_by}

abbrev reading_by : Client → List ℕ → ℕ → List ℕ → Reading
reading_by client unread status body = record { client = client; unread = unread; status = status; body = body }

reading_is : (client : Client) (unread others : List ℕ) (status code : ℕ) (body more : List ℕ) → unread ≡ others → status ≡ code → body ≡ more
    → reading_by client unread status body ≡ reading_by client others code more
reading_is client unread others status code body more is_unread is_status is_body =
    ap (λ (u : List ℕ). reading_by client u status body) is_unread ∙ ap (λ (s : ℕ). reading_by client others s body) is_status
    ∙ ap (λ (b : List ℕ). reading_by client others code b) is_body

module _ (at : Reading) (spans : List HeaderSpan) (client : Client) (read : Progress ResponseSpans) (was : ClientReads at.client at.unread spans client read)
    (unread : List ℕ) where
  module _ (here : unread ≡ drop read.consumed at.unread) where
    abbrev Stepped : ℕ → List ℕ → Type 0
    Stepped status body = Steps at [] (reading_by client unread status body)

    on_by : (event : Event ResponseSpans) → read.event ≡ event → GoesOn event → Stepped (status_by event at.status) (body_by event at.unread at.body)
    on_by event is on =
        subst (λ (r : Reading). Steps at [] r)
        (reading_is client (drop read.consumed at.unread) unread (status_by read.event at.status) (status_by event at.status) (body_by read.event at.unread at.body)
        (body_by event at.unread at.body) (sym here) (ap (λ (e : Event ResponseSpans). status_by e at.status) is)
        (ap (λ (e : Event ResponseSpans). body_by e at.unread at.body) is))
        (reads spans client read was (subst (λ (e : Event ResponseSpans). GoesOn e) (sym is) on))

    pub head_on : (head : ResponseSpans) → read.event ≡ Head head → Stepped head.code at.body
    head_on head is = on_by (Head head) is tt

    pub early_on : (head : ResponseSpans) → read.event ≡ Informational head → Stepped at.status at.body
    early_on head is = on_by (Informational head) is tt

    pub data_on : (span : Span) → read.event ≡ Data span → Stepped at.status (at.body ++ span_bytes at.unread span)
    data_on span is = on_by (Data span) is tt

    pub ended : (count : ℕ) → read.event ≡ End count → Ends at (reading_by client unread at.status at.body)
    ended count is = record {
      spans = spans;
      client = client;
      read = read;
      count = count;
      reads = was;
      end = is;
      is = reading_is client unread (drop read.consumed at.unread) at.status (status_by read.event at.status) at.body (body_by read.event at.unread at.body) here
          (ap (λ (e : Event ResponseSpans). status_by e at.status) (sym is)) (ap (λ (e : Event ResponseSpans). body_by e at.unread at.body) (sym is));
    }

  pub more_on : (came : List ℕ) → unread ≡ drop read.consumed at.unread ++ came → read.event ≡ NeedMore → Steps at came (reading_by client unread at.status at.body)
  more_on came here is =
      subst (λ (r : Reading). Steps at came r)
      (reading_is client (drop read.consumed at.unread ++ came) unread (status_by read.event at.status) at.status (body_by read.event at.unread at.body) at.body (sym here)
      (ap (λ (e : Event ResponseSpans). status_by e at.status) is) (ap (λ (e : Event ResponseSpans). body_by e at.unread at.body) is))
      (reads_more spans client read came was (subst (λ (e : Event ResponseSpans). GoesOn e) (sym is) tt))
