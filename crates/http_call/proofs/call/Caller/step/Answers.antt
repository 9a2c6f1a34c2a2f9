use Rattle.std.proofs.Common.{◌++◌, ◌∙◌, List, [], ℕ, ap, subst, sym}
use Rattle.http1.specs.Client.{ClientReads}
use Rattle.http1.specs.declared.client.Client.{Client}
use Rattle.httparse.specs.Spans.{span_bytes}
use Rattle.http_call.specs.Answers.{Reading, Steps, reading}
use Rattle.http_call.specs.declared.call.Response.{Response}
use Rattle.http_call.proofs.Came.{nothing_came}
use Rattle.http_call.proofs.Stepped.{data_on, early_on, head_on, more_on}
use Rattle.http_call.proofs.call.Caller.step.Goals.{in-Data+else-piece-most+in_ok-extend_from_slice-in-Data, in-Head, in-Informational}
use Rattle.http_call.proofs.call.Caller.step.Goals as goal

pub returns-in-NeedMore-clause-more : goal.returns-in-NeedMore-clause-more
returns-in-NeedMore-clause-more g c =
    let at : Reading = reading c.args.self.now c.args.response.now in
    let came = c.in_ok-fill-in-NeedMore.ensures.came in
    let was : ClientReads at.client at.unread c.read.new.headers c.read.new.self c.in_ok-read.read =
    subst (λ (u : List ℕ). ClientReads at.client u c.read.new.headers c.read.new.self c.in_ok-read.read) c.deref.ensures.value c.in_ok-read.ensures.ok in
    λ same. (
      came.0,
      came.1,
      subst (λ (cl : Client). Steps at came.0 (record { client = cl; unread = c.fill.new.self.unread.items; status = at.status; body = at.body })) (sym c.fill.ensures.client)
          (more_on at c.read.new.headers c.read.new.self c.in_ok-read.read was c.fill.new.self.unread.items came.0
          (came.2 ∙ ap (λ (l : List ℕ). l ++ came.0) c.take_front.ensures) c.in-NeedMore.is),
    )

pub returns-clause-more : goal.returns-clause-more
returns-clause-more g c =
    let at : Reading = reading c.args.self.now c.args.response.now in
    let headers = c.read.new.headers in
    let client = c.read.new.self in
    let read = c.in_ok-read.read in
    let unread = c.take_front-2.new.bytes.items in
    let was : ClientReads at.client at.unread headers client read =
    subst (λ (u : List ℕ). ClientReads at.client u headers client read) c.deref.ensures.value c.in_ok-read.ensures.ok in
    λ same. (
      [],
      nothing_came (g.S.Read.remaining c.args.self.now.stream),
      elim c.match-read.branch [
        | in-Informational w ↦
            subst (λ (r : Response). Steps at [] (record { client = client; unread = unread; status = r.status; body = r.body.items })) (sym w.response-is)
            (early_on at headers client read was unread c.take_front-2.ensures w.in-Informational.field-0 w.in-Informational.is)
        | in-Head w ↦
            subst (λ (r : Response). Steps at [] (record { client = client; unread = unread; status = r.status; body = r.body.items })) (sym w.response-is)
            (head_on at headers client read was unread c.take_front-2.ensures w.in-Head.head w.in-Head.is)
        | in-Data+else-piece-most+in_ok-extend_from_slice-in-Data w ↦
            let piece = w.of-piece.ensures ∙ ap (λ (u : List ℕ). span_bytes u w.in-Data.span) w.deref-in-Data.ensures.value in
            let body = w.in_ok-extend_from_slice-in-Data.ensures.items ∙ ap (λ (l : List ℕ). at.body ++ l) piece in
            subst (λ (r : Response). Steps at [] (record { client = client; unread = unread; status = r.status; body = r.body.items })) (sym w.response-is)
            (subst (λ (b : List ℕ). Steps at [] (record { client = client; unread = unread; status = at.status; body = b })) (sym body)
            (data_on at headers client read was unread c.take_front-2.ensures w.in-Data.span w.in-Data.is))
      ],
    )
