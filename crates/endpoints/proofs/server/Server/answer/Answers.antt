use Rattle.std.proofs.Common.{◌≡◌, true, false, None, Some, refl, sym, ap, ◌∙◌}
use Rattle.endpoints.proofs.Names.{not-false, asked_of, path_of, noted_in, prepared_in, endpoint_at, method_at}
use Rattle.std.specs.Prelude.{not, bytes_eq}
use Rattle.endpoints.proofs.Answering.{at_moment, swept, bare_step, none_made, stepped, unkept_as, host_as}
use Rattle.answers.proofs.Sizes.{written_short}
use Rattle.endpoints.proofs.Shorter.{bare_small}
use Rattle.endpoints.specs.RulingsParts.{heeding}
use Rattle.endpoints.proofs.server.Server.answer.Goals as goal

pub returns-in_default-clause-short : goal.returns-in_default-clause-short
returns-in_default-clause-short g c = λ few. written_short _ _ (bare_small 404 refl) c.bare.ensures.reply

pub returns-then-ne-clause-short : goal.returns-then-ne-clause-short
returns-then-ne-clause-short g c = λ few. written_short _ _ (bare_small 405 refl) c.bare-then-ne.ensures.reply

pub returns-in_default-answer_at-clause-short : goal.returns-in_default-answer_at-clause-short
returns-in_default-answer_at-clause-short g c = λ few. written_short _ _ (bare_small 503 refl) c.bare-in_default-answer_at.ensures.reply

pub returns-in_default-clause-replies : goal.returns-in_default-clause-replies
returns-in_default-clause-replies g c = λ outset history m fits0.
    let fits = rw (← c.self.view_is) at fits0 in
    let moment = at_moment _ m c.args.moment _ c.greater-self-inside.ensures fits.greatest_is in
    let none : endpoint_at (path_of c.args.request.now.target.now) ≡ None = ap endpoint_at (sym c.path.ensures) ∙ sym c.at.ensures ∙ c.in_default.is in
    let now = swept g.H.HookHost _ outset history m _ _ moment.0 fits (c.make_way.ensures.fits history) in (
      false,
      None,
      tt,
      rw (none, ← moment.1) (bare_step g.H.HookHost (record { server = c.args.self.now; outset = outset; history = history; moment = c.greater-self-inside.result }) _ 404 _ now c.bare.ensures.reply (unkept_as _ _ c.self.view_is) (host_as _ _ c.self.view_is)),
      rw (none, ← moment.1) c.bare.ensures.told,
    )

pub returns-then-ne-clause-replies : goal.returns-then-ne-clause-replies
returns-then-ne-clause-replies g c = λ outset history m fits0.
    let fits = rw (← c.self.view_is) at fits0 in
    let moment = at_moment _ m c.args.moment _ c.greater-self-inside.ensures fits.greatest_is in
    let there : endpoint_at (path_of c.args.request.now.target.now) ≡ Some c.in-Some.endpoint = ap endpoint_at (sym c.path.ensures) ∙ sym c.at.ensures ∙ c.in-Some.is in
    let other : not (bytes_eq c.args.request.now.method.now (method_at c.in-Some.endpoint)) ≡ true =
    sym (c.ne.ensures ∙ ap (λ b. not (bytes_eq c.args.request.now.method.now b)) c.method.ensures) ∙ c.if-ne.true in
    let now = swept g.H.HookHost _ outset history m _ _ moment.0 fits (c.make_way.ensures.fits history) in (
      false,
      None,
      tt,
      rw (there, other, ← moment.1) (bare_step g.H.HookHost (record { server = c.args.self.now; outset = outset; history = history; moment = c.greater-self-inside.result }) _ 405 _ now c.bare-then-ne.ensures.reply (unkept_as _ _ c.self.view_is) (host_as _ _ c.self.view_is)),
      rw (there, other, ← moment.1) c.bare-then-ne.ensures.told,
    )

pub returns-in_default-answer_at-clause-replies : goal.returns-in_default-answer_at-clause-replies
returns-in_default-answer_at-clause-replies g c = λ outset history m fits0.
    let fits = rw (← c.self.view_is) at fits0 in
    let moment = at_moment _ m c.args.moment _ c.greater-self-inside.ensures fits.greatest_is in
    let there : endpoint_at (path_of c.args.request.now.target.now) ≡ Some c.in-Some.endpoint = ap endpoint_at (sym c.path.ensures) ∙ sym c.at.ensures ∙ c.in-Some.is in
    let method : bytes_eq c.args.request.now.method.now (method_at c.in-Some.endpoint) ≡ true =
    not-false _ (sym (c.ne.ensures ∙ ap (λ b. not (bytes_eq c.args.request.now.method.now b)) c.method.ensures) ∙ c.if-ne.false) in
    let now = swept g.H.HookHost _ outset history m _ _ moment.0 fits (c.make_way.ensures.fits history) in
    let same = none_made g.H.HookHost _ _ (heeding (record { endpoint = c.in-Some.endpoint; asked = asked_of c.args.request.now; draws = c.args.draws.now }) c.args.interest) c.answer_at.result c.in_default-answer_at.not-Ok c.answer_at.ensures.replies in (
      true,
      None,
      tt,
      rw (there, method, ← moment.1) (bare_step g.H.HookHost (record { server = c.args.self.now; outset = outset; history = history; moment = c.greater-self-inside.result }) _ 503 _ (same.fits outset history _ now) c.bare-in_default-answer_at.ensures.reply (same.unkept ∙ unkept_as _ _ c.self.view_is) (same.host ∙ host_as _ _ c.self.view_is)),
      rw (there, method, ← moment.1) c.bare-in_default-answer_at.ensures.told,
    )

pub returns-clause-replies : goal.returns-clause-replies
returns-clause-replies g c = λ outset history m fits0.
    let fits = rw (← c.self.view_is) at fits0 in
    let moment = at_moment _ m c.args.moment _ c.greater-self-inside.ensures fits.greatest_is in
    let there : endpoint_at (path_of c.args.request.now.target.now) ≡ Some c.in-Some.endpoint = ap endpoint_at (sym c.path.ensures) ∙ sym c.at.ensures ∙ c.in-Some.is in
    let method : bytes_eq c.args.request.now.method.now (method_at c.in-Some.endpoint) ≡ true =
    not-false _ (sym (c.ne.ensures ∙ ap (λ b. not (bytes_eq c.args.request.now.method.now b)) c.method.ensures) ∙ c.if-ne.false) in
    let now = swept g.H.HookHost _ outset history m _ c.make_way.new.store moment.0 fits (c.make_way.ensures.fits history) in
    rw (← moment.1) (stepped g.H.HookHost c.args.self.now (record { rules = c.self.inside.rules; host = c.self.inside.host; store = c.make_way.new.store; consents = c.self.inside.consents; greatest = c.greater-self-inside.result; unkept = noted_in c.self.inside.unkept; prepared = prepared_in c.self.inside.unkept })
    _ outset history c.in-Some.endpoint (asked_of c.args.request.now) c.args.draws.now c.args.interest _ there method now c.in-Ok.ensures.replies (host_as _ _ c.self.view_is) (unkept_as _ _ c.self.view_is))
