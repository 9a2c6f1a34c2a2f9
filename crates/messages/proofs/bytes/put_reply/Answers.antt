use Rattle.std.proofs.Common.{rules, ◌≡◌, ◌++◌, [], length, unwrap_or, option_copied, ap, ◌∙◌}
use Rattle.messages.specs.Written.{status_line, type_line, cache_lines, location_line, challenge_line, length_line, crlf}
use Rattle.messages.proofs.Joining.{joined}
use Rattle.messages.proofs.bytes.put_reply.Goals as goal

pub returns-clause-items : goal.returns-clause-items
returns-clause-items c =
    let status = c.args.status in
    let text = unwrap_or (option_copied c.args.body) [] in
    let body : c.unwrap_or.result.now ≡ text = search rules in
    let content = c.put_content.ensures.items ∙ ap (λ text. c.put_guide.new.out.items ++ length_line (length text) ++ crlf ++ text) body in
    joined c.args.out.now.items (status_line status) (type_line (option_copied c.args.body)) (cache_lines status)
    (location_line (option_copied c.args.location)) (challenge_line status) (length_line (length text)) crlf text _ _ _
    c.put_opening.ensures.items c.put_guide.ensures.items content
