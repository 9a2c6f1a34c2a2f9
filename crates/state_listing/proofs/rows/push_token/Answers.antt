use Rattle.state_listing.proofs.rows.push_token.Goals as goal

pub returns : goal.returns
returns c = rw (c.in_ok-boolean.ensures, c.in_ok-number-3.ensures, c.in_ok-number-2.ensures, c.in_ok-push_scope.ensures, c.in_ok-number.ensures, c.in_ok-text.ensures, c.in_ok-line.ensures, c.from.ensures, c.get.ensures.value, c.as_str.ensures.value, c.in_ok-digits.ensures, c.bytes.ensures.value, c.kind_name.ensures) at c.end_line.ensures
