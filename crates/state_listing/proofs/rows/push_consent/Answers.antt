use Rattle.state_listing.proofs.rows.push_consent.Goals as goal

pub returns : goal.returns
returns c = rw (c.in_ok-push_scope.ensures, c.in_ok-push_client.ensures, c.in_ok-number.ensures, c.in_ok-line.ensures, c.from.ensures, c.get.ensures.value) at c.end_line.ensures
