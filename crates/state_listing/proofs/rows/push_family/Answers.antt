use Rattle.state_listing.proofs.rows.push_family.Goals as goal

pub returns : goal.returns
returns c = rw (c.in_ok-boolean.ensures, c.in_ok-push_code_scope.ensures, c.in_ok-push_owner.ensures, c.in_ok-push_client.ensures, c.in_ok-number.ensures, c.in_ok-line.ensures) at c.end_line.ensures
