use Rattle.state_listing.proofs.rows.push_file.Goals as goal

pub returns : goal.returns
returns c = rw (c.in_ok-push_age.ensures, c.in_ok-number-4.ensures, c.in_ok-number-3.ensures, c.in_ok-number-2.ensures, c.in_ok-number.ensures, c.in_ok-line.ensures, c.get.ensures.value) at c.end_line.ensures
