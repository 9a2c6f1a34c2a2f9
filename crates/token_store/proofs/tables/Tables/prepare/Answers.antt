use Rattle.token_store.proofs.tables.Tables.prepare.Goals as goal

pub returns-in_ok-texts-in-CodeGiven-clause-ready : goal.returns-in_ok-texts-in-CodeGiven-clause-ready
returns-in_ok-texts-in-CodeGiven-clause-ready c = rw (c.in-CodeGiven.is, ← c.of_code.ensures, ← c.in_ok-texts-in-CodeGiven.ensures) c.expect.ensures.expected

pub returns-in-Issued-clause-ready : goal.returns-in-Issued-clause-ready
returns-in-Issued-clause-ready c = rw (c.in-Issued.is, ← c.of_home.ensures) c.expect-in-Issued.ensures.expected
