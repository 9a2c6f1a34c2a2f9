use Rattle.std.proofs.Common.{◌≡◌, ◌∙◌, sym, true, false, arith}
use Rattle.std.specs.Prelude.{is_some}
use Rattle.consent.specs.Facts.{code_of}
use Rattle.consent.specs.History.{code_terms}
use Rattle.shortening.specs.Known.{has_family}
use Rattle.shortening.proofs.Codes.{both_same, both_first, other_same, dead_same, second_same, is_marked, more}
use Rattle.shortening.proofs.listing.list_code.Goals as goal

pub returns-in_default : goal.returns-in_default
returns-in_default c = λ events both.
    let d = c.args.dated.now in
    both_same (has_family c.args.unexpired.now) c.args.coded.now.keys c.args.listed.now.entries events _
    (other_same (has_family c.args.unexpired.now) events d.moment d.change c.in_default.not-CodeGiven) both.0 both.1

pub returns-then-not-lives : goal.returns-then-not-lives
returns-then-not-lives c = λ events both.
    let code = c.in-CodeGiven in
    let stays = has_family c.args.unexpired.now in
    let dead : stays code.family ≡ false = sym c.lives.ensures ∙ c.if-not-lives.true in
    rw code.is
    (both_same stays c.args.coded.now.keys c.args.listed.now.entries events
    (more events c.args.dated.now.moment code.family (code_of code.facts) code.digest)
    (dead_same events c.args.dated.now.moment code.family (code_of code.facts) code.digest stays dead) both.0 both.1)

pub returns-then-not-branch : goal.returns-then-not-branch
returns-then-not-branch c = λ events both.
    let code = c.in-CodeGiven in
    let stays = has_family c.args.unexpired.now in
    let live : stays code.family ≡ true = sym c.lives.ensures ∙ c.if-not-lives.false in
    let added = c.in_ok-insert.ensures.added in
    let same = c.in_ok-insert.ensures.unchanged in
    let had = both.0 code.family live in
    let there : is_some (code_terms events code.family) ≡ true = grind (arith, had, added, c.if-not-branch.true) in
    rw (rw c.if-not-branch.true at same, code.is)
    (both_same stays c.args.coded.now.keys c.args.listed.now.entries events
    (more events c.args.dated.now.moment code.family (code_of code.facts) code.digest)
    (second_same events c.args.dated.now.moment code.family (code_of code.facts) code.digest stays there) both.0 both.1)

pub returns : goal.returns
returns c = λ events both.
    let code = c.in-CodeGiven in
    let stays = has_family c.args.unexpired.now in
    let live : stays code.family ≡ true = sym c.lives.ensures ∙ c.if-not-lives.false in
    let added = c.in_ok-insert.ensures.added in
    let unmarked : is_marked c.args.coded.now.keys code.family ≡ false = grind (arith, added, c.if-not-branch.false) in
    rw code.is
    (both_first events c.args.dated.now.moment code.family (code_of code.facts) code.digest stays c.args.coded.now.keys c.insert.new.self.keys
    c.args.listed.now.entries c.list_scope.new.listed.entries live unmarked c.in_ok-insert.ensures.updates.0 c.in_ok-list_scope.ensures both.0 both.1)
