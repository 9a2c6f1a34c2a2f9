use Rattle.std.proofs.Common.{rules, ◌≡◌}
use Rattle.token_store.proofs.Names.{code_shared, home_shared}
use Rattle.token_store.specs.Room.{records_by}
use Rattle.token_store.proofs.Again.{again_code, again_token, again_altered, on_ok_kept}
use Rattle.token_store.proofs.tables.Tables.redo_standing.Goals as goal

pub returns-in_ok-texts-in-CodeGiven-clause-redone : goal.returns-in_ok-texts-in-CodeGiven-clause-redone
returns-in_ok-texts-in-CodeGiven-clause-redone c =
    let t = c.args.self.now in
    let t' = c.keep_again.new.self in
    let w = c.in-CodeGiven in
    let m = c.args.moment in
    let r = c.of_code-record.result in
    let again = rw c.of_code.ensures at c.keep_again.ensures in
    on_ok_kept c.keep_again.result t t' w.digest r (code_shared w.facts 0) again.tied again.coming again.last again.known again.keeps (λ has list fits.
    rw w.is (again_code t t' list m c.requires.tied c.requires.live fits w.family w.facts w.digest r c.of_code-record.ensures.family c.of_code-record.ensures.kept has))

pub returns-in-Issued-clause-redone : goal.returns-in-Issued-clause-redone
returns-in-Issued-clause-redone c =
    let t = c.args.self.now in
    let t' = c.keep_again-in-Issued.new.self in
    let w = c.in-Issued in
    let m = c.args.moment in
    let r = c.of_token-record.result in
    let again = rw c.of_home.ensures at c.keep_again-in-Issued.ensures in
    on_ok_kept c.keep_again-in-Issued.result t t' w.token.digest r (home_shared w.home 0) again.tied again.coming again.last again.known again.keeps (λ has list fits.
    rw w.is (again_token t t' list m c.requires.tied c.requires.live fits w.home w.token r c.of_token-record.ensures.family c.of_token-record.ensures.kept has))

pub returns-in_default : goal.returns-in_default
returns-in_default c = record {
  tied = c.alter.ensures.tied;
  redone = λ list fits.
      let none : records_by c.args.change.now ≡ 0 = search rules in
      again_altered c.args.self.now c.alter.new.self list c.args.moment c.args.change.now none c.alter.ensures.alters c.alter.ensures.families c.alter.ensures.coming fits;
}
