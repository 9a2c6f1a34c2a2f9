use Rattle.std.proofs.Common.{◌≤◌, false, refl, arith}
use Rattle.shelf.specs.StandingLaws.{stand_once}
use Rattle.token_store.proofs.Names.{client_of, expiry}
use Rattle.token_store.proofs.Dropping.{fewer_entries}
use Rattle.token_store.proofs.Sweeping.{all_live, gone_same, gone_tied, left_seen}
use Rattle.token_store.proofs.tables.Tables.look_once.Goals as goal

pub returns-in-Gone : goal.returns-in-Gone
returns-in-Gone c =
    let t = c.args.self.now in
    let m = c.args.moment in
    let r = c.in-Gone.expired in
    let gone = rw c.in-Gone.is at c.look.ensures.looked in
    let t' = c.look.new.self in
    let once = stand_once expiry client_of t' c.look.ensures.standing in
    let f' = c.leave.new.families.entries in
    let late = gone.expired in
    record {
      tied = record {
        standing = c.look.ensures.standing;
        ties = gone_tied t.families.entries f' _ _ t.owners.keys c.leave.new.owners.keys t.last t.swept _ c.args.keeps gone.digest r c.requires.ties once gone.taken c.leave.ensures.left
            (let is = c.max-self.ensures in let got = c.get.ensures.value in omega (arith, late, is, got)) (let is = c.max-self.ensures in omega (arith, is)) c.leave.ensures.owned;
      };
      last = refl;
      same = gone_same t.families.entries f' _ _ t.owners.keys c.leave.new.owners.keys t.last t.swept t.swept c.args.keeps gone.digest r c.requires.ties once gone.taken c.leave.ensures.left m late;
      coming = refl;
      stay = left_seen t.families.entries f' r.family c.args.keeps c.leave.ensures.left;
      live = tt;
      fewer = fewer_entries gone.digest _ _ r gone.taken;
      one = omega arith;
      goes = c.look.ensures.goes (rw c.in-Gone.is refl);
    }

pub returns-in-More : goal.returns-in-More
returns-in-More c =
    let same = rw c.in-More.is at c.look.ensures.looked in
    record {
      tied = record { standing = c.look.ensures.standing; ties = rw same c.requires.ties };
      last = refl;
      same = rw same (record { finds = λ d u le. refl; counts = λ u le. refl });
      coming = refl;
      stay = λ is n. refl;
      live = tt;
      fewer = rw same (omega arith);
      one = omega arith;
      goes = c.look.ensures.goes (rw c.in-More.is refl);
    }

pub returns-in-Done : goal.returns-in-Done
returns-in-Done c =
    let done = rw c.in-Done.is at c.look.ensures.looked in
    record {
      tied = record { standing = c.look.ensures.standing; ties = rw done.0 c.requires.ties };
      last = refl;
      same = rw done.0 (record { finds = λ d u le. refl; counts = λ u le. refl });
      coming = refl;
      stay = λ is n. refl;
      live = all_live _ c.args.moment done.1;
      fewer = tt;
      one = tt;
      goes = tt;
    }
