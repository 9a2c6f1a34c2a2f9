use Rattle.std.proofs.Common.{◌≡◌, ◌<◌, ◌≤◌, ◌∙◌, ap, sym, subst, None, Some, refl, arith}
use Rattle.token_store.specs.Records.{client_of, homed}
use Rattle.token_store.proofs.Names.{bytes_eq, bytes_eq-Decides, expiry, family_numbered, lookup, or_nothing, shared_at, stand_entries, Record}
use Rattle.token_store.proofs.Settling.{settled, count_few, homed_client, homed_expiry, homed_kept}
use Rattle.token_store.proofs.Dropping.{member_counted}
use Rattle.token_store.proofs.tables.Tables.put.Goals as goal

pub enter-requires : goal.enter-requires
enter-requires c =
    let t = c.args.self.now in
    let le = count_few t.families.entries (stand_entries t.records) c.args.new.family c.requires.tied.ties.counted in
    let len = c.len.ensures.value in
    let few = c.len.ensures.small in
    omega (arith, le, len, few)

-- something was under the digest
pub returns-in-Some-put : goal.returns-in-Some-put
returns-in-Some-put c =
    let t = c.args.self.now in
    let f = t.families.entries in
    let d = c.args.digest.now in
    let r : Record = homed c.in-Some.shared.client c.args.new in
    let same_kept = homed_kept c.in-Some.shared.client c.args.new (shared_at f c.args.new.family) d in
    let x = c.in-Some-put.expired in
    let e = c.put.ensures in
    let got = c.get.ensures.value in
    let same = c.copied.ensures in
    let found = c.in-Some.is in
    let there : family_numbered f c.args.new.family ≡ Some c.in-Some.shared = grind (arith, got, same, found) in
    let home : client_of r ≡ (shared_at f r.family).client = homed_client c.in-Some.shared.client c.args.new ∙ ap (λ o. (or_nothing o).client) (sym there) in
    let puts = rw (c.in-Some-put.is, c.home.ensures) at e.puts in
    let finds = rw c.home.ensures at e.found in
    let later = c.max-self.ensures in
    let until = c.expiry-in-Some-put.ensures in
    let all = settled f c.enter.new.families.entries c.leave.new.families.entries (stand_entries t.records) (stand_entries c.put.new.self) t.owners.keys c.leave.new.owners.keys t.last t.swept c.max-self.result
    d (Some x) r c.requires.tied.ties c.requires.passed c.requires.open home (rw (c.expiry.ensures, ← homed_expiry c.in-Some.shared.client c.args.new) at c.enter.ensures.entered) c.leave.ensures.left c.leave.ensures.owned
    puts finds (omega (arith, later)) (λ y its. (let own : x ≡ y = grind (arith, its) in subst (λ (z : Record). expiry z ≤ c.max-self.result) own (omega (arith, later, until)))) in
    let at : lookup (bytes_eq d) (stand_entries c.put.new.self) ≡ Some r = (let own = (bytes_eq-Decides d d).1 refl in finds d ∙ rw own refl) in
    record {
      tied = record { standing = e.standing; ties = all.tied };
      last = refl;
      coming = refl;
      peopled = (let member = member_counted d (stand_entries c.put.new.self) r at in let count = all.tied.counted r.family in let some : 0 < (shared_at c.leave.new.families.entries r.family).count = omega (arith, member, count) in some);
      keeps = rw same_kept at all.keeps;
      room = e.room;
      entered = λ none. absurd (let was = puts.found in let both : None ≡ Some x = sym none ∙ was in cc);
    }

-- nothing was
pub returns-in_default-put : goal.returns-in_default-put
returns-in_default-put c =
    let t = c.args.self.now in
    let f = t.families.entries in
    let d = c.args.digest.now in
    let r : Record = homed c.in-Some.shared.client c.args.new in
    let same_kept = homed_kept c.in-Some.shared.client c.args.new (shared_at f c.args.new.family) d in
    let e = c.put.ensures in
    let got = c.get.ensures.value in
    let same = c.copied.ensures in
    let found = c.in-Some.is in
    let there : family_numbered f c.args.new.family ≡ Some c.in-Some.shared = grind (arith, got, same, found) in
    let home : client_of r ≡ (shared_at f r.family).client = homed_client c.in-Some.shared.client c.args.new ∙ ap (λ o. (or_nothing o).client) (sym there) in
    let puts = rw (c.in_default-put.is, c.home.ensures) at e.puts in
    let finds = rw c.home.ensures at e.found in
    let f' = c.enter.new.families.entries in
    let entered = rw c.expiry.ensures at c.enter.ensures.entered in
    let all = settled f f' f' (stand_entries t.records) (stand_entries c.put.new.self) t.owners.keys t.owners.keys t.last t.swept t.swept
    d None r c.requires.tied.ties c.requires.passed c.requires.open home (rw (← homed_expiry c.in-Some.shared.client c.args.new) at entered) refl (λ owned. owned)
    puts finds (omega arith) (λ y its. cc) in
    let at : lookup (bytes_eq d) (stand_entries c.put.new.self) ≡ Some r = (let own = (bytes_eq-Decides d d).1 refl in finds d ∙ rw own refl) in
    record {
      tied = record { standing = e.standing; ties = all.tied };
      last = refl;
      coming = refl;
      peopled = (let member = member_counted d (stand_entries c.put.new.self) r at in let count = all.tied.counted r.family in let some : 0 < (shared_at f' r.family).count = omega (arith, member, count) in some);
      keeps = rw same_kept at all.keeps;
      room = e.room;
      entered = λ none. entered;
    }
