use Rattle.std.proofs.Common.{refl}
use Rattle.token_store.proofs.Names.{told, event_at, kept_of}
use Rattle.token_store.proofs.Families.{unaltered, ended_altered}
use Rattle.token_store.proofs.Following.{fits_unmoved}
use Rattle.token_store.proofs.Changing.{last_pushed, last_pushed_none}
use Rattle.token_store.proofs.tables.Tables.alter.Goals as goal

pub returns-in-Consented : goal.returns-in-Consented
returns-in-Consented c =
    let w = c.in-Consented in
    let e = c.lower.ensures in
    rw w.is (record { tied = e.tied; alters = e.alters; families = e.families; coming = e.coming })

pub returns-in-Spent-clause-families : goal.returns-in-Spent-clause-families
returns-in-Spent-clause-families c =
    let w = c.in-Spent in
    rw (w.is, c.spend_at.ensures.families) (unaltered c.args.self.now.families.entries (told.Spent w.digest) refl)

pub returns-in-FamilyEnded-clause-families : goal.returns-in-FamilyEnded-clause-families
returns-in-FamilyEnded-clause-families c =
    let w = c.in-FamilyEnded in
    rw w.is (ended_altered c.args.self.now.families.entries c.end.new.self.families.entries w.family c.end.ensures.families)

pub returns-in-Numbered : goal.returns-in-Numbered
returns-in-Numbered c =
    let t = c.args.self.now in
    let w = c.in-Numbered in
    let x = told.Numbered w.last in
    rw (w.is, c.pass.ensures.same) (record {
      tied = rw c.pass.ensures.same at c.pass.ensures.tied;
      alters = λ history fits. record {
        kept = fits_unmoved (kept_of t) history c.args.moment x refl refl (λ d. refl) fits.kept;
        last = last_pushed t.last history (event_at c.args.moment x) fits.last;
      };
      families = unaltered t.families.entries x refl;
      coming = refl;
    })

pub returns-in-HookSet : goal.returns-in-HookSet
returns-in-HookSet c =
    let t = c.args.self.now in
    let w = c.in-HookSet in
    let x = told.HookSet w.name.now w.version w.code.now in
    rw w.is (record {
      tied = c.requires.tied;
      alters = λ history fits. record {
        kept = fits_unmoved (kept_of t) history c.args.moment x refl refl (λ d. refl) fits.kept;
        last = last_pushed_none t.last history (event_at c.args.moment x) fits.last refl;
      };
      families = unaltered t.families.entries x refl;
      coming = refl;
    })

pub returns-in-HookGone : goal.returns-in-HookGone
returns-in-HookGone c =
    let t = c.args.self.now in
    let w = c.in-HookGone in
    let x = told.HookGone w.name.now in
    rw w.is (record {
      tied = c.requires.tied;
      alters = λ history fits. record {
        kept = fits_unmoved (kept_of t) history c.args.moment x refl refl (λ d. refl) fits.kept;
        last = last_pushed_none t.last history (event_at c.args.moment x) fits.last refl;
      };
      families = unaltered t.families.entries x refl;
      coming = refl;
    })
