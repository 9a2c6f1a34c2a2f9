-- What stays of a list of changes is gathered and written, with the number and the horizon behind it.
use Rattle.std.proofs.Common.{◌≡◌, ◌<◌, ◌≤◌, ◌+◌, ◌^◌, ◌∙◌, ℕ, List, [], ◌∷◌, ◌++◌, length, length-append, refl, sym, ap, subst, append_assoc, arith}
use Rattle.consent.specs.History.Change.{Numbered}
use Rattle.shortening.specs.Shortened.{shortened}
use Rattle.state_keeper.proofs.Names.{AreTold, AreTold-changes, AreTold-joined, Event, HaveSpelling, append-nil, batch_spelling, left_numbered, one_told}
use Rattle.consent.specs.History.{event_at, last_moment}
use Rattle.state_file.specs.Standing.{horizons}
use Rattle.state_file.specs.Renewing.{number_told, IsShortened}
use Rattle.state_file.specs.HorizonLaws.{by_horizons}
use Rattle.state_keeper.proofs.Lasting.{until_of-less}
use Rattle.state_file.specs.ShortLaws.{are_told, plain-joined, rules_are, until_is}
use Rattle.state_keeper.specs.PassingParts.{AreLeft, Finishes, IsUnder, LeadsTo, StaysLeft, WritesHorizon}
use Rattle.state_file.specs.ShortParts.{AddsChanges, IsPlain}
use Rattle.state_keeper.specs.declared.course.Course.{Course}

-- GATHERING

-- these changes are gathered as well
pub stays_gathered : (gathered es : List Event) (written : List (List ℕ)) → StaysLeft gathered es (gathered ++ es) written written
stays_gathered gathered es written all rules coming left = record {
  told = left.told;
  adds = left.adds;
  few = left.few;
  whole =
      ap (λ (xs : List Event). xs ++ coming) (sym (append_assoc left.told gathered es)) ∙ append_assoc (left.told ++ gathered) es coming ∙ left.whole;
}

-- what is gathered is written
pub stays_written : (gathered : List Event) (written : List (List ℕ)) (bytes : List ℕ) → bytes ≡ batch_spelling gathered → HaveSpelling gathered → 1 ≤ length gathered →
    StaysLeft gathered [] [] written (written ++ bytes ∷ [])
stays_written gathered written bytes is fits more all rules coming left =
    let both = length-append left.adds.more (bytes ∷ []) in
    let told = length-append left.told gathered in
    let few = left.few in
    record {
      told = left.told ++ gathered;
      adds = record {
        more = left.adds.more ++ bytes ∷ [];
        added = ap (λ (bs : List (List ℕ)). bs ++ bytes ∷ []) left.adds.added ∙ append_assoc (rules ∷ []) left.adds.more (bytes ∷ []);
        told = AreTold-joined left.adds.more (bytes ∷ []) left.told gathered left.adds.told (subst (λ (b : List ℕ). AreTold (b ∷ []) gathered) (sym is) (AreTold-changes gathered fits));
        plain = plain-joined left.adds.more (bytes ∷ []) left.adds.plain (subst (λ (b : List ℕ). IsPlain b) (sym is) (record { no_rules = refl; no_horizon = refl }), tt);
      };
      few = omega (arith, both, told, few, more);
      whole = ap (λ (xs : List Event). xs ++ coming) (append-nil (left.told ++ gathered)) ∙ left.whole;
    }

-- nothing is gathered
pub stays_empty : (gathered : List Event) (written : List (List ℕ)) → gathered ≡ [] → StaysLeft gathered [] [] written written
stays_empty gathered written none all rules coming left = subst (λ (es : List Event). AreLeft all rules es coming written) none left

-- one after the other
pub stays_then : (g es h fs i : List Event) (one two three : List (List ℕ)) → StaysLeft g es h one two → StaysLeft h fs i two three → StaysLeft g (es ++ fs) i one three
stays_then g es h fs i one two three first later all rules coming left =
    later all rules coming (first all rules (fs ++ coming) (subst (λ (xs : List Event). AreLeft all rules g xs one) (append_assoc es fs coming) left))

module _ {Old Mid New : List (List ℕ) → Type 0} where
  pub leads_then : (g es h fs i : List Event) → LeadsTo Old Mid (StaysLeft g es h) → LeadsTo Mid New (StaysLeft h fs i) → LeadsTo Old New (StaysLeft g (es ++ fs) i)
  leads_then g es h fs i first later = λ written old.
      let one = first written old in
      let two = later one.0 one.1 in
      (two.0, two.1, stays_then g es h fs i written one.0 two.0 one.2 two.2)

pub leads_gathered : {Old : List (List ℕ) → Type 0} (g es h : List Event) → h ≡ g ++ es → LeadsTo Old Old (StaysLeft g es h)
leads_gathered g es h is = λ written old. (written, old, subst (λ (xs : List Event). StaysLeft g es xs written written) (sym is) (stays_gathered g es written))

-- FINISHING

horizons_few : (until : ℕ) → length (horizons until) ≤ 1
horizons_few until = by_horizons until (λ bs. length bs ≤ 1) (λ _. omega arith) (omega arith)

module _ (front : List (List ℕ)) (rules : List ℕ) (until : ℕ) (facts : List Event) (under : IsUnder front rules until) (told : AreTold front facts) where
  -- all that is left, the number and the horizon are what is left of the front
  pub shortened_front : (written after : List (List ℕ)) → AreLeft (left_numbered facts) rules [] [] written → after ≡ written ++ horizons until → IsShortened front after
  shortened_front written after left ends =
      let all : left.told ≡ left_numbered facts = sym (append-nil left.told) ∙ sym (append-nil (left.told ++ [])) ∙ left.whole in
      let adds : AddsChanges (left_numbered facts) (rules ∷ []) written = subst (λ (es : List Event). AddsChanges es (rules ∷ []) written) all left.adds in
      let less : until < 2 ^ 63 = subst (λ (n : ℕ). n < 2 ^ 63) (sym under.until_is) (until_of-less front) in
      let last = rules_are rules (left_numbered facts) (rules ∷ []) written after until under.rules_begin refl adds ends less in
      let few = left.few in
      let size : length after ≤ length (left_numbered facts) + 2 = (let a = ap length ends in let b = length-append written (horizons until) in let c = ap length left.adds.added in
      let d = horizons_few until in let e = ap length all in omega (arith, few, a, b, c, d, e)) in
      record {
        left = λ others are.
            subst (λ (es : List Event). AreTold after (left_numbered es)) (one_told front facts others told are)
            (are_told rules (left_numbered facts) (rules ∷ []) written after until under.rules_begin refl adds ends less);
        tell = λ fact tell. (tell.0, last ∙ sym under.rules_are ∙ tell.1, tell.2);
        until = until_is rules (left_numbered facts) (rules ∷ []) written after until under.rules_begin refl adds ends less ∙ under.until_is;
        few = λ others are. subst (λ (es : List Event). length after ≤ length (left_numbered es) + 2) (one_told front facts others told are) size;
      }

-- the number goes behind what is left
numbered_left : (all : List Event) (rules : List ℕ) (number : Event) (written : List (List ℕ)) → AreLeft all rules [] [] written → AreLeft (all ++ number ∷ []) rules [] (number ∷ []) written
numbered_left all rules number written left = record {
  told = left.told;
  adds = left.adds;
  few = left.few;
  whole = ap (λ (es : List Event). es ++ number ∷ []) (sym (append-nil (left.told ++ [])) ∙ left.whole);
}

pub finished : (course : Course) (gathered : List Event) (number : Event) (one two three four : List (List ℕ)) → number ≡ event_at course.last.moment (Numbered course.last.number) →
    StaysLeft gathered [] [] one two → StaysLeft [] (number ∷ []) [] two three → WritesHorizon course.until three four → Finishes course gathered one four
finished course gathered number one two three four is out last ends = λ front rules facts under told tells left.
    let m = course.last.moment in
    let all = shortened m facts in
    let number_is : number ≡ number_told facts = is ∙ ap (λ (n : ℕ). event_at n (Numbered course.last.number)) tells.moment ∙ ap (λ (n : ℕ). event_at (last_moment 0 facts) (Numbered n)) tells.number in
    let whole : all ++ number ∷ [] ≡ left_numbered facts = ap (λ (n : ℕ). shortened n facts ++ number ∷ []) tells.moment ∙ ap (λ (e : Event). shortened (last_moment 0 facts) facts ++ e ∷ []) number_is in
    let written : AreLeft (all ++ number ∷ []) rules [] [] three = last (all ++ number ∷ []) rules [] (numbered_left all rules number two (out all rules [] left)) in
    shortened_front front rules course.until facts under told three four (subst (λ (es : List Event). AreLeft es rules [] [] three) whole written) ends
