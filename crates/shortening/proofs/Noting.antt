-- What is noted of the changes, one after the other.
use Rattle.std.proofs.Common.{◌≡◌, ◌<◌, ℕ, ◌+◌, List, [], ◌∷◌, ◌++◌, Bool, true, false, cond, Option, None, Some, refl, ap, sym, ◌∙◌, arith, take, length}
use Rattle.std.specs.Prelude.{◌||◌, ◌==◌, is_some, get_or}
use Rattle.std.specs.List.{list_any}
use Rattle.std.specs.Str.{bytes_eq}
use Rattle.std.proofs.lemmas.Bool.Decides.{nat_tests}
use Rattle.std.proofs.lemmas.List.{take_more, map-append}
use Rattle.std.proofs.lemmas.List.Folds.{list_any-append}
use Rattle.consent.specs.History.{Event, Grant, grant_of, grants, grant_at, is_live_in, lives}
use Rattle.consent.specs.GrowthLaws.{grants-append, grant_at-append}
use Rattle.change_codec.specs.Spelling.{dated_fact, dated_facts}
use Rattle.change_codec.specs.declared.dated.DatedChange.{DatedChange}
use Rattle.shortening.specs.FilterLaws.{bytes_eq_sym}
use Rattle.shortening.specs.Known.{NotesUnexpired, has_digest, has_family, noted_by}
use Rattle.shortening.specs.declared.unexpired.Unexpired.{Unexpired}

-- A CHANGE MORE

pub facts_more : (i : ℕ) (ds : List DatedChange) (d : DatedChange) → i < length ds → d ≡ get_or ds i d →
    dated_facts (take (i + 1) ds) ≡ dated_facts (take i ds) ++ dated_fact d ∷ []
facts_more i ds d lt is =
    ap dated_facts (take_more ds i d lt ∙ ap (λ x. take i ds ++ x ∷ []) (sym is)) ∙ map-append dated_fact (take i ds) (d ∷ [])

-- the digest is the one noted, and the family
abbrev is_noted : List ℕ → Option (List ℕ × ℕ) → Bool
is_noted digest None = false
is_noted digest (Some p) = bytes_eq digest p.0

abbrev is_noted_of : ℕ → Option (List ℕ × ℕ) → Bool
is_noted_of family None = false
is_noted_of family (Some p) = p.1 == family

one_named : (digest : List ℕ) (m : ℕ) (e : Event) (o : Option Grant) → grant_of e ≡ o → is_some (grant_at (e ∷ []) digest m) ≡ is_noted digest (noted_by m o)
one_named digest m e None is = grind (arith, is)
one_named digest m e (Some g) is = grind (arith, is)

one_lives : (family m : ℕ) (e : Event) (o : Option Grant) → grant_of e ≡ o → lives (e ∷ []) m family ≡ is_noted_of family (noted_by m o)
one_lives family m e None is = grind (arith, is)
one_lives family m e (Some g) is = grind (arith, is)

named_push : (events : List Event) (e : Event) (digest : List ℕ) (m : ℕ) →
    is_some (grant_at (events ++ e ∷ []) digest m) ≡ (is_some (grant_at events digest m) || is_noted digest (noted_by m (grant_of e)))
named_push events e digest m =
    let both = grant_at-append events (e ∷ []) digest m in
    let one = one_named digest m e (grant_of e) refl in grind (arith, both, one)

lives_push : (events : List Event) (e : Event) (m family : ℕ) →
    lives (events ++ e ∷ []) m family ≡ (lives events m family || is_noted_of family (noted_by m (grant_of e)))
lives_push events e m family =
    ap (list_any (is_live_in family m)) (grants-append events (e ∷ [])) ∙ list_any-append (is_live_in family m) (grants events) (grants (e ∷ []))
    ∙ ap (λ b. lives events m family || b) (one_lives family m e (grant_of e) refl)

pub notes_nothing : (noted : Unexpired) (m : ℕ) → noted.named.keys ≡ [] → noted.living.keys ≡ [] → NotesUnexpired noted [] m
notes_nothing noted m no_names no_families = record {
  named = λ digest. ap (list_any (bytes_eq digest)) no_names;
  living = λ family. ap (list_any (λ f. family == f)) no_families;
}

-- which gives nothing unexpired
pub notes_none : (noted : Unexpired) (events : List Event) (m : ℕ) (e : Event) → noted_by m (grant_of e) ≡ None →
    NotesUnexpired noted events m → NotesUnexpired noted (events ++ e ∷ []) m
notes_none noted events m e none notes = record {
  named = λ digest. (let was = notes.named digest in let both = named_push events e digest m in grind (arith, none, was, both));
  living = λ family. (let was = notes.living family in let both = lives_push events e m family in grind (arith, none, was, both));
}

-- or something
pub notes_some : (old new : Unexpired) (events : List Event) (m : ℕ) (e : Event) (digest : List ℕ) (family : ℕ) →
    noted_by m (grant_of e) ≡ Some (digest, family) →
    ((q : List ℕ) → has_digest new q ≡ cond (bytes_eq digest q) true (has_digest old q)) →
    ((q : ℕ) → has_family new q ≡ cond (family == q) true (has_family old q)) →
    NotesUnexpired old events m → NotesUnexpired new (events ++ e ∷ []) m
notes_some old new events m e digest family some names families notes = record {
  named = λ q. (let was = notes.named q in let both = named_push events e q m in let now = names q in let turned = bytes_eq_sym q digest in
      grind (arith, some, was, both, now, turned));
  living = λ q. (let was = notes.living q in let both = lives_push events e m q in let now = families q in grind (arith, nat_tests, some, was, both, now));
}
