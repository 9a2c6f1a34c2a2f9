-- What the store answers for a digest is what the history has there. Only proofs cite this module.
use Rattle.std.proofs.Common.{◌≡◌, ℕ, List, Option, Some, None, Bool, true, false, cond, refl, ap, sym, arith}
use Rattle.answers.specs.Names.{Event, Grant, grants, grant_at, is_named, is_unexpired, seen_at, told_at, found_seen, Found}
use Rattle.std.specs.Prelude.{bytes_eq, option_map, IfSome}
use Rattle.std.proofs.lemmas.Slice.Eq.{bytes_eq-Decides}
use Rattle.std.proofs.lemmas.Bool.{and_parts}
use Rattle.consent.specs.ListLaws.{find-passes}
use Rattle.consent.specs.History.{is_code, is_spent}
use Rattle.consent.specs.Seen.{told_as}
use Rattle.consent.specs.SeenLaws.{told_token}
use Rattle.consent.specs.declared.grant.Kind.{Kind}
use Rattle.answers.specs.Texts.{where_passes}
use Rattle.answers.specs.Tokens.{is_own}
use Rattle.answers.specs.Found.{grant_found, IsFound}

-- nothing is named where nothing was found
pub none_named : (history : List Event) (digest : List ℕ) (m : ℕ) → None ≡ seen_at history digest m → told_at history digest m ≡ None
none_named history digest m is = grind (arith, is)

-- what is named is under its digest
pub under_digest : (history : List Event) (digest : List ℕ) (m : ℕ) (g : Grant) → grant_at history digest m ≡ Some g → digest ≡ g.digest
under_digest history digest m g at =
    (bytes_eq-Decides digest g.digest).0
    (and_parts (bytes_eq digest g.digest) (is_unexpired m g) (find-passes (is_named digest m) (grants history) g at)).0

pub found_named : (history : List Event) (digest : List ℕ) (m : ℕ) (found : Found) → Some (found_seen found) ≡ seen_at history digest m →
    IsFound history digest m found
found_named history digest m found is =
    let under = under_digest history digest m in
    record { named = grind (arith, is, under); spent_is = grind (arith, is); ended_is = grind (arith, is) }

pub all_named : (history : List Event) (digest : List ℕ) (m : ℕ) (o : Option Found) → option_map found_seen o ≡ seen_at history digest m →
    option_map (grant_found digest) o ≡ told_at history digest m
all_named history digest m None is = sym (none_named history digest m is)
all_named history digest m (Some found) is = sym (found_named history digest m found is).named

pub all_found : (history : List Event) (digest : List ℕ) (m : ℕ) (o : Option Found) → option_map found_seen o ≡ seen_at history digest m →
    IfSome o (IsFound history digest m)
all_found history digest m None is = tt
all_found history digest m (Some found) is = found_named history digest m found is

-- of what is no code all is told
pub told_whole : (test : Kind → Bool) (digest : List ℕ) (history : List Event) (m client : ℕ) → ((kind : Kind) → test kind ≡ true → is_code kind ≡ false) →
    where_passes (is_own test client) (told_at history digest m) ≡ where_passes (is_own test client) (grant_at history digest m)
told_whole test digest history m client tokens = by (grant_at history digest m)
  where
    spent : Bool
    spent = is_spent history digest m

    some : (g : Grant) (b : Bool) → test g.kind ≡ b →
        cond {A = Option Grant} (is_own test client g) (Some (told_as spent g)) None ≡ cond {A = Option Grant} (is_own test client g) (Some g) None
    some g true is = ap (λ (x : Grant). cond {A = Option Grant} (is_own test client g) (Some x) None) (told_token spent g (tokens g.kind is))
    some g false is = rw is refl

    by : (o : Option Grant) → where_passes (is_own test client) (option_map (told_as spent) o) ≡ where_passes (is_own test client) o
    by None = refl
    by (Some g) = some g (test g.kind) refl
