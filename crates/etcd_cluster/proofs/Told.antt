-- What a server makes of what it is told.
use Rattle.std.proofs.Common.{◌≡◌, ◌<◌, ◌∙◌, ℕ, Bool, true, false, eqb, ◌&&◌, nat_lt, refl, sym, ap, subst, arith}
use Rattle.std.proofs.lemmas.Bool.{and_parts, eqb-true, ne_eqb}
use Rattle.std.specs.Prelude.{Option, None, Some, Result, Ok, Err, OnErr, OnOk, IfOk, ◌==◌, if◌then◌else◌}
use Rattle.std.specs.Result.{result_ok}
use Rattle.etcd_cluster.specs.Stands.{ChangeFact, Stand, done_at}
use Rattle.etcd_cluster.specs.Worlds.{IsHeadOf, IsLater, IsVersioned, is_head, stand_anew, stand_at, stand_then, stand_told, version_found, version_told}
use Rattle.etcd_cluster.specs.declared.change.Answer.{Answer}
use Rattle.etcd_cluster.specs.declared.change.Answer.TheVariants.{Done, NotDone}
use Rattle.etcd_cluster.specs.declared.change.CallFault.{CallFault}
use Rattle.etcd_cluster.specs.declared.change.Head.{Head}
use Rattle.etcd_cluster.specs.declared.change.Standing.{Standing}
use Rattle.etcd_cluster.specs.declared.settling.SettleFault.{SettleFault}

-- THE SAME HEAD

abbrev head_of : ℕ → ℕ → ℕ → ℕ → ℕ → Head
head_of server turn generation end room = record { server = server; turn = turn; generation = generation; end = end; room = room }

heads_same : (s t g e r s' t' g' e' r' : ℕ) → s ≡ s' → t ≡ t' → g ≡ g' → e ≡ e' → r ≡ r' → head_of s t g e r ≡ head_of s' t' g' e' r'
heads_same s t g e r s' t' g' e' r' is_s is_t is_g is_e is_r =
    ap (λ (x : ℕ). head_of x t g e r) is_s ∙ ap (λ (x : ℕ). head_of s' x g e r) is_t ∙ ap (λ (x : ℕ). head_of s' t' x e r) is_g
    ∙ ap (λ (x : ℕ). head_of s' t' g' x r) is_e ∙ ap (λ (x : ℕ). head_of s' t' g' e' x) is_r

-- two heads that say the same are the same
pub head_is : (a b : Head) → is_head a b ≡ true → a ≡ b
head_is a b is =
    let p = and_parts (eqb a.server b.server) (eqb a.turn b.turn && (eqb a.generation b.generation && (eqb a.end b.end && eqb a.room b.room))) is in
    let q = and_parts (eqb a.turn b.turn) (eqb a.generation b.generation && (eqb a.end b.end && eqb a.room b.room)) p.1 in
    let r = and_parts (eqb a.generation b.generation) (eqb a.end b.end && eqb a.room b.room) q.1 in
    let s = and_parts (eqb a.end b.end) (eqb a.room b.room) r.1 in
    heads_same a.server a.turn a.generation a.end a.room b.server b.turn b.generation b.end b.room
    (eqb-true a.server b.server p.0) (eqb-true a.turn b.turn q.0) (eqb-true a.generation b.generation r.0) (eqb-true a.end b.end s.0) (eqb-true a.room b.room s.1)

-- WHAT WAS TOLD OF A CHANGE

abbrev standing_of : ℕ → Head → Standing
standing_of version head = record { version = version; head = head }

some_is : (a b : ℕ) → ◌≡◌ {A = Option ℕ} (Some a) (Some b) → a ≡ b
some_is a b same = cc

none_is : (a : ℕ) → ◌≡◌ {A = Option ℕ} None (Some a) → ⊥
none_is a same = cc

found_by : (change : ChangeFact) (told : Standing) (version : ℕ) (b : Bool) → (is_head told.head change.head && nat_lt change.after told.version) ≡ b
    → ◌≡◌ {A = Option ℕ} (if b then Some told.version else None) (Some version) → (told ≡ standing_of version change.head) × (change.after < version)
found_by change told version true is some =
    let parts = and_parts (is_head told.head change.head) (nat_lt change.after told.version) is in
    let same : told.version ≡ version = some_is told.version version some in
    let head : told.head ≡ change.head = head_is told.head change.head parts.0 in
    let below : change.after < told.version = grind (arith, parts.1) in
    (ap (λ (v : ℕ). standing_of v told.head) same ∙ ap (λ (h : Head). standing_of version h) head, omega (arith, below, same))
found_by change told version false is some = absurd (none_is version some)

-- its own head was told, of a greater version
pub version_found_is : (change : ChangeFact) (told : Option Standing) (version : ℕ) → version_found change told ≡ Some version
    → (told ≡ Some (standing_of version change.head)) × (change.after < version)
version_found_is change None version is = absurd (none_is version is)
version_found_is change (Some told) version is =
    let so = found_by change told version (is_head told.head change.head && nat_lt change.after told.version) refl is in
    (ap (λ (s : Standing). Some s) so.0, so.1)

-- the two answers by which a change is known to be done
pub data IsDoneBy (change : ChangeFact) (version : ℕ) : Result Answer CallFault → Type 0 where
  by_answer : IsDoneBy change version (Ok (Done version))
  by_head : change.after < version → IsDoneBy change version (Ok (NotDone (Some (standing_of version change.head))))

pub done_by : (change : ChangeFact) (told : Result Answer CallFault) (version : ℕ) → version_told change told ≡ Some version → IsDoneBy change version told
done_by change (Ok (Done at)) version is = subst (λ (v : ℕ). IsDoneBy change version (Ok (Done v))) (sym (some_is at version is)) by_answer
done_by change (Ok (NotDone told)) version is =
    let so = version_found_is change told version is in
    subst (λ (s : Option Standing). IsDoneBy change version (Ok (NotDone s))) (sym so.0) (by_head so.1)
done_by change (Err fault) version is = absurd (none_is version is)

-- what is given is told
pub told_ok : (change : ChangeFact) (told : Result Answer CallFault) (r : Result ℕ SettleFault) → result_ok r ≡ version_told change told → IfOk r (λ version. version_told change told ≡ Some version)
told_ok change told (Ok version) is = sym is
told_ok change told (Err fault) is = tt

pub told_err : (change : ChangeFact) (told : Result Answer CallFault) (r : Result ℕ SettleFault) → result_ok r ≡ version_told change told → OnErr r (version_told change told ≡ None)
told_err change told (Ok version) is = tt
told_err change told (Err fault) is = sym is

-- what stands there then
pub stand_done : (change : ChangeFact) (told : Result Answer CallFault) (stand : Stand) (version : ℕ) → version_told change told ≡ Some version
    → stand_then change told stand ≡ done_at version change stand
stand_done change told stand version is = ap (λ (o : Option ℕ). stand_at change o stand) is

pub stand_same : (change : ChangeFact) (told : Result Answer CallFault) (stand : Stand) → version_told change told ≡ None → stand_then change told stand ≡ stand
stand_same change told stand is = ap (λ (o : Option ℕ). stand_at change o stand) is

-- it was done at a version that is greater than the one that it names
pub later_by : (change : ChangeFact) (told : Result Answer CallFault) (version : ℕ) → IsDoneBy change version told → IfOk told (IsLater change) → change.after < version
later_by change told version by_answer later = later
later_by change told version (by_head less) later = less

-- FACTS OF WHAT IS GIVEN

pub if_ok : {A E : Type 0} (r : Result A E) (P Q : A → Type 0) → IfOk r P → ((a : A) → P a → Q a) → IfOk r Q
if_ok (Ok a) P Q is so = so a is
if_ok (Err e) P Q is so = tt

pub if_ok_both : {A E : Type 0} (r : Result A E) (P Q R : A → Type 0) → IfOk r P → IfOk r Q → ((a : A) → P a → Q a → R a) → IfOk r R
if_ok_both (Ok a) P Q R is also so = so a is also
if_ok_both (Err e) P Q R is also so = tt

pub on_ok : {A E : Type 0} (r : Result A E) (P : A → Type 0) (Q : Type 0) → IfOk r P → ((a : A) → P a → Q) → OnOk r Q
on_ok (Ok a) P Q is so = so a is
on_ok (Err e) P Q is so = tt

pub both_ok : {A E : Type 0} (r : Result A E) (P Q : Type 0) → OnOk r P → (P → Q) → OnOk r Q
both_ok (Ok a) P Q is so = so is
both_ok (Err e) P Q is so = tt

pub both_err : {A E : Type 0} (r : Result A E) (P Q : Type 0) → OnErr r P → (P → Q) → OnErr r Q
both_err (Ok a) P Q is so = tt
both_err (Err e) P Q is so = so is

-- what is known stays so
pub told_keeps : (told : Result (Option Standing) CallFault) (stand : Stand) → 0 < stand.version → stand_told told stand ≡ stand
told_keeps (Ok (Some told)) stand some =
    let other : (stand.version == 0) ≡ false = ne_eqb stand.version 0 (λ is. omega (arith, is, some)) in
    ap (λ (b : Bool). if b then stand_anew told else stand) other
told_keeps (Ok None) stand some = refl
told_keeps (Err fault) stand some = refl

-- a head that was told has a version
pub head_some : (version : ℕ) (told : Result (Option Standing) CallFault) → IsHeadOf version told → IfOk told IsVersioned → 0 < version
head_some version (Ok (Some told)) is some = omega (arith, is, some)
head_some version (Ok None) is some = absurd is
head_some version (Err fault) is some = absurd is
