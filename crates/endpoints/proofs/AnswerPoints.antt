-- Points of the page are those of the server.
use Rattle.std.proofs.Common.{◌≡◌, Bool, true, false, Option, Some, None, Result, refl, sym, subst}
use Rattle.std.specs.Prelude.{not, option_and_then, option_map}
use Rattle.answers.specs.Outcomes as server
use Rattle.answers.specs.Texts.{where_passes}
use Rattle.registry_json.specs.Faults.{◌>>=◌}
use Rattle.endpoints.specs.Answer.{Outcome, need, check, end_of, ◌>>◌}
use Rattle.endpoints.specs.Answered.{on_page}

abbrev pub Ending : Type 0
Ending = Result Outcome Outcome

-- they come to one outcome
abbrev pub Ties : Ending → server.Outcome → Type 0
Ties ending o = end_of ending ≡ on_page o

twice : (b : Bool) → not (not b) ≡ b
twice true = refl
twice false = refl

pub need_ties : {A : Type 0} (o : Option A) (out : Outcome) (next : A → Ending) (without : server.Outcome) (later : A → server.Outcome) →
    out ≡ on_page without → ((x : A) → o ≡ Some x → Ties (next x) (later x)) → Ties (need o out >>= next) (server.need o without later)
need_ties None out next without later ends goes = ends
need_ties (Some x) out next without later ends goes = goes x refl

-- where the test is the other way round
pub point_ties : (b c : Bool) (out : Outcome) (next : Ending) (here later : server.Outcome) →
    b ≡ not c → out ≡ on_page here → Ties next later → Ties (check b out >> next) (server.point c here later)
point_ties true true out next here later same ends goes = cc
point_ties true false out next here later same ends goes = goes
point_ties false true out next here later same ends goes = ends
point_ties false false out next here later same ends goes = cc

pub check_ties : (b : Bool) (out : Outcome) (next : Ending) (here later : server.Outcome) →
    out ≡ on_page here → Ties next later → Ties (check b out >> next) (server.point (not b) here later)
check_ties true out next here later ends goes = goes
check_ties false out next here later ends goes = ends

-- a value that must pass a test
pub passes_ties : {A : Type 0} (test : A → Bool) (o : Option A) (out : Outcome) (next : A → Ending) (without : server.Outcome) (later : A → server.Outcome) →
    out ≡ on_page without → ((x : A) → test x ≡ true → Ties (next x) (later x))
    → Ties (need o out >>= (λ x. check (test x) out >> next x)) (server.need (where_passes test o) without later)
passes_ties test None out next without later ends goes = ends
passes_ties {A = A} test (Some x) out next without later ends goes = by (test x) (goes x) where
  by : (b : Bool) → (b ≡ true → Ties (next x) (later x)) →
      Ties (check b out >> next x) (server.need (where_passes (λ (y : A). b) (Some x)) without later)
  by true goes = goes refl
  by false goes = ends

-- THE SAME, where more follows a part

pub need_in : {A B : Type 0} (o : Option A) (out : Outcome) (part : A → Result B Outcome) (next : B → Ending) (without : server.Outcome) (later : A → server.Outcome) →
    out ≡ on_page without → ((x : A) → o ≡ Some x → Ties (part x >>= next) (later x)) → Ties ((need o out >>= part) >>= next) (server.need o without later)
need_in None out part next without later ends goes = ends
need_in (Some x) out part next without later ends goes = goes x refl

pub point_in : {B : Type 0} (b c : Bool) (out : Outcome) (part : Result B Outcome) (next : B → Ending) (here later : server.Outcome) →
    b ≡ not c → out ≡ on_page here → Ties (part >>= next) later → Ties ((check b out >> part) >>= next) (server.point c here later)
point_in true true out part next here later same ends goes = cc
point_in true false out part next here later same ends goes = goes
point_in false true out part next here later same ends goes = ends
point_in false false out part next here later same ends goes = cc

pub passes_in : {A B : Type 0} (test : A → Bool) (o : Option A) (out : Outcome) (part : A → Result B Outcome) (next : B → Ending) (without : server.Outcome) (later : A → server.Outcome) →
    out ≡ on_page without → ((x : A) → Ties (part x >>= next) (later x))
    → Ties ((need o out >>= (λ x. check (test x) out >> part x)) >>= next) (server.need (where_passes test o) without later)
passes_in test None out part next without later ends goes = ends
passes_in {A = A} test (Some x) out part next without later ends goes = by (test x) where
  by : (b : Bool) → Ties ((check b out >> part x) >>= next) (server.need (where_passes (λ (y : A). b) (Some x)) without later)
  by true = goes x
  by false = ends

-- WHERE POINTS ARE WRITTEN IN ANOTHER WAY

-- another option that is the same
pub need_by : {A : Type 0} (o o' : Option A) → o ≡ o' → (out : Outcome) (next : A → Ending) (without : server.Outcome) (later : A → server.Outcome) →
    out ≡ on_page without → ((x : A) → o' ≡ Some x → Ties (next x) (later x)) → Ties (need o out >>= next) (server.need o' without later)
need_by {A = A} o o' same out next without later ends goes =
    subst (λ (p : Option A). Ties (need p out >>= next) (server.need o' without later)) (sym same) (need_ties {A = A} o' out next without later ends goes)

-- another test that is the same
pub check_by : (b b' : Bool) → b ≡ b' → (out : Outcome) (next : Ending) (here later : server.Outcome) →
    out ≡ on_page here → Ties next later → Ties (check b out >> next) (server.point (not b') here later)
check_by true true same out next here later ends goes = goes
check_by true false same out next here later ends goes = cc
check_by false true same out next here later ends goes = cc
check_by false false same out next here later ends goes = ends

-- two options, of which the second must pass a test
pub both_need : {A B : Type 0} (o : Option A) (p : Option B) (test : A → B → Bool) (out : Outcome) (next : B → Ending) (without : server.Outcome) (later : B → server.Outcome) →
    out ≡ on_page without → ((x : B) → Ties (next x) (later x))
    → Ties (need o out >>= (λ a. need p out >>= (λ x. check (test a x) out >> next x))) (server.need (option_and_then (λ a. where_passes (test a) p) o) without later)
both_need None p test out next without later ends goes = ends
both_need {B = B} (Some a) p test out next without later ends goes = passes_ties {A = B} (test a) p out next without later ends (λ x _. goes x)

-- one option behind the other
pub chain_ties : {A B : Type 0} (f : A → Option B) (o : Option A) (out : Outcome) (part : A → Ending) (without : server.Outcome) (later : B → server.Outcome) →
    out ≡ on_page without → ((x : A) → Ties (part x) (server.need (f x) without later)) → Ties (need o out >>= part) (server.need (option_and_then f o) without later)
chain_ties f None out part without later ends goes = ends
chain_ties f (Some x) out part without later ends goes = goes x

pub map_ties : {A B : Type 0} (f : A → B) (o : Option A) (out : Outcome) (next : A → Ending) (without : server.Outcome) (later : B → server.Outcome) →
    out ≡ on_page without → ((x : A) → Ties (next x) (later (f x))) → Ties (need o out >>= next) (server.need (option_map f o) without later)
map_ties f None out next without later ends goes = ends
map_ties f (Some x) out next without later ends goes = goes x
