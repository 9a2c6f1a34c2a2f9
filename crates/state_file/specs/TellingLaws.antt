-- What rules a state file tells once it has one batch more, and that it tells one. For proofs alone.
use Rattle.std.proofs.Common.{◌≡◌, ℕ, List, [], ◌∷◌, ◌++◌, Option, None, Some, refl, sym, ap, ◌∙◌, subst}
use Rattle.state_file.specs.Names.{option_or, Fault, RulesFact, rules_reading}
use Rattle.std.specs.Prelude.{Ok, Err}
use Rattle.rules_codec.specs.SpellingLaws.{one_rules, rules_reading_again}
use Rattle.state_file.specs.Telling.{rules_in, last_rules, rules_told, IsOfRules, Tell}

or_none : {A : Type 0} (x : Option A) → option_or x None ≡ x
or_none None = refl
or_none (Some x) = refl

or_assoc : {A : Type 0} (x y z : Option A) → option_or (option_or x y) z ≡ option_or x (option_or y z)
or_assoc None y z = refl
or_assoc (Some x) y z = refl

-- the last batch counts first
pub last_rules-push : (batches : List (List ℕ)) (batch : List ℕ) → last_rules (batches ++ batch ∷ []) ≡ option_or (rules_in batch) (last_rules batches)
last_rules-push [] batch = sym (or_none (rules_in batch))
last_rules-push (b ∷ batches) batch =
    ap (λ (o : Option (List ℕ)). option_or o (rules_in b)) (last_rules-push batches batch) ∙ or_assoc (rules_in batch) (last_rules batches) (rules_in b)

-- those behind count before those in front
pub last_rules-append : (batches more : List (List ℕ)) → last_rules (batches ++ more) ≡ option_or (last_rules more) (last_rules batches)
last_rules-append [] more = sym (or_none (last_rules more))
last_rules-append (b ∷ batches) more =
    ap (λ (o : Option (List ℕ)). option_or o (rules_in b)) (last_rules-append batches more) ∙ or_assoc (last_rules more) (last_rules batches) (rules_in b)

-- the last batch that tells rules tells them
pub tell_in : (batches : List (List ℕ)) (batch : List ℕ) (told : RulesFact) → last_rules batches ≡ Some batch → Tell batches told → IsOfRules batch told
tell_in batches batch told is tells =
    let both : Some tells.0 ≡ Some batch = sym tells.1 ∙ is in
    let same : tells.0 ≡ batch = cc in
    subst (λ (b : List ℕ). IsOfRules b told) same tells.2

-- a batch tells one rules
pub tells_one : (batch : List ℕ) (some others : RulesFact) → IsOfRules batch some → IsOfRules batch others → some ≡ others
tells_one batch some others a b = one_rules some others a.0 b.0 (sym a.1 ∙ b.1)

-- and so do bytes
pub tell_one : (batches : List (List ℕ)) (some others : RulesFact) → Tell batches some → Tell batches others → some ≡ others
tell_one batches some others a b = tells_one a.0 some others a.2 (tell_in batches a.0 others a.1 b)

-- what spells no rules tells none
pub tells_none : (batch : List ℕ) (fault : Fault) (told : RulesFact) → rules_reading batch ≡ Err fault → IsOfRules batch told → ⊥
tells_none batch fault told is of =
    let read = subst (λ (b : List ℕ). rules_reading b ≡ Err fault) of.1 is in
    let e : Err fault ≡ Ok told = sym read ∙ rules_reading_again told of.0 in
    absurd cc

-- the rules that are told are those that are read of the last batch that tells some
pub told_are : (batches : List (List ℕ)) (rules : RulesFact) → Tell batches rules → rules_told batches ≡ Some rules
told_are batches rules tells =
    let read = subst (λ (b : List ℕ). rules_reading b ≡ Ok rules) (sym tells.2.1) (rules_reading_again rules tells.2.0) in
    let at = tells.1 in rw (at, read) refl
