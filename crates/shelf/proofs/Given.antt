-- What is there, and what is told of it.
use Rattle.std.proofs.Common.{◌≡◌, List, Option, Some, None, true, false, refl, ap, ◌∙◌, sym, arith}
use Rattle.std.specs.Prelude.{IfNone, IfSome, is_some, option_map}
use Rattle.shelf.specs.Shelved.{Named}
use Rattle.shelf.specs.Looking.{is_held}

-- what is told of it is told of what is there
pub facts_slot : {X Y : Type 0} (f : X → Y) (o : Option X) (y : Y) → option_map f o ≡ Some y → (x : X) × (o ≡ Some x) × (y ≡ f x)
facts_slot f None y is = cc
facts_slot f (Some x) y is = (x, refl, (let same : f x ≡ y = grind (arith, is) in sym same))

pub no_facts : {X Y : Type 0} (f : X → Y) (o : Option X) → option_map f o ≡ None → o ≡ None
no_facts f None is = refl
no_facts f (Some x) is = cc

pub facts_held : {X Y : Type 0} (f : X → Y) (o : Option X) (x : X) (r : Option Y) (y : Y) → r ≡ option_map f o → o ≡ Some x → r ≡ Some y → y ≡ f x
facts_held f o x r y told there is = let same : Some (f x) ≡ Some y = sym (ap (option_map f) there) ∙ sym told ∙ is in (let eq : f x ≡ y = grind (arith, same) in sym eq)

-- where a slot is held something is in it, and where it is not nothing is
pub held_slot : {R : Type 0} (o : Option (Named R)) → is_held o ≡ true → (s : Named R) × (o ≡ Some s)
held_slot None is = cc
held_slot (Some s) is = (s, refl)

pub not_held : {R : Type 0} (o : Option (Named R)) → is_held o ≡ false → o ≡ None
not_held None is = refl
not_held (Some s) is = cc

pub on_some : {X : Type 0} {P Q : X → Type 0} (o : Option X) → ((x : X) → P x → Q x) → IfSome o P → IfSome o Q
on_some None f p = tt
on_some (Some x) f p = f x p

pub on_none : {X : Type 0} {P Q : Type 0} (o : Option X) → (P → Q) → IfNone o P → IfNone o Q
on_none None f p = f p
on_none (Some x) f p = tt

pub none_given : {X : Type 0} {P : Type 0} (o : Option X) → P → IfNone o P
none_given None p = p
none_given (Some x) p = tt

-- what is there is not none
pub none_never : {X : Type 0} (P : Type 0) (o : Option X) → is_some o ≡ true → IfNone o P
none_never P None is = cc
none_never P (Some x) is = tt
