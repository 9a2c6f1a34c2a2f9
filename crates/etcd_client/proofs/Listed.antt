-- A list in a request, one part after the other.
use Rattle.std.proofs.Common.{◌≡◌, ◌++◌, ◌∙◌, ℕ, List, [], ◌∷◌, append_assoc, append-nil, sym, ap}
use Rattle.std.specs.Prelude.{Result, Ok, Err, OnOk}
use Rattle.json.specs.Token.{Token, begin_array, end_array, key}
use Rattle.etcd_json.specs.Requests.{list_member}

pub on_then : {A E : Type 0} (r : Result A E) (P Q : Type 0) → OnOk r P → (P → Q) → OnOk r Q
on_then (Ok a) P Q is so = so is
on_then (Err e) P Q is so = tt

pub more_none : (before after more : List Token) → after ≡ before ++ more → after ≡ before ++ (more ++ [])
more_none before after more is = is ∙ ap (λ (l : List Token). before ++ l) (sym (append-nil more))

pub listed : (name : List ℕ) (before begun first second ended one two : List Token) → begun ≡ before ++ key name ∷ begin_array ∷ [] → first ≡ begun ++ one → second ≡ first ++ two
    → ended ≡ second ++ end_array ∷ [] → ended ≡ before ++ list_member name (one ++ two)
listed name before begun first second ended one two begun_is first_is second_is ended_is =
    let start : List Token = key name ∷ begin_array ∷ [] in
    let stop : List Token = end_array ∷ [] in
    ended_is
    ∙ ap (λ (l : List Token). l ++ stop) (second_is ∙ ap (λ (l : List Token). l ++ two) (first_is ∙ ap (λ (l : List Token). l ++ one) begun_is))
    ∙ append_assoc ((before ++ start) ++ one) two stop
    ∙ append_assoc (before ++ start) one (two ++ stop)
    ∙ append_assoc before start (one ++ (two ++ stop))
    ∙ ap (λ (l : List Token). before ++ (start ++ l)) (sym (append_assoc one two stop))
