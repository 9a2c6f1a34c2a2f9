-- The tables with a record that is spent.
use Rattle.std.proofs.Common.{◌≡◌, ℕ, List, [], ◌∷◌, Option, Some, None, Bool, true, false, cond, refl, ap, ◌∙◌, sym, subst, arith}
use Rattle.token_store.proofs.Names.{OwnerKey, ◌==◌, is_some, IsDistinct, bytes_eq, lookup, set_value, keys_of, nat_list_eq_equiv, lookup-none, keys-set_value, none_past_head, sum_by-set_value}
use Rattle.token_store.proofs.Names.{IsDistinct-tail, Record, Shared, Kept, kept_at, all_kept, count_by, is_member_at, member_count, shared_at, values_of, Ties, RecordChange, changed, is_live_at, spent_in, used}
use Rattle.token_store.specs.Records.{client_in, client_of, kept_under, used_given}
use Rattle.token_store.specs.RecordsParts.{spent_kept}
use Rattle.token_store.specs.declared.record.Given.{Given}
use Rattle.token_store.specs.declared.record.Given.TheVariants.{Code, Token, UsedCode}
use Rattle.std.specs.Prelude.{map, nat_lt}
use Rattle.token_store.proofs.Lasting.{any_counted}
use Rattle.token_store.proofs.Looking.{shown, found}

-- TIES

-- what is so of each record, whether it is spent or not, is so of each
spent_each : (P : Record → Type 0) (es : List (List ℕ × Record)) (digest d : List ℕ) (r x : Record) → lookup (bytes_eq digest) es ≡ Some r → (P r → P (used r)) → ((y : Record) → lookup (bytes_eq d) es ≡ Some y → P y) →
    lookup (bytes_eq d) (set_value (bytes_eq digest) es (used r)) ≡ Some x → P x
spent_each P [] digest d r x at kept all is = all x is
spent_each P (e ∷ es) digest d r x at kept all is = by (bytes_eq digest e.0) refl (bytes_eq d e.0) refl (λ at' all' is'. spent_each P es digest d r x at' kept all' is')
  where
    by : (b : Bool) → bytes_eq digest e.0 ≡ b → (c : Bool) → bytes_eq d e.0 ≡ c →
        (lookup (bytes_eq digest) es ≡ Some r → ((y : Record) → lookup (bytes_eq d) es ≡ Some y → P y) → lookup (bytes_eq d) (set_value (bytes_eq digest) es (used r)) ≡ Some x → P x) → P x
    by true here true there more =
        let own : e.1 ≡ r = grind (arith, at, here) in
        let same : x ≡ used r = grind (arith, is, here, there) in
        subst P (sym same) (kept (all r (grind (arith, there, own))))
    by true here false other more = all x (grind (arith, is, here, other))
    by false apart true there more = all x (grind (arith, is, apart, there))
    by false apart false other more = more (grind (arith, at, apart)) (λ y its. all y (grind (arith, its, other))) (grind (arith, is, apart, other))

-- whose it is, and until when, stays
used_client : (r : Record) → client_of (used r) ≡ client_of r
used_client r = by r.given
  where
    by : (g : Given) → client_in (used_given g) ≡ client_in g
    by (Code client texts) = refl
    by (UsedCode client owner) = refl
    by (Token client life spent kind) = refl

used_member : (n t : ℕ) (r : Record) → is_member_at n t (used r) ≡ is_member_at n t r
used_member n t r = by r.given
  where
    by : (g : Given) → is_member_at n t (record r { given = used_given g }) ≡ is_member_at n t (record r { given = g })
    by (Code client texts) = refl
    by (UsedCode client owner) = refl
    by (Token client life spent kind) = refl

-- ties
pub tied_spent : (families : List (ℕ × Shared)) (es : List (List ℕ × Record)) (owners : List OwnerKey) (last swept : ℕ) (digest : List ℕ) →
    Ties families es owners last swept → Ties families (spent_in digest es (lookup (bytes_eq digest) es)) owners last swept
tied_spent families es owners last swept digest tied = tied_cases (lookup (bytes_eq digest) es) refl
  where
    tied_cases : (o : Option Record) → lookup (bytes_eq digest) es ≡ o → Ties families (spent_in digest es o) owners last swept
    tied_cases None is = tied
    tied_cases (Some r) is =
        let r' : Record = used r in
        let sums : (p : Record → Bool) → p r' ≡ p r → count_by p (values_of (set_value (bytes_eq digest) es r')) ≡ count_by p (values_of es) = λ p same.
        (let sums = sum_by-set_value (λ (x : Record). cond {A = ℕ} (p x) 1 0) (bytes_eq digest) es r r' is in grind (arith, sums, same)) in
        let members : (n : ℕ) → member_count (set_value (bytes_eq digest) es r') n ≡ member_count es n = λ n. sums (λ x. x.family == n) refl in
        record {
          once = rw (keys-set_value (bytes_eq digest) es r') tied.once;
          homed = λ d x at. spent_each (λ y. client_of y ≡ (shared_at families y.family).client) es digest d r x is (λ home. used_client r ∙ home) (λ y there. tied.homed d y there) at;
          lasting = λ n t le. any_counted (is_member_at n t) (values_of (set_value (bytes_eq digest) es r')) ∙ ap (nat_lt 0) (sums (is_member_at n t) (used_member n t r)) ∙ sym (any_counted (is_member_at n t) (values_of es)) ∙ tied.lasting n t le;
          counted = λ n. (let was = tied.counted n in let same = members n in omega (arith, was, same));
          owned = tied.owned;
          below = λ n lt. (let was = tied.below n lt in let same = members n in omega (arith, was, same));
        }

-- THE VIEW

-- where nothing has the digest nothing is changed
pub unspent_same : (kept : List Kept) (digest : List ℕ) (m : ℕ) → kept_at kept digest m ≡ None → map (changed (RecordChange.Spent digest m)) kept ≡ kept
unspent_same [] digest m none = refl
unspent_same (k ∷ ks) digest m none = grind (arith, unspent_same ks digest m)

-- what was used is kept as used
used_kept : (s : Shared) (digest : List ℕ) (r : Record) → kept_under s digest (used r) ≡ spent_kept (kept_under s digest r)
used_kept s digest r = by r.given
  where
    by : (g : Given) → kept_under s digest (record r { given = used_given g }) ≡ spent_kept (kept_under s digest (record r { given = g }))
    by (Code client texts) = refl
    by (UsedCode client owner) = refl
    by (Token client life spent kind) = refl

changed_one : (families : List (ℕ × Shared)) (es : List (List ℕ × Record)) (digest : List ℕ) (m : ℕ) (r : Record) → IsDistinct bytes_eq (keys_of es) → lookup (bytes_eq digest) es ≡ Some r → is_live_at m r ≡ true →
    all_kept families (set_value (bytes_eq digest) es (used r)) ≡ map (changed (RecordChange.Spent digest m)) (all_kept families es)
changed_one families [] digest m r distinct at live = refl
changed_one families (e ∷ es) digest m r distinct at live =
    let rest = IsDistinct-tail bytes_eq e.0 (keys_of es) distinct in
    let more : lookup (bytes_eq digest) es ≡ Some r → all_kept families (set_value (bytes_eq digest) es (used r)) ≡ map (changed (RecordChange.Spent digest m)) (all_kept families es) =
    λ h. changed_one families es digest m r rest h live in
    let none : bytes_eq digest e.0 ≡ true → map (changed (RecordChange.Spent digest m)) (all_kept families es) ≡ all_kept families es = λ is.
    unspent_same (all_kept families es) digest m
    (found families es digest m rest ∙ ap (shown families digest m) (lookup-none (bytes_eq digest) es (none_past_head nat_list_eq_equiv digest e es distinct is))) in
    let told = used_kept (shared_at families r.family) e.0 r in
    grind (arith, more, none, told)

pub view_spent : (families : List (ℕ × Shared)) (es : List (List ℕ × Record)) (digest : List ℕ) (m : ℕ) → IsDistinct bytes_eq (keys_of es) → is_some (kept_at (all_kept families es) digest m) ≡ true →
    all_kept families (spent_in digest es (lookup (bytes_eq digest) es)) ≡ map (changed (RecordChange.Spent digest m)) (all_kept families es)
view_spent families es digest m once there =
    let shown_there : is_some (shown families digest m (lookup (bytes_eq digest) es)) ≡ true = sym (ap is_some (found families es digest m once)) ∙ there in
    view_cases (lookup (bytes_eq digest) es) refl shown_there
  where
    is_live : (r : Record) → is_some (shown families digest m (Some r)) ≡ true → is_live_at m r ≡ true
    is_live r h = grind arith

    view_cases : (o : Option Record) → lookup (bytes_eq digest) es ≡ o → is_some (shown families digest m o) ≡ true → all_kept families (spent_in digest es o) ≡ map (changed (RecordChange.Spent digest m)) (all_kept families es)
    view_cases None is h = cc
    view_cases (Some r) is h = changed_one families es digest m r once is (is_live r h)
