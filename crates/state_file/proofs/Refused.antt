-- Why rules are refused, over a batch and over all.
use Rattle.std.proofs.Common.{◌≡◌, ◌<◌, ◌+◌, ◌++◌, ◌∙◌, ℕ, List, [], ◌∷◌, inl, inr, map, take, drop, length, get_or, sym, ap, subst, append_assoc, Vec}
use Rattle.std.specs.declared.alloc.Global.{Global}
use Rattle.std.proofs.lemmas.List.{drop_more}
use Rattle.state_file.proofs.Names.{map-append, take-append-drop, recovered, Event, Outset, Hosting, RulesFact, hook_fact, KeptHook, IsUnread, RefuseBeside, DatedChange, dated_fact, dated_facts}
use Rattle.state_file.proofs.Names.{lists, AreTold, AreTold-split, IsUnlisted, FitsRemade, RefusesBatches, RefusesList, RefuseServer, RefusesResume, Remade, StateFault}
use Rattle.state_file.specs.declared.fault.StateFault.TheVariants as state

-- what the batch tells is not read
pub unread : (batch : List ℕ) (now : RulesFact) (fault : StateFault) → IsUnread batch fault → RefuseBeside batch now fault
unread batch now state.Memory is = tt
unread batch now (state.Spelling fault) is = is
unread batch now _ is = absurd is

-- the hooks before one, itself, and those behind it
pub parted : (hooks : List KeptHook) (i : ℕ) (d : KeptHook) → i < length hooks → map hook_fact hooks ≡ map hook_fact (take i hooks) ++ hook_fact (get_or hooks i d) ∷ map hook_fact (drop (i + 1) hooks)
parted hooks i d within =
    let e : take i hooks ++ (get_or hooks i d ∷ drop (i + 1) hooks) ≡ hooks =
    ap (λ (rest : List KeptHook). take i hooks ++ rest) (sym (drop_more hooks i d within)) ∙ take-append-drop i hooks in
    ap (map hook_fact) (sym e) ∙ map-append hook_fact (take i hooks) (get_or hooks i d ∷ drop (i + 1) hooks)

-- the changes before one, itself, and those behind it
pub parted_changes : (changes : List DatedChange) (i : ℕ) (item : DatedChange) → dated_facts (take (i + 1) changes) ≡ dated_facts (take i changes) ++ dated_fact item ∷ [] →
    dated_facts changes ≡ dated_facts (take i changes) ++ dated_fact item ∷ dated_facts (drop (i + 1) changes)
parted_changes changes i item more =
    ap dated_facts (sym (take-append-drop (i + 1) changes)) ∙ map-append dated_fact (take (i + 1) changes) (drop (i + 1) changes)
    ∙ ap (λ (es : List Event). es ++ dated_facts (drop (i + 1) changes)) more
    ∙ append_assoc (dated_facts (take i changes)) (dated_fact item ∷ []) (dated_facts (drop (i + 1) changes))

-- the batches before one, itself, and those behind it
pub parted_batches : (batches : List (Vec ℕ Global)) (i : ℕ) (batch : List ℕ) → lists (take (i + 1) batches) ≡ lists (take i batches) ++ batch ∷ [] →
    lists batches ≡ (lists (take i batches) ++ batch ∷ []) ++ lists (drop (i + 1) batches)
parted_batches batches i batch more =
    ap lists (sym (take-append-drop (i + 1) batches)) ∙ map-append (λ (v : Vec ℕ Global). v.items) (take (i + 1) batches) (drop (i + 1) batches)
    ∙ ap (λ (bs : List (List ℕ)). bs ++ lists (drop (i + 1) batches)) more

-- where one tells no list, none is told by all
pub unlisted_batch : (batches front later : List (List ℕ)) (batch : List ℕ) (fault : StateFault) → batches ≡ (front ++ batch ∷ []) ++ later →
    IsUnlisted (batch ∷ []) fault → IsUnlisted batches fault
unlisted_batch batches front later batch state.Memory are refused = tt
unlisted_batch batches front later batch (state.Spelling fault) are refused = λ facts told.
    let one = AreTold-split (front ++ batch ∷ []) later facts (subst (λ (bs : List (List ℕ)). AreTold bs facts) are told) in
    let two = AreTold-split front (batch ∷ []) one.0 one.2 in
    refused two.1 two.3
unlisted_batch batches front later batch _ are refused = absurd refused

module _ {H : Type 0} (hosting : Hosting H) (outset : Outset H) where
  -- what refuses the rules, or the changes, refuses the file
  pub no_start : (left : List ℕ) (fault : StateFault) → RefuseServer hosting outset (recovered left) fault → RefusesResume hosting outset left fault
  no_start left state.NotState (inl refused) = absurd refused.2.2
  no_start left state.NotState (inr refused) = absurd refused.1
  no_start left (state.Version version) (inl refused) = absurd refused.2.2
  no_start left (state.Version version) (inr refused) = absurd refused.1
  no_start left (state.Damaged number) (inl refused) = absurd refused.2.2
  no_start left (state.Damaged number) (inr refused) = absurd refused.1
  no_start left _ refused = refused

  -- the changes before one are made again, and it is refused
  pub refused_next : (batches : List (List ℕ)) (made : Remade H) (fault : StateFault) → FitsRemade hosting made outset [] 0 →
      RefusesBatches hosting made batches fault → RefusesList hosting outset batches fault
  refused_next batches made state.Memory fits refused = tt
  refused_next batches made (state.Spelling fault) fits refused = refused
  refused_next batches made (state.Follows fault) fits refused =
      let again = refused.5 in
      let mid = again.5 outset [] 0 fits in (
        refused.0,
        refused.1,
        again.0,
        again.1,
        again.2,
        refused.3,
        subst (λ (facts : List Event). AreTold refused.0 facts) again.3 refused.4,
        (again.4.server, mid.0, again.6, again.7, again.8),
      )
  refused_next batches made _ fits refused = absurd refused
