-- What an instruction leaves, and then the links that it moves.
use Rattle.std.proofs.Common.{◌≡◌, ℕ, ◌<◌, ◌∙◌, ap, refl, subst, sym, inl, inr, Option, Some, None, Result, Ok, Err}
use Rattle.verifier.proofs.Names.{Insn, Layout, RegNo, WalkFault, Known, Flow, Next, Action, Operate, Add, Imm, LeavesKnown, action_of, reg_number, Link, Links, link_at, link_made}
use Rattle.links.proofs.Names.{cases_eq, option_or}
use Rattle.links.proofs.Linked.{moved_so, not_chosen}
use Rattle.links.specs.Links.{AddsOrMasks, home_at, links_in, made_at, moved_by}
use Rattle.verifier.proofs.Rows.{made_unmoved}
use Rattle.verifier.specs.Kinds.{LeavesRow, home_made}
use Rattle.verifier.specs.Learnt.{ByNone, IsNarrowed, IsSpreadByFirst}
use Rattle.verifier.proofs.States.{own_narrowed, spread_so}
use Rattle.verifier.specs.LearntParts.{LeavesStill}
use Rattle.insn.specs.declared.operation.BinOp.TheVariants.{And}

-- where it moves none
pub still_known : (layout : Layout) (i : Insn) (old new : Known) (r : Result Flow WalkFault) → ((k : ℕ) → k < 11 → moved_by (action_of i) k (link_at old.links k) ≡ None) → LeavesStill layout i old new r → LeavesKnown layout i old new r
still_known layout i old new (Ok flow) none (between, row, still) = (
  between,
  row,
  (
    new,
    record {
      registers = still.registers;
      stack = still.stack;
      links = moved_so (link_made old.registers old.links (action_of i)) (home_made layout old (action_of i)) (λ k. None) (λ k. moved_by (action_of i) k (link_at old.links k)) between.links new.links
          (λ k lt. sym (none k lt)) still.links;
    },
    record {
      narrowed = own_narrowed new;
      spread = ByNone (inl none);
    },
  ),
)
still_known layout i old new (Err fault) none h = h

-- links are moved behind what is made as before it, where the one that is made is none that is moved
moved_behind : (link : Option (RegNo × Link)) (k : ℕ) (x y : Option Link) → ((m : RegNo × Link) → link ≡ Some m → k ≡ reg_number m.0 → x ≡ None) → option_or x (made_at link k y) ≡ made_at link k (option_or x y)
moved_behind None k x y none = refl
moved_behind (Some m) k x y none = elim (cases_eq k (reg_number m.0)) [
  | inl q ↦ rw (none m refl q) refl
  | inr ne ↦ ap (option_or x) (not_chosen k (reg_number m.0) (Some m.1) y ne) ∙ sym (not_chosen k (reg_number m.0) (Some m.1) (option_or x y) ne)
]

-- where they are set behind it, and what is known spreads by them
module _ (layout : Layout) (i : Insn) (old mid : Known) (moved : Option Links) (links : Links) (are : (k : ℕ) → k < 11 → links_in moved k ≡ moved_by (action_of i) k (link_at old.links k))
    (set : (k : ℕ) → k < 11 → (link_at links k ≡ option_or (links_in moved k) (link_at mid.links k)) × (home_at links k ≡ home_at mid.links k)) where
  -- each that is moved is there
  pub moved_are_set : (k : ℕ) → k < 11 → (link : Link) → links_in moved k ≡ Some link → link_at links k ≡ Some link
  moved_are_set k lt link e = (set k lt).0 ∙ ap (λ (o : Option Link). option_or o (link_at mid.links k)) e

  abbrev linked : Known
  linked = record { registers = mid.registers; stack = mid.stack; links = links }

  moving_known : (new : Known) (flow : Flow) → IsNarrowed linked new → IsSpreadByFirst (links_in moved) linked new → LeavesStill layout i old mid (Ok flow) → LeavesKnown layout i old new (Ok flow)
  moving_known new flow narrowed spread (between, row, still) = (
    between,
    row,
    (
      linked,
      record {
        registers = still.registers;
        stack = still.stack;
        links = λ k lt. (
          (set k lt).0
              ∙ ap (option_or (links_in moved k)) (still.links k lt).0
              ∙ moved_behind (link_made old.registers old.links (action_of i)) k (links_in moved k) (link_at between.links k)
              (λ m e q. are k lt ∙ rw q (made_unmoved old.registers old.links (action_of i) m (link_at old.links (reg_number m.0)) e))
              ∙ ap (λ (o : Option Link). made_at (link_made old.registers old.links (action_of i)) k (option_or o (link_at between.links k))) (are k lt),
          (set k lt).1 ∙ (still.links k lt).1,
        );
      },
      record {
        narrowed = narrowed;
        spread = spread_so (links_in moved) (λ k. moved_by (action_of i) k (link_at old.links k)) linked new are spread;
      },
    ),
  )

  -- behind an instruction that changes a register by a constant the walk goes on
  sum_next : (action : Action) (old new : Known) (flow : Flow) → AddsOrMasks action → LeavesRow layout action old new (Ok flow) → flow ≡ Next
  sum_next (Operate w Add dst (Imm imm)) old new Next sum row = refl
  sum_next (Operate w And dst (Imm imm)) old new Next sum row = refl
  sum_next (Operate w Add dst (Imm imm)) old new flow sum row = absurd row
  sum_next (Operate w And dst (Imm imm)) old new flow sum row = absurd row
  sum_next action old new flow sum row = absurd sum

  still_next : (flow : Flow) → AddsOrMasks (action_of i) → LeavesStill layout i old mid (Ok flow) → flow ≡ Next
  still_next flow sum (between, row, still) = sum_next (action_of i) old between flow sum row

  pub moving_next : (new : Known) (flow : Flow) → AddsOrMasks (action_of i) → IsNarrowed linked new → IsSpreadByFirst (links_in moved) linked new → LeavesStill layout i old mid (Ok flow)
      → LeavesKnown layout i old new (Ok Next)
  moving_next new flow sum narrowed spread h = subst (λ (f : Flow). LeavesKnown layout i old new (Ok f)) (still_next flow sum h) (moving_known new flow narrowed spread h)
