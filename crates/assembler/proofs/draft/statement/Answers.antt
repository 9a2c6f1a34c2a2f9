use Rattle.std.proofs.Common.{rules, tests, ◌≡◌, List, ap, sym, ◌∙◌, subst, true, false}
use Rattle.assembler.proofs.Names.{MatchBool-at_true, MatchBool-at_false, Insn, Word, kinds_of, HaveKinds, Anywhere, HasName, HasFormOf, SaysFitting}
use Rattle.assembler.proofs.Statements.{no_name, has_name, no_form, has_form, no_fitting, seen, nothing_named, length_seen, kinds_length}
use Rattle.assembler.proofs.draft.statement.Goals as goal

pub returns-in_default : goal.returns-in_default
returns-in_default c = nothing_named c.args.words.now c.in_default.ensures.cases

pub returns-in_default-find : goal.returns-in_default-find
returns-in_default-find c =
    let e = ap seen c.in-Some.ensures.cases.0 in
    subst (λ (v : List Word). (i : Insn) → HasName i v → ⊥) (sym e) (no_name c.in-Some.first.now.now (seen c.in-Some.operands.now) c.in_default-find.ensures.none)

pub returns-then-not-have_form : goal.returns-then-not-have_form
returns-then-not-have_form c =
    let e = ap seen c.in-Some.ensures.cases.0 in
    let w = c.in-Some.first.now.now in
    let ws = seen c.in-Some.operands.now in
    let m = c.in-Some-find.mnemonic in
    let t : c.have_form.result ≡ false = search (rules, tests) in
    let bad = MatchBool-at_false (HaveKinds (kinds_of m) ws) (HaveKinds (kinds_of m) ws → ⊥) t (rw c.kinds.ensures at c.have_form.ensures) in
    subst (λ (v : List Word). ((i : Insn) × HasName i v) × ((i : Insn) → HasFormOf i v → ⊥)) (sym e)
    (has_name w ws m c.in-Some-find.ensures.found, no_form w ws m c.in-Some-find.ensures.found bad)

pub drafted-requires : goal.drafted-requires
drafted-requires c =
    let ws = seen c.in-Some.operands.now in
    let t : c.have_form.result ≡ true = search (rules, tests) in
    let m = c.in-Some-find.mnemonic in
    let some = MatchBool-at_true (HaveKinds (kinds_of m) ws) (HaveKinds (kinds_of m) ws → ⊥) t (rw c.kinds.ensures at c.have_form.ensures) in
    sym (length_seen c.in-Some.operands.now) ∙ kinds_length (kinds_of m) ws some

pub returns-in-None : goal.returns-in-None
returns-in-None c =
    let e = ap seen c.in-Some.ensures.cases.0 in
    let w = c.in-Some.first.now.now in
    let ws = seen c.in-Some.operands.now in
    let m = c.in-Some-find.mnemonic in
    let t : c.have_form.result ≡ true = search (rules, tests) in
    let kinds = MatchBool-at_true (HaveKinds (kinds_of m) ws) (HaveKinds (kinds_of m) ws → ⊥) t (rw c.kinds.ensures at c.have_form.ensures) in
    subst (λ (v : List Word). ((i : Insn) × HasFormOf i v) × ((i : Insn) → SaysFitting Anywhere i v → ⊥)) (sym e)
    (has_form w ws m c.in-Some-find.ensures.found kinds, no_fitting w ws m c.in-Some-find.ensures.found c.in-None.ensures)
