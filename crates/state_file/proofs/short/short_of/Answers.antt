use Rattle.std.proofs.Common.{rules, ◌≡◌, ◌++◌, ◌∙◌, ◌-◌, ℕ, List, [], ◌∷◌, Err, true, sym, ap, subst, arith}
use Rattle.shortening.specs.Shortened.{shortened}
use Rattle.state_file.proofs.Names.{append-nil, IfErr, Event, batch_spelling, dated_facts, frames_size, greatest_family, last_moment, left_numbered, tells_number}
use Rattle.state_file.specs.Renewing.{number_told, IsUntoldList}
use Rattle.state_file.specs.ShortParts.{AddsChanges}
use Rattle.state_file.proofs.Shorts.{adds_more, not_long, number_tells, size_is, unadded_within, untold}
use Rattle.state_file.specs.ShortLaws.{are_told, rules_are, until_is}
use Rattle.state_file.proofs.short.short_of.Goals.{After-drop-left-2, In_ok-left}
use Rattle.state_file.proofs.short.short_of.Goals as goal

left_is : (c : In_ok-left) → dated_facts c.in_ok-left.left.items ≡ shortened (last_moment 0 (dated_facts c.args.changes.now)) (dated_facts c.args.changes.now)
left_is c = c.in_ok-left.ensures ∙ ap (λ (n : ℕ). shortened n (dated_facts c.args.changes.now)) (ap (λ (e : Event). e.moment) c.numbered_of-number.ensures)

pub returns-in_err-add_list-clause-refused : goal.returns-in_err-add_list-clause-refused
returns-in_err-add_list-clause-refused c =
    let facts = dated_facts c.args.changes.now in
    let fault = c.in_err-add_list.field-0.0 in
    let left : dated_facts c.deref.result.now ≡ shortened (last_moment 0 facts) facts = ap dated_facts c.deref.ensures.value ∙ left_is (goal.at.returns-in_err-add_list-clause-refused c).In_ok-left in
    let is : c.from_residual-in_err-add_list.result ≡ Err fault = search rules in
    subst (λ r. IfErr r (IsUntoldList facts)) (sym is)
    (untold facts fault (unadded_within (left_numbered facts) [] (dated_facts c.deref.result.now) (number_told facts ∷ []) fault
    (ap (λ (es : List Event). es ++ number_told facts ∷ []) (sym left)) c.in_err-add_list.ensures.refused))

pub returns-in_err-add_batch-clause-refused : goal.returns-in_err-add_batch-clause-refused
returns-in_err-add_batch-clause-refused c =
    let facts = dated_facts c.args.changes.now in
    let fault = c.in_err-add_batch.field-0.0 in
    let left = shortened (last_moment 0 facts) facts in
    let some = dated_facts (c.numbered_of-number.result ∷ []) in
    let one : some ≡ number_told facts ∷ [] = ap (λ (e : Event). e ∷ []) c.numbered_of-number.ensures in
    let all : left_numbered facts ≡ left ++ (some ++ []) = ap (λ (es : List Event). left ++ es) (sym one ∙ sym (append-nil some)) in
    let is : c.from_residual-in_err-add_batch.result ≡ Err fault = search rules in
    subst (λ r. IfErr r (IsUntoldList facts)) (sym is) (untold facts fault (unadded_within (left_numbered facts) left some [] fault all c.in_err-add_batch.ensures.refused))

begins : (c : After-drop-left-2) → c.add.new.self ≡ c.args.rules.now ∷ []
begins c = c.in_ok-add.ensures.added ∙ ap (λ (bs : List (List ℕ)). bs ++ c.args.rules.now ∷ []) c.in_ok-frames.ensures

-- what is left, and then the number, stand behind the rules
adds : (c : After-drop-left-2) → AddsChanges (left_numbered (dated_facts c.args.changes.now)) c.add.new.self c.add_batch.new.frames
adds c =
    let facts = dated_facts c.args.changes.now in
    let some = dated_facts c.deref.result.now in
    let number = dated_facts (c.numbered_of-number.result ∷ []) in
    let left : some ≡ shortened (last_moment 0 facts) facts = ap dated_facts c.deref.ensures.value ∙ left_is (goal.at.returns-clause-told c).In_ok-left in
    let all : some ++ number ≡ left_numbered facts =
    ap (λ (es : List Event). es ++ number) left ∙ ap (λ (e : Event). shortened (last_moment 0 facts) facts ++ e ∷ []) c.numbered_of-number.ensures in
    subst (λ (es : List Event). AddsChanges es c.add.new.self c.add_batch.new.frames) all
    (adds_more some number c.add.new.self c.add_list.new.frames c.add_batch.new.frames c.in_ok-add_list.ensures.added c.in_ok-add_batch.ensures.added)

tells : (c : After-drop-left-2) → tells_number (batch_spelling (dated_facts (c.numbered_of-number.result ∷ []))) ≡ true
tells c =
    let facts = dated_facts c.args.changes.now in
    ap (λ (e : Event). tells_number (batch_spelling (e ∷ []))) c.numbered_of-number.ensures ∙ number_tells (last_moment 0 facts) (greatest_family facts)

sized : (c : After-drop-left-2) → c.len_of_file-shortened.result - 17 ≡ frames_size c.add_batch.new.frames
sized c = omega arith

pub returns-clause-told : goal.returns-clause-told
returns-clause-told c =
    are_told c.args.rules.now (left_numbered (dated_facts c.args.changes.now)) c.add.new.self c.add_batch.new.frames c.add_horizon.new.frames c.args.until c.requires.rules (begins c) (adds c)
    c.in_ok-add_horizon.ensures.added c.in_ok-add_horizon.ensures.in_range

pub returns-clause-rules : goal.returns-clause-rules
returns-clause-rules c =
    rules_are c.args.rules.now (left_numbered (dated_facts c.args.changes.now)) c.add.new.self c.add_batch.new.frames c.add_horizon.new.frames c.args.until c.requires.rules (begins c) (adds c)
    c.in_ok-add_horizon.ensures.added c.in_ok-add_horizon.ensures.in_range

pub returns-clause-until : goal.returns-clause-until
returns-clause-until c =
    until_is c.args.rules.now (left_numbered (dated_facts c.args.changes.now)) c.add.new.self c.add_batch.new.frames c.add_horizon.new.frames c.args.until c.requires.rules (begins c) (adds c)
    c.in_ok-add_horizon.ensures.added c.in_ok-add_horizon.ensures.in_range

pub returns-clause-size : goal.returns-clause-size
returns-clause-size c =
    sized c ∙ sym (size_is c.add_list.new.frames c.add_batch.new.frames c.add_horizon.new.frames (batch_spelling (dated_facts (c.numbered_of-number.result ∷ []))) c.args.until
    c.in_ok-add_batch.ensures.one (tells c) c.in_ok-add_horizon.ensures.added)

pub returns-clause-short : goal.returns-clause-short
returns-clause-short c =
    not_long c.add_list.new.frames c.add_batch.new.frames c.add_horizon.new.frames (batch_spelling (dated_facts (c.numbered_of-number.result ∷ []))) c.args.until
    c.in_ok-add_batch.ensures.one (tells c) c.in_ok-add_horizon.ensures.added (c.len_of_file-shortened.result - 17) (sized c)
