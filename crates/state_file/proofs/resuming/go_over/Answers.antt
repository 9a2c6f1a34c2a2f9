use Rattle.std.proofs.Common.{rules, ◌≡◌, ◌∙◌, ◌++◌, ◌⊎◌, inl, inr, ℕ, List, Err, sym, ap, subst}
use Rattle.batch_file.specs.Frames.{RefusesFile}
use Rattle.batch_file.specs.Readers.{HasRead, IsUnread}
use Rattle.batch_file.specs.declared.reader.NotRead.{NotRead}
use Rattle.state_file.proofs.Names.{IfErr, append-nil}
use Rattle.state_file.proofs.Resumed.{header_refused}
use Rattle.state_file.proofs.resuming.go_over.Goals as goal

pub returns-in_err-reader-clause-refused : goal.returns-in_err-reader-clause-refused
returns-in_err-reader-clause-refused g c =
    let not = c.in_err-reader.field-0.0 in
    let is : c.from_residual.result ≡ Err not = search rules in
    let either : IsUnread not.fault ⊎ (g.S.ByteSource.is_over not.source × RefusesFile (g.S.ByteSource.told not.source) not.fault) =
    elim c.in_err-reader.ensures.refused [
      | inl unread ↦ inl unread
      | inr refused ↦ inr (refused.0, header_refused (g.S.ByteSource.told not.source) not.fault refused.1)
    ] in
    subst (λ r. IfErr r (λ (n : NotRead g.row.S.Denot). IsUnread n.fault ⊎ (g.S.ByteSource.is_over n.source × RefusesFile (g.S.ByteSource.told n.source) n.fault))) (sym is) either

pub returns-in_err-read-clause-refused : goal.returns-in_err-read-clause-refused
returns-in_err-read-clause-refused g c =
    let T = g.S.ByteSource.told in
    let O = g.S.ByteSource.is_over in
    let not = c.in_err-read.field-0.0 in
    let is : c.from_residual-in_err-read.result ≡ Err not = search rules in
    let read = c.in_default.ensures.read (subst (λ (bs : List (List ℕ)). HasRead T O bs c.in_ok-reader.reader) (sym c.requires.none) c.in_ok-reader.ensures.begun) in
    let either : IsUnread not.fault ⊎ (O not.source × RefusesFile (T not.source) not.fault) =
    elim c.in_err-read.ensures.refused [
      | inl unread ↦ inl unread
      | inr refused ↦ inr (refused c.go_on.new.self.front.batches read)
    ] in
    subst (λ r. IfErr r (λ (n : NotRead g.row.S.Denot). IsUnread n.fault ⊎ (O n.source × RefusesFile (T n.source) n.fault))) (sym is) either

pub returns-clause-front : goal.returns-clause-front
returns-clause-front g c =
    let T = g.S.ByteSource.told in
    let O = g.S.ByteSource.is_over in
    let front = c.go_on.new.self.front.batches in
    let read = c.in_default.ensures.read (subst (λ (bs : List (List ℕ)). HasRead T O bs c.in_ok-reader.reader) (sym c.requires.none) c.in_ok-reader.ensures.begun) in
    let all = c.in_ok-read.ensures.batches front read in
    sym (all.1 ∙ ap (λ (l : List (List ℕ)). front ++ l) (all.2 c.in_default.ensures.spent) ∙ append-nil front)

pub returns-clause-readable : goal.returns-clause-readable
returns-clause-readable g c = c.in_ok-read.ensures.readable c.go_on.new.self.front.batches (c.in_default.ensures.read (subst (λ (bs : List (List ℕ)). HasRead g.S.ByteSource.told g.S.ByteSource.is_over bs c.in_ok-reader.reader) (sym c.requires.none) c.in_ok-reader.ensures.begun))

pub returns-clause-torn : goal.returns-clause-torn
returns-clause-torn g c = c.in_ok-read.ensures.torn c.go_on.new.self.front.batches (c.in_default.ensures.read (subst (λ (bs : List (List ℕ)). HasRead g.S.ByteSource.told g.S.ByteSource.is_over bs c.in_ok-reader.reader) (sym c.requires.none) c.in_ok-reader.ensures.begun))

pub returns-clause-end : goal.returns-clause-end
returns-clause-end g c = c.in_ok-read.ensures.end c.go_on.new.self.front.batches (c.in_default.ensures.read (subst (λ (bs : List (List ℕ)). HasRead g.S.ByteSource.told g.S.ByteSource.is_over bs c.in_ok-reader.reader) (sym c.requires.none) c.in_ok-reader.ensures.begun))

pub returns-clause-last : goal.returns-clause-last
returns-clause-last g c = c.in_ok-read.ensures.last c.go_on.new.self.front.batches (c.in_default.ensures.read (subst (λ (bs : List (List ℕ)). HasRead g.S.ByteSource.told g.S.ByteSource.is_over bs c.in_ok-reader.reader) (sym c.requires.none) c.in_ok-reader.ensures.begun))
