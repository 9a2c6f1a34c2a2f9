-- A stream has one reading, however it was cut.
use Rattle.std.proofs.Common.{◌≡◌, ℕ, ◌+◌, ◌<◌, List, [], ◌∷◌, ◌++◌, Some, length, take, drop, refl, sym, ap, ◌∙◌, arith, append_assoc, append-nil, length-append}
use Rattle.std.proofs.lemmas.List.{take_at, drop_at}
use Rattle.httparse.specs.Grammar.{RequestHead, print_request, ReadsRequest}
use Rattle.httparse.proofs.GrammarLemmas.{request_unique}
use Rattle.heads.specs.Fields.{content_length}
use Rattle.heads.specs.Message.{Message, BeginsWithMessage, HasNone, ReadsMessages, Messages, IsHopeless, head_fields}

-- a head is not empty
pub some_head : (head : RequestHead) → 0 < length (print_request head)
unfolding print_request
some_head h = simp length-append (omega arith)

-- nothing has no message
pub nothing_has_none : HasNone []
nothing_has_none m rest b =
    let some = some_head m.head in
    let all : 0 ≡ length (print_request m.head) + length (m.body ++ rest) = ap length b.text ∙ length-append (print_request m.head) (m.body ++ rest) in
    omega (arith, some, all)

-- bytes without hope have no message
pub hopeless_has_none : (bytes : List ℕ) → IsHopeless bytes → HasNone bytes
hopeless_has_none bytes hopeless m rest b = hopeless [] m rest (rw append-nil b)

same_front : (a b r q : List ℕ) → length a ≡ length b → a ++ r ≡ b ++ q → (a ≡ b) × (r ≡ q)
same_front a b r q size e = (
  sym (take_at a r (length b) size) ∙ ap (take (length b)) e ∙ take_at b q (length b) refl,
  sym (drop_at a r (length b) size) ∙ ap (drop (length b)) e ∙ drop_at b q (length b) refl,
)

-- a message begins with its head
pub reads_head : (bytes : List ℕ) (m : Message) (rest : List ℕ) → BeginsWithMessage bytes m rest → ReadsRequest bytes m.head (m.body ++ rest)
reads_head bytes m rest b = (b.head, b.text)

pub same_some : (m n : ℕ) → Some m ≡ Some n → m ≡ n
same_some m n e = cc

-- the first message is the only one
pub first_unique : (bytes : List ℕ) (m n : Message) (r q : List ℕ) → BeginsWithMessage bytes m r → BeginsWithMessage bytes n q → (m ≡ n) × (r ≡ q)
first_unique bytes m n r q x y =
    let same = request_unique bytes m.head n.head (m.body ++ r) (n.body ++ q) (reads_head bytes m r x) (reads_head bytes n q y) in
    let size : length m.body ≡ length n.body = same_some _ _ (sym x.body ∙ ap (λ h. content_length (head_fields h)) same.0 ∙ y.body) in
    let parts = same_front m.body n.body r q size same.1 in
    let message : m ≡ n = λ i. record { head = same.0 i; body = parts.0 i } in
    (message, parts.1)

-- what follows does not change the first message
pub BeginsWith-append : (bytes : List ℕ) (m : Message) (rest more : List ℕ) → BeginsWithMessage bytes m rest → BeginsWithMessage (bytes ++ more) m (rest ++ more)
BeginsWith-append bytes m rest more b = record {
  head = b.head;
  good = b.good;
  body = b.body;
  text =
      ap (λ (l : List ℕ). l ++ more) b.text ∙ append_assoc (print_request m.head) (m.body ++ rest) more
      ∙ ap (λ (l : List ℕ). print_request m.head ++ l) (append_assoc m.body rest more);
}

-- a piece that comes later is read behind what was left
pub reads_cut : (stream more : List ℕ) (ms ns : List Message) (rest last : List ℕ) → ReadsMessages stream ms rest → ReadsMessages (rest ++ more) ns last → ReadsMessages (stream ++ more) (ms ++ ns) last
reads_cut stream more [] ns rest last x y = rw x y
reads_cut stream more (m ∷ ms) ns rest last x y = (x.0 ++ more, BeginsWith-append stream m x.0 more x.1, reads_cut x.0 more ms ns rest last x.2 y)

pub messages_cut : (stream more : List ℕ) (ms ns : List Message) (rest last : List ℕ) → Messages stream ms rest → Messages (rest ++ more) ns last → Messages (stream ++ more) (ms ++ ns) last
messages_cut stream more ms ns rest last x y = record { reads = reads_cut stream more ms ns rest last x.reads y.reads; none = y.none }

-- one more message is read
pub reads_push : (stream : List ℕ) (ms : List Message) (rest : List ℕ) (m : Message) (last : List ℕ) → ReadsMessages stream ms rest → BeginsWithMessage rest m last → ReadsMessages stream (ms ++ m ∷ []) last
reads_push stream [] rest m last x y = (last, rw (← x) at y, refl)
reads_push stream (n ∷ ms) rest m last x y = (x.0, x.1, reads_push x.0 ms rest m last x.2 y)

-- as many messages are the same
pub reads_same : (stream : List ℕ) (ms ns : List Message) (r q : List ℕ) → length ms ≡ length ns → ReadsMessages stream ms r → ReadsMessages stream ns q → (ms ≡ ns) × (r ≡ q)
reads_same stream [] [] r q e x y = (refl, sym x ∙ y)
reads_same stream [] (n ∷ ns) r q e x y = absurd (omega arith)
reads_same stream (m ∷ ms) [] r q e x y = absurd (omega arith)
reads_same stream (m ∷ ms) (n ∷ ns) r q e x y =
    let first = first_unique stream m n x.0 y.0 x.1 y.1 in
    let more : ReadsMessages x.0 ns q = rw (← first.1) at y.2 in
    let tail = reads_same x.0 ms ns r q (omega arith) x.2 more in
    (λ i. first.0 i ∷ tail.0 i, tail.1)

-- where fewer were read, there is a next
pub reads_next : (stream : List ℕ) (ms ns : List Message) (r q : List ℕ) → length ms < length ns → ReadsMessages stream ms r → ReadsMessages stream ns q → ¬ (HasNone r)
reads_next stream [] [] r q e x y none = absurd (omega arith)
reads_next stream [] (n ∷ ns) r q e x y none = none n y.0 (rw x at y.1)
reads_next stream (m ∷ ms) [] r q e x y none = absurd (omega arith)
reads_next stream (m ∷ ms) (n ∷ ns) r q e x y none =
    let first = first_unique stream m n x.0 y.0 x.1 y.1 in
    let more : ReadsMessages x.0 ns q = rw (← first.1) at y.2 in
    reads_next x.0 ms ns r q (omega arith) x.2 more none
