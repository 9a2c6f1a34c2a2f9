-- A head ends with a line, and what may become a head may do so at each of its fronts.
use Rattle.std.proofs.Common.{◌≡◌, ◌⊎◌, ℕ, ◌<◌, inl, inr, List, [], ◌∷◌, ◌++◌, codes, zero, suc, get_or, length, take, true, false, refl, sym, ap, ◌∙◌, arith, append_assoc, append-nil}
use Rattle.std.specs.Prelude.{IsTrue, All}
use Rattle.std.specs.List.{flat_map}
use Rattle.std.proofs.lemmas.Bool.{true≢false}
use Rattle.std.proofs.lemmas.Str.{IsUtf8-from_ascii}
use Rattle.std.proofs.lemmas.List.{take_at}
use Rattle.std.proofs.lemmas.List.Elements.{All-nil, All-cons, All-take, All-same}
use Rattle.httparse.specs.Ascii.{line_feed, space}
use Rattle.httparse.specs.Grammar.{is_token_byte, is_uri_byte, lf, crlf, LineEnd, Field, print_end, print_blank, print_version, print_field, print_section, IsField, IsToken, IsRequestHead, RequestHead, print_request, MayBecomeRequest}
use Rattle.httparse.proofs.GrammarLemmas.{cons-append}
use Rattle.heads.specs.Waiting.{ends_line}

-- ---- fronts

-- of two fronts of the same bytes one is a front of the other
pub two_fronts : (a b x y : List ℕ) → a ++ b ≡ x ++ y → ((q : List ℕ) × (x ≡ a ++ q) × (b ≡ q ++ y)) ⊎ ((q : List ℕ) × (a ≡ x ++ q) × (y ≡ q ++ b))
two_fronts [] b x y e = inl (x, refl, e)
two_fronts (c ∷ a) b [] y e = inr (c ∷ a, refl, sym e)
two_fronts (c ∷ a) b (d ∷ x) y e =
    let first : c ≡ d = cc in
    let tail : a ++ b ≡ x ++ y = cc in
    elim (two_fronts a b x y tail) [
      | inl l ↦ inl (l.0, (let same = l.1 in cc), l.2)
      | inr r ↦ inr (r.0, (let same = r.1 in cc), r.2)
    ]

-- a line that ends is seen
line_ends : (before after : List ℕ) → ends_line (before ++ line_feed ∷ after) ≡ true
line_ends [] after = refl
line_ends (d ∷ before) after = let e = line_ends before after in grind (arith, e)

-- a line ended before the piece, where none ends in it
pub ended_before : (bytes more before after : List ℕ) → ends_line more ≡ false → bytes ++ more ≡ before ++ line_feed ∷ after → (q : List ℕ) × (bytes ≡ before ++ line_feed ∷ q)
ended_before [] more before after none e = absurd (true≢false (sym (line_ends before after) ∙ ap ends_line (sym e) ∙ none))
ended_before (c ∷ bytes) more [] after none e = (let first : c ≡ line_feed = cc in (bytes, ap (λ (b : ℕ). b ∷ bytes) first))
ended_before (c ∷ bytes) more (d ∷ before) after none e =
    let first : c ≡ d = cc in
    let tail : bytes ++ more ≡ before ++ line_feed ∷ after = cc in
    let rest = ended_before bytes more before after none tail in
    let same = rest.1 in
    (rest.0, (cc))

-- ---- heads

section_ends : (fields : List Field) (last : LineEnd) → (p : List ℕ) × (print_section fields last ≡ p ++ line_feed ∷ [])
section_ends fields crlf = (flat_map print_field fields ++ 13 ∷ [], sym (append_assoc (flat_map print_field fields) (13 ∷ []) (10 ∷ [])))
section_ends fields lf = (flat_map print_field fields, refl)

-- a head ends with a line
pub head_ends : (head : RequestHead) → (p : List ℕ) × (print_request head ≡ p ++ line_feed ∷ [])
unfolding print_request
head_ends h =
    let s = section_ends h.fields h.last in (
      print_blank h.blank ++ h.method ++ space ∷ h.target ++ space ∷ print_version h.minor ++ print_end h.line_end ++ s.0,
      ap (λ (l : List ℕ). print_blank h.blank ++ h.method ++ space ∷ h.target ++ space ∷ print_version h.minor ++ print_end h.line_end ++ l) s.1
          ∙ regroup (print_blank h.blank) h.method h.target (print_version h.minor) (print_end h.line_end) s.0 (10 ∷ []),
    )
  where
    regroup : (a b c d e f r : List ℕ) → a ++ b ++ 32 ∷ c ++ 32 ∷ d ++ e ++ (f ++ r) ≡ (a ++ b ++ 32 ∷ c ++ 32 ∷ d ++ e ++ f) ++ r
    regroup a b c d e f r = simp (append_assoc, cons-append)

-- the least request of the method, behind these empty lines
abbrev least : List LineEnd → List ℕ → RequestHead
least blank method = record { blank = blank; method = method; target = codes "/"; minor = 1; line_end = lf; fields = []; last = lf }

slash : (i : ℕ) → get_or (codes "/") i 0 < 128
slash zero = omega arith
slash (suc i) = omega arith

least_is : (blank : List LineEnd) (method : List ℕ) → IsToken method → IsRequestHead (least blank method)
least_is blank method token = record {
  method = token;
  target = (omega arith, All-cons (λ x. IsTrue (is_uri_byte x)) 47 [] refl (All-nil (λ x. IsTrue (is_uri_byte x))));
  target_text = IsUtf8-from_ascii (codes "/") slash;
  minor = omega arith;
  fields = All-nil IsField;
}

-- what the least request has behind its method
abbrev behind_method : List ℕ
behind_method = codes "/" ++ space ∷ print_version 1 ++ print_end lf ++ print_section [] lf

least_print : (blank : List LineEnd) (method : List ℕ) → print_request (least blank method) ≡ (print_blank blank ++ method ++ space ∷ []) ++ behind_method
unfolding print_request
least_print blank method = regroup (print_blank blank) method (codes "/") (print_version 1) (print_end lf) (print_section [] lf)
  where
    regroup : (a b c d e f : List ℕ) → a ++ b ++ 32 ∷ c ++ 32 ∷ d ++ e ++ f ≡ (a ++ b ++ 32 ∷ []) ++ (c ++ 32 ∷ d ++ e ++ f)
    regroup a b c d e f = simp (append_assoc, cons-append)

-- nothing may become a head
pub nothing_may : MayBecomeRequest []
unfolding is_token_byte
nothing_may =
    let token : IsToken (codes "A") = (omega arith, All-cons (λ x. IsTrue (is_token_byte x)) 65 [] refl (All-nil (λ x. IsTrue (is_token_byte x)))) in
    inl (print_request (least [] (codes "A")), least [] (codes "A"), (least_is [] (codes "A") token, sym (append-nil (print_request (least [] (codes "A"))))))

-- what may become a head may do so at each front
pub may_front : (bytes more : List ℕ) → MayBecomeRequest (bytes ++ more) → MayBecomeRequest bytes
may_front bytes more may = elim may [
  | inl m ↦ inl (more ++ m.0, m.1, (m.2.0, sym (append_assoc bytes more m.0) ∙ m.2.1))
  | inr t ↦ in_target bytes more t.0 t.1 t.2 t.3 t.4 t.5
]
  where
    regroup : (a b r : List ℕ) → a ++ b ++ 32 ∷ r ≡ (a ++ b ++ 32 ∷ []) ++ r
    regroup a b r = simp (append_assoc, cons-append)

    in_target : (bytes more : List ℕ) (blank : List LineEnd) (method target : List ℕ) → IsToken method → All (λ b. IsTrue (is_uri_byte b)) target →
        bytes ++ more ≡ print_blank blank ++ method ++ space ∷ target → MayBecomeRequest bytes
    in_target bytes more blank method target token uri text =
        elim (two_fronts bytes more (print_blank blank ++ method ++ space ∷ []) target (text ∙ regroup (print_blank blank) method target)) [
          | inl q ↦ inl (
            q.0 ++ behind_method,
            least blank method,
            (
              least_is blank method token,
              sym (append_assoc bytes q.0 behind_method) ∙ ap (λ (l : List ℕ). l ++ behind_method) (sym q.1) ∙ sym (least_print blank method)
                  ∙ sym (append-nil (print_request (least blank method))),
            ),
          )
          | inr q ↦ inr (blank, method, q.0, token, front_all target q.0 more q.2 uri, q.1 ∙ sym (regroup (print_blank blank) method q.0))
        ]
      where
        front_all : (target front rest : List ℕ) → target ≡ front ++ rest → All (λ b. IsTrue (is_uri_byte b)) target → All (λ b. IsTrue (is_uri_byte b)) front
        front_all target front rest e all =
            let same : front ≡ take (length front) target = sym (ap (take (length front)) e ∙ take_at front rest (length front) refl) in
            All-same (λ b. IsTrue (is_uri_byte b)) front (take (length front) target) same (All-take (λ b. IsTrue (is_uri_byte b)) (length front) target all)
