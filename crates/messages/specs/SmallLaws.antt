-- Each reply of short texts has fewer bytes than the limit.
use Rattle.std.proofs.Common.{◌≡◌, ◌≤◌, ◌<◌, ℕ, ◌+◌, ◌*◌, ◌^◌, List, [], ◌∷◌, ◌++◌, Bool, true, false, Option, Some, None, cond, length, length-append, refl, sym, subst, ap, arith}
use Rattle.std.specs.Fmt.{digits}
use Rattle.std.specs.Prelude.{codes, decimal, unwrap_or, is_some, ◌==◌, ◌||◌}
use Rattle.std.proofs.lemmas.Bool.{eqb-true}
use Rattle.std.proofs.lemmas.Fmt.{length-decimal-le}
use Rattle.json.specs.Print.{escape_byte}
use Rattle.serde_json.specs.Written.{comma_if, items_text, members_text}
use Rattle.consent.specs.declared.grant.TokenKind.{TokenKind}
use Rattle.messages.specs.declared.error.ErrorName.{ErrorName}
use Rattle.messages.specs.declared.error.ErrorName.TheVariants as error
use Rattle.messages.specs.Reply.{Redirection, Body, Reply, sent_back}
use Rattle.messages.specs.Members.{Member}
use Rattle.messages.specs.Written.{Written, in_writing, body_text, with_sub, type_member, each_member, location_text, string_items, error_text, line, line_if, is_bare, status_line, location_line, length_line, crlf, reply_bytes}
use Rattle.messages.specs.Small.{reply_limit, members_size, texts_size, is_reply_status, IsSmallRedirection, IsSmallBody, IsSmallContent, IsSmallReply}
use Rattle.messages.specs.SizeLaws.{length-escape, length-extend_pairs}

-- LINES

step : (n k : ℕ) (rest : Bool) → (rest ≡ true → length (status_line n) ≤ 64) → length (status_line k) ≤ 64 →
    (rest || n == k) ≡ true → length (status_line n) ≤ 64
step n k true more here is = more refl
step n k false more here is = subst (λ (m : ℕ). length (status_line m) ≤ 64) (sym (eqb-true n k is)) here

status_short : (n : ℕ) → is_reply_status n ≡ true → length (status_line n) ≤ 64
unfolding digits
status_short n =
    step n 503 _ (step n 405 _ (step n 404 _ (step n 403 _ (step n 401 _ (step n 400 _ (step n 302 _
    (λ is. subst (λ (m : ℕ). length (status_line m) ≤ 64) (sym (eqb-true n 200 is)) (omega arith))
    (omega arith)) (omega arith)) (omega arith)) (omega arith)) (omega arith)) (omega arith)) (omega arith)

line_if_short : (b : Bool) (text : List ℕ) → length (line_if b text) ≤ length text + 2
line_if_short b text = let a = length-append text crlf in grind (arith, a)

cache_short : (b : Bool) → length (cond {A = List ℕ} b [] (line (codes "Cache-Control: no-store") ++ line (codes "Pragma: no-cache"))) ≤ 64
cache_short b = grind arith

length_short : (n : ℕ) → n < 100000 → length (length_line n) ≤ 32
length_short n small =
    let a = length-decimal-le 5 n (omega arith) (omega (arith, small)) (omega (arith, small)) in
    simp length-append (omega (arith, a))

location_short : (r : Redirection) → IsSmallRedirection r → length (location_line (Some (location_text r))) ≤ 27300
location_short r small =
    let e = length-extend_pairs [] r.pairs in
    grind (arith, length-append, e, small.uri, small.few, small.texts)

-- BODIES

error_short : (name : ErrorName) → length (error_text name) ≤ 32
error_short error.InvalidRequest = omega arith
error_short _ = omega arith

comma_short : (later : Bool) → length (comma_if later) ≤ 1
comma_short later = grind arith

texts_short : (later : Bool) (texts : List (List ℕ)) → length (items_text later (string_items texts)) ≤ 6 * texts_size texts + 1
texts_short later [] = omega arith
texts_short later (text ∷ texts) = let b = texts_short true texts in grind (arith, length-append, length-escape, comma_short, b)

members_short : (later : Bool) (members : List Member) → length (members_text later (each_member members)) ≤ 6 * members_size members + 1
members_short later [] = omega arith
members_short later (member ∷ members) = let c = members_short true members in grind (arith, length-append, length-escape, comma_short, texts_short, c)

pub number_short : (n : ℕ) → n < 2 ^ 64 → length (decimal n) ≤ 20
number_short n small = length-decimal-le 20 n (omega arith) (omega (arith, small)) small

-- what tells of an owner, and the type
sub_short : (sub : Option (List ℕ)) (kind : TokenKind) → length (members_text true (with_sub sub (type_member kind))) ≤ 6 * length (unwrap_or sub []) + 64
unfolding escape_byte
sub_short sub kind = grind (arith, length-append, length-escape)

body_short : (body : Body) → IsSmallBody body → length (unwrap_or (body_text body) []) ≤ 16000
unfolding escape_byte
body_short body small = grind (arith, length-append, length-escape, number_short, error_short, members_short, sub_short, small)

-- REPLIES

-- a head and a body with so many bytes for the redirection
laid : (w : Written) → is_reply_status w.status ≡ true → length (unwrap_or w.body []) ≤ 16000 →
    length (reply_bytes w) ≤ length (location_line w.location) + length (unwrap_or w.body []) + 512
laid w status short =
    let a = status_short w.status status in
    let b = line_if_short (is_some w.body) (codes "Content-Type: application/json") in
    let c = cache_short (is_bare w.status) in
    let d = line_if_short (w.status == 401) (codes "WWW-Authenticate: Basic realm=\"oauthd\"") in
    let e = length_short (length (unwrap_or w.body [])) (omega (arith, short)) in
    grind (arith, length-append, a, b, c, d, e)

sized : (status : ℕ) (location : Option Redirection) (body : Body) → is_reply_status status ≡ true → IsSmallContent location body →
    length (reply_bytes (in_writing (record { status = status; location = location; body = body }))) < reply_limit
sized status None body is short =
    let b = body_short body short in
    let a = laid (in_writing (record { status = status; location = None; body = body })) is b in
    omega (arith, a, b)
sized status (Some r) body is short =
    let none = ap (λ body. length (unwrap_or (body_text body) [])) short.1 in
    let a = laid (in_writing (record { status = status; location = Some r; body = body })) is (omega (arith, none)) in
    let b = location_short r short.0 in
    omega (arith, a, b, none)

pub small_bytes : (reply : Reply) → IsSmallReply reply → length (reply_bytes (in_writing reply)) < reply_limit
small_bytes reply small = sized reply.status reply.location reply.body small.status small.short

-- a short pair and a state are sent to a short URI
pub small_sent_back : (uri name value : List ℕ) (state : Option (List ℕ)) → length uri ≤ 2048 → length name + length value ≤ 200 →
    length (unwrap_or state []) ≤ 8192 → IsSmallReply (sent_back uri name value state)
small_sent_back uri name value state short pair sent =
    record { status = refl; short = (record { uri = short; few = grind arith; texts = grind (arith, pair, sent) }, refl) }
