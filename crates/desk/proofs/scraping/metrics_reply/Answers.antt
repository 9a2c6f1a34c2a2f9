use Rattle.std.proofs.Common.{rules, ◌≡◌, ◌++◌, ℕ, List, ap, codes, length, refl, string_bytes}
use Rattle.std.specs.Prelude.{decimal}
use Rattle.std.proofs.lemmas.List.{append_assoc}
use Rattle.messages.specs.Written.{crlf, line}
use Rattle.desk.proofs.scraping.metrics_reply.Goals as goal

-- line by line
by_lines : (n text : List ℕ) →
    (codes "HTTP/1.1 200 OK\r\nContent-Type: text/plain; version=0.0.4\r\nCache-Control: no-store\r\nConnection: close\r\nContent-Length: " ++ n ++ codes "\r\n\r\n") ++ text
    ≡ line (codes "HTTP/1.1 200 OK") ++ line (codes "Content-Type: text/plain; version=0.0.4") ++ line (codes "Cache-Control: no-store") ++ line (codes "Connection: close")
    ++ line (codes "Content-Length: " ++ n) ++ crlf ++ text
by_lines n text = simp append_assoc refl

pub returns : goal.returns
returns c =
    let head : string_bytes c.in_ok-head.head
    ≡ codes "HTTP/1.1 200 OK\r\nContent-Type: text/plain; version=0.0.4\r\nCache-Control: no-store\r\nConnection: close\r\nContent-Length: "
    ++ decimal (length c.args.text.now) ++ codes "\r\n\r\n" = search rules in
    let bytes : c.into_bytes-bytes.result.items ≡ string_bytes c.in_ok-head.head = ap (λ v. v.items) c.into_bytes-bytes.ensures.value in
    let all : c.extend_from_slice.new.self.items ≡ c.into_bytes-bytes.result.items ++ c.args.text.now = c.in_ok-extend_from_slice.ensures.items in
    rw (all, bytes, head) (by_lines (decimal (length c.args.text.now)) c.args.text.now)
