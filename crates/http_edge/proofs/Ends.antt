-- Where replies end in output.
use Rattle.std.proofs.Common.{◌≡◌, ◌≤◌, ◌<◌, ◌+◌, ◌-◌, ◌⊎◌, inl, inr, ℕ, zero, suc, List, [], ◌∷◌, ◌++◌, Bool, true, false, length, length-append, append_assoc, drop, take, map, get_or, set, refl, sym, ap, subst, ◌∙◌, arith}
use Rattle.std.specs.Prelude.{All, Contains, min}
use Rattle.std.specs.List.{slice_index_or}
use Rattle.std.proofs.lemmas.List.{length-set, take_more, take_more_set, drop-set-lt, get_or-drop, get_or_default}
use Rattle.std.proofs.lemmas.List.Elements.{Contains-append_left, Contains-append_right}
use Rattle.http_edge.proofs.Names.{leb_tells, nat_tests, length-drop, drop-drop, map-append, in_writing, reply_bytes, AnsweredRequest, replies_of, ends_of, end_if, ends_from, faulty_if, Connection, connection_at, SeenLane, lane_at, ShowsConnection}
use Rattle.http_edge.proofs.Names.{ShowsConnections, SeenOutput, with_faulty, IsLeftIn, IsLeftOfReply, AreLeftOfReply}
use Rattle.http_edge.specs.LanesParts.{AreLeftIn}
use Rattle.http_edge.proofs.Showing.{shows_at}

-- from one place on, and from there on from another
pub ends_further : (t n : ℕ) (ends : List ℕ) → ends_from n (ends_from t ends) ≡ ends_from (t + n) ends
ends_further t n [] = refl
ends_further t n (end ∷ ends) = elim (leb_tells t end) [
  | inl p ↦ rw p.0 (elim (leb_tells (t + n) end) [
    | inl q ↦
        let more : n ≤ end - t = omega (arith, q.1) in
        let same : end - t - n ≡ end - (t + n) = omega arith in
        grind (arith, nat_tests, more, same, q.0, ends_further t n ends)
    | inr q ↦ let fewer : end - t < n = omega (arith, p.1, q.1) in grind (arith, nat_tests, fewer, q.0, ends_further t n ends)
  ])
  | inr p ↦ let fewer : end < t + n = omega (arith, p.1) in grind (arith, nat_tests, fewer, p.0, ends_further t n ends)
]

ends_append : (t : ℕ) (xs ys : List ℕ) → ends_from t (xs ++ ys) ≡ ends_from t xs ++ ends_from t ys
ends_append t [] ys = refl
ends_append t (x ∷ xs) ys = elim (leb_tells t x) [
  | inl p ↦ rw p.0 (ap (λ l. (x - t) ∷ l) (ends_append t xs ys))
  | inr p ↦ rw p.0 (ends_append t xs ys)
]

-- so far they were lowered, and those behind are as they were
pub record AreLowered (old now : List ℕ) (i n : ℕ) : Type 0 where
  pub long : length now ≡ length old
  pub done : take i now ≡ map (λ end. end - n) (take i old)
  pub rest : drop i now ≡ drop i old

-- one more was
pub lowered_more : (old now : List ℕ) (i n x y : ℕ) → AreLowered old now i n → i < length old → x ≡ get_or now i x → y ≡ x - n → AreLowered old (set now i y) (i + 1) n
lowered_more old now i n x y before within read lowered =
    let long = before.long in
    let here : i < length now = omega (arith, long, within) in
    let none : i ≡ i + 0 = omega arith in
    let same : get_or old i x ≡ x =
    ap (λ j. get_or old j x) none ∙ sym (get_or-drop i old 0 x) ∙ ap (λ l. get_or l 0 x) (sym before.rest) ∙ get_or-drop i now 0 x ∙ ap (λ j. get_or now j x) (sym none) ∙ sym read in
    let done = take_more old i x within ∙ ap (λ z. take i old ++ z ∷ []) same in
    record {
      long = length-set now i y ∙ long;
      done =
          take_more_set now i y here ∙ ap (λ l. l ++ y ∷ []) before.done ∙ ap (λ z. map (λ end. end - n) (take i old) ++ z ∷ []) lowered
          ∙ sym (map-append (λ end. end - n) (take i old) (x ∷ [])) ∙ ap (map (λ end. end - n)) (sym done);
      rest = drop-set-lt (i + 1) now i y (omega arith) ∙ sym (drop-drop 1 i now) ∙ ap (drop 1) before.rest ∙ drop-drop 1 i old;
    }

-- how long a reply is
abbrev size_of : AnsweredRequest → ℕ
size_of r = length (reply_bytes (in_writing r.outcome.reply))

-- those of replies that are not begun
ends_of_from : (t start : ℕ) (rs : List AnsweredRequest) → t ≤ start → ends_from t (ends_of start rs) ≡ ends_of (start - t) rs
ends_of_from t start [] le = refl
ends_of_from t start (r ∷ rs) le = elim (leb_tells t (start + size_of r)) [
  | inl p ↦
      let is : start + size_of r - t ≡ start - t + size_of r = omega (arith, le) in
      rw p.0 (ap (λ l. (start + size_of r - t) ∷ l) (ends_of_from t (start + size_of r) rs (omega (arith, le))) ∙ ap (λ n. n ∷ ends_of n rs) is)
  | inr p ↦ absurd (omega (arith, le, p.1))
]

end_if_from : (t n : ℕ) (closes : Bool) → t ≤ n → ends_from t (end_if closes n) ≡ end_if closes (n - t)
end_if_from t n false le = refl
end_if_from t n true le = elim (leb_tells t n) [
  | inl p ↦ rw p.0 refl
  | inr p ↦ absurd (omega (arith, le, p.1))
]

-- what the lane keeps of the ends behind a piece is what is known of them
pub ends_heard : (lane : SeenLane) (k : Connection) (middle : SeenOutput) (requests : List AnsweredRequest) (closes : Bool) → ShowsConnection lane k → middle.bytes ≡ lane.output ++ replies_of requests →
    middle.ends ≡ lane.ends ++ ends_of (length lane.output) requests →
    (with_faulty middle closes).ends ≡ ends_from k.taken (k.ends ++ (ends_of (length k.output) requests ++ end_if closes (length (k.output ++ (replies_of requests ++ faulty_if closes)))))
ends_heard lane k middle requests closes shows said ends =
    let within = shows.within in
    let size = ap length shows.output in
    let left = length-drop k.taken k.output in
    let here : length lane.output ≡ length k.output - k.taken = omega (arith, size, left) in
    let all = length-append k.output (replies_of requests ++ faulty_if closes) in
    let more = length-append (replies_of requests) (faulty_if closes) in
    let grown = length-append middle.bytes (faulty_if closes) in
    let middle_size = ap length said in
    let parts = length-append lane.output (replies_of requests) in
    let end : length (middle.bytes ++ faulty_if closes) ≡ length (k.output ++ (replies_of requests ++ faulty_if closes)) - k.taken = omega (arith, here, all, more, grown, middle_size, parts, within) in
    let old = ap (λ l. l ++ ends_of (length lane.output) requests) shows.ends ∙ ap (λ n. ends_from k.taken k.ends ++ ends_of n requests) here in
    let ours = ap (λ l. l ++ end_if closes (length (middle.bytes ++ faulty_if closes))) (ends ∙ old)
    ∙ ap (λ n. (ends_from k.taken k.ends ++ ends_of (length k.output - k.taken) requests) ++ end_if closes n) end in
    let first = ends_of_from k.taken (length k.output) requests within in
    let last = end_if_from k.taken (length (k.output ++ (replies_of requests ++ faulty_if closes))) closes (omega (arith, all, within)) in
    ours ∙ append_assoc (ends_from k.taken k.ends) (ends_of (length k.output - k.taken) requests) _
    ∙ ap (λ l. ends_from k.taken k.ends ++ (l ++ end_if closes (length (k.output ++ (replies_of requests ++ faulty_if closes)) - k.taken))) (sym first)
    ∙ ap (λ l. ends_from k.taken k.ends ++ (ends_from k.taken (ends_of (length k.output) requests) ++ l)) (sym last)
    ∙ ap (λ l. ends_from k.taken k.ends ++ l) (sym (ends_append k.taken (ends_of (length k.output) requests) _)) ∙ sym (ends_append k.taken k.ends _)

-- behind the last reply is an end
last_end : (start : ℕ) (r : AnsweredRequest) (rs : List AnsweredRequest) → Contains (ends_of start (r ∷ rs)) (start + length (replies_of (r ∷ rs)))
last_end start r [] =
    let size = length-append (reply_bytes (in_writing r.outcome.reply)) [] in
    let is : start + size_of r ≡ start + length (replies_of (r ∷ [])) = omega (arith, size) in
    (0, omega arith, is)
last_end start r (x ∷ rs) =
    let size = length-append (reply_bytes (in_writing r.outcome.reply)) (replies_of (x ∷ rs)) in
    let is : start + size_of r + length (replies_of (x ∷ rs)) ≡ start + length (replies_of (r ∷ x ∷ rs)) = omega (arith, size) in
    subst (λ n. Contains (ends_of start (r ∷ x ∷ rs)) n) is (Contains-append_right ((start + size_of r) ∷ []) (ends_of (start + size_of r) (x ∷ rs)) _ (last_end (start + size_of r) x rs))

-- so it is behind a piece
pub whole_heard : (output ends : List ℕ) (requests : List AnsweredRequest) (closes : Bool) → (0 < length output → Contains ends (length output)) →
    0 < length (output ++ (replies_of requests ++ faulty_if closes)) →
    Contains (ends ++ (ends_of (length output) requests ++ end_if closes (length (output ++ (replies_of requests ++ faulty_if closes))))) (length (output ++ (replies_of requests ++ faulty_if closes)))
whole_heard output ends requests true whole some =
    let n : ℕ = length (output ++ (replies_of requests ++ faulty_if true)) in
    Contains-append_right ends (ends_of (length output) requests ++ n ∷ []) n (Contains-append_right (ends_of (length output) requests) (n ∷ []) n (0, omega arith, refl))
whole_heard output ends [] false whole some =
    let size = length-append output [] in
    let is : length output ≡ length (output ++ []) = omega (arith, size) in
    subst (λ n. Contains (ends ++ []) n) is (Contains-append_left ends [] (length output) (whole (omega (arith, is, some))))
whole_heard output ends (r ∷ rs) false whole some =
    let size = length-append output (replies_of (r ∷ rs) ++ []) in
    let more = length-append (replies_of (r ∷ rs)) [] in
    let n : ℕ = length output + length (replies_of (r ∷ rs)) in
    let is : n ≡ length (output ++ (replies_of (r ∷ rs) ++ [])) = omega (arith, size, more) in
    subst (λ m. Contains (ends ++ (ends_of (length output) (r ∷ rs) ++ [])) m) is
    (Contains-append_right ends (ends_of (length output) (r ∷ rs) ++ []) n (Contains-append_left (ends_of (length output) (r ∷ rs)) [] n (last_end (length output) r rs)))

-- UP TO THE NEXT END

-- so many bytes are the least of all and of the ends so far
pub record IsLeast (bytes : ℕ) (ends : List ℕ) (i least : ℕ) : Type 0 where
  pub is_end : (least ≡ bytes) ⊎ Contains ends least
  pub within : least ≤ bytes
  pub next : (k d : ℕ) → k < i → least ≤ get_or ends k d

-- and of one end more
pub least_more : (bytes : ℕ) (ends : List ℕ) (i least x y : ℕ) → IsLeast bytes ends i least → i < length ends → x ≡ get_or ends i x → y ≡ min least x → IsLeast bytes ends (i + 1) y
least_more bytes ends i least x y before within read is =
    let le = before.within in
    record {
      is_end = elim (leb_tells least x) [
        | inl p ↦ (let same : y ≡ least = omega (arith, is, p.1) in subst (λ n. (n ≡ bytes) ⊎ Contains ends n) (sym same) before.is_end)
        | inr p ↦ (let same : y ≡ x = omega (arith, is, p.1) in subst (λ n. (n ≡ bytes) ⊎ Contains ends n) (sym same) (inr (i, within, sym read)))
      ];
      within = omega (arith, is, le);
      next = λ k d less. elim (leb_tells (k + 1) i) [
        | inl p ↦ (let rest = before.next k d (omega (arith, p.1)) in omega (arith, rest, is))
        | inr p ↦
            let at : k ≡ i = omega (arith, less, p.1) in
            let here : get_or ends k d ≡ x = ap (λ j. get_or ends j d) at ∙ get_or_default ends i d x within ∙ sym read in
            omega (arith, here, is)
      ];
    }

-- an element is the first, or one of the others
first_or_other : (x : ℕ) (xs : List ℕ) (y k : ℕ) → k < length (x ∷ xs) → slice_index_or (x ∷ xs) k y ≡ y → (x ≡ y) ⊎ Contains xs y
first_or_other x xs y zero within is = inl is
first_or_other x xs y (suc k) within is = inr (k, omega (arith, within), is)

cons_cases : (x : ℕ) (xs : List ℕ) (y : ℕ) → Contains (x ∷ xs) y → (x ≡ y) ⊎ Contains xs y
cons_cases x xs y has = first_or_other x xs y has.0 has.1 has.2

cons_tail : (x : ℕ) (xs : List ℕ) (y : ℕ) → Contains xs y → Contains (x ∷ xs) y
cons_tail x xs y has = Contains-append_right (x ∷ []) xs y has

-- an end that is counted from there is one
end_there : (t r : ℕ) (ends : List ℕ) → Contains (ends_from t ends) r → Contains ends (t + r)
end_there t r [] has = absurd (let within = has.1 in omega (arith, within))
end_there t r (end ∷ ends) has = elim (leb_tells t end) [
  | inl p ↦ elim (cons_cases (end - t) (ends_from t ends) r (rw p.0 at has)) [
    | inl is ↦ (0, omega arith, omega (arith, is, p.1))
    | inr other ↦ cons_tail end ends (t + r) (end_there t r ends other)
  ]
  | inr p ↦ cons_tail end ends (t + r) (end_there t r ends (rw p.0 at has))
]

end_from : (t m : ℕ) (ends : List ℕ) → Contains ends (t + m) → Contains (ends_from t ends) m
end_from t m [] has = absurd (let within = has.1 in omega (arith, within))
end_from t m (end ∷ ends) has = elim (cons_cases end ends (t + m) has) [
  | inl is ↦ elim (leb_tells t end) [
    | inl p ↦ rw p.0 (0, omega arith, omega (arith, is))
    | inr p ↦ absurd (omega (arith, is, p.1))
  ]
  | inr other ↦ elim (leb_tells t end) [
    | inl p ↦ rw p.0 (cons_tail (end - t) (ends_from t ends) m (end_from t m ends other))
    | inr p ↦ rw p.0 (end_from t m ends other)
  ]
]

left_is : (lane : SeenLane) (k : Connection) (n : ℕ) → ShowsConnection lane k → IsLeftIn lane n → 0 < length k.output → IsLeftOfReply k n
left_is lane k n shows left some = record {
  ends = elim left.is_end [
    | inl all ↦
        let within = shows.within in
        let size = ap length shows.output in
        let is : length k.output ≡ k.taken + n = (let rest = length-drop k.taken k.output in omega (arith, within, size, rest, all)) in
        subst (Contains k.ends) is (shows.whole some)
    | inr has ↦ end_there k.taken n k.ends (subst (λ ends. Contains ends n) shows.ends has)
  ];
  within = (let within = shows.within in let size = ap length shows.output in let rest = length-drop k.taken k.output in let few = left.within in omega (arith, within, size, rest, few));
  next = λ m less has.
      let there = end_from k.taken m k.ends has in
      let le : n ≤ m = subst (λ end. n ≤ end) there.2 (subst (All (λ end. n ≤ end)) shows.ends left.next there.0 m there.1) in
      omega (arith, le, less);
}

-- what is left in the lane is left of what is known
pub shows_left : (lanes : List SeenLane) (ks : List Connection) (c n : ℕ) → ShowsConnections lanes ks → AreLeftIn (lane_at lanes c) n → AreLeftOfReply (connection_at ks c) n
shows_left lanes ks c n shows left = elim (shows_at lanes ks c shows) [
  | inl none ↦ rw none.1 (rw none.0 at left)
  | inr at ↦ rw at.3 (left_is at.0 at.1 n at.4 (rw at.2 at left))
]
