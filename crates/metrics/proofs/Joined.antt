-- Parts that are put one behind another.
use Rattle.std.proofs.Common.{◌≡◌, List, ℕ, ◌++◌, append_assoc}

pub joined2 : (p1 p2 o0 o1 o2 : List ℕ) → o1 ≡ o0 ++ p1 → o2 ≡ o1 ++ p2 → o2 ≡ o0 ++ (p1 ++ p2)
joined2 p1 p2 o0 o1 o2 h1 h2 = rw h2 (rw h1 (simp append_assoc))

pub joined3 : (p1 p2 p3 o0 o1 o2 o3 : List ℕ) → o1 ≡ o0 ++ p1 → o2 ≡ o1 ++ p2 → o3 ≡ o2 ++ p3 → o3 ≡ o0 ++ (p1 ++ p2 ++ p3)
joined3 p1 p2 p3 o0 o1 o2 o3 h1 h2 h3 = rw h3 (rw h2 (rw h1 (simp append_assoc)))

pub joined4 : (p1 p2 p3 p4 o0 o1 o2 o3 o4 : List ℕ) → o1 ≡ o0 ++ p1 → o2 ≡ o1 ++ p2 → o3 ≡ o2 ++ p3 → o4 ≡ o3 ++ p4 → o4 ≡ o0 ++ (p1 ++ p2 ++ p3 ++ p4)
joined4 p1 p2 p3 p4 o0 o1 o2 o3 o4 h1 h2 h3 h4 = rw h4 (rw h3 (rw h2 (rw h1 (simp append_assoc))))

pub joined5 : (p1 p2 p3 p4 p5 o0 o1 o2 o3 o4 o5 : List ℕ) → o1 ≡ o0 ++ p1 → o2 ≡ o1 ++ p2 → o3 ≡ o2 ++ p3 → o4 ≡ o3 ++ p4 → o5 ≡ o4 ++ p5 → o5 ≡ o0 ++ (p1 ++ p2 ++ p3 ++ p4 ++ p5)
joined5 p1 p2 p3 p4 p5 o0 o1 o2 o3 o4 o5 h1 h2 h3 h4 h5 = rw h5 (rw h4 (rw h3 (rw h2 (rw h1 (simp append_assoc)))))

pub joined6 : (p1 p2 p3 p4 p5 p6 o0 o1 o2 o3 o4 o5 o6 : List ℕ) → o1 ≡ o0 ++ p1 → o2 ≡ o1 ++ p2 → o3 ≡ o2 ++ p3 → o4 ≡ o3 ++ p4 → o5 ≡ o4 ++ p5 → o6 ≡ o5 ++ p6 → o6 ≡ o0 ++ (p1 ++ p2 ++ p3 ++ p4 ++ p5 ++ p6)
joined6 p1 p2 p3 p4 p5 p6 o0 o1 o2 o3 o4 o5 o6 h1 h2 h3 h4 h5 h6 = rw h6 (rw h5 (rw h4 (rw h3 (rw h2 (rw h1 (simp append_assoc))))))

pub joined7 : (p1 p2 p3 p4 p5 p6 p7 o0 o1 o2 o3 o4 o5 o6 o7 : List ℕ) → o1 ≡ o0 ++ p1 → o2 ≡ o1 ++ p2 → o3 ≡ o2 ++ p3 → o4 ≡ o3 ++ p4 → o5 ≡ o4 ++ p5 → o6 ≡ o5 ++ p6 → o7 ≡ o6 ++ p7 → o7 ≡ o0 ++ (p1 ++ p2 ++ p3 ++ p4 ++ p5 ++ p6 ++ p7)
joined7 p1 p2 p3 p4 p5 p6 p7 o0 o1 o2 o3 o4 o5 o6 o7 h1 h2 h3 h4 h5 h6 h7 = rw h7 (rw h6 (rw h5 (rw h4 (rw h3 (rw h2 (rw h1 (simp append_assoc)))))))

pub joined9 : (p1 p2 p3 p4 p5 p6 p7 p8 p9 o0 o1 o2 o3 o4 o5 o6 o7 o8 o9 : List ℕ) → o1 ≡ o0 ++ p1 → o2 ≡ o1 ++ p2 → o3 ≡ o2 ++ p3 → o4 ≡ o3 ++ p4 → o5 ≡ o4 ++ p5 → o6 ≡ o5 ++ p6 → o7 ≡ o6 ++ p7 → o8 ≡ o7 ++ p8 → o9 ≡ o8 ++ p9 → o9 ≡ o0 ++ (p1 ++ p2 ++ p3 ++ p4 ++ p5 ++ p6 ++ p7 ++ p8 ++ p9)
joined9 p1 p2 p3 p4 p5 p6 p7 p8 p9 o0 o1 o2 o3 o4 o5 o6 o7 o8 o9 h1 h2 h3 h4 h5 h6 h7 h8 h9 = rw h9 (rw h8 (rw h7 (rw h6 (rw h5 (rw h4 (rw h3 (rw h2 (rw h1 (simp append_assoc)))))))))
