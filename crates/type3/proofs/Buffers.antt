-- What is written to the start of a buffer, part by part. Assumes nothing.
use Rattle.std.proofs.Common.{◌≡◌, ℕ, ◌+◌, ◌-◌, ◌<◌, ◌≤◌, List, [], ◌∷◌, ◌++◌, length, get_or, drop, set, sym, refl, ap, ◌∙◌, append_assoc}
use Rattle.std.proofs.Common.{arith}
use borrow.Rule.Slice.PartMut.{put_mid}
use Rattle.std.proofs.lemmas.List.{drop_more, set_at, take_at, drop_at, drop-drop, length-append}

-- the buffer xs, with its first octets replaced by p
abbrev over : List ℕ → List ℕ → List ℕ
over p xs = p ++ drop (length p) xs

-- one octet more
over_set : (p xs : List ℕ) (n a : ℕ) → length p ≡ n → n < length xs → set (over p xs) n a ≡ over (p ++ a ∷ []) xs
over_set p xs n a e h =
    let q : length (p ++ a ∷ []) ≡ n + 1 = simp length-append (omega arith) in
    rw (q, e, drop_more xs n 0, append_assoc) (set_at p (get_or xs n 0) (drop (n + 1) xs) a n e)

-- a part of k octets more
over_part : (p xs b : List ℕ) (n k : ℕ) → length p ≡ n → length b ≡ k → put_mid n k (over p xs) b ≡ over (p ++ b) xs
over_part p xs b n k e f =
    let q : length (p ++ b) ≡ n + k = simp length-append (omega arith) in
    rw (q, e, take_at p (drop n xs) n e, drop_at p (drop n xs) n e, drop-drop, append_assoc)

-- two octets at n replaced
pub last_two : (p rest : List ℕ) (n y v z w : ℕ) → length p ≡ n
    → set (set ((p ++ y ∷ v ∷ []) ++ rest) n z) (n + 1) w ≡ (p ++ z ∷ w ∷ []) ++ rest
last_two p rest n y v z w e =
    let q : length (p ++ z ∷ []) ≡ n + 1 = simp length-append (omega arith) in
    ap (λ s. set (set s n z) (n + 1) w) (append_assoc p (y ∷ v ∷ []) rest)
    ∙ ap (λ s. set s (n + 1) w) (set_at p y (v ∷ rest) z n e ∙ sym (append_assoc p (z ∷ []) (v ∷ rest)))
    ∙ set_at (p ++ z ∷ []) v rest w (n + 1) q ∙ append_assoc p (z ∷ []) (w ∷ rest) ∙ sym (append_assoc p (z ∷ w ∷ []) rest)

-- two octets, a part of n, and two octets
pub framed_over : (xs b : List ℕ) (n x y z w : ℕ) → length b ≡ n → n + 4 ≤ length xs →
    set (set (put_mid 2 (n + 2 - 2) (set (set xs 0 x) 1 y) b) (n + 2) z) (n + 3) w ≡ (x ∷ y ∷ (b ++ z ∷ w ∷ [])) ++ drop (n + 4) xs
framed_over xs b n x y z w sized room =
    let k : length b ≡ n + 2 - 2 = omega arith in
    let l : length ((x ∷ y ∷ b) ++ z ∷ []) ≡ n + 3 = simp length-append (omega arith) in
    let all : length ((x ∷ y ∷ b) ++ z ∷ w ∷ []) ≡ n + 4 = simp length-append (omega arith) in
    ap (λ s. set (set (put_mid 2 (n + 2 - 2) (set s 1 y) b) (n + 2) z) (n + 3) w) (over_set [] xs 0 x refl (omega arith))
    ∙ ap (λ s. set (set (put_mid 2 (n + 2 - 2) s b) (n + 2) z) (n + 3) w) (over_set (x ∷ []) xs 1 y refl (omega arith))
    ∙ ap (λ s. set (set s (n + 2) z) (n + 3) w) (over_part (x ∷ y ∷ []) xs b 2 (n + 2 - 2) refl k)
    ∙ ap (λ s. set s (n + 3) w) (over_set (x ∷ y ∷ b) xs (n + 2) z (omega arith) (omega arith))
    ∙ over_set ((x ∷ y ∷ b) ++ z ∷ []) xs (n + 3) w l (omega arith)
    ∙ ap (λ p. over p xs) (append_assoc (x ∷ y ∷ b) (z ∷ []) (w ∷ []))
    ∙ ap (λ i. ((x ∷ y ∷ b) ++ z ∷ w ∷ []) ++ drop i xs) all
