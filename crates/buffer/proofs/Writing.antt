-- `sets out w bs`, of the library, is `out` with the bytes `bs` from place w on.
use Prim.Native.Nat.{ℕ, suc, ◌+◌, ◌-◌, ◌≤◌}
use mathlib.Core.Path.{◌≡◌, sym, ap, ◌∙◌}
use mathlib.Core.List.{List, [], ◌∷◌, ◌++◌, append_assoc, append-nil}
use native.Mathlib.Nat.{add-zero, add-suc, suc-add}
use native.Mathlib.Omega.{arith}
use lib.ListN.{length, take, drop, set, length-drop, take-append-drop, length-take, drop_of_length-le}
use lib.Seq.{sets, sets-eq, drop-drop, drop-append-le, take-length, length-take-le}
use borrow.Rule.Slice.PartMut.{put_mid}

-- bytes after bytes
pub sets-append : (xs l ys : List ℕ) (i : ℕ) → sets (sets l i xs) (i + length xs) ys ≡ sets l i (xs ++ ys)
sets-append [] l ys i = ap (λ (k : ℕ). sets l k ys) (add-zero i)
sets-append (x ∷ xs) l ys i =
    ap (λ (k : ℕ). sets (sets (set l i x) (suc i) xs) k ys) (add-suc i (length xs) ∙ sym (suc-add i (length xs)))
    ∙ sets-append xs (set l i x) ys (suc i)

-- bytes at the front of the part from w on are written from w on
pub part-sets : (out bs : List ℕ) (w k : ℕ) → w ≤ length out → k ≡ length out - w → length bs ≤ k
    → put_mid w k out (bs ++ drop (length bs) (take k (drop w out))) ≡ sets out w bs
part-sets out bs w k h e l =
    let mid = take k (drop w out) in
    let post = drop k (drop w out) in
    let n : length bs ≤ length mid = omega (arith, length-take k (drop w out), length-drop w out) in
    let c : drop (length bs) mid ++ post ≡ drop (w + length bs) out =
    sym (drop-append-le (length bs) mid post n) ∙ ap (drop (length bs)) (take-append-drop k (drop w out)) ∙ drop-drop (length bs) w out in
    ap (λ (x : List ℕ). take w out ++ x) (append_assoc bs (drop (length bs) mid) post ∙ ap (λ (x : List ℕ). bs ++ x) c)
    ∙ sym (append_assoc (take w out) bs (drop (w + length bs) out)) ∙ sym (sets-eq bs out w (omega arith))

-- what a copy of all of src leaves of dst
pub copied : (src dst : List ℕ) → take (length src) src ++ drop (length src) dst ≡ src ++ drop (length src) dst
copied src dst = ap (λ (l : List ℕ). l ++ drop (length src) dst) (take-length src)

-- where dst was a buffer's part from w on: of that buffer
pub part-copied : (out src : List ℕ) (w k : ℕ) {part : List ℕ} → w ≤ length out → k ≡ length out - w → length src ≤ k
    → part ≡ take (length src) src ++ drop (length src) (take k (drop w out)) → put_mid w k out part ≡ sets out w src
part-copied out src w k h e l is = ap (put_mid w k out) (is ∙ copied src (take k (drop w out))) ∙ part-sets out src w k h e l

-- where src is the front of s
pub front-copied : (s dst : List ℕ) (n : ℕ) → n ≤ length s
    → take (length (take n s)) (take n s) ++ drop (length (take n s)) dst ≡ take n s ++ drop n dst
front-copied s dst n h = copied (take n s) dst ∙ ap (λ (k : ℕ). take n s ++ drop k dst) (length-take-le n s h)

-- where src fills dst
pub fills : (src dst : List ℕ) → length src ≡ length dst → take (length src) src ++ drop (length src) dst ≡ src
fills src dst e = copied src dst ∙ ap (λ (l : List ℕ). src ++ l) (drop_of_length-le dst {i = length src} (omega arith)) ∙ append-nil src

-- where src is the k bytes of s from place a on, and they fill dst
pub part-fills : (s dst : List ℕ) (a e k : ℕ) {filled : List ℕ} → e ≡ a + k → e ≤ length s → length dst ≡ k
    → filled ≡ take (length (take (e - a) (drop a s))) (take (e - a) (drop a s)) ++ drop (length (take (e - a) (drop a s))) dst
    → filled ≡ take k (drop a s)
part-fills s dst a e k is h l c =
    let n : e - a ≡ k = omega arith in
    let src = take (e - a) (drop a s) in
    let long : length src ≡ e - a = length-take-le (e - a) (drop a s) (omega (arith, length-drop a s)) in
    c ∙ fills src dst (omega arith) ∙ ap (λ (j : ℕ). take j (drop a s)) n
