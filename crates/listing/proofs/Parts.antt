-- The parts of a line, as loops write them.
use Prim.Native.Nat.{ℕ, zero, suc, ◌+◌, ◌*◌, ◌≤◌, ◌<◌}
use mathlib.Core.Path.{◌≡◌, refl, sym, ap, subst, ◌∙◌}
use mathlib.Core.Bool.{Bool, true, false, cond}
use mathlib.Core.List.{List, [], ◌∷◌, ◌++◌, map, map-append, append_assoc, append-nil}
use native.Mathlib.Omega.{arith}
use lib.Dec.{eqb}
use lib.IntN.{pos}
use lib.ListN.{length, take, get_or, length-map, length-append}
use lib.Seq.{take_at, take_all, length-take-le}
use Rattle.text.specs.Decimal.{decimal, spelled}
use Rattle.text.specs.Words.{blank, joined}
use Rattle.text.specs.Append.{Appends}
use Rattle.text.proofs.Appending.{appended, length-kept, none-appended, both-appended, take_more}
use Rattle.opcode.specs.Kind.{Kind, i32, i64, v128, kind_byte, kind_name}
use Rattle.checker.specs.Walk.{KindBytes}
use Rattle.listing.specs.Line.{bracketed}
use Rattle.listing.specs.Inner.Parts.{led, kind_text, between, Adds}

-- ---- texts of at most so many bytes, one after the other

pub adds_same : {most : ℕ} {xs ys out out' : List ℕ} {at n : ℕ} → xs ≡ ys → Adds most xs out at n out' → Adds most ys out at n out'
adds_same {most} {out = out} {out'} {at} {n} e p = subst (λ (x : List ℕ). Adds most x out at n out') e p

pub adds-most : {a b : ℕ} {xs out out' : List ℕ} {at n : ℕ} → a ≤ b → Adds a xs out at n out' → Adds b xs out at n out'
adds-most h p = record { short = omega (arith, p.short); appends = p.appends }

pub adds_none : (out : List ℕ) (at : ℕ) → at ≤ length out → Adds 0 [] out at at out
adds_none out at h = record { short = omega arith; appends = none-appended out at h }

pub one_byte : {b : ℕ} {out out' : List ℕ} {at n : ℕ} → Appends (b ∷ []) out at n out' → Adds 1 (b ∷ []) out at n out'
one_byte p = record { short = omega arith; appends = p }

pub adds-both : {a b : ℕ} {xs ys out out' out'' : List ℕ} {at m n : ℕ} → Adds a xs out at m out' → Adds b ys out' m n out'' → at + a + b ≤ length out
    → Adds (a + b) (xs ++ ys) out at n out''
adds-both {xs = xs} {ys} p q room =
    record {
      short = omega (arith, p.short, q.short, length-append xs ys);
      appends = both-appended p.appends q.appends (omega (arith, p.short, q.short));
    }

-- where it ends
pub adds-ends : {most : ℕ} {xs out out' : List ℕ} {at n : ℕ} → Adds most xs out at n out' → at + most ≤ length out
    → (n ≤ at + most) × (length out' ≡ length out)
adds-ends p room = let e = appended p.appends (omega (arith, p.short)) in (omega (arith, e.0, p.short), length-kept p.appends)

-- ---- the stack

-- one word more
joined_snoc : (ws : List (List ℕ)) (w : List ℕ) → joined (ws ++ w ∷ []) ≡ joined ws ++ (between (length ws) ++ w)
unfolding joined
joined_snoc [] w = refl
joined_snoc (v ∷ []) w = refl
joined_snoc (v ∷ u ∷ us) w = ap (λ (l : List ℕ). v ++ blank ∷ l) (joined_snoc (u ∷ us) w) ∙ sym (append_assoc v (blank ∷ joined (u ∷ us)) (blank ∷ w))

-- the first k kinds
abbrev pub inner : List ℕ → ℕ → List ℕ
inner kinds k = joined (map kind_text (take k kinds))

pub inner-none : (kinds : List ℕ) → [] ≡ inner kinds 0
unfolding joined
inner-none kinds = refl

pub inner-more : (kinds : List ℕ) (k : ℕ) → k < length kinds → inner kinds k ++ (between k ++ kind_text (get_or kinds k 0)) ≡ inner kinds (k + 1)
inner-more kinds k l =
    let ws = map kind_text (take k kinds) in
    let w = kind_text (get_or kinds k 0) in
    let many : length ws ≡ k = length-map (take k kinds) kind_text ∙ length-take-le k kinds (omega arith) in
    let all : ws ++ w ∷ [] ≡ map kind_text (take (k + 1) kinds) =
    sym (map-append kind_text (take k kinds) (get_or kinds k 0 ∷ [])) ∙ ap (map kind_text) (take_more kinds k l) in
    ap (λ (n : ℕ). joined ws ++ (between n ++ w)) (sym many) ∙ sym (joined_snoc ws w) ∙ ap joined all

chosen : (t : Bool) (xs ys : List ℕ) → length xs ≤ 4 → length ys ≤ 4 → length (cond t xs ys) ≤ 4
chosen true xs ys p q = p
chosen false xs ys p q = q

pub kind-short : (b : ℕ) → length (kind_text b) ≤ 4
kind-short b =
    chosen (eqb b (kind_byte i32)) (kind_name i32) (cond (eqb b (kind_byte i64)) (kind_name i64) (kind_name v128)) (omega arith)
    (chosen (eqb b (kind_byte i64)) (kind_name i64) (kind_name v128) (omega arith) (omega arith))

named : (κs : List Kind) → map kind_text (map kind_byte κs) ≡ map kind_name κs
named [] = refl
named (i32 ∷ κs) = ap (λ (l : List (List ℕ)). kind_name i32 ∷ l) (named κs)
named (i64 ∷ κs) = ap (λ (l : List (List ℕ)). kind_name i64 ∷ l) (named κs)
named (v128 ∷ κs) = ap (λ (l : List (List ℕ)). kind_name v128 ∷ l) (named κs)

-- the kinds that are held
pub closed : {kinds : List ℕ} {depth : ℕ} {κs : List Kind} → KindBytes kinds depth κs → 0x5B ∷ (inner kinds depth ++ 0x5D ∷ []) ≡ bracketed κs
unfolding bracketed
closed {kinds} {depth} {κs} h =
    let front : take depth kinds ≡ map kind_byte κs = ap (take depth) h.here ∙ take_at (map kind_byte κs) h.rest depth (length-map κs kind_byte ∙ h.many) in
    ap (λ (l : List (List ℕ)). 0x5B ∷ (joined l ++ 0x5D ∷ [])) (ap (map kind_text) front ∙ named κs)

-- ---- words with a blank before each

pub joined-led : (w : List ℕ) (ws : List (List ℕ)) → joined (w ∷ ws) ≡ w ++ led ws
unfolding joined led
joined-led w [] = sym (append-nil w)
joined-led w (v ∷ vs) = ap (λ (l : List ℕ). w ++ blank ∷ l) (joined-led v vs)

led-snoc : (ws : List (List ℕ)) (w : List ℕ) → led (ws ++ w ∷ []) ≡ led ws ++ (blank ∷ w)
unfolding led
led-snoc [] w = append-nil (blank ∷ w)
led-snoc (v ∷ vs) w = ap (λ (l : List ℕ). (blank ∷ v) ++ l) (led-snoc vs w) ∙ sym (append_assoc (blank ∷ v) (led vs) (blank ∷ w))

-- the first k of some bytes
abbrev pub bytes_told : List ℕ → ℕ → List ℕ
bytes_told bs k = led (map spelled (map pos (take k bs)))

pub told_none : (bs : List ℕ) → [] ≡ bytes_told bs 0
unfolding led
told_none bs = refl

pub told_more : (bs : List ℕ) (k : ℕ) → k < length bs → bytes_told bs k ++ (blank ∷ decimal (get_or bs k 0)) ≡ bytes_told bs (k + 1)
unfolding spelled
told_more bs k l =
    let z = pos (get_or bs k 0) in
    sym (led-snoc (map spelled (map pos (take k bs))) (spelled z))
    ∙ ap led
    (sym (map-append spelled (map pos (take k bs)) (z ∷ []))
    ∙ ap (map spelled) (sym (map-append pos (take k bs) (get_or bs k 0 ∷ [])) ∙ ap (map pos) (take_more bs k l)))

-- ---- the loop over the stack

pub record Stacking (kinds : List ℕ) (depth : ℕ) (out₀ : List ℕ) (at to : ℕ) (out : List ℕ) (k : ℕ) : Type 0 where
  pub most : k ≤ depth
  pub held : depth ≤ length kinds
  pub room : at + 5 * depth + 1 ≤ length out₀
  pub made : Adds (5 * k) (inner kinds k) out₀ at to out

-- after the bracket
pub stack-begins : {kinds out out₀ : List ℕ} {depth at to : ℕ} → (depth ≤ length kinds) × (at + 5 * depth + 2 ≤ length out) → Appends (0x5B ∷ []) out at to out₀
    → Stacking kinds depth out₀ to to out₀ 0
stack-begins {kinds} {out₀ = out₀} {to = to} pre p =
    let e = adds-ends (one_byte p) (omega arith) in
    record { most = omega arith; held = pre.0; room = omega arith; made = adds_same (inner-none kinds) (adds_none out₀ to (omega arith)) }

module _ {kinds out₀ out : List ℕ} {depth at to k : ℕ} (m : Stacking kinds depth out₀ at to out k) where
  pub stack_room : (to ≤ at + 5 * k) × (length out ≡ length out₀)
  stack_room = adds-ends m.made (omega (arith, m.most, m.room))

  pub stack-more : k < depth → {n : ℕ} {out' : List ℕ} → Adds 5 (between k ++ kind_text (get_or kinds k 0)) out to n out'
      → Stacking kinds depth out₀ at n out' (k + 1)
  stack-more h q =
      let e = inner-more kinds k (omega (arith, m.held)) in
      record {
        most = omega arith;
        held = m.held;
        room = m.room;
        made = adds-most (omega arith) (adds_same e (adds-both m.made q (omega (arith, m.room))));
      }

  pub stack-closed : depth ≤ k → {start n : ℕ} {before out' : List ℕ} → Appends (0x5B ∷ []) before start at out₀ → start + 5 * depth + 2 ≤ length before
      → Appends (0x5D ∷ []) out to n out' → (κs : List Kind) → KindBytes kinds depth κs → Adds (5 * depth + 2) (bracketed κs) before start n out'
  stack-closed h p room q κs held =
      let last : k ≡ depth = omega (arith, m.most) in
      adds-most (omega arith)
      (adds_same (ap (λ (j : ℕ). 0x5B ∷ (inner kinds j ++ 0x5D ∷ [])) last ∙ closed held)
      (adds-both (one_byte p) (adds-both m.made (one_byte q) (omega (arith, m.room))) (omega arith)))

pub first_next : {k : ℕ} {w out out' : List ℕ} {at n : ℕ} → k ≡ 0 → Adds 4 w out at n out' → Adds 5 (between k ++ w) out at n out'
first_next {w = w} e p = adds-most (omega arith) (adds_same (ap (λ (j : ℕ). between j ++ w) (sym e)) p)

pub later-next : (k : ℕ) {w out out' out'' : List ℕ} {at m n : ℕ} → (k ≡ 0 → ⊥) → Appends (blank ∷ []) out at m out' → Adds 4 w out' m n out''
    → at + 5 ≤ length out
    → Adds 5 (between k ++ w) out at n out''
later-next zero f p q room = absurd (f refl)
later-next (suc k) f p q room = adds-both (one_byte p) q (omega arith)

-- ---- the loop over sixteen bytes

pub record Telling (bs out₀ : List ℕ) (at to : ℕ) (out : List ℕ) (k : ℕ) : Type 0 where
  pub most : k ≤ 16
  pub room : at + 336 ≤ length out₀
  pub made : Adds (21 * k) (bytes_told bs k) out₀ at to out

pub telling-begins : (bs out : List ℕ) (at : ℕ) → at + 336 ≤ length out → Telling bs out at at out 0
telling-begins bs out at room = record { most = omega arith; room = room; made = adds_same (told_none bs) (adds_none out at (omega arith)) }

module _ {bs out₀ out : List ℕ} {at to k : ℕ} (m : Telling bs out₀ at to out k) where
  pub telling-room : (to ≤ at + 21 * k) × (length out ≡ length out₀)
  telling-room = adds-ends m.made (omega (arith, m.most, m.room))

  pub telling-more : k < 16 → length bs ≡ 16 → {n : ℕ} {out' : List ℕ} → Adds 21 (blank ∷ decimal (get_or bs k 0)) out to n out'
      → Telling bs out₀ at n out' (k + 1)
  telling-more h sixteen q =
      record {
        most = omega arith;
        room = m.room;
        made = adds-most (omega arith) (adds_same (told_more bs k (omega arith)) (adds-both m.made q (omega (arith, m.room))));
      }

  pub telling-ends : 16 ≤ k → length bs ≡ 16 → Adds 336 (led (map spelled (map pos bs))) out₀ at to out
  telling-ends h sixteen =
      let last : take k bs ≡ bs = take_all k bs (omega arith) in
      adds-most (omega (arith, m.most)) (adds_same (ap (λ (x : List ℕ). led (map spelled (map pos x))) last) m.made)
