-- The shortest form of a strip is the shortest, and the only one of its length.
use Prim.Native.Nat.{ℕ, ◌+◌, ◌≤◌}
use mathlib.Core.Path.{◌≡◌, refl, sym, ap, subst, ◌∙◌}
use mathlib.Core.List.{List, [], ◌∷◌, ◌++◌}
use native.Mathlib.Omega.{arith}
use lib.ListN.{length, drop, length-append, drop_of_length-le}
use lib.Seq.{drop-append_seam}
use Rattle.instr.specs.declared.Instr.{Instr}
use Rattle.instr.specs.Layout.{Field, Writes, Shortest, InOrder, layout, Stands}
use Rattle.instr.specs.Encode.{encoding}
use Rattle.instr.proofs.Fields.{in-order-append, in-order-least, in-order-only}
use Rattle.instr.proofs.Encodes.{encode-shortest, same_layout}
use Rattle.instr.proofs.Places as Places
use Rattle.rules.specs.Header.{Header, header_bytes}
use Rattle.rules.specs.Consists.{Instructions, no_more, one_more, Consists}
use Rattle.rewrite.specs.Rewrite.{encodings, shortest}
use Rattle.rewrite.specs.Shortened.{layouts}

-- by any version that has the instruction
pub stands-shortest : {ver : ℕ} {s : List ℕ} {p : ℕ} {i : Instr} {n : ℕ} → Stands ver s p i n → InOrder Shortest (layout ver i) (encoding i)
stands-shortest {ver} {i = i} w = subst (λ (fs : List Field). InOrder Shortest fs (encoding i)) (same_layout ver i w.allowed) (encode-shortest i w.typed)

pub all-shortest : {ver : ℕ} {s : List ℕ} {p : ℕ} {is : List Instr} → Instructions ver s p is → InOrder Shortest (layouts ver is) (encodings is)
all-shortest (no_more e) = refl
all-shortest {ver} (one_more {i = i} {is = is} w r) =
    in-order-append Shortest (layout ver i) (layouts ver is) (encoding i) (encodings is) (stands-shortest w) (all-shortest r)

-- the bytes of any strip from a place on are the fields of its instructions
all-written : {ver : ℕ} {s : List ℕ} {p : ℕ} {is : List Instr} → Instructions ver s p is → InOrder Writes (layouts ver is) (drop p s)
all-written {s = s} {p} (no_more e) = drop_of_length-le s {i = p} (omega (arith, e))
all-written {ver} {s} {p} (one_more {n = n} {i = i} {is = is} w r) =
    let rest : drop (p + n) s ≡ w.rest = ap (λ (k : ℕ). drop (p + k) s) (sym w.long) ∙ Places.past s p w.bytes w.rest w.here in
    let e : w.bytes ++ drop (p + n) s ≡ drop p s = ap (λ (l : List ℕ). w.bytes ++ l) rest ∙ sym w.here in
    subst (InOrder Writes (layouts ver (i ∷ is))) e
    (in-order-append Writes (layout ver i) (layouts ver is) w.bytes (drop (p + n) s) w.fields (all-written r))

-- bytes that are as few as the shortest are the shortest
as-few : (fs : List Field) (xs ys : List ℕ) → InOrder Shortest fs xs → InOrder Writes fs ys → length ys ≤ length xs → InOrder Shortest fs ys
as-few [] xs ys o q l = q
as-few (f ∷ fs) xs ys o q l =
    let a = length-append o.0 o.1 in
    let b = length-append q.0 q.1 in
    let c = o.3.1 q.0 q.3 in
    let d = in-order-least fs o.1 q.1 o.4 q.4 in
    let x : length q.0 ≤ length o.0 = omega (arith, a, b, c, d, ap length o.2, ap length q.2) in
    let y : length q.1 ≤ length o.1 = omega (arith, a, b, c, d, ap length o.2, ap length q.2) in
    (q.0, q.1, q.2, (q.3, λ cs w. omega (arith, x, o.3.1 cs w)), as-few fs o.1 q.1 o.4 q.4 y)

module _ {s : List ℕ} {h : Header} {is : List Instr} (a : Consists s h is) {u : List ℕ} (b : Consists u h is) where
  behind : drop (length (header_bytes h)) u ≡ b.declares.body
  behind = ap (drop (length (header_bytes h))) b.declares.bytes ∙ drop-append_seam (header_bytes h) b.declares.body

  fields : InOrder Writes (layouts h.version is) b.declares.body
  fields = subst (InOrder Writes (layouts h.version is)) behind (all-written b.instructions)

  pub holds-least : length (shortest h is) ≤ length u
  holds-least =
      omega (
        arith,
        length-append (header_bytes h) (encodings is),
        ap length b.declares.bytes,
        length-append (header_bytes h) b.declares.body,
        in-order-least (layouts h.version is) (encodings is) b.declares.body (all-shortest a.instructions) fields,
      )

  pub holds-only : length u ≡ length (shortest h is) → u ≡ shortest h is
  holds-only l =
      let few : length b.declares.body ≤ length (encodings is) =
      omega (arith, l, length-append (header_bytes h) (encodings is), ap length b.declares.bytes, length-append (header_bytes h) b.declares.body) in
      let all = all-shortest a.instructions in
      let fs = layouts h.version is in
      let same = in-order-only fs b.declares.body (encodings is) (as-few fs (encodings is) b.declares.body all fields few) all in
      b.declares.bytes ∙ ap (λ (x : List ℕ). header_bytes h ++ x) same
