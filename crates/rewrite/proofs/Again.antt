-- What is written is read again: the same instructions, valid as before.
use Prim.Native.Nat.{ℕ, ◌+◌, ◌≤◌}
use mathlib.Core.Path.{◌≡◌, refl, sym, ap, subst, ◌∙◌}
use mathlib.Core.List.{List, [], ◌∷◌, ◌++◌, append_assoc}
use native.Mathlib.Omega.{arith}
use lib.ListN.{length, drop, length-append, length-drop}
use lib.Seq.{drop-append_seam}
use Rattle.instr.specs.declared.Instr.{Instr}
use Rattle.instr.specs.Layout.{layout, Stands}
use Rattle.instr.specs.Encode.{encoding}
use Rattle.instr.proofs.Fields.{writes-of}
use Rattle.instr.proofs.Places as Places
use Rattle.instr.proofs.Ranges.{end-first, end-one}
use Rattle.rules.specs.Header.{Header, Declares, header_bytes}
use Rattle.rules.specs.Typing.{Frame}
use Rattle.rules.specs.Strip.{Reaches, front, past, Valid}
use Rattle.rules.proofs.Onward.{Onward, here, next, from_front}
use Rattle.rules.specs.Consists.{Instructions, no_more, one_more, Consists}
use Rattle.rewrite.specs.Rewrite.{encodings, shortest}
use Rattle.rewrite.proofs.Least.{stands-shortest}
use Rattle.rules.proofs.Strips.{between, instrs, valid-holds}

-- an instruction stands where its shortest form does
stands-again : {ver : ℕ} {s : List ℕ} {p n : ℕ} {i : Instr} → Stands ver s p i n → (t : List ℕ) (q : ℕ) (rest : List ℕ) → drop q t ≡ encoding i ++ rest
    → Stands ver t q i (length (encoding i))
stands-again {ver} {i = i} w t q rest e =
    record {
      typed = w.typed;
      allowed = w.allowed;
      lacking = w.lacking;
      bytes = encoding i;
      rest = rest;
      here = e;
      long = refl;
      fields = writes-of (layout ver i) (encoding i) (stands-shortest w);
    }

instructions-again : {ver : ℕ} {s : List ℕ} {p : ℕ} {is : List Instr} → Instructions ver s p is → (t : List ℕ) (q : ℕ) → q ≤ length t → drop q t ≡ encodings is
    → Instructions ver t q is
instructions-again (no_more e) t q l d = no_more {p = q} (omega (arith, length-drop q t, ap length d))
instructions-again (one_more {i = i} {is = is} w r) t q l d =
    one_more (stands-again w t q (encodings is) d)
    (instructions-again r t (q + length (encoding i)) (omega (arith, length-drop q t, ap length d, length-append (encoding i) (encodings is)))
    (Places.past t q (encoding i) (encodings is) d))

encodings-append : (is js : List Instr) → encodings (is ++ js) ≡ encodings is ++ encodings js
encodings-append [] js = refl
encodings-append (i ∷ is) js = ap (λ (l : List ℕ). encoding i ++ l) (encodings-append is js) ∙ sym (append_assoc (encoding i) (encodings is) (encodings js))

reaches-again : {s : List ℕ} {h : Header} {p q : ℕ} {fs gs : List Frame} (o : Onward s h p fs q gs) (t : List ℕ) (p' : ℕ) (rest : List ℕ) → Reaches t h p' fs
    → drop p' t ≡ encodings (between o) ++ rest → (q' : ℕ) × Reaches t h q' gs × (drop q' t ≡ rest)
reaches-again here t p' rest r e = (p', r, e)
reaches-again (next {i = i} a k l o) t p' rest r e =
    let d = e ∙ append_assoc (encoding i) (encodings (between o)) rest in
    reaches-again o t (p' + length (encoding i)) rest
    (past r (record { stands = stands-again a.stands t p' (encodings (between o) ++ rest) d; does = a.does }) k l)
    (Places.past t p' (encoding i) (encodings (between o) ++ rest) d)

-- t is the shortest form of a strip with the header h and these instructions
module _ {s : List ℕ} {h : Header} {is : List Instr} (a : Consists s h is) (t : List ℕ) (e : t ≡ shortest h is) (l : length t ≤ length s) where
  body : drop (length (header_bytes h)) t ≡ encodings is
  body = ap (drop (length (header_bytes h))) e ∙ drop-append_seam (header_bytes h) (encodings is)

  declares-again : Declares t h
  declares-again =
      record { sized = omega (arith, a.declares.sized); versioned = a.declares.versioned; few = a.declares.few; body = encodings is; bytes = e }

  pub holds-again : Consists t h is
  holds-again =
      record {
        declares = declares-again;
        instructions =
            instructions-again a.instructions t (length (header_bytes h))
            (omega (arith, ap length e, length-append (header_bytes h) (encodings is))) body;
      }

module _ {s : List ℕ} (v : Valid s) (t : List ℕ) (e : t ≡ shortest v.header (instrs v)) (l : length t ≤ length s) where
  pub valid-again : Valid t
  valid-again =
      let h = v.header in
      let o = from_front v.reached in
      let d = body (valid-holds v) t e l ∙ encodings-append (between o) (v.final ∷ []) in
      let r = reaches-again o t (length (header_bytes h)) (encodings (v.final ∷ [])) (front (declares-again (valid-holds v) t e l)) d in
      let w = stands-again v.ends.stands t r.0 [] r.2 in
      let one : length (encoding v.final) ≡ 1 = end-one w (end-first h.version v.final v.ends.stands.typed.first v.ends.does) in
      record {
        header = h;
        place = r.0;
        strip = v.strip;
        final = v.final;
        reached = r.1;
        ends = record { stands = subst (Stands h.version t r.0 v.final) one w; does = v.ends.does };
        whole = v.whole;
        last = omega (arith, length-drop r.0 t, ap length r.2, length-append (encoding v.final) []);
      }
