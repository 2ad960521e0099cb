-- What the counts of a header say of its bytes.
use Prim.Native.Nat.{ℕ, ◌+◌, ◌≤◌, ◌<◌, ◌^◌}
use mathlib.Core.Path.{◌≡◌, sym, ap, subst, ◌∙◌}
use mathlib.Core.List.{List, ◌++◌, map, map-append, append_assoc}
use native.Mathlib.Omega.{arith}
use lib.ListN.{length, get_or, drop, length-append, length-map}
use lib.Seq.{drop_at, drop-drop}
use Rattle.card.specs.declared.Answer.{Answer}
use Rattle.limits.specs.Limits.{result_limit}
use Rattle.opcode.specs.Kind.{Kind, kind_byte}
use Rattle.rules.specs.Header.{Header, Declares, locals, kinds}
use Rattle.rules.specs.Breach.{Says}
use Rattle.checker.specs.Check.{Checked}
use Rattle.checker.specs.Walk.{KindBytes}
use Rattle.checker.specs.Inner.Blocks.{top_first}
use Rattle.checker.specs.Inner.Parts.{Counts}
use Rattle.checker.specs.Inner.Going.{Setting, Begins}
use Rattle.checker.proofs.Fronts.{Says-so}

pub checked : {s : List ℕ} {r : Answer} {c l : ℕ} → Says-so r c l → Says s c l → Checked s r
checked {s} {r} {c} {l} a b =
    record { says = subst (λ (x : ℕ). Says s x r.place) (sym a.0) (subst (Says s c) (sym a.1) b); steps = a.2 }

module _ {s : List ℕ} {v n r : ℕ} {h : Header} (k : Counts s v n r h) where
  kind-bytes : drop 8 s ≡ map kind_byte (locals h) ++ (map kind_byte h.results ++ k.declares.body)
  kind-bytes =
      ap (drop 8) k.declares.bytes ∙ ap (λ (x : List ℕ). x ++ k.declares.body) (map-append kind_byte (locals h) h.results)
      ∙ append_assoc (map kind_byte (locals h)) (map kind_byte h.results) k.declares.body

  pub counts-inside : 8 + n + r ≤ length s
  counts-inside =
      omega (
        arith,
        ap length k.declares.bytes,
        length-append (map kind_byte (kinds h)) k.declares.body,
        length-map (kinds h) kind_byte,
        length-append (locals h) h.results,
        k.locals_are,
        k.results_are,
      )

  pub few-results : r ≤ result_limit
  few-results = omega (arith, k.declares.few.results, k.results_are)

  pub holds-locals : KindBytes (drop 8 s) n (locals h)
  holds-locals = record { many = k.locals_are; rest = map kind_byte h.results ++ k.declares.body; here = kind-bytes }

  pub holds-results : KindBytes (drop (8 + n) s) r h.results
  holds-results =
      record {
        many = k.results_are;
        rest = k.declares.body;
        here =
            sym (drop-drop n 8 s) ∙ ap (λ (x : List ℕ). drop n x) kind-bytes ∙ drop_at (map kind_byte (locals h))
            (map kind_byte h.results ++ k.declares.body) n (length-map (locals h) kind_byte ∙ k.locals_are);
      }

-- the counts stand in the header
pub counted : {s : List ℕ} {h : Header} → Declares s h → Counts s (get_or s 3 0) (get_or s 5 0 + get_or s 6 0) (get_or s 7 0) h
counted {h = h} d =
    let v = ap (λ (x : List ℕ). get_or x 3 0) d.bytes in
    let p = ap (λ (x : List ℕ). get_or x 5 0) d.bytes in
    let l = ap (λ (x : List ℕ). get_or x 6 0) d.bytes in
    let r = ap (λ (x : List ℕ). get_or x 7 0) d.bytes in
    record { declares = d; version_is = sym v; locals_are = omega (arith, p, l, length-append h.parameters h.further); results_are = sym r }

-- what the header tells for all instructions, with what the strip's own `end` takes
pub set-by : {s : List ℕ} {v n r takes : ℕ} {h : Header} → Counts s v n r h
    → (takes < 2 ^ 32) × ((ks : List Kind) → KindBytes (drop (8 + n) s) r ks → top_first ks ≡ takes)
    → Setting s v n takes h
set-by {h = h} k t =
    record {
      declares = k.declares;
      version_is = k.version_is;
      locals_are = holds-locals k;
      inside = omega (arith, counts-inside k);
      takes_is = t.1 h.results (holds-results k);
      takes_small = t.0;
    }

abbrev pub HeadCounts : List ℕ → Header → Type 0
HeadCounts s h = Counts s (get_or s 3 0) (get_or s 5 0 + get_or s 6 0) (get_or s 7 0) h

pub opening : {s : List ℕ} {h : Header} {takes : ℕ} → HeadCounts s h
    → (takes < 2 ^ 32) × ((ks : List Kind) → KindBytes (drop (8 + (get_or s 5 0 + get_or s 6 0)) s) (get_or s 7 0) ks → top_first ks ≡ takes)
    → Begins s (get_or s 3 0) (get_or s 5 0 + get_or s 6 0) takes (8 + (get_or s 5 0 + get_or s 6 0) + get_or s 7 0)
opening {h = h} k t =
    record {
      header = h;
      setting = set-by k t;
      start_is = omega (arith, k.locals_are, k.results_are, length-map (kinds h) kind_byte, length-append (locals h) h.results);
    }
