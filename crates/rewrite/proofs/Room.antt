-- A breach is passed on. The shortest form of a valid strip is counted; then there is room for it or not; then it is written.
use Prim.Native.Nat.{ℕ, ◌+◌, ◌<◌, ◌≤◌}
use mathlib.Core.Bool.{Bool, true, false, false≢true}
use mathlib.Core.Path.{◌≡◌, sym, ap, ap₂, subst, ◌∙◌}
use mathlib.Core.List.{List, ◌++◌}
use native.Mathlib.Omega.{arith}
use lib.ListN.{length, get_or, take, drop, length-append, length-drop}
use lib.Seq.{sets, sets-eq, length-take-le, take-append_seam, drop-append-add, drop-drop}
use Rattle.card.specs.Card.{DONE, SMALL}
use Rattle.instr.specs.declared.Instr.{Instr}
use Rattle.rules.specs.Header.{Version, Header, Declares, header_bytes}
use Rattle.rules.specs.Strip.{Valid}
use Rattle.rules.specs.Breach.{Breach}
use Rattle.rules.specs.Consists.{Instructions}
use Rattle.rewrite.specs.Rewrite.{encodings, shortest, answer, Rewrites, refused, small, done}
use Rattle.rewrite.specs.Inner.Pass.{AtPass, Passed}
use Rattle.rewrite.specs.declared.Rewritten.{Rewritten}
use Rattle.buffer.proofs.Writing.{front-copied}
use Rattle.rules.proofs.Strips.{instructions-once, instrs, valid-holds, header-inside}

pub is-refused : {s out : List ℕ} {c l : ℕ} {r : Rewritten} → Breach s c l → r ≡ answer c l 0 → Rewrites s out r out
is-refused b e = rw e (refused b)

-- bytes after bytes at the front
front-sets : (hb bs out : List ℕ) → length (hb ++ bs) ≤ length out → sets (hb ++ drop (length hb) out) (length hb) bs ≡ hb ++ bs ++ drop (length (hb ++ bs)) out
front-sets hb bs out l =
    let all = hb ++ drop (length hb) out in
    let n = length-append hb bs in
    let k : length hb + length bs ≤ length all = omega (arith, l, n, length-append hb (drop (length hb) out), length-drop (length hb) out) in
    let beyond = drop-append-add hb (drop (length hb) out) (length bs) ∙ drop-drop (length bs) (length hb) out ∙ ap (λ (j : ℕ). drop j out) (sym n) in
    sets-eq bs all (length hb) k ∙ ap₂ (λ (x y : List ℕ). x ++ bs ++ y) (take-append_seam hb (drop (length hb) out)) beyond

module _ {s : List ℕ} (v : Valid s) {ver start : ℕ} (vs : ver ≡ get_or s 3 0) (st : (h : Header) → Declares s h → start ≡ length (header_bytes h)) where
  abbrev hb : List ℕ
  hb = header_bytes v.header

  abbrev body : List ℕ
  body = encodings (instrs v)

  begin : start ≡ length hb
  begin = st v.header (valid-holds v).declares

  -- the version is the strip's byte 3
  same_version : ver ≡ v.header.version
  same_version = vs ∙ ap (λ (l : List ℕ). get_or l 3 0) (valid-holds v).declares.bytes

  versioned : Version ver
  versioned = subst (λ (n : ℕ). Version n) (sym same_version) (valid-holds v).declares.versioned

  stand : Instructions ver s start (instrs v)
  stand = rw (same_version, begin) (valid-holds v).instructions

  same-instrs : {writing : Bool} {out : List ℕ} {r : ℕ} {out' : List ℕ} (p : Passed ver s start writing out r out') → p.instrs ≡ instrs v
  same-instrs p = instructions-once p.stand stand

  pub ready-to-count : {n : ℕ} → AtPass ver s start false n
  ready-to-count = record { versioned = versioned; instrs = instrs v; stand = stand; room = λ t. absurd (false≢true t) }

  -- counted: len bytes, and the output as it was
  module _ {out : List ℕ} {len : ℕ} {out₁ : List ℕ} (p : Passed ver s start false out len out₁) where
    len_is : len ≡ length (shortest v.header (instrs v))
    len_is = omega (arith, p.to, begin, length-append hb body, ap (λ (x : List Instr). length (encodings x)) (same-instrs p))

    pub too_small : {r : Rewritten} → length out₁ < len → r ≡ answer SMALL 0 0 → Rewrites s out r out₁
    too_small l e = rw (e, p.bytes) (small v (valid-holds v) (omega (arith, l, len_is, ap length p.bytes)))

    module _ (l : len ≤ length out₁) where
      inside : start ≤ length s
      inside = omega (arith, begin, header-inside (valid-holds v).declares)

      pub header-long : start ≡ length (take start s)
      header-long = sym (length-take-le start s inside)

      pub header-fits : length (take start s) ≤ length out₁
      header-fits = omega (arith, header-long, l, begin, len_is, length-append hb body)

      -- the header is copied
      module _ {out₂ : List ℕ} (c : out₂ ≡ take (length (take start s)) (take start s) ++ drop (length (take start s)) out₁) where
        copied : out₂ ≡ hb ++ drop (length hb) out
        copied =
            let d = (valid-holds v).declares in
            let x : take start s ≡ hb = ap₂ take begin d.bytes ∙ take-append_seam hb d.body in
            c ∙ front-copied s out₁ start inside ∙ ap₂ ◌++◌ x (ap₂ drop begin p.bytes)

        pub ready-to-write : AtPass ver s start true (length out₂)
        ready-to-write =
            record {
              versioned = versioned;
              instrs = instrs v;
              stand = stand;
              room = λ t. omega (
                arith,
                l,
                begin,
                len_is,
                length-append hb body,
                ap length copied,
                length-append hb (drop (length hb) out),
                length-drop (length hb) out,
                ap length p.bytes,
              );
            }

        pub all-written : {r : ℕ} {out₃ : List ℕ} → Passed ver s start true out₂ r out₃ → Rewrites s out (answer DONE 0 len) out₃
        all-written {out₃ = out₃} q =
            let fits : length (hb ++ body) ≤ length out = omega (arith, l, len_is, ap length p.bytes) in
            let e : out₃ ≡ hb ++ body ++ drop (length (hb ++ body)) out =
            q.bytes
            ∙ ap (λ (x : List Instr). sets out₂ start (encodings x)) (same-instrs q)
            ∙ ap₂ (λ (x : List ℕ) (k : ℕ). sets x k body) copied begin
            ∙ front-sets hb body out fits in
            subst (λ (x : List ℕ). Rewrites s out (answer DONE 0 len) x) (sym e)
            (subst (λ (n : ℕ). Rewrites s out (answer DONE 0 n) (hb ++ body ++ drop (length (hb ++ body)) out)) (sym len_is) (done v (valid-holds v) fits))
