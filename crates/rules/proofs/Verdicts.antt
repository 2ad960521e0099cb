-- Of every strip at most one thing is said: one breach at most, and none of a strip that keeps the rules.
use Prim.Native.Nat.{ℕ, ◌+◌, ◌<◌}
use mathlib.Core.Path.{◌≡◌, refl, ap, ap₂, sym, ◌∙◌, subst}
use mathlib.Core.List.{List, [], ◌∷◌, ◌++◌, map, append-nil}
use native.Mathlib.Omega.{arith}
use lib.ListN.{length, get_or}
use Rattle.card.specs.Card.{DONE, LONG, SHORT, MARK, VERSION, COUNT, KIND}
use Rattle.opcode.specs.Kind.{Kind, kind_byte}
use Rattle.rules.specs.Header.{Version, Header, Few}
use Rattle.rules.specs.Typing.{Frame}
use Rattle.rules.specs.Strip.{Valid}
use Rattle.rules.specs.Breach.{Sized, preamble, Refused, Breach, long, stub, unmarked, other_version, parameters, further, results, kind, kinds_short}
use Rattle.rules.specs.Breach.{short, block_type, opcode, float, number, lane, align, local, nest, label, operand, deep, result, trailing, Says, valid}
use Rattle.rules.specs.Breach.{breach}
use Rattle.rules.proofs.Ranks.{Stop, stop-once}
use Rattle.rules.proofs.Headers.{declares-once}
use Rattle.rules.proofs.Onward.{declared, reached-within}
use Rattle.rules.proofs.Events.{unread, undeclared, too_nested, no_label, missing, too_deep, other-results, followed, ends-well}
use Rattle.rules.proofs.Ends.{Ended, Tells, refusal, later, tells-once, ended-once}
use Rattle.rules.proofs.Heads.{NoKind, none_left, other, kinds-part, HeadAsked, too_long, a-stub, no-mark, no-version, many-parameters, many-further}
use Rattle.rules.proofs.Heads.{many-results, bad-kinds, whole-header}

-- code and place of a rank of the header
abbrev head_code : ℕ → ℕ
head_code k = get_or (LONG ∷ SHORT ∷ MARK ∷ VERSION ∷ COUNT ∷ COUNT ∷ COUNT ∷ []) k DONE

abbrev head_place : List ℕ → ℕ → ℕ
head_place s k = get_or (0 ∷ length s ∷ 0 ∷ 3 ∷ 5 ∷ 6 ∷ 7 ∷ []) k 0

abbrev kind_code : List ℕ → ℕ
kind_code [] = SHORT
kind_code (b ∷ t) = KIND

abbrev kind_place : List ℕ → List Kind → List ℕ → ℕ
kind_place s ks [] = length s
kind_place s ks (b ∷ t) = 8 + length ks

record KindEnd (s : List ℕ) (code place : ℕ) : Type 0 where
  sized : Sized s
  v : ℕ
  is : Version v
  p : ℕ
  l : ℕ
  r : ℕ
  ks : List Kind
  t : List ℕ
  here : s ≡ preamble v ++ p ∷ l ∷ r ∷ map kind_byte ks ++ t
  few : Few p l r
  no_kind : NoKind t
  missing-some : length ks < p + l + r
  code_is : code ≡ kind_code t
  place_is : place ≡ kind_place s ks t

kind-end-stop : {s : List ℕ} {c l : ℕ} → KindEnd s c l → Stop (HeadAsked s) 7
kind-end-stop {s} k = bad-kinds s k.sized k.v k.is k.p k.l k.r k.ks k.t k.here k.few k.no_kind k.missing-some

kind-end-once : {s : List ℕ} {c l c' l' : ℕ} → KindEnd s c l → KindEnd s c' l' → (c ≡ c') × (l ≡ l')
kind-end-once {s} a b =
    let rest : map kind_byte a.ks ++ a.t ≡ map kind_byte b.ks ++ b.t = cc (a.here, b.here) in
    let same = kinds-part a.ks b.ks a.t b.t a.no_kind b.no_kind rest in
    (a.code_is ∙ ap kind_code same.1 ∙ sym b.code_is, a.place_is ∙ ap₂ (kind_place s) same.0 same.1 ∙ sym b.place_is)

data Verdict (s : List ℕ) (c l : ℕ) : Type 0 where
  in_head : (k : ℕ) → k < 7 → Stop (HeadAsked s) k → c ≡ head_code k → l ≡ head_place s k → Verdict s c l
  in-kinds : KindEnd s c l → Verdict s c l
  in_body : {h : Header} {p k : ℕ} {κs : List Frame} → Ended s h p κs k → Tells h.version s p k c l → Verdict s c l

body-stop : {s : List ℕ} {h : Header} {p k : ℕ} {κs : List Frame} → Ended s h p κs k → Stop (HeadAsked s) 8
body-stop e = whole-header (declared e.reached)

verdict-once : {s : List ℕ} {c l c' l' : ℕ} → Verdict s c l → Verdict s c' l' → (c ≡ c') × (l ≡ l')
verdict-once {s} (in_head j lj a cj pj) (in_head k lk b ck pk) =
    let same = stop-once a b in (cj ∙ ap head_code same ∙ sym ck, pj ∙ ap (head_place s) same ∙ sym pk)
verdict-once (in_head j lj a cj pj) (in-kinds b) = absurd (let same = stop-once a (kind-end-stop b) in let z : ⊥ = omega arith in z)
verdict-once (in_head j lj a cj pj) (in_body b w) = absurd (let same = stop-once a (body-stop b) in let z : ⊥ = omega arith in z)
verdict-once (in-kinds a) (in_head k lk b ck pk) = absurd (let same = stop-once (kind-end-stop a) b in let z : ⊥ = omega arith in z)
verdict-once (in-kinds a) (in-kinds b) = kind-end-once a b
verdict-once (in-kinds a) (in_body b w) = absurd (let same = stop-once (kind-end-stop a) (body-stop b) in let z : ⊥ = omega arith in z)
verdict-once (in_body a w) (in_head k lk b ck pk) = absurd (let same = stop-once (body-stop a) b in let z : ⊥ = omega arith in z)
verdict-once (in_body a w) (in-kinds b) = absurd (let same = stop-once (body-stop a) (kind-end-stop b) in let z : ⊥ = omega arith in z)
verdict-once {s} {c' = c'} {l'} (in_body {h = h} {p = p} {k = j} a w) (in_body {h = h'} {p = q} {k = k} {κs = λs} b w') =
    let same-header : h' ≡ h = declares-once s h' h (declared b.reached) (declared a.reached) in
    let same = ended-once a (subst (λ (x : Header). Ended s x q λs k) same-header b) in
    tells-once w
    (subst (λ (x : ℕ). Tells h.version s x j c' l') (sym same.0)
    (subst (λ (x : ℕ). Tells h.version s q x c' l') (sym same.1)
    (subst (λ (x : Header). Tells x.version s q k c' l') same-header w')))

-- ---- each thing that is said is a verdict

refused : {s : List ℕ} {code place : ℕ} → Refused s code place → Verdict s code place
refused {s} f =
    in_body (record { reached = f.reached; stop = unread s f.header f.at f.frames f.refuses; last = λ e. omega arith }) (refusal f.refuses)

of-breach : {s : List ℕ} {c l : ℕ} → Breach s c l → Verdict s c l
of-breach {s} (long g) = in_head 0 (omega arith) (too_long s g) refl refl
of-breach {s} (stub g) = in_head 1 (omega arith) (a-stub s g) refl refl
of-breach {s} (unmarked z f) = in_head 2 (omega arith) (no-mark s z f) refl refl
of-breach {s} (other_version rest z e f) = in_head 3 (omega arith) (no-version s z rest e f) refl refl
of-breach {s} (parameters v p rest z w e g) = in_head 4 (omega arith) (many-parameters s z v w p rest e g) refl refl
of-breach {s} (further v p l rest z w e a g) = in_head 5 (omega arith) (many-further s z v w p l rest e a g) refl refl
of-breach {s} (results v p l r rest z w e a b g) = in_head 6 (omega arith) (many-results s z v w p l r rest e a b g) refl refl
of-breach {s} (kind v p l r b ks rest z w e few m f) =
    in-kinds (record {
      sized = z;
      v = v;
      is = w;
      p = p;
      l = l;
      r = r;
      ks = ks;
      t = b ∷ rest;
      here = e;
      few = few;
      no_kind = other f;
      missing-some = m;
      code_is = refl;
      place_is = refl;
    })
of-breach {s} (kinds_short v p l r ks z w e few m) =
    in-kinds (record {
      sized = z;
      v = v;
      is = w;
      p = p;
      l = l;
      r = r;
      ks = ks;
      t = [];
      here = e ∙ ap (λ (x : List ℕ). preamble v ++ p ∷ l ∷ r ∷ x) (sym (append-nil (map kind_byte ks)));
      few = few;
      no_kind = none_left;
      missing-some = m;
      code_is = refl;
      place_is = refl;
    })
of-breach (short f) = refused f
of-breach (block_type f) = refused f
of-breach (opcode f) = refused f
of-breach (float f) = refused f
of-breach (number f) = refused f
of-breach (lane f) = refused f
of-breach (align f) = refused f
of-breach {s} (local {h} {p} {fs} a names f) =
    in_body (record { reached = a.reached; stop = undeclared s h p fs a.reads names f; last = λ e. omega arith }) (later 0)
of-breach {s} (nest {h} {p} {fs} a o g) =
    in_body (record { reached = a.reached; stop = too_nested s h p fs a.reads o g; last = λ e. omega arith }) (later 1)
of-breach {s} (label {h} {p} {fs} a b f) = in_body (record { reached = a.reached; stop = no_label s h p fs a.reads b f; last = λ e. omega arith }) (later 2)
of-breach {s} (operand {h} {p} {fs} a o d l f) =
    in_body (record { reached = a.reached; stop = missing s h p fs a.reads o d l f; last = λ e. omega arith }) (later 3)
of-breach {s} (deep {h} {p} {fs} a t g) =
    in_body (record { reached = a.reached; stop = too_deep s h p fs a.reads t (reached-within a.reached).values g; last = λ e. omega arith }) (later 5)
of-breach {s} (result {h} {p} {fs} a f) =
    in_body (record { reached = a.reached; stop = other-results s h p fs a.reads f; last = λ e. omega arith }) (later 4)
of-breach {s} (trailing {h} {p} {f} a m g) =
    in_body (record { reached = a.reached; stop = followed s h p (f ∷ []) a.reads refl m g; last = λ e. omega arith }) (later 7)

verdict : {s : List ℕ} {c l : ℕ} → Says s c l → Verdict s c l
verdict {s} (valid v) =
    in_body
    (record { reached = v.reached; stop = ends-well s v.header v.place (v.strip ∷ []) v.ends refl v.whole v.last; last = λ e. omega arith })
    (later 8)
verdict (breach b) = of-breach b

-- whatever is said, it is one code at one place
pub says-once : {s : List ℕ} {c l c' l' : ℕ} → Says s c l → Says s c' l' → (c ≡ c') × (l ≡ l')
says-once a b = verdict-once (verdict a) (verdict b)

pub one-breach : {s : List ℕ} {c l c' l' : ℕ} → Breach s c l → Breach s c' l' → (c ≡ c') × (l ≡ l')
one-breach a b = verdict-once (of-breach a) (of-breach b)

pub breach-coded : {s : List ℕ} {c l : ℕ} → Breach s c l → c ≡ DONE → ⊥
breach-coded (long g) e = omega arith
breach-coded (stub g) e = omega arith
breach-coded (unmarked z f) e = omega arith
breach-coded (other_version rest z q f) e = omega arith
breach-coded (parameters v p rest z w q g) e = omega arith
breach-coded (further v p l rest z w q a g) e = omega arith
breach-coded (results v p l r rest z w q a b g) e = omega arith
breach-coded (kind v p l r b ks rest z w q few m f) e = omega arith
breach-coded (kinds_short v p l r ks z w q few m) e = omega arith
breach-coded (short f) e = omega arith
breach-coded (block_type f) e = omega arith
breach-coded (opcode f) e = omega arith
breach-coded (float f) e = omega arith
breach-coded (number f) e = omega arith
breach-coded (lane f) e = omega arith
breach-coded (align f) e = omega arith
breach-coded (local a names f) e = omega arith
breach-coded (nest a o g) e = omega arith
breach-coded (label a b f) e = omega arith
breach-coded (operand a o d l f) e = omega arith
breach-coded (deep a t g) e = omega arith
breach-coded (result a f) e = omega arith
breach-coded (trailing a m g) e = omega arith

pub valid-no-breach : {s : List ℕ} {c l : ℕ} → Valid s → Breach s c l → ⊥
valid-no-breach v b = breach-coded b (says-once (breach b) (valid v)).0
