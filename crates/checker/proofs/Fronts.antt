-- The header, byte by byte.
use Prim.Native.Nat.{ℕ, suc, ◌+◌, ◌≤◌, ◌<◌}
use mathlib.Core.Path.{◌≡◌, refl, sym, ap, ap₂, subst, ◌∙◌}
use mathlib.Core.Bool.{Bool, true, false, ◌||◌}
use mathlib.Core.List.{List, [], ◌∷◌, ◌++◌, map, map-append, append-nil, append_assoc}
use mathlib.Core.Logic.{◌⊎◌, inl, inr}
use native.Mathlib.Omega.{arith}
use borrow.Author.Tests.{eqb-true}
use lib.Dec.{eqb}
use lib.ListN.{length, get_or, take, drop, length-append, length-drop, take-append-drop, drop_of_length-le}
use lib.Seq.{length-take-le, drop-cons}
use Rattle.std.specs.Prelude.{Ok, Err, MatchResult}
use Rattle.std.specs.List.{starts_with}
use Rattle.std.proofs.lemmas.Bool.Decides.{Decides-eqb}
use Rattle.std.proofs.lemmas.Slice.Eq.{starts_is}
use Rattle.std.specs.declared.result.Result.{Result}
use Rattle.card.specs.Card.{SHORT, KIND}
use Rattle.card.specs.declared.Answer.{Answer}
use Rattle.opcode.specs.Kind.{Kind, i32, i64, v128, kind_byte}
use Rattle.rules.specs.Header.{Version, Header, Few, Declares, mark, kinds}
use Rattle.rules.specs.Breach.{preamble, Sized, Breach, kind, kinds_short}
use Rattle.checker.specs.declared.Refusal.{Refusal}
use Rattle.checker.specs.Inner.Kinds.{is_kind}
use Rattle.checker.specs.Inner.Parts.{refusal, KindsSay, cut, other, all}

-- what `answer` ensures
abbrev pub Says-so : Answer → ℕ → ℕ → Type 0
Says-so r c l = (r.code ≡ c) × (r.place ≡ l) × (r.steps ≡ 0)

-- and `refusal`, at a breach
pub broken : {s : List ℕ} {e : Refusal} {c l : ℕ} → (e.code ≡ c) × (e.place ≡ l) → Breach s c l → Breach s e.code e.place
broken {s} {e} {c} {l} a b = subst (λ (x : ℕ). Breach s x e.place) (sym a.0) (subst (Breach s c) (sym a.1) b)

pub eight : (s : List ℕ) → 8 ≤ length s
    → s ≡ get_or s 0 0 ∷ get_or s 1 0 ∷ get_or s 2 0 ∷ get_or s 3 0 ∷ get_or s 4 0 ∷ get_or s 5 0 ∷ get_or s 6 0 ∷ get_or s 7 0 ∷ drop 8 s
eight [] l = absurd (let z : ⊥ = omega arith in z)
eight (a ∷ []) l = absurd (let z : ⊥ = omega arith in z)
eight (a ∷ b ∷ []) l = absurd (let z : ⊥ = omega arith in z)
eight (a ∷ b ∷ c ∷ []) l = absurd (let z : ⊥ = omega arith in z)
eight (a ∷ b ∷ c ∷ d ∷ []) l = absurd (let z : ⊥ = omega arith in z)
eight (a ∷ b ∷ c ∷ d ∷ e ∷ []) l = absurd (let z : ⊥ = omega arith in z)
eight (a ∷ b ∷ c ∷ d ∷ e ∷ f ∷ []) l = absurd (let z : ⊥ = omega arith in z)
eight (a ∷ b ∷ c ∷ d ∷ e ∷ f ∷ g ∷ []) l = absurd (let z : ⊥ = omega arith in z)
eight (a ∷ b ∷ c ∷ d ∷ e ∷ f ∷ g ∷ h ∷ rest) l = refl

-- what `starts_with` tells of the mark
pub mark-told : (s : List ℕ) (r : Bool) → r ≡ starts_with eqb s mark → (r ≡ true → s ≡ mark ++ drop 3 s) × ((rest : List ℕ) → s ≡ mark ++ rest → r ≡ true)
mark-told s r e = starts_is Decides-eqb s mark r e

module _ (s : List ℕ) (least : 8 ≤ length s) (m : s ≡ mark ++ drop 3 s) where
  m0 : get_or s 0 0 ≡ 0x57
  m0 = ap (λ (x : List ℕ). get_or x 0 0) m

  m1 : get_or s 1 0 ≡ 0x47
  m1 = ap (λ (x : List ℕ). get_or x 1 0) m

  m2 : get_or s 2 0 ≡ 0x50
  m2 = ap (λ (x : List ℕ). get_or x 2 0) m

  pub marked : s ≡ mark ++ (get_or s 3 0 ∷ get_or s 4 0 ∷ get_or s 5 0 ∷ get_or s 6 0 ∷ get_or s 7 0 ∷ drop 8 s)
  marked = cc (eight s least, m0, m1, m2)

  pub fronted : get_or s 4 0 ≡ 0 → s ≡ preamble (get_or s 3 0) ++ get_or s 5 0 ∷ get_or s 6 0 ∷ get_or s 7 0 ∷ drop 8 s
  fronted v1 = cc (eight s least, m0, m1, m2, v1)

  -- another version in either byte
  pub version-byte : (Version (get_or s 3 0) → ⊥) ⊎ (get_or s 4 0 ≡ 0 → ⊥) → (v : ℕ) (more : List ℕ) → Version v → s ≡ preamble v ++ more → ⊥
  version-byte (inl f) v more is e = f (subst Version (sym (ap (λ (x : List ℕ). get_or x 3 0) e)) is)
  version-byte (inr f) v more is e = f (ap (λ (x : List ℕ). get_or x 4 0) e)

-- ---- the kind bytes

is-kind : (b : ℕ) (p q r : Bool) → eqb b (kind_byte i32) ≡ p → eqb b (kind_byte i64) ≡ q → eqb b (kind_byte v128) ≡ r → p || (q || r) ≡ true → (k : Kind) × (b ≡ kind_byte k)
is-kind b true q r ep eq er e = (i32, eqb-true b (kind_byte i32) ep)
is-kind b false true r ep eq er e = (i64, eqb-true b (kind_byte i64) eq)
is-kind b false false true ep eq er e = (v128, eqb-true b (kind_byte v128) er)
is-kind b false false false ep eq er e = absurd (let z : ◌≡◌ {A = ℕ} 0 1 = cc in omega arith)

kind-told : (b : ℕ) → is_kind b ≡ true → (k : Kind) × (b ≡ kind_byte k)
kind-told b e = is-kind b (eqb b (kind_byte i32)) (eqb b (kind_byte i64)) (eqb b (kind_byte v128)) refl refl refl e

told-kind : (k : Kind) → is_kind (kind_byte k) ≡ true
told-kind i32 = refl
told-kind i64 = refl
told-kind v128 = refl

no_kind : (b : ℕ) → is_kind b ≡ false → (k : Kind) → b ≡ kind_byte k → ⊥
no_kind b e k f = let wrong : true ≡ false = sym (told-kind k) ∙ sym (ap is_kind f) ∙ e in let z : ◌≡◌ {A = ℕ} 0 1 = cc in omega arith

-- k kinds were read
pub record KindsRead (s : List ℕ) (k : ℕ) : Type 0 where
  pub kinds : List Kind
  pub many : length kinds ≡ k
  pub here : drop 8 s ≡ map kind_byte kinds ++ drop (8 + k) s

module _ (s : List ℕ) where
  pub read_none : KindsRead s 0
  read_none = record { kinds = []; many = refl; here = refl }

  module _ {k : ℕ} (w : KindsRead s k) where
    next-byte : 8 + k < length s → drop 8 s ≡ map kind_byte w.kinds ++ (get_or s (8 + k) 0 ∷ drop (8 + (k + 1)) s)
    next-byte l =
        w.here ∙ ap (λ (x : List ℕ). map kind_byte w.kinds ++ x) (drop-cons s (8 + k) 0 l ∙ ap (λ (n : ℕ). get_or s (8 + k) 0 ∷ drop n s) (let e : suc (8 + k) ≡ 8 + (k + 1) = omega arith in e))

    pub read_more : 8 + k < length s → is_kind (get_or s (8 + k) 0) ≡ true → KindsRead s (k + 1)
    read_more l e =
        let it = kind-told (get_or s (8 + k) 0) e in
        record {
          kinds = w.kinds ++ (it.0 ∷ []);
          many = omega (arith, w.many, length-append w.kinds (it.0 ∷ []));
          here = next-byte l ∙ ap (λ (b : ℕ). map kind_byte w.kinds ++ (b ∷ drop (8 + (k + 1)) s)) it.1
              ∙ sym (ap (λ (x : List ℕ). x ++ drop (8 + (k + 1)) s) (map-append kind_byte w.kinds (it.0 ∷ [])) ∙ append_assoc
              (map kind_byte w.kinds) (kind_byte it.0 ∷ []) (drop (8 + (k + 1)) s));
        }

    pub read-cut : (n : ℕ) → k < n → length s ≤ 8 + k → KindsSay s n (Err (refusal SHORT (length s)))
    read-cut n l h =
        cut w.kinds (omega (arith, w.many))
        (w.here ∙ ap (λ (x : List ℕ). map kind_byte w.kinds ++ x) (drop_of_length-le s {i = 8 + k} h) ∙ append-nil (map kind_byte w.kinds))

    pub read-other : (n : ℕ) → k < n → 8 + k < length s → is_kind (get_or s (8 + k) 0) ≡ false → KindsSay s n (Err (refusal KIND (8 + k)))
    read-other n l h e =
        subst (λ (x : ℕ). KindsSay s n (Err (refusal KIND (8 + x)))) w.many
        (other w.kinds (get_or s (8 + k) 0) (drop (8 + (k + 1)) s) (omega (arith, w.many)) (next-byte h) (no_kind (get_or s (8 + k) 0) e))

    pub read_all : (n : ℕ) → k ≤ n → n ≤ k → KindsSay s n (Ok tt)
    read_all n l h = all w.kinds (drop (8 + k) s) (omega (arith, w.many)) w.here

pub said : {s : List ℕ} {n c l : ℕ} {e : Refusal} → (e.code ≡ c) × (e.place ≡ l) → KindsSay s n (Err (refusal c l)) → KindsSay s n (Err e)
said {s} {n} {e = e} a k = subst (λ (x : Refusal). KindsSay s n (Err x)) (ap₂ refusal (sym a.0) (sym a.1)) k

-- ---- the whole

module _ {s : List ℕ} (sized : Sized s) (v p l r : ℕ) (is : Version v) (few : Few p l r) (here : s ≡ preamble v ++ p ∷ l ∷ r ∷ drop 8 s) where
  abbrev header_of : List Kind → Header
  header_of ks = record { version = v; parameters = take p ks; further = take l (drop p ks); results = drop l (drop p ks) }

  with-kinds : (t : List ℕ) → drop 8 s ≡ t → s ≡ preamble v ++ p ∷ l ∷ r ∷ t
  with-kinds t e = here ∙ ap (λ (x : List ℕ). preamble v ++ p ∷ l ∷ r ∷ x) e

  declares-of : (ks : List Kind) (rest : List ℕ) → length ks ≡ p + l + r → drop 8 s ≡ map kind_byte ks ++ rest → Declares s (header_of ks)
  declares-of ks rest n e =
      let lp : length (take p ks) ≡ p = length-take-le p ks (omega arith) in
      let ll : length (take l (drop p ks)) ≡ l = length-take-le l (drop p ks) (omega (arith, length-drop p ks)) in
      let lr : length (drop l (drop p ks)) ≡ r = omega (arith, length-drop l (drop p ks), length-drop p ks) in
      let whole : kinds (header_of ks) ≡ ks =
      append_assoc (take p ks) (take l (drop p ks)) (drop l (drop p ks)) ∙ ap (λ (x : List Kind). take p ks ++ x) (take-append-drop l (drop p ks)) ∙ take-append-drop p ks in
      record {
        sized = sized.most;
        versioned = is;
        few = record { parameters = omega (arith, few.parameters); further = omega (arith, few.further); results = omega (arith, few.results) };
        body = rest;
        bytes = with-kinds (map kind_byte (kinds (header_of ks)) ++ rest) (e ∙ ap (λ (x : List Kind). map kind_byte x ++ rest) (sym whole))
            ∙ counted (map kind_byte (kinds (header_of ks)) ++ rest) (sym lp) (sym ll) (sym lr);
      }
    where
      counted : (t : List ℕ) {a b c : ℕ} → p ≡ a → l ≡ b → r ≡ c → preamble v ++ p ∷ l ∷ r ∷ t ≡ preamble v ++ a ∷ b ∷ c ∷ t
      counted t ea eb ec = cc

  pub headed-kinds : {a : Result (Unit {0}) Refusal} → KindsSay s (p + l + r) a → MatchResult a (λ _. (h : Header) × Declares s h) (λ e. Breach s e.code e.place)
  headed-kinds (cut ks m e) = kinds_short v p l r ks sized is (with-kinds (map kind_byte ks) e) few m
  headed-kinds (other ks b rest m e f) = kind v p l r b ks rest sized is (with-kinds (map kind_byte ks ++ b ∷ rest) e) few m f
  headed-kinds (all ks rest m e) = (header_of ks, declares-of ks rest m e)
