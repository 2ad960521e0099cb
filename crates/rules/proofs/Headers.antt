-- A strip declares one header at most.
use Prim.Native.Nat.{ℕ}
use mathlib.Core.Path.{◌≡◌, refl, ap, ap₂, sym, ◌∙◌}
use mathlib.Core.Bool.{Bool, cond}
use mathlib.Core.List.{List, [], ◌∷◌, ◌++◌, map}
use native.Mathlib.Omega.{arith}
use lib.ListN.{length, length-append}
use Rattle.opcode.specs.Kind.{Kind, kind_byte}
use Rattle.opcode.proofs.Effects.{kind-once}
use Rattle.card.specs.Card.{VERSION}
use Rattle.instr.specs.Layout.{refusal}
use Rattle.instr.specs.Decode.{decode_at, decode_in}
use Rattle.rules.specs.Header.{Version, Header, Declares, kinds, locals}
use Rattle.rules.proofs.Lists.{parts-once}

kinds-once : (ks ks' : List Kind) (b b' : List ℕ) → length ks ≡ length ks' → map kind_byte ks ++ b ≡ map kind_byte ks' ++ b' → ks ≡ ks'
kinds-once [] [] b b' l e = refl
kinds-once [] (k ∷ ks') b b' l e = absurd (let z : ⊥ = omega arith in z)
kinds-once (k ∷ ks) [] b b' l e = absurd (let z : ⊥ = omega arith in z)
kinds-once (k ∷ ks) (k' ∷ ks') b b' l e =
    let same : kind_byte k ≡ kind_byte k' = cc in
    ap₂ ◌∷◌ (kind-once same) (kinds-once ks ks' b b' (omega arith) (cc))

abbrev header : ℕ → List Kind → List Kind → List Kind → Header
header v ps fs rs = record { version = v; parameters = ps; further = fs; results = rs }

pub declares-once : (s : List ℕ) (h h' : Header) → Declares s h → Declares s h' → h ≡ h'
declares-once s h h' d d' =
    let e = sym d.bytes ∙ d'.bytes in
    let v : h.version ≡ h'.version = cc in
    let p : length h.parameters ≡ length h'.parameters = cc in
    let l : length h.further ≡ length h'.further = cc in
    let r : length h.results ≡ length h'.results = cc in
    let rest : map kind_byte (kinds h) ++ d.body ≡ map kind_byte (kinds h') ++ d'.body = cc in
    let n = length-append (locals h) h.results in
    let n' = length-append (locals h') h'.results in
    let m = length-append h.parameters h.further in
    let m' = length-append h'.parameters h'.further in
    let ks = kinds-once (kinds h) (kinds h') d.body d'.body (omega arith) rest in
    let first = parts-once (locals h) (locals h') h.results h'.results (omega arith) ks in
    let second = parts-once h.parameters h'.parameters h.further h'.further p first.0 in
    ap₂ (λ (x : ℕ) (y : List Kind). header x y h.further h.results) v second.0
    ∙ ap₂ (λ (x y : List Kind). header h'.version h'.parameters x y) second.1 first.1

pub decodes-known : (v : ℕ) → Version v → (s : List ℕ) (at : ℕ) → decode_in v s at ≡ decode_at v s at
decodes-known v is s at = ap (λ (t : Bool). cond t (decode_at v s at) (refusal VERSION 3)) is
