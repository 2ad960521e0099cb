-- What the rewriter answers and writes (01, "The rewriter asks 1 to 16, then 24 if the output is below the shortest form's length").
use Rattle.std.specs.Prelude.{ℕ, ◌<◌, ◌≤◌, List, [], ◌∷◌, ◌++◌, length, drop}
use Rattle.card.specs.Card.{DONE, SMALL}
use Rattle.instr.specs.declared.Instr.{Instr}
use Rattle.instr.specs.Encode.{encoding}
use Rattle.rules.specs.Header.{Header, header_bytes}
use Rattle.rules.specs.Strip.{Valid}
use Rattle.rules.specs.Consists.{Consists}
use Rattle.rules.specs.Breach.{Breach}
use Rattle.rewrite.specs.declared.Rewritten.{Rewritten}

abbrev pub encodings : List Instr → List ℕ
encodings [] = []
encodings (i ∷ is) = encoding i ++ encodings is

-- the header unchanged, each instruction in its shortest form
abbrev pub shortest : Header → List Instr → List ℕ
shortest h is = header_bytes h ++ encodings is

abbrev pub answer : ℕ → ℕ → ℕ → Rewritten
answer c p n = record { code = c; place = p; len = n }

-- the strip, the output as it comes in; the answer, the output as it is left
pub data Rewrites (s out : List ℕ) : Rewritten → List ℕ → Type 0 where
  refused : {code place : ℕ} → Breach s code place → Rewrites s out (answer code place 0) out
  small : {h : Header} {is : List Instr} → Valid s → Consists s h is → length out < length (shortest h is) → Rewrites s out (answer SMALL 0 0) out
  done : {h : Header} {is : List Instr} → Valid s → Consists s h is → length (shortest h is) ≤ length out
      → Rewrites s out (answer DONE 0 (length (shortest h is))) (shortest h is ++ drop (length (shortest h is)) out)
